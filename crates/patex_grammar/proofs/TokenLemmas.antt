-- A text is at most one list of tokens, and has at most one bad token.
use Rattle.std.proofs.Common.{◌≡◌, ◌≢◌, ℕ, ◌+◌, ◌⊎◌, inl, inr, Bool, true, false, List, [], ◌∷◌, ◌++◌, refl, sym, ap, ◌∙◌, subst, length, arith, cond, true≢false}
use Rattle.std.specs.List.{AllByRecursion}
use Rattle.std.proofs.lemmas.Bool.{cases_Bool, eqb-true, cond-false, eq-eqb}
use Rattle.std.proofs.lemmas.Bool.Decides.{nat_tests}
use Rattle.std.proofs.lemmas.List.{append_assoc, append-nil}
use Rattle.mine_model.specs.Bytes.{quote, open_brace, close_brace}
use Rattle.mine_model.specs.Tokens.{Token, name, sign, repeat, open_repeat, Placed, is_free, is_bare_byte, is_sign, is_quote, is_closing_brace, doubled, Each, BeginsOtherwise, Spells, AreTokensBefore, AreTokens, BeginsToken, IsBadToken}
use Rattle.mine_model.proofs.ListLemmas.{back_of_both}

-- bytes that have the property and then one that has it not are cut in one way
abbrev pub Ends : (ℕ → Type 0) → List ℕ → Type 0
Ends G [] = Unit {0}
Ends G (b ∷ bytes) = G b → ⊥

pub cut-same : (G : ℕ → Type 0) (a b r s : List ℕ) → AllByRecursion G a → AllByRecursion G b → Ends G r → Ends G s → a ++ r ≡ b ++ s → (a ≡ b) × (r ≡ s)
cut-same G [] [] r s p q end end' same = (refl, same)
cut-same G [] (y ∷ b) [] s p q end end' same = absurd (cc)
cut-same G [] (y ∷ b) (x ∷ r) s p q end end' same = let e : y ≡ x = cc in absurd (end (subst G e q.0))
cut-same G (x ∷ a) [] r [] p q end end' same = absurd (cc)
cut-same G (x ∷ a) [] r (y ∷ s) p q end end' same = let e : x ≡ y = cc in absurd (end' (subst G e p.0))
cut-same G (x ∷ a) (y ∷ b) r s p q end end' same =
    let tail : a ++ r ≡ b ++ s = cc in
    let (u, v) = cut-same G a b r s p.1 q.1 end end' tail in
    let first : x ≡ y = cc in (cc, v)

pub ends-otherwise : (p : ℕ → Bool) (bytes : List ℕ) → BeginsOtherwise p bytes → Ends (λ b. p b ≡ true) bytes
ends-otherwise p [] otherwise = tt
ends-otherwise p (b ∷ bytes) otherwise = λ is. true≢false (sym is ∙ otherwise)

not-free-bare : (b : ℕ) → is_bare_byte b ≡ true → is_free b ≡ true → ⊥
not-free-bare b bare free = grind (arith, nat_tests)

not-free-sign : (b : ℕ) → is_sign b ≡ true → is_free b ≡ true → ⊥
not-free-sign b signs free = grind (arith, nat_tests)

not-bare-sign : (b : ℕ) → is_sign b ≡ true → is_bare_byte b ≡ true → ⊥
not-bare-sign b signs bare = grind (arith, nat_tests)

-- how a token begins
pub data Kind : Type 0 where
  bare : Kind
  quoted : Kind
  signed : Kind
  braced : Kind

abbrev pub IsKind : Kind → ℕ → Type 0
IsKind bare b = is_bare_byte b ≡ true
IsKind quoted b = b ≡ quote
IsKind signed b = is_sign b ≡ true
IsKind braced b = b ≡ open_brace

pub byte-false : (p : ℕ → Bool) (b k : ℕ) → p k ≡ false → b ≡ k → p b ≡ true → ⊥
byte-false p b k none same is = true≢false (sym is ∙ ap p same ∙ none)

kinds-apart : (k l : Kind) (b : ℕ) → IsKind k b → IsKind l b → k ≡ l
kinds-apart bare bare b p q = refl
kinds-apart bare quoted b p q = absurd (byte-false is_bare_byte b quote refl q p)
kinds-apart bare signed b p q = absurd (not-bare-sign b q p)
kinds-apart bare braced b p q = absurd (byte-false is_bare_byte b open_brace refl q p)
kinds-apart quoted bare b p q = absurd (byte-false is_bare_byte b quote refl p q)
kinds-apart quoted quoted b p q = refl
kinds-apart quoted signed b p q = absurd (byte-false is_sign b quote refl p q)
kinds-apart quoted braced b p q = absurd (omega arith)
kinds-apart signed bare b p q = absurd (not-bare-sign b p q)
kinds-apart signed quoted b p q = absurd (byte-false is_sign b quote refl q p)
kinds-apart signed signed b p q = refl
kinds-apart signed braced b p q = absurd (byte-false is_sign b open_brace refl q p)
kinds-apart braced bare b p q = absurd (byte-false is_bare_byte b open_brace refl p q)
kinds-apart braced quoted b p q = absurd (omega arith)
kinds-apart braced signed b p q = absurd (byte-false is_sign b open_brace refl p q)
kinds-apart braced braced b p q = refl

kind-not-free : (k : Kind) (b : ℕ) → IsKind k b → is_free b ≡ true → ⊥
kind-not-free bare b p free = not-free-bare b p free
kind-not-free quoted b p free = byte-false is_free b quote refl p free
kind-not-free signed b p free = not-free-sign b p free
kind-not-free braced b p free = byte-false is_free b open_brace refl p free

-- the bytes begin with one of the kind
abbrev pub BeginsKind : Kind → List ℕ → Type 0
BeginsKind k [] = ⊥
BeginsKind k (b ∷ bytes) = IsKind k b

begins-apart : (k l : Kind) (a b : List ℕ) → a ≡ b → BeginsKind k a → BeginsKind l b → k ≡ l
begins-apart k l [] b same p q = absurd p
begins-apart k l (x ∷ a) [] same p q = absurd q
begins-apart k l (x ∷ a) (y ∷ b) same p q = let e : y ≡ x = cc in kinds-apart k l x p (subst (IsKind l) e q)

-- doubled quotes are cut in one way
pub doubled-one : (b : ℕ) → ((b ≡ quote) × (doubled (b ∷ []) ≡ quote ∷ quote ∷ [])) ⊎ ((b ≡ quote → ⊥) × (doubled (b ∷ []) ≡ b ∷ []))
doubled-one b = elim (cases_Bool (is_quote b)) [
  | inl yes' ↦ let is : b ≡ quote = eqb-true b quote yes' in inl (is, ap (λ x. doubled (x ∷ [])) is)
  | inr no' ↦ inr ((λ is. true≢false (sym (eq-eqb b quote is) ∙ no')), ap (λ l. l ++ []) (cond-false (is_quote b) (b ∷ b ∷ []) (b ∷ []) no'))
]

pub doubled-more : (b : ℕ) (t : List ℕ) → doubled (b ∷ t) ≡ doubled (b ∷ []) ++ doubled t
doubled-more b t = ap (λ l. l ++ doubled t) (sym (append-nil (cond (is_quote b) (b ∷ b ∷ []) (b ∷ []))))

pub doubled-cases : (b : ℕ) (t more : List ℕ) → ((b ≡ quote) × (doubled (b ∷ t) ++ more ≡ quote ∷ quote ∷ doubled t ++ more)) ⊎ ((b ≡ quote → ⊥) × (doubled (b ∷ t) ++ more ≡ b ∷ doubled t ++ more))
doubled-cases b t more = elim (doubled-one b) [
  | inl q ↦ inl (q.0, ap (λ l. l ++ more) (doubled-more b t ∙ ap (λ l. l ++ doubled t) q.1))
  | inr q ↦ inr (q.0, ap (λ l. l ++ more) (doubled-more b t ∙ ap (λ l. l ++ doubled t) q.1))
]

-- after the closing quote stands no quote
pub never-quote : (f rest : List ℕ) → Ends (λ b. b ≡ quote) f → f ≡ quote ∷ rest → ⊥
never-quote [] rest end same = absurd (cc)
never-quote (b ∷ f) rest end same = let e : b ≡ quote = cc in end e

pub doubled-same : (t u f g : List ℕ) → Ends (λ b. b ≡ quote) f → Ends (λ b. b ≡ quote) g → doubled t ++ quote ∷ f ≡ doubled u ++ quote ∷ g → (t ≡ u) × (f ≡ g)
doubled-same [] [] f g end end' same = (refl, cc)
doubled-same [] (c ∷ u) f g end end' same = elim (doubled-cases c u (quote ∷ g)) [
  | inl q ↦ let two : quote ∷ f ≡ quote ∷ quote ∷ doubled u ++ quote ∷ g = same ∙ q.1 in let e : f ≡ quote ∷ doubled u ++ quote ∷ g = cc in absurd (never-quote f _ end e)
  | inr q ↦ let two : quote ∷ f ≡ c ∷ doubled u ++ quote ∷ g = same ∙ q.1 in let e : c ≡ quote = cc in absurd (q.0 e)
]
doubled-same (b ∷ t) [] f g end end' same = elim (doubled-cases b t (quote ∷ f)) [
  | inl q ↦ let two : quote ∷ g ≡ quote ∷ quote ∷ doubled t ++ quote ∷ f = sym same ∙ q.1 in let e : g ≡ quote ∷ doubled t ++ quote ∷ f = cc in absurd (never-quote g _ end' e)
  | inr q ↦ let two : quote ∷ g ≡ b ∷ doubled t ++ quote ∷ f = sym same ∙ q.1 in let e : b ≡ quote = cc in absurd (q.0 e)
]
doubled-same (b ∷ t) (c ∷ u) f g end end' same = elim (doubled-cases b t (quote ∷ f)) [
  | inl q ↦ elim (doubled-cases c u (quote ∷ g)) [
    | inl r ↦
        let two : quote ∷ quote ∷ doubled t ++ quote ∷ f ≡ quote ∷ quote ∷ doubled u ++ quote ∷ g = sym q.1 ∙ same ∙ r.1 in
        let tail : doubled t ++ quote ∷ f ≡ doubled u ++ quote ∷ g = cc in
        let (e, h) = doubled-same t u f g end end' tail in
        let first : b ≡ c = q.0 ∙ sym r.0 in (cc, h)
    | inr r ↦ let two : quote ∷ quote ∷ doubled t ++ quote ∷ f ≡ c ∷ doubled u ++ quote ∷ g = sym q.1 ∙ same ∙ r.1 in let e : c ≡ quote = cc in absurd (r.0 e)
  ]
  | inr q ↦ elim (doubled-cases c u (quote ∷ g)) [
    | inl r ↦ let two : b ∷ doubled t ++ quote ∷ f ≡ quote ∷ quote ∷ doubled u ++ quote ∷ g = sym q.1 ∙ same ∙ r.1 in let e : b ≡ quote = cc in absurd (q.0 e)
    | inr r ↦
        let two : b ∷ doubled t ++ quote ∷ f ≡ c ∷ doubled u ++ quote ∷ g = sym q.1 ∙ same ∙ r.1 in
        let tail : doubled t ++ quote ∷ f ≡ doubled u ++ quote ∷ g = cc in
        let (e, h) = doubled-same t u f g end end' tail in
        let first : b ≡ c = cc in (cc, h)
  ]
]

begin-bare : (x a f : List ℕ) → x ≡ a → a ≢ [] → Each is_bare_byte true a → BeginsKind bare (x ++ f)
begin-bare x [] f same some all = absurd (some refl)
begin-bare x (b ∷ a) f same some all = subst (λ l. BeginsKind bare (l ++ f)) (sym same) all.0

begin-with : (k : Kind) (x f : List ℕ) (b : ℕ) (a : List ℕ) → x ≡ b ∷ a → IsKind k b → BeginsKind k (x ++ f)
begin-with k x f b a same is = subst (λ l. BeginsKind k (l ++ f)) (sym same) is

pub kind-of : (t : Token) (x f : List ℕ) → Spells x t f → (k : Kind) × BeginsKind k (x ++ f)
kind-of (name a) x f (inl p) = (bare, begin-bare x a f p.0 p.1 p.2)
kind-of (name a) x f (inr p) = (quoted, begin-with quoted x f quote _ p.0 refl)
kind-of (sign b) x f p = (signed, begin-with signed x f b _ p.0 p.1)
kind-of (repeat m) x f p = (braced, begin-with braced x f open_brace _ p.0 refl)
kind-of (open_repeat m) x f p = (braced, begin-with braced x f open_brace _ p.0 refl)

wrong : (t u : Token) (x y f g : List ℕ) (k l : Kind) → x ++ f ≡ y ++ g → BeginsKind k (x ++ f) → BeginsKind l (y ++ g) → (k ≡ l → ⊥) → (t ≡ u) × (x ≡ y) × (f ≡ g)
wrong t u x y f g k l same p q apart = absurd (apart (begins-apart k l (x ++ f) (y ++ g) same p q))

bare≢quoted : bare ≡ quoted → ⊥
bare≢quoted e = absurd (cc)

bare≢signed : bare ≡ signed → ⊥
bare≢signed e = absurd (cc)

bare≢braced : bare ≡ braced → ⊥
bare≢braced e = absurd (cc)

quoted≢signed : quoted ≡ signed → ⊥
quoted≢signed e = absurd (cc)

quoted≢braced : quoted ≡ braced → ⊥
quoted≢braced e = absurd (cc)

signed≢braced : signed ≡ braced → ⊥
signed≢braced e = absurd (cc)

pub quote-ends : (f : List ℕ) → BeginsOtherwise is_quote f → Ends (λ b. b ≡ quote) f
quote-ends [] otherwise = tt
quote-ends (b ∷ f) otherwise = λ is. true≢false (sym (eq-eqb b quote is) ∙ otherwise)

-- text in brackets and what follows
in-front : (x f m : List ℕ) (b c : ℕ) → x ≡ b ∷ m ++ c ∷ [] → x ++ f ≡ b ∷ m ++ c ∷ f
in-front x f m b c same = ap (λ l. l ++ f) same ∙ ap (λ l. b ∷ l) (append_assoc m (c ∷ []) f)

closing-ends : (f : List ℕ) → Ends (λ b. is_closing_brace b ≡ false) (close_brace ∷ f)
closing-ends f = λ e. true≢false e

no-closing : (m f n g : List ℕ) → Each is_closing_brace false n → g ≡ [] → m ++ close_brace ∷ f ≡ n ++ g → ⊥
no-closing m f n g all none same =
    let whole : n ≡ m ++ close_brace ∷ f = sym (append-nil n) ∙ ap (λ l. n ++ l) (sym none) ∙ sym same in
    true≢false (back_of_both (λ b. is_closing_brace b ≡ false) m (close_brace ∷ f) (subst (AllByRecursion (λ b. is_closing_brace b ≡ false)) whole all)).0

spells-same : (t u : Token) (x y f g : List ℕ) → Spells x t f → Spells y u g → x ++ f ≡ y ++ g → (t ≡ u) × (x ≡ y) × (f ≡ g)
spells-same (name a) (name b) x y f g (inl p) (inl q) same =
    let both : a ++ f ≡ b ++ g = ap (λ l. l ++ f) (sym p.0) ∙ same ∙ ap (λ l. l ++ g) q.0 in
    let (e, h) = cut-same (λ c. is_bare_byte c ≡ true) a b f g p.2 q.2 (ends-otherwise is_bare_byte f p.3) (ends-otherwise is_bare_byte g q.3) both in
    (ap name e, p.0 ∙ e ∙ sym q.0, h)
spells-same (name a) (name b) x y f g (inl p) (inr q) same = wrong (name a) (name b) x y f g bare quoted same (begin-bare x a f p.0 p.1 p.2) (begin-with quoted y g quote _ q.0 refl) bare≢quoted
spells-same (name a) (name b) x y f g (inr p) (inl q) same = wrong (name a) (name b) x y f g quoted bare same (begin-with quoted x f quote _ p.0 refl) (begin-bare y b g q.0 q.1 q.2) (λ e. bare≢quoted (sym e))
spells-same (name a) (name b) x y f g (inr p) (inr q) same =
    let both : quote ∷ doubled a ++ quote ∷ f ≡ quote ∷ doubled b ++ quote ∷ g = sym (in-front x f (doubled a) quote quote p.0) ∙ same ∙ in-front y g (doubled b) quote quote q.0 in
    let tail : doubled a ++ quote ∷ f ≡ doubled b ++ quote ∷ g = cc in
    let (e, h) = doubled-same a b f g (quote-ends f p.1) (quote-ends g q.1) tail in
    (ap name e, p.0 ∙ ap (λ l. quote ∷ doubled l ++ quote ∷ []) e ∙ sym q.0, h)
spells-same (name a) (sign b) x y f g (inl p) q same = wrong (name a) (sign b) x y f g bare signed same (begin-bare x a f p.0 p.1 p.2) (begin-with signed y g b _ q.0 q.1) bare≢signed
spells-same (name a) (sign b) x y f g (inr p) q same = wrong (name a) (sign b) x y f g quoted signed same (begin-with quoted x f quote _ p.0 refl) (begin-with signed y g b _ q.0 q.1) quoted≢signed
spells-same (name a) (repeat n) x y f g (inl p) q same = wrong (name a) (repeat n) x y f g bare braced same (begin-bare x a f p.0 p.1 p.2) (begin-with braced y g open_brace _ q.0 refl) bare≢braced
spells-same (name a) (repeat n) x y f g (inr p) q same = wrong (name a) (repeat n) x y f g quoted braced same (begin-with quoted x f quote _ p.0 refl) (begin-with braced y g open_brace _ q.0 refl) quoted≢braced
spells-same (name a) (open_repeat n) x y f g (inl p) q same = wrong (name a) (open_repeat n) x y f g bare braced same (begin-bare x a f p.0 p.1 p.2) (begin-with braced y g open_brace _ q.0 refl) bare≢braced
spells-same (name a) (open_repeat n) x y f g (inr p) q same = wrong (name a) (open_repeat n) x y f g quoted braced same (begin-with quoted x f quote _ p.0 refl) (begin-with braced y g open_brace _ q.0 refl) quoted≢braced
spells-same (sign a) (name b) x y f g p (inl q) same = wrong (sign a) (name b) x y f g signed bare same (begin-with signed x f a _ p.0 p.1) (begin-bare y b g q.0 q.1 q.2) (λ e. bare≢signed (sym e))
spells-same (sign a) (name b) x y f g p (inr q) same = wrong (sign a) (name b) x y f g signed quoted same (begin-with signed x f a _ p.0 p.1) (begin-with quoted y g quote _ q.0 refl) (λ e. quoted≢signed (sym e))
spells-same (sign a) (sign b) x y f g p q same =
    let both : a ∷ f ≡ b ∷ g = ap (λ l. l ++ f) (sym p.0) ∙ same ∙ ap (λ l. l ++ g) q.0 in
    let e : a ≡ b = cc in
    let h : f ≡ g = cc in
    (ap sign e, p.0 ∙ ap (λ c. c ∷ []) e ∙ sym q.0, h)
spells-same (sign a) (repeat n) x y f g p q same = wrong (sign a) (repeat n) x y f g signed braced same (begin-with signed x f a _ p.0 p.1) (begin-with braced y g open_brace _ q.0 refl) signed≢braced
spells-same (sign a) (open_repeat n) x y f g p q same = wrong (sign a) (open_repeat n) x y f g signed braced same (begin-with signed x f a _ p.0 p.1) (begin-with braced y g open_brace _ q.0 refl) signed≢braced
spells-same (repeat m) (name b) x y f g p (inl q) same = wrong (repeat m) (name b) x y f g braced bare same (begin-with braced x f open_brace _ p.0 refl) (begin-bare y b g q.0 q.1 q.2) (λ e. bare≢braced (sym e))
spells-same (repeat m) (name b) x y f g p (inr q) same = wrong (repeat m) (name b) x y f g braced quoted same (begin-with braced x f open_brace _ p.0 refl) (begin-with quoted y g quote _ q.0 refl) (λ e. quoted≢braced (sym e))
spells-same (repeat m) (sign b) x y f g p q same = wrong (repeat m) (sign b) x y f g braced signed same (begin-with braced x f open_brace _ p.0 refl) (begin-with signed y g b _ q.0 q.1) (λ e. signed≢braced (sym e))
spells-same (repeat m) (repeat n) x y f g p q same =
    let both : open_brace ∷ m ++ close_brace ∷ f ≡ open_brace ∷ n ++ close_brace ∷ g = sym (in-front x f m open_brace close_brace p.0) ∙ same ∙ in-front y g n open_brace close_brace q.0 in
    let tail : m ++ close_brace ∷ f ≡ n ++ close_brace ∷ g = cc in
    let (e, h) = cut-same (λ b. is_closing_brace b ≡ false) m n (close_brace ∷ f) (close_brace ∷ g) p.1 q.1 (closing-ends f) (closing-ends g) tail in
    let rest : f ≡ g = cc in
    (ap repeat e, p.0 ∙ ap (λ l. open_brace ∷ l ++ close_brace ∷ []) e ∙ sym q.0, rest)
spells-same (repeat m) (open_repeat n) x y f g p q same =
    let both : open_brace ∷ m ++ close_brace ∷ f ≡ open_brace ∷ n ++ g = sym (in-front x f m open_brace close_brace p.0) ∙ same ∙ ap (λ l. l ++ g) q.0 in
    let tail : m ++ close_brace ∷ f ≡ n ++ g = cc in
    absurd (no-closing m f n g q.1 q.2 tail)
spells-same (open_repeat m) (name b) x y f g p (inl q) same = wrong (open_repeat m) (name b) x y f g braced bare same (begin-with braced x f open_brace _ p.0 refl) (begin-bare y b g q.0 q.1 q.2) (λ e. bare≢braced (sym e))
spells-same (open_repeat m) (name b) x y f g p (inr q) same = wrong (open_repeat m) (name b) x y f g braced quoted same (begin-with braced x f open_brace _ p.0 refl) (begin-with quoted y g quote _ q.0 refl) (λ e. quoted≢braced (sym e))
spells-same (open_repeat m) (sign b) x y f g p q same = wrong (open_repeat m) (sign b) x y f g braced signed same (begin-with braced x f open_brace _ p.0 refl) (begin-with signed y g b _ q.0 q.1) (λ e. signed≢braced (sym e))
spells-same (open_repeat m) (repeat n) x y f g p q same =
    let both : open_brace ∷ n ++ close_brace ∷ g ≡ open_brace ∷ m ++ f = sym (in-front y g n open_brace close_brace q.0) ∙ sym same ∙ ap (λ l. l ++ f) p.0 in
    let tail : n ++ close_brace ∷ g ≡ m ++ f = cc in
    absurd (no-closing n g m f p.1 p.2 tail)
spells-same (open_repeat m) (open_repeat n) x y f g p q same =
    let whole : x ≡ y = sym (append-nil x) ∙ ap (λ l. x ++ l) (sym p.2) ∙ same ∙ ap (λ l. y ++ l) q.2 ∙ append-nil y in
    let both : open_brace ∷ m ≡ open_brace ∷ n = sym p.0 ∙ whole ∙ q.0 in
    let e : m ≡ n = cc in
    (ap open_repeat e, whole, p.2 ∙ sym q.2)

-- what begins with a free byte begins no token
free-begins-none : (text : List ℕ) → Each is_free true text → BeginsToken text → ⊥
free-begins-none text free (bytes, token, following, same, is) =
    let (k, begins) = kind-of token bytes following is in
    not-both (bytes ++ following) k begins (subst (AllByRecursion (λ b. is_free b ≡ true)) same free)
  where
    not-both : (l : List ℕ) (k : Kind) → BeginsKind k l → AllByRecursion (λ b. is_free b ≡ true) l → ⊥
    not-both [] k begins free = begins
    not-both (b ∷ l) k begins free = kind-not-free k b begins free.0

pub nothing-begins-none : BeginsToken [] → ⊥
nothing-begins-none begins = free-begins-none [] tt begins

placed-same : (p q : Placed) → p.column ≡ q.column → p.token ≡ q.token → p ≡ q
placed-same p q e h = ap (λ (c : ℕ). let made : Placed = record { column = c; token = p.token } in made) e ∙ ap (λ (t : Token). let made : Placed = record { column = q.column; token = t } in made) h

-- the same tokens, and the same place of the same rest
abbrev IsSame : List Placed → ℕ → List ℕ → List Placed → ℕ → List ℕ → Type 0
IsSame ps at rest qs at' rest' = (ps ≡ qs) × (at ≡ at') × (rest ≡ rest')

-- the free bytes before two tokens, or before a token and a rest, are the same
free-same : (free free' more more' : List ℕ) → Each is_free true free → Each is_free true free'
    → BeginsOtherwise is_free more → BeginsOtherwise is_free more' → free ++ more ≡ free' ++ more' → (free ≡ free') × (more ≡ more')
free-same free free' more more' frees frees' otherwise otherwise' same =
    cut-same (λ b. is_free b ≡ true) free free' more more' frees frees' (ends-otherwise is_free more otherwise) (ends-otherwise is_free more' otherwise') same

token-otherwise : (t : Token) (bytes following : List ℕ) → Spells bytes t following → BeginsOtherwise is_free (bytes ++ following)
token-otherwise t bytes following is = let (k, begins) = kind-of t bytes following is in otherwise (bytes ++ following) k begins
  where
    otherwise : (l : List ℕ) (k : Kind) → BeginsKind k l → BeginsOtherwise is_free l
    otherwise [] k begins = tt
    otherwise (b ∷ l) k begins = elim (cases_Bool (is_free b)) [ inl free ↦ absurd (kind-not-free k b begins free) | inr none ↦ none ]

-- what is cut at a rest where no token begins is not cut at a token
rest-begins : (free free' bytes following rest : List ℕ) (t : Token) → Each is_free true free → Each is_free true free' → BeginsOtherwise is_free rest
    → Spells bytes t following → free ++ rest ≡ free' ++ bytes ++ following → BeginsToken rest
rest-begins free free' bytes following rest t frees frees' otherwise is same =
    let (_, more) = free-same free free' rest (bytes ++ following) frees frees' otherwise (token-otherwise t bytes following is)
    (same ∙ append_assoc free' bytes following) in
    (bytes, t, following, more, is)

-- a text is cut into tokens and a rest where none begins in one way
pub AreTokensBefore-unique : (column : ℕ) (text : List ℕ) (ps qs : List Placed) (at at' : ℕ) (rest rest' : List ℕ)
    → AreTokensBefore column text ps at rest → AreTokensBefore column text qs at' rest'
    → (BeginsToken rest → ⊥) → (BeginsToken rest' → ⊥) → IsSame ps at rest qs at' rest'
AreTokensBefore-unique column text [] [] at at' rest rest' (free, cut, frees, is_at, ends) (free', cut', frees', is_at', ends') none none' =
    let (e, h) = free-same free free' rest rest' frees frees' ends ends' (sym cut ∙ cut') in
    (refl, is_at ∙ ap (λ l. column + length l) e ∙ sym is_at', h)
AreTokensBefore-unique column text [] (t ∷ qs) at at' rest rest' (free, cut, frees, is_at, ends) (free', bytes, following, cut', frees', is_at', is, more) none none' =
    absurd (none (rest-begins free free' bytes following rest t.token frees frees' ends is (sym cut ∙ cut')))
AreTokensBefore-unique column text (t ∷ ps) [] at at' rest rest' (free', bytes, following, cut', frees', is_at', is, more) (free, cut, frees, is_at, ends) none none' =
    absurd (none' (rest-begins free free' bytes following rest' t.token frees frees' ends is (sym cut ∙ cut')))
AreTokensBefore-unique column text (t ∷ ps) (u ∷ qs) at at' rest rest' (free, bytes, following, cut, frees, is_at, is, more) (free', bytes', following', cut', frees', is_at', is', more') none none' =
    let (same_free, same_more) = free-same free free' (bytes ++ following) (bytes' ++ following') frees frees'
    (token-otherwise t.token bytes following is) (token-otherwise u.token bytes' following' is')
    (sym (append_assoc free bytes following) ∙ sym cut ∙ cut' ∙ append_assoc free' bytes' following') in
    let (same_token, same_bytes, same_following) = spells-same t.token u.token bytes bytes' following following' is is' same_more in
    let next : column + length free' + length bytes' ≡ column + length free + length bytes = omega (arith, ap length same_free, ap length same_bytes) in
    let first : t ≡ u = placed-same t u (omega (arith, is_at, is_at', ap length same_free)) same_token in
    let others = AreTokensBefore-unique (column + length free + length bytes) following ps qs at at' rest rest' more
    (subst (λ c. AreTokensBefore c following qs at' rest') next (subst (λ f. AreTokensBefore (column + length free' + length bytes') f qs at' rest') (sym same_following) more')) none none' in
    (ap (λ x. x ∷ ps) first ∙ ap (λ l. u ∷ l) others.0, others.1, others.2)

-- a text is at most one list of tokens
pub AreTokens-unique : (text : List ℕ) (ps qs : List Placed) → AreTokens text ps → AreTokens text qs → ps ≡ qs
AreTokens-unique text ps qs (end, are) (end', are') =
    let same = AreTokensBefore-unique 1 text ps qs end end' [] [] are are' nothing-begins-none nothing-begins-none in same.0

-- at most one token of a text is bad first
pub IsBadToken-unique : (text : List ℕ) (j k : ℕ) → IsBadToken text j → IsBadToken text k → j ≡ k
IsBadToken-unique text j k (ps, rest, are, some, none) (qs, rest', are', some', none') =
    let same = AreTokensBefore-unique 1 text ps qs j k rest rest' are are' none none' in same.1

-- a text that is tokens has no bad token
pub AreTokens-no_bad : (text : List ℕ) (ps : List Placed) (column : ℕ) → AreTokens text ps → IsBadToken text column → ⊥
AreTokens-no_bad text ps column (end, are) (qs, rest, are', some, none) =
    let same = AreTokensBefore-unique 1 text ps qs end column [] rest are are' nothing-begins-none none in some (sym same.2)
