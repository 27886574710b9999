-- What tokens mean as they were read: their marks over uses, in the places of the tokens.
use Rattle.std.proofs.Common.{◌≡◌, ℕ, ◌+◌, ◌≤◌, inl, inr, List, [], ◌∷◌, ◌++◌, map, length, get_or, refl, sym, ap, ◌∙◌, subst, append_assoc, arith, length-append}
use Rattle.std.specs.List.{AllByRecursion}
use Rattle.std.proofs.Math.Seq.{get_or-append_seam}
use Rattle.mine_model.specs.declared.item.Item.{Item}
use Rattle.mine_model.specs.Bytes.{exclamation_mark, open_round, close_round, full_stop, equals_sign, open_square, close_square, circumflex, vertical_bar}
use Rattle.mine_model.specs.Tokens.{Token, sign, Placed}
use Rattle.mine_model.specs.Grammar.{Use, named}
use Rattle.mine_model.specs.Refusal.{IsBadRepeat, IsBeyondLimit}
use Rattle.patex_grammar.specs.Machine.{Is, AreMarks}
use Rattle.patex_parser.specs.declared.token.Bracket.TheVariants.{Round, Square}
use Rattle.patex_parser.specs.declared.token.Mark.{Mark}
use Rattle.patex_parser.specs.declared.token.Mark.TheVariants.{Name, Caret, Equals, Dot, Bang, Bar, Opening, Closing, Postfix}
use Rattle.patex_parser.specs.declared.token.Kind.{Kind}
use Rattle.patex_parser.specs.declared.token.Kind.TheVariants.{Mark as AMark, BadRepeat, BeyondLimit}
use Rattle.patex_parser.specs.declared.token.ReadToken.{ReadToken}
use Rattle.patex_parser.specs.Parsing.{use_at, AreNumbered, AreWithin}
use Rattle.patex_parser.specs.Scanning.{IsSound, IsMark, IsKind, AreRead}
use Rattle.patex_parser.specs.View.{mark_of}
use Rattle.patex_parser.specs.Reading.{IsMarked, mark_of_kind, marks_of}
use Rattle.patex_parser.proofs.RunLemmas.{mark_by, named_mark, named_marks}

-- both lists are as long, and their elements are in this relation one by one
abbrev pub Pairwise : {X Y : Type 0} → (X → Y → Type 0) → List X → List Y → Type 0
Pairwise R [] [] = Unit {0}
Pairwise R [] (y ∷ ys) = ⊥
Pairwise R (x ∷ xs) [] = ⊥
Pairwise R (x ∷ xs) (y ∷ ys) = R x y × Pairwise R xs ys

pub Pairwise-split : {X Y : Type 0} (R : X → Y → Type 0) (xs : List X) (before : List Y) (y : Y) (after : List Y) → Pairwise R xs (before ++ y ∷ after)
    → (front : List X) × (x : X) × (back : List X) × (xs ≡ front ++ x ∷ back) × Pairwise R front before × R x y × Pairwise R back after
Pairwise-split R [] [] y after pairs = absurd pairs
Pairwise-split R [] (z ∷ before) y after pairs = absurd pairs
Pairwise-split R (x ∷ xs) [] y after pairs = ([], x, xs, refl, tt, pairs.0, pairs.1)
Pairwise-split R (x ∷ xs) (z ∷ before) y after pairs =
    let (front, x', back, same, first, here, rest) = Pairwise-split R xs before y after pairs.1 in
    (x ∷ front, x', back, ap (λ zs. x ∷ zs) same, (pairs.0, first), here, rest)

pub Pairwise-push : {X Y : Type 0} (R : X → Y → Type 0) (xs : List X) (x : X) (ys : List Y) (y : Y) → Pairwise R xs ys → R x y → Pairwise R (xs ++ x ∷ []) (ys ++ y ∷ [])
Pairwise-push R [] x [] y pairs r = (r, tt)
Pairwise-push R [] x (z ∷ ys) y pairs r = absurd pairs
Pairwise-push R (w ∷ xs) x [] y pairs r = absurd pairs
Pairwise-push R (w ∷ xs) x (z ∷ ys) y pairs r = (pairs.0, Pairwise-push R xs x ys y pairs.1 r)

-- a kind of token over uses
abbrev pub KindMeans : (Item → Use) → Placed → Kind → Type 0
KindMeans f placed (AMark mark) = Is (mark_by f (mark_of mark)) placed × IsSound placed.token
KindMeans f placed BadRepeat = IsBadRepeat placed.token
KindMeans f placed BeyondLimit = IsBeyondLimit placed.token × (IsBadRepeat placed.token → ⊥)

abbrev pub Means : (Item → Use) → Placed → ReadToken → Type 0
Means f placed read = (read.column ≡ placed.column) × KindMeans f placed read.kind

sound-sign : (token : Token) (b : ℕ) → token ≡ sign b → IsSound token
sound-sign token b is = subst IsSound (sym is) ((λ bad. bad), λ big. big)

sound-name : (placed : Placed) (u : Use) → placed ≡ named u → IsSound placed.token
sound-name placed u is = subst IsSound (sym (ap (λ (p : Placed). p.token) is)) ((λ bad. bad), λ big. big)

mark-means : (f : Item → Use) (placed : Placed) (mark : Mark) → IsMark placed.token mark → KindMeans f placed (AMark mark)
mark-means f placed (Name item) is = absurd is
mark-means f placed Caret is = (is, sound-sign placed.token circumflex is)
mark-means f placed Equals is = (is, sound-sign placed.token equals_sign is)
mark-means f placed Dot is = (is, sound-sign placed.token full_stop is)
mark-means f placed Bang is = (is, sound-sign placed.token exclamation_mark is)
mark-means f placed Bar is = (is, sound-sign placed.token vertical_bar is)
mark-means f placed (Opening Round) is = (is, sound-sign placed.token open_round is)
mark-means f placed (Opening Square) is = (is, sound-sign placed.token open_square is)
mark-means f placed (Closing Round) is = (is, sound-sign placed.token close_round is)
mark-means f placed (Closing Square) is = (is, sound-sign placed.token close_square is)
mark-means f placed (Postfix least most) is = is

kind-means : (f : Item → Use) (placed : Placed) (kind : Kind) → IsKind placed.token kind → KindMeans f placed kind
kind-means f placed (AMark mark) is = mark-means f placed mark is
kind-means f placed BadRepeat is = is
kind-means f placed BeyondLimit is = is

name-means : (f : Item → Use) (placed : Placed) (kind : Kind) (item : Item) (u : Use) → kind ≡ AMark (Name item) → placed ≡ named u → f item ≡ u → KindMeans f placed kind
name-means f placed kind item u is same here =
    subst (KindMeans f placed) (sym is) (same ∙ ap named (sym here), sound-name placed u same)

-- the use with the number of those before it
pub use-here : (before : List Use) (u : Use) (more : List Use) (item : Item) → item.0 ≡ length before → use_at (before ++ u ∷ more) item ≡ u
use-here before u more item number =
    ap (λ n. get_or (before ++ u ∷ more) n (record { column = 0; name = [] })) number ∙ get_or-append_seam before u more (record { column = 0; name = [] })

pub read-means : (before : List Use) (placed : List Placed) (reads : List ReadToken) (uses : List Use) → AreRead (length before) placed reads uses
    → Pairwise (Means (use_at (before ++ uses))) placed reads
read-means before [] [] uses are = tt
read-means before [] (r ∷ reads) uses are = absurd are
read-means before (p ∷ placed) [] uses are = absurd are
read-means before (p ∷ placed) (r ∷ reads) uses (column, inl (u, more, is, same, item, kind, number, rest)) = (
  (column, name-means (use_at (before ++ uses)) p r.kind item u kind is (ap (λ us. use_at (before ++ us) item) same ∙ use-here before u more item number)),
  subst (λ us. Pairwise (Means (use_at us)) placed reads) (append_assoc before (u ∷ []) more ∙ ap (λ us. before ++ us) (sym same))
      (read-means (before ++ u ∷ []) placed reads more (subst (λ k. AreRead k placed reads more) (sym (length-append before (u ∷ []))) rest)),
)
read-means before (p ∷ placed) (r ∷ reads) uses (column, inr (is, rest)) =
    ((column, kind-means (use_at (before ++ uses)) p r.kind is), read-means before placed reads uses rest)

-- the marks of tokens, where none is refused
abbrev pub MeansMark : (Item → Use) → Placed → ReadToken → Type 0
MeansMark f placed read = (read.column ≡ placed.column) × (mark : Mark) × (read.kind ≡ AMark mark) × Is (mark_by f (mark_of mark)) placed

marked-means : (f : Item → Use) (placed : Placed) (read : ReadToken) → Means f placed read → IsMarked read → MeansMark f placed read
marked-means f placed read means (mark, is) =
    let here : KindMeans f placed (AMark mark) = subst (KindMeans f placed) is means.1 in
    (means.0, mark, is, here.0)

pub all-marked : (f : Item → Use) (placed : List Placed) (reads : List ReadToken) → Pairwise (Means f) placed reads → AllByRecursion IsMarked reads → Pairwise (MeansMark f) placed reads
all-marked f [] [] means marked = tt
all-marked f [] (r ∷ reads) means marked = absurd means
all-marked f (p ∷ placed) [] means marked = absurd means
all-marked f (p ∷ placed) (r ∷ reads) means marked = (marked-means f p r means.0 marked.0, all-marked f placed reads means.1 marked.1)

pub mark-is : (f : Item → Use) (placed : Placed) (read : ReadToken) → MeansMark f placed read → Is (mark_by f (mark_of_kind read.kind)) placed
mark-is f placed read (column, mark, is, means) = subst (λ kind. Is (mark_by f (mark_of_kind kind)) placed) (sym is) means

pub marks-are : (f : Item → Use) (placed : List Placed) (reads : List ReadToken) → Pairwise (MeansMark f) placed reads → AreMarks placed (map (mark_by f) (marks_of reads))
marks-are f [] [] means = tt
marks-are f [] (r ∷ reads) means = absurd means
marks-are f (p ∷ placed) [] means = absurd means
marks-are f (p ∷ placed) (r ∷ reads) means = (mark-is f p r means.0, marks-are f placed reads means.1)

-- what the marks name is numbered from the names before them on, one number a use
mark-named : (placed : Placed) (mark : Mark) → IsMark placed.token mark → named_mark (mark_of mark) ≡ []
mark-named placed (Name item) is = absurd is
mark-named placed Caret is = refl
mark-named placed Equals is = refl
mark-named placed Dot is = refl
mark-named placed Bang is = refl
mark-named placed Bar is = refl
mark-named placed (Opening bracket) is = refl
mark-named placed (Closing bracket) is = refl
mark-named placed (Postfix least most) is = refl

kind-named : (placed : Placed) (kind : Kind) → IsKind placed.token kind → named_mark (mark_of_kind kind) ≡ []
kind-named placed (AMark mark) is = mark-named placed mark is
kind-named placed BadRepeat is = refl
kind-named placed BeyondLimit is = refl

pub read-named : (k : ℕ) (placed : List Placed) (reads : List ReadToken) (uses : List Use) → AreRead k placed reads uses
    → AreNumbered k (named_marks (marks_of reads)) × (length (named_marks (marks_of reads)) ≡ length uses)
read-named k [] [] uses are = (tt, sym (ap length are))
read-named k [] (r ∷ reads) uses are = absurd are
read-named k (p ∷ placed) [] uses are = absurd are
read-named k (p ∷ placed) (r ∷ reads) uses (column, inl (u, more, is, same, item, kind, number, rest)) =
    let (numbered, as_many) = read-named (k + 1) placed reads more rest in
    let whole : named_mark (mark_of_kind r.kind) ++ named_marks (marks_of reads) ≡ item ∷ named_marks (marks_of reads) =
    ap (λ kind. named_mark (mark_of_kind kind) ++ named_marks (marks_of reads)) kind in
    (subst (AreNumbered k) (sym whole) (number, numbered), ap length whole ∙ omega (arith, as_many, ap length same))
read-named k (p ∷ placed) (r ∷ reads) uses (column, inr (is, rest)) =
    let (numbered, as_many) = read-named k placed reads uses rest in
    let whole : named_mark (mark_of_kind r.kind) ++ named_marks (marks_of reads) ≡ named_marks (marks_of reads) =
    ap (λ xs. xs ++ named_marks (marks_of reads)) (kind-named p r.kind is) in
    (subst (AreNumbered k) (sym whole) numbered, ap length whole ∙ as_many)

-- items that are numbered so stand for the uses in their order
pub numbered-uses : (before more : List Use) (items : List Item) → AreNumbered (length before) items → length items ≡ length more → map (use_at (before ++ more)) items ≡ more
numbered-uses before [] [] numbered same = refl
numbered-uses before (u ∷ more) [] numbered same = absurd (omega (arith, same))
numbered-uses before [] (item ∷ items) numbered same = absurd (omega (arith, same))
numbered-uses before (u ∷ more) (item ∷ items) (number, numbered) same =
    let next : length before + 1 ≡ length (before ++ u ∷ []) = sym (length-append before (u ∷ [])) in
    let others = numbered-uses (before ++ u ∷ []) more items (subst (λ k. AreNumbered k items) next numbered) (omega (arith, same)) in
    let moved : map (use_at (before ++ u ∷ more)) items ≡ more =
    ap (λ us. map (use_at us) items) (sym (append_assoc before (u ∷ []) more)) ∙ others in
    ap (λ x. x ∷ map (use_at (before ++ u ∷ more)) items) (use-here before u more item number) ∙ ap (λ xs. u ∷ xs) moved

pub numbered-within : (k n : ℕ) (items : List Item) → AreNumbered k items → k + length items ≤ n → AreWithin n items
numbered-within k n [] numbered few = tt
numbered-within k n (item ∷ items) numbered few = (omega (arith, numbered.0), numbered-within (k + 1) n items numbered.1 (omega arith))
