-- Names joined by spaces compare as the names do, one by one.
use Rattle.std.proofs.Common.{◌≡◌, ◌≢◌, ◌⊎◌, ℕ, ◌<◌, true, inl, inr, Some, List, [], ◌∷◌, ◌++◌, refl, sym, ap, ◌∙◌, arith}
use Rattle.std.specs.List.{AllByRecursion, join_with_byte}
use Rattle.std.specs.Ordering.{nat_cmp, ordering_then}
use Rattle.std.specs.Cmp.{nat_cmp_is}
use Rattle.std.specs.Cmp.Lexicographic.{slice_cmp}
use Rattle.std.specs.declared.cmp.Ordering.{Ordering}
use Rattle.std.specs.declared.cmp.Ordering.TheVariants.{Less, Equal, Greater}
use Rattle.std.proofs.lemmas.List.{append-nil, append_assoc}
use Rattle.mine_model.specs.Answer.{NamedRow, ComesBefore}
use Rattle.mine_model.specs.Bytes.{space}
use Rattle.mine_model.specs.Text.{is_name_byte}
use Rattle.mine_model.specs.Tokens.{Each}
use Rattle.mine_model.specs.Names.{IsFileName}
use Rattle.split_merge.specs.Taking.{joined_of, IsBehind}

-- what may stand behind a name: nothing, or a space and more
abbrev StandsBehind : List ℕ → Type 0
StandsBehind rest = (rest ≡ []) ⊎ ((more : List ℕ) × (rest ≡ space ∷ more))

above-space : (b : ℕ) → is_name_byte b ≡ true → space < b
above-space b is = grind (arith, is)

first-less : (b : ℕ) (rest bytes : List ℕ) → is_name_byte b ≡ true → StandsBehind rest → slice_cmp nat_cmp rest (b ∷ bytes) ≡ Less
first-less b rest bytes is (inl none) = ap (λ r. slice_cmp nat_cmp r (b ∷ bytes)) none
first-less b rest bytes is (inr (more, spaced)) =
    ap (λ r. slice_cmp nat_cmp r (b ∷ bytes)) spaced ∙ ap (λ o. ordering_then o (slice_cmp nat_cmp more bytes)) (sym (nat_cmp_is space b Less (above-space b is)))

first-greater : (b : ℕ) (rest bytes : List ℕ) → is_name_byte b ≡ true → StandsBehind rest → slice_cmp nat_cmp (b ∷ bytes) rest ≡ Greater
first-greater b rest bytes is (inl none) = ap (λ r. slice_cmp nat_cmp (b ∷ bytes) r) none
first-greater b rest bytes is (inr (more, spaced)) =
    ap (λ r. slice_cmp nat_cmp (b ∷ bytes) r) spaced ∙ ap (λ o. ordering_then o (slice_cmp nat_cmp bytes more)) (sym (nat_cmp_is b space Greater (above-space b is)))

then-assoc : (o p q : Ordering) → ordering_then (ordering_then o p) q ≡ ordering_then o (ordering_then p q)
then-assoc Less p q = refl
then-assoc Equal p q = refl
then-assoc Greater p q = refl

-- names first, and then what stands behind them
names-then : (name other rest more : List ℕ) → Each is_name_byte true name → Each is_name_byte true other → StandsBehind rest → StandsBehind more
    → slice_cmp nat_cmp (name ++ rest) (other ++ more) ≡ ordering_then (slice_cmp nat_cmp name other) (slice_cmp nat_cmp rest more)
names-then [] [] rest more p q behind behind' = refl
names-then [] (b ∷ other) rest more p q behind behind' = first-less b rest (other ++ more) q.0 behind
names-then (a ∷ name) [] rest more p q behind behind' = first-greater a more (name ++ rest) p.0 behind'
names-then (a ∷ name) (b ∷ other) rest more p q behind behind' =
    ap (λ o. ordering_then (nat_cmp a b) o) (names-then name other rest more p.1 q.1 behind behind')
    ∙ sym (then-assoc (nat_cmp a b) (slice_cmp nat_cmp name other) (slice_cmp nat_cmp rest more))

-- the names behind the first, joined
tail : List (List ℕ) → List ℕ
tail [] = []
tail (name ∷ names) = space ∷ join_with_byte space (name ∷ names)

join-tail : (name : List ℕ) (names : List (List ℕ)) → join_with_byte space (name ∷ names) ≡ name ++ tail names
unfolding tail
join-tail name [] = sym (append-nil name)
join-tail name (other ∷ names) = refl

tail-behind : (names : List (List ℕ)) → StandsBehind (tail names)
unfolding tail
tail-behind [] = inl refl
tail-behind (name ∷ names) = inr (join_with_byte space (name ∷ names), refl)

tails-cmp : (names others : List (List ℕ)) → AllByRecursion IsFileName names → AllByRecursion IsFileName others
    → slice_cmp nat_cmp (tail names) (tail others) ≡ slice_cmp (slice_cmp nat_cmp) names others
unfolding tail
tails-cmp [] [] p q = refl
tails-cmp [] (other ∷ others) p q = refl
tails-cmp (name ∷ names) [] p q = refl
tails-cmp (name ∷ names) (other ∷ others) p q =
    (λ j. slice_cmp nat_cmp (join-tail name names j) (join-tail other others j))
    ∙ names-then name other (tail names) (tail others) p.0.1 q.0.1 (tail-behind names) (tail-behind others)
    ∙ ap (λ o. ordering_then (slice_cmp nat_cmp name other) o) (tails-cmp names others p.1 q.1)

none-less : (name rest : List ℕ) → name ≢ [] → slice_cmp nat_cmp [] (name ++ rest) ≡ Less
none-less [] rest some = absurd (some refl)
none-less (b ∷ name) rest some = refl

some-greater : (name rest : List ℕ) → name ≢ [] → slice_cmp nat_cmp (name ++ rest) [] ≡ Greater
some-greater [] rest some = absurd (some refl)
some-greater (b ∷ name) rest some = refl

pub join-cmp : (names others : List (List ℕ)) → AllByRecursion IsFileName names → AllByRecursion IsFileName others
    → slice_cmp nat_cmp (join_with_byte space names) (join_with_byte space others) ≡ slice_cmp (slice_cmp nat_cmp) names others
unfolding tail
join-cmp [] [] p q = refl
join-cmp [] (other ∷ others) p q = ap (λ t. slice_cmp nat_cmp [] t) (join-tail other others) ∙ none-less other (tail others) q.0.0
join-cmp (name ∷ names) [] p q = ap (λ t. slice_cmp nat_cmp t []) (join-tail name names) ∙ some-greater name (tail names) p.0.0
join-cmp (name ∷ names) (other ∷ others) p q = tails-cmp (name ∷ names) (other ∷ others) p q

-- a row is behind the last one where it comes after it
pub behind-after : (last row : NamedRow) → AllByRecursion IsFileName last.pattern → AllByRecursion IsFileName row.pattern
    → IsBehind (Some last.support) (joined_of last) row.support (joined_of row) → ComesBefore last row
behind-after last row p q (inl less) = inl less
behind-after last row p q (inr both) = inr (both.0, sym (join-cmp last.pattern row.pattern p q) ∙ both.1)

pub after-behind : (last row : NamedRow) → AllByRecursion IsFileName last.pattern → AllByRecursion IsFileName row.pattern
    → ComesBefore last row → IsBehind (Some last.support) (joined_of last) row.support (joined_of row)
after-behind last row p q (inl less) = inl less
after-behind last row p q (inr both) = inr (both.0, join-cmp last.pattern row.pattern p q ∙ both.1)

pub join-push : (names : List (List ℕ)) (name : List ℕ) → names ≢ [] → join_with_byte space (names ++ name ∷ []) ≡ join_with_byte space names ++ space ∷ name
join-push [] name some = absurd (some refl)
join-push (first ∷ []) name some = refl
join-push (first ∷ second ∷ names) name some =
    ap (λ t. first ++ space ∷ t) (join-push (second ∷ names) name (λ none. cc))
    ∙ sym (append_assoc first (space ∷ join_with_byte space (second ∷ names)) (space ∷ name))
