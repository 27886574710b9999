-- What an expression generates, under other names of the items.
use Rattle.std.proofs.Common.{◌≡◌, ℕ, ◌≤◌, inl, inr, Bool, true, false, List, [], ◌∷◌, ◌++◌, refl, sym, ap, ◌∙◌, subst, map, length, arith, suc, ◌+◌, ◌*◌}
use Rattle.std.specs.List.{AllByRecursion, flat_map}
use Rattle.std.proofs.lemmas.List.{map-append, length-map}
use Rattle.mine_model.specs.Hierarchy.{Link, IsAncestor}
use Rattle.mine_model.specs.Expression.{Leaf, under, exact, climb, forced, any, any_climb, not_under, not_exact, Tree, leaf, cat, alt, rep, cap, named_by, named_in, leaf_by, tree_by, unfolded_times, unfolded_leaves}
use Rattle.mine_model.specs.Generation.{Matches, MayWrite, WritesAt, Turn, IsAtMost, Generates, IsPatternOf}
use Rattle.mine_model.specs.Support.{Sequence, HasSupport}
use Rattle.mine_model.specs.Answer.{Data}
use Rattle.mine_model.specs.Names.{sequence_by}
use Rattle.mine_model.proofs.ListLemmas.{front_of_both, back_of_both}
use Rattle.mine_model.proofs.GenerationLemmas.{Generates-items}
use Rattle.mine_model.proofs.SupportLemmas.{Counts-some}

-- one turn over other names
abbrev turn_by : {A B : Type 0} → (A → B) → Turn A → Turn B
turn_by f turn = record { input = map f turn.input; output = map f turn.output }

inputs-by : {A B : Type 0} (f : A → B) (turns : List (Turn A))
    → map f (flat_map (λ t. t.input) turns) ≡ flat_map (λ t. t.input) (map (turn_by f) turns)
inputs-by f [] = refl
inputs-by f (turn ∷ turns) =
    map-append f turn.input (flat_map (λ t. t.input) turns) ∙ ap (λ l. map f turn.input ++ l) (inputs-by f turns)

outputs-by : {A B : Type 0} (f : A → B) (turns : List (Turn A))
    → map f (flat_map (λ t. t.output) turns) ≡ flat_map (λ t. t.output) (map (turn_by f) turns)
outputs-by f [] = refl
outputs-by f (turn ∷ turns) =
    map-append f turn.output (flat_map (λ t. t.output) turns) ∙ ap (λ l. map f turn.output ++ l) (outputs-by f turns)

-- what a mapped list is in two parts is mapped from two parts
map-splits : {A B : Type 0} (f : A → B) (xs : List A) (front back : List B) → map f xs ≡ front ++ back
    → (ys : List A) × (zs : List A) × (xs ≡ ys ++ zs) × (map f ys ≡ front) × (map f zs ≡ back)
map-splits f xs [] back same = ([], xs, refl, refl, same)
map-splits f [] (b ∷ front) back same = absurd (cc)
map-splits f (x ∷ xs) (b ∷ front) back same =
    let tails : map f xs ≡ front ++ back = cc in
    let heads : f x ≡ b = cc in
    let (ys, zs, cut, fronts, backs) = map-splits f xs front back tails in
    (x ∷ ys, zs, ap (λ l. x ∷ l) cut, cc, backs)

-- a mapped list of one element is mapped from one
map-single : {A B : Type 0} (f : A → B) (xs : List A) (b : B) → map f xs ≡ b ∷ []
    → (x : A) × (xs ≡ x ∷ []) × (b ≡ f x)
map-single f [] b same = absurd (cc)
map-single f (x ∷ []) b same = (x, refl, cc)
map-single f (x ∷ y ∷ xs) b same = absurd (cc)

pub map-none : {A B : Type 0} (f : A → B) (xs : List A) → map f xs ≡ [] → xs ≡ []
map-none f [] same = refl
map-none f (x ∷ xs) same = absurd (cc)

-- the data under the names that f gives, over links between those
abbrev pub renamed_data : {A B : Type 0} → (A → B) → List (Link B) → Data A → Data B
renamed_data f others d = record {
  links = others;
  sequences = map (sequence_by f) d.sequences;
  expression = tree_by f d.expression;
  threshold = d.threshold;
}

-- The items that P holds of have other names by f: different ones, and what stands above them is the same.
pub record Renames {A B : Type 0} (links : List (Link A)) (others : List (Link B)) (P : A → Type 0) (f : A → B) : Type 0 where
  pub one_to_one : (x y : A) → P x → P y → f x ≡ f y → x ≡ y
  pub forth : (w t : A) → P w → P t → IsAncestor links w t → IsAncestor others (f w) (f t)
  pub back : (w t : A) → P w → P t → IsAncestor others (f w) (f t) → IsAncestor links w t
  pub up : (v t : A) → IsAncestor links v t → P t → P v
  pub upward : (v : B) (t : A) → P t → IsAncestor others v (f t) → (w : A) × P w × (v ≡ f w)

module _ {A B : Type 0} (links : List (Link A)) (others : List (Link B)) (P : A → Type 0) (f : A → B) (renames : Renames links others P f) where
  matches-forth : (l : Leaf A) (t : A) → AllByRecursion P (named_by l) → P t → Matches links l t → Matches others (leaf_by f l) (f t)
  matches-forth (under w) t named p is = renames.forth w t named.0 p is
  matches-forth (exact w) t named p is = ap f is
  matches-forth (climb w) t named p is = renames.forth w t named.0 p is
  matches-forth (forced w) t named p is = renames.forth w t named.0 p is
  matches-forth any t named p is = tt
  matches-forth any_climb t named p is = tt
  matches-forth (not_under w) t named p is = λ above. is (renames.back w t named.0 p above)
  matches-forth (not_exact w) t named p is = λ same. is (renames.one_to_one t w p named.0 same)

  matches-back : (l : Leaf A) (t : A) → AllByRecursion P (named_by l) → P t → Matches others (leaf_by f l) (f t) → Matches links l t
  matches-back (under w) t named p is = renames.back w t named.0 p is
  matches-back (exact w) t named p is = renames.one_to_one t w p named.0 is
  matches-back (climb w) t named p is = renames.back w t named.0 p is
  matches-back (forced w) t named p is = renames.back w t named.0 p is
  matches-back any t named p is = tt
  matches-back any_climb t named p is = tt
  matches-back (not_under w) t named p is = λ above. is (renames.forth w t named.0 p above)
  matches-back (not_exact w) t named p is = λ same. is (ap f same)

  writes-forth : (l : Leaf A) (t v : A) → AllByRecursion P (named_by l) → P t → MayWrite links l t v → MayWrite others (leaf_by f l) (f t) (f v)
  writes-forth (under w) t v named p may = ap f may
  writes-forth (exact w) t v named p may = ap f may
  writes-forth (climb w) t v named p may =
      let v_in : P v = renames.up v t may.0 p in
      (renames.forth v t v_in p may.0, renames.forth w v named.0 v_in may.1)
  writes-forth (forced w) t v named p may = ap f may
  writes-forth any t v named p may = ap f may
  writes-forth any_climb t v named p may = renames.forth v t (renames.up v t may p) p may
  writes-forth (not_under w) t v named p may = ap f may
  writes-forth (not_exact w) t v named p may = ap f may

  writes-back : (l : Leaf A) (t : A) (v : B) → AllByRecursion P (named_by l) → P t → MayWrite others (leaf_by f l) (f t) v
      → (u : A) × (v ≡ f u) × MayWrite links l t u
  writes-back (under w) t v named p may = (t, may, refl)
  writes-back (exact w) t v named p may = (w, may, refl)
  writes-back (climb w) t v named p may =
      let (u, held, same) = renames.upward v t p may.0 in (
        u,
        same,
        (
          renames.back u t held p (subst (λ x. IsAncestor others x (f t)) same may.0),
          renames.back w u named.0 held (subst (λ x. IsAncestor others (f w) x) same may.1),
        ),
      )
  writes-back (forced w) t v named p may = (w, may, refl)
  writes-back any t v named p may = (t, may, refl)
  writes-back any_climb t v named p may =
      let (u, held, same) = renames.upward v t p may in
      (u, same, renames.back u t held p (subst (λ x. IsAncestor others x (f t)) same may))
  writes-back (not_under w) t v named p may = (t, may, refl)
  writes-back (not_exact w) t v named p may = (t, may, refl)

  written-forth : (l : Leaf A) (captured : Bool) (t : A) (output : List A) → AllByRecursion P (named_by l) → P t
      → WritesAt links l captured t output → WritesAt others (leaf_by f l) captured (f t) (map f output)
  written-forth l true t output named p (v, may, one) = (f v, writes-forth l t v named p may, ap (map f) one)
  written-forth l false t output named p none = ap (map f) none

  written-back : (l : Leaf A) (captured : Bool) (t : A) (output : List B) → AllByRecursion P (named_by l) → P t
      → WritesAt others (leaf_by f l) captured (f t) output
      → (own : List A) × (output ≡ map f own) × WritesAt links l captured t own
  written-back l true t output named p (v, may, one) =
      let (u, same, also) = writes-back l t v named p may in
      (u ∷ [], one ∙ ap (λ x. x ∷ []) same, (u, also, refl))
  written-back l false t output named p none = ([], none, refl)

  turns-forth : (Made : List A → List A → Type 0) (Also : List B → List B → Type 0) (turns : List (Turn A))
      → ((input output : List A) → AllByRecursion P input → Made input output → Also (map f input) (map f output))
      → AllByRecursion P (flat_map (λ t. t.input) turns)
      → AllByRecursion (λ turn. Made turn.input turn.output) turns
      → AllByRecursion (λ turn. Also turn.input turn.output) (map (turn_by f) turns)
  turns-forth Made Also [] each all made = tt
  turns-forth Made Also (turn ∷ turns) each all made =
      let inputs : List A = flat_map (λ t. t.input) turns in (
        each turn.input turn.output (front_of_both P turn.input inputs all) made.0,
        turns-forth Made Also turns each (back_of_both P turn.input inputs all) made.1,
      )

  -- what is generated is generated under the other names
  pub Generates-forth : (tree : Tree A) (captured : Bool) (input output : List A) → AllByRecursion P (named_in tree) → AllByRecursion P input
      → Generates links tree captured input output → Generates others (tree_by f tree) captured (map f input) (map f output)
  Generates-forth (leaf l) captured input output named all (t, same, is, writes) =
      let p : P t = (subst (AllByRecursion P) same all).0 in
      (f t, ap (map f) same, matches-forth l t named p is, written-forth l captured t output named p writes)
  Generates-forth (cat left right) captured input output named all (input1, input2, output1, output2, cut, joined, first, second) =
      let both : AllByRecursion P (input1 ++ input2) = subst (AllByRecursion P) cut all in (
        map f input1,
        map f input2,
        map f output1,
        map f output2,
        ap (map f) cut ∙ map-append f input1 input2,
        ap (map f) joined ∙ map-append f output1 output2,
        Generates-forth left captured input1 output1 (front_of_both P (named_in left) (named_in right) named) (front_of_both P input1 input2 both) first,
        Generates-forth right captured input2 output2 (back_of_both P (named_in left) (named_in right) named) (back_of_both P input1 input2 both) second,
      )
  Generates-forth (alt left right) captured input output named all (inl made) =
      inl (Generates-forth left captured input output (front_of_both P (named_in left) (named_in right) named) all made)
  Generates-forth (alt left right) captured input output named all (inr made) =
      inr (Generates-forth right captured input output (back_of_both P (named_in left) (named_in right) named) all made)
  Generates-forth (rep inner least most) captured input output named all (turns, enough, few, cut, joined, made) =
      let long : length turns ≡ length (map (turn_by f) turns) = sym (length-map turns (turn_by f)) in (
        map (turn_by f) turns,
        subst (λ n. least ≤ n) long enough,
        subst (λ n. IsAtMost n most) long few,
        ap (map f) cut ∙ inputs-by f turns,
        ap (map f) joined ∙ outputs-by f turns,
        turns-forth (Generates links inner captured) (Generates others (tree_by f inner) captured) turns
            (λ i o p. Generates-forth inner captured i o named p) (subst (AllByRecursion P) cut all) made,
      )
  Generates-forth (cap inner) captured input output named all made = Generates-forth inner true input output named all made

  turns-back : (Made : List A → List A → Type 0) (Also : List B → List B → Type 0) (turns : List (Turn B)) (input : List A)
      → ((i : List A) (o : List B) → AllByRecursion P i → Also (map f i) o → (own : List A) × (o ≡ map f own) × Made i own)
      → AllByRecursion P input → map f input ≡ flat_map (λ t. t.input) turns
      → AllByRecursion (λ turn. Also turn.input turn.output) turns
      → (own : List (Turn A)) × (length own ≡ length turns) × (input ≡ flat_map (λ t. t.input) own)
      × (flat_map (λ t. t.output) turns ≡ map f (flat_map (λ t. t.output) own))
      × AllByRecursion (λ turn. Made turn.input turn.output) own
  turns-back Made Also [] input each all same made = ([], refl, map-none f input same, refl, tt)
  turns-back Made Also (turn ∷ turns) input each all same made =
      let (first, others_in, cut, firsts, rest) = map-splits f input turn.input (flat_map (λ t. t.input) turns) same in
      let both : AllByRecursion P (first ++ others_in) = subst (AllByRecursion P) cut all in
      let (out, is_out, is_made) = each first turn.output (front_of_both P first others_in both)
      (subst (λ i. Also i turn.output) (sym firsts) made.0) in
      let (own, long, inputs, outputs, all_made) = turns-back Made Also turns others_in each (back_of_both P first others_in both) rest made.1 in (
        (record { input = first; output = out }) ∷ own,
        ap suc long,
        cut ∙ ap (λ l. first ++ l) inputs,
        (λ i. is_out i ++ outputs i) ∙ sym (map-append f out (flat_map (λ t. t.output) own)),
        (is_made, all_made),
      )

  -- what is generated under the other names comes from what is generated
  pub Generates-back : (tree : Tree A) (captured : Bool) (input : List A) (output : List B) → AllByRecursion P (named_in tree) → AllByRecursion P input
      → Generates others (tree_by f tree) captured (map f input) output
      → (own : List A) × (output ≡ map f own) × Generates links tree captured input own
  Generates-back (leaf l) captured input output named all (t, same, is, writes) =
      let (x, single, alike) = map-single f input t same in
      let p : P x = (subst (AllByRecursion P) single all).0 in
      let (own, outputs, written) = written-back l captured x output named p (subst (λ y. WritesAt others (leaf_by f l) captured y output) alike writes) in
      (own, outputs, (x, single, matches-back l x named p (subst (Matches others (leaf_by f l)) alike is), written))
  Generates-back (cat left right) captured input output named all (input1, input2, output1, output2, cut, joined, first, second) =
      let (own1, own2, own_cut, is1, is2) = map-splits f input input1 input2 cut in
      let both : AllByRecursion P (own1 ++ own2) = subst (AllByRecursion P) own_cut all in
      let (out1, same1, made1) = Generates-back left captured own1 output1 (front_of_both P (named_in left) (named_in right) named)
      (front_of_both P own1 own2 both) (subst (λ i. Generates others (tree_by f left) captured i output1) (sym is1) first) in
      let (out2, same2, made2) = Generates-back right captured own2 output2 (back_of_both P (named_in left) (named_in right) named)
      (back_of_both P own1 own2 both) (subst (λ i. Generates others (tree_by f right) captured i output2) (sym is2) second) in (
        out1 ++ out2,
        joined ∙ (λ i. same1 i ++ same2 i) ∙ sym (map-append f out1 out2),
        (own1, own2, out1, out2, own_cut, refl, made1, made2),
      )
  Generates-back (alt left right) captured input output named all (inl made) =
      let (own, same, is) = Generates-back left captured input output (front_of_both P (named_in left) (named_in right) named) all made in
      (own, same, inl is)
  Generates-back (alt left right) captured input output named all (inr made) =
      let (own, same, is) = Generates-back right captured input output (back_of_both P (named_in left) (named_in right) named) all made in
      (own, same, inr is)
  Generates-back (rep inner least most) captured input output named all (turns, enough, few, cut, joined, made) =
      let (own, long, inputs, outputs, is) = turns-back (Generates links inner captured) (Generates others (tree_by f inner) captured) turns input
      (λ i o p. Generates-back inner captured i o named p) all cut made in (
        flat_map (λ t. t.output) own,
        joined ∙ outputs,
        (own, subst (λ n. least ≤ n) (sym long) enough, subst (λ n. IsAtMost n most) (sym long) few, inputs, refl, is),
      )
  Generates-back (cap inner) captured input output named all made = Generates-back inner true input output named all made

  -- what is generated from items of P is of P
  pub generated-in : (tree : Tree A) (captured : Bool) (input output : List A) → Generates links tree captured input output
      → AllByRecursion P input → AllByRecursion P output
  generated-in = Generates-items links P renames.up

  -- lists of named items with the same names are the same
  pub one_to_one-lists : (xs ys : List A) → AllByRecursion P xs → AllByRecursion P ys → map f xs ≡ map f ys → xs ≡ ys
  one_to_one-lists [] [] p q same = refl
  one_to_one-lists [] (y ∷ ys) p q same = absurd (cc)
  one_to_one-lists (x ∷ xs) [] p q same = absurd (cc)
  one_to_one-lists (x ∷ xs) (y ∷ ys) p q same =
      let heads : f x ≡ f y = cc in
      let tails : map f xs ≡ map f ys = cc in
      let first : x ≡ y = renames.one_to_one x y p.0 q.0 heads in
      let others_same : xs ≡ ys = one_to_one-lists xs ys p.1 q.1 tails in
      (λ i. first i ∷ others_same i)

  module _ (tree : Tree A) (named : AllByRecursion P (named_in tree)) where
    pub pattern-forth : (sequence pattern : List A) → AllByRecursion P sequence → IsPatternOf links tree sequence pattern
        → IsPatternOf others (tree_by f tree) (map f sequence) (map f pattern)
    pattern-forth sequence pattern all is =
        (λ none. is.0 (map-none f pattern none), Generates-forth tree false sequence pattern named all is.1)

    pub pattern-back : (sequence : List A) (pattern : List B) → AllByRecursion P sequence
        → IsPatternOf others (tree_by f tree) (map f sequence) pattern
        → (own : List A) × (pattern ≡ map f own) × IsPatternOf links tree sequence own × AllByRecursion P own
    pattern-back sequence pattern all is =
        let (own, same, made) = Generates-back tree false sequence pattern named all is.1 in
        (own, same, ((λ none. is.0 (same ∙ ap (map f) none)), made), generated-in tree false sequence own made all)

    -- one pattern is generated just where its renaming is
    pub pattern-same : (sequence pattern : List A) → AllByRecursion P sequence → AllByRecursion P pattern
        → IsPatternOf others (tree_by f tree) (map f sequence) (map f pattern) → IsPatternOf links tree sequence pattern
    pattern-same sequence pattern all inside is =
        let (own, same, made, own_inside) = pattern-back sequence (map f pattern) all is in
        subst (IsPatternOf links tree sequence) (sym (one_to_one-lists pattern own inside own_inside same)) made

    pub counts-forth : (pattern : List A) → AllByRecursion P pattern → (sequences : List (Sequence A)) (n : ℕ)
        → AllByRecursion (λ s. AllByRecursion P s.items) sequences
        → HasSupport links tree sequences pattern n
        → HasSupport others (tree_by f tree) (map (sequence_by f) sequences) (map f pattern) n
    counts-forth pattern inside [] n all none = none
    counts-forth pattern inside (s ∷ sequences) n all (inl (has, (rest, sum, more))) =
        inl (pattern-forth s.items pattern all.0 has, (rest, sum, counts-forth pattern inside sequences rest all.1 more))
    counts-forth pattern inside (s ∷ sequences) n all (inr (hasnt, more)) =
        inr ((λ is. hasnt (pattern-same s.items pattern all.0 inside is)), counts-forth pattern inside sequences n all.1 more)

    pub counts-back : (pattern : List A) → AllByRecursion P pattern → (sequences : List (Sequence A)) (n : ℕ)
        → AllByRecursion (λ s. AllByRecursion P s.items) sequences
        → HasSupport others (tree_by f tree) (map (sequence_by f) sequences) (map f pattern) n
        → HasSupport links tree sequences pattern n
    counts-back pattern inside [] n all none = none
    counts-back pattern inside (s ∷ sequences) n all (inl (has, (rest, sum, more))) =
        inl (pattern-same s.items pattern all.0 inside has, (rest, sum, counts-back pattern inside sequences rest all.1 more))
    counts-back pattern inside (s ∷ sequences) n all (inr (hasnt, more)) =
        inr ((λ is. hasnt (pattern-forth s.items pattern all.0 is)), counts-back pattern inside sequences n all.1 more)

    -- the items of what is generated somewhere are of P
    pub supported-in : (pattern : List A) (sequences : List (Sequence A)) (n : ℕ) → 1 ≤ n
        → AllByRecursion (λ s. AllByRecursion P s.items) sequences → HasSupport links tree sequences pattern n → AllByRecursion P pattern
    supported-in pattern sequences n some all supported =
        let (items, is, inside) = Counts-some (λ items. IsPatternOf links tree items pattern) (AllByRecursion P) sequences n supported some all in
        generated-in tree false items pattern is.1 inside

    pub supported-back : (pattern : List B) (sequences : List (Sequence A)) (n : ℕ) → 1 ≤ n
        → AllByRecursion (λ s. AllByRecursion P s.items) sequences
        → HasSupport others (tree_by f tree) (map (sequence_by f) sequences) pattern n
        → (own : List A) × (pattern ≡ map f own) × AllByRecursion P own
    supported-back pattern [] n some all none = absurd (omega arith)
    supported-back pattern (s ∷ sequences) n some all (inl (has, more)) =
        let (own, same, made, inside) = pattern-back s.items pattern all.0 has in (own, same, inside)
    supported-back pattern (s ∷ sequences) n some all (inr (hasnt, more)) = supported-back pattern sequences n some all.1 more

-- renamed, an expression unfolds into as many leaves
pub unfolded_leaves-by : {A B : Type 0} (f : A → B) (tree : Tree A) → unfolded_leaves (tree_by f tree) ≡ unfolded_leaves tree
unfolded_leaves-by f (leaf l) = refl
unfolded_leaves-by f (cat left right) = λ i. unfolded_leaves-by f left i + unfolded_leaves-by f right i
unfolded_leaves-by f (alt left right) = λ i. unfolded_leaves-by f left i + unfolded_leaves-by f right i
unfolded_leaves-by f (rep inner least most) = ap (λ n. unfolded_times least most * n) (unfolded_leaves-by f inner)
unfolded_leaves-by f (cap inner) = unfolded_leaves-by f inner
