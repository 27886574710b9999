-- The rows and the sets of one pivot, from the loads of its sequences.
use Rattle.std.proofs.Common.{◌≡◌, ◌≢◌, ◌↔◌, ◌⊎◌, ℕ, suc, ◌*◌, ◌≤◌, ◌<◌, inl, inr, List, [], ◌∷◌, length, get_or, sum_by, refl, sym, ap, ◌∙◌, subst, arith}
use Rattle.std.specs.List.{All, AllPairs, AllZip, Contains}
use Rattle.std.proofs.lemmas.List.Sums.{sum_by-cons}
use Rattle.std.proofs.lemmas.List.Elements.{Contains-get_or}
use Rattle.std.proofs.lemmas.List.Kept.{AllPairs-cons}
use Rattle.mine_model.specs.declared.item.Item.{Item}
use Rattle.mine_model.specs.declared.row.Row.{Row}
use Rattle.mine_model.specs.Database.{sequence_at, IsWithinLimits}
use Rattle.mine_model.specs.Limits.{most_length, most_weight}
use Rattle.mine_model.specs.Generation.{IsPatternOf}
use Rattle.mine_model.specs.Support.{Sequence, Counts}
use Rattle.mine_model.specs.Answer.{Data, IsFrequent}
use Rattle.mine_model.specs.Growth.{HasPatternBehind}
use Rattle.mine_model.specs.Ranks.{AreRanked}
use Rattle.mine_model.specs.Pivots.{IsWithinPivot, IsAliveLabel}
use Rattle.mine_model.proofs.ListLemmas.{Contains-cases, Contains-none, Contains-first, Contains-other, Contains-by, Contains-from, AllPairs-tail, AllPairs-head}
use Rattle.mine_model.proofs.ElementLemmas.{get-some}
use Rattle.mine_model.proofs.SupportLemmas.{Counts-one, Counts-decided}
use Rattle.mine_model.proofs.FrequencyLemmas.{Counts-by, Counts-most}
use Rattle.mine_model.proofs.AboveLemmas.{pattern-shorter}
use Rattle.mine_model.proofs.RankedLemmas.{ranked-same, ranked-length, ranked-bounds, within-ranks}
use Rattle.mine_model.proofs.AliveLemmas.{Counts-part}
use Rattle.automaton_model.specs.Automata.{StateValue, Accepts}
use Rattle.automaton_model.specs.Codes.{IsCodeOf}
use Rattle.automaton_model.specs.Members.{IsPivotMember, IsPivotCode}
use Rattle.automaton_model.specs.Groups.{AreOfPivot, part_of, AreRowsOfPivot}
use Rattle.automaton_model.specs.Registry.{IsRegistry}
use Rattle.automaton_model.specs.Searches.{Load, Weigh}
use Rattle.automaton_model.specs.Work.{CodeOfPart, IsCounted}
use Rattle.automaton_model.proofs.ZipLemmas.{zip-first, zip-second}
use Rattle.automaton_model.proofs.AutomatonLemmas.{accepts-decided, code-unique, code-also, equal-codes}
use Rattle.automaton_model.proofs.NumberLemmas.{state-code}
use Rattle.automaton_model.proofs.RegistryLemmas.{registry-same}
use Rattle.automaton_model.proofs.WorkLemmas.{sequence_is}
use Rattle.group_search.specs.Found.{IsLoadedRow, AreLoadedRows}
use Rattle.group_search.specs.Searched.{AreFinite}
use Rattle.group_search.proofs.WeighLemmas.{weigh-one}
use Rattle.cand_automaton.specs.Loads.{AreLoadsOf}
use Rattle.cand_automaton.specs.Pivots.{AreSetsOfPivots}
use Rattle.cand_automaton.proofs.LoadLemmas.{Apart}

zip-long : {X Y : Type 0} (R : X → Y → Type 0) (xs : List X) (ys : List Y) → AllZip R xs ys → length xs ≡ length ys
zip-long R [] [] zip = refl
zip-long R [] (y ∷ ys) zip = absurd zip
zip-long R (x ∷ xs) [] zip = absurd zip
zip-long R (x ∷ xs) (y ∷ ys) zip = ap suc (zip-long R xs ys zip.1)

-- what all sequences have, all weigh
pub Counts-whole : {A : Type 0} (Has : List A → Type 0) (sequences : List (Sequence A)) → ((s : Sequence A) → Contains sequences s → Has s.items)
    → Counts Has sequences (sum_by (λ (s : Sequence A). s.weight) sequences)
Counts-whole Has [] each = refl
Counts-whole {A} Has (s ∷ sequences) each =
    inl (
      each s (Contains-first s sequences),
      (sum_by (λ (t : Sequence A). t.weight) sequences, sum_by-cons (λ (t : Sequence A). t.weight) s sequences, Counts-whole Has sequences (λ t held. each t (Contains-other s sequences t held))),
    )

module _ (d : Data Item) (order : List Item) (pivot : ℕ) (numbers : List ℕ) (of_pivot : AreOfPivot d order pivot numbers) where
  abbrev Member : List ℕ → List Item → Type 0
  Member ranks items = IsPivotMember d order pivot items ranks

  abbrev HasSome : List Item → Type 0
  HasSome items = HasPatternBehind d (IsWithinPivot order pivot) [] items

  within : (i : ℕ) → Contains numbers i → i < length d.sequences
  within i held = ((of_pivot.exact i).0 held).0

  -- the sequences of the part weigh no more than all may
  pub part-most : All IsWithinLimits d.sequences → sum_by (λ (s : Sequence Item). s.weight) (part_of d numbers) ≤ length d.sequences * most_weight
  part-most limits =
      let whole = Counts-whole HasSome (part_of d numbers)
      (λ s held. let (i, inside, same) = Contains-from (λ i. sequence_at d.sequences i) numbers s held in
      subst (λ (t : Sequence Item). HasSome t.items) (sym same) ((of_pivot.exact i).0 inside).1) in
      Counts-most HasSome most_weight d.sequences (sum_by (λ (s : Sequence Item). s.weight) (part_of d numbers)) (λ k e inside. (limits k e inside).most)
      ((Counts-part HasSome d.sequences numbers of_pivot.rising within (λ i below has. (of_pivot.exact i).1 (below, has)) (sum_by (λ (s : Sequence Item). s.weight) (part_of d numbers))).0 whole)

  pub part-count : (ranks : List ℕ) (n : ℕ) → Counts (Member ranks) (part_of d numbers) n ↔ Counts (Member ranks) d.sequences n
  part-count ranks n =
      Counts-part (Member ranks) d.sequences numbers of_pivot.rising within
      (λ i below member. (of_pivot.exact i).1 (below, (member.pattern, member.generated, member.within))) n

  module _ (states : List StateValue) (registry : IsRegistry states) (loads : List Load) (are : AreLoadsOf d order pivot (part_of d numbers) states loads) where
    abbrev At : List ℕ → ℕ → Type 0
    At ranks state = Accepts states state ranks

    decided : (ranks : List ℕ) (s : Sequence Item) → Contains (part_of d numbers) s → Member ranks s.items ⊎ (Member ranks s.items → ⊥)
    decided ranks s held =
        let (load, inside, root) = are.all s held in
        elim (accepts-decided states ranks load.state) [
          | inl accepts ↦ inl ((root.language ranks).0 accepts)
          | inr never ↦ inr (λ member. never ((root.language ranks).1 member))
        ]

    -- what the loads weigh is what all sequences count
    pub weigh-exact : (ranks : List ℕ) (n : ℕ) → Weigh (At ranks) loads n ↔ Counts (Member ranks) d.sequences n
    weigh-exact ranks n = (
      (λ weigh.
          let (m, counted) = Counts-decided (Member ranks) (part_of d numbers) (decided ranks) in
          let same : m ≡ n = weigh-one (At ranks) loads m n (are.weigh ranks m counted) weigh in
          (part-count ranks n).0 (subst (Counts (Member ranks) (part_of d numbers)) same counted)),
      (λ counted. are.weigh ranks n ((part-count ranks n).1 counted)),
    )

    -- a pattern's ranks are a member where the items have it
    member-pattern : (pattern : List Item) (ranks : List ℕ) → AreRanked order pattern ranks → IsWithinPivot order pivot pattern
        → (items : List Item) → Member ranks items ↔ IsPatternOf d.links d.expression items pattern
    member-pattern pattern ranks ranked over items = (
      (λ member. subst (λ p. IsPatternOf d.links d.expression items p) (ranked-same order member.pattern pattern ranks member.ranked ranked) member.generated),
      (λ is. record { pattern = pattern; ranked = ranked; generated = is; within = over }),
    )

    row-there : 1 ≤ d.threshold → (row : Row) → IsLoadedRow order d.threshold states loads row → IsFrequent d row.pattern row.support × IsWithinPivot order pivot row.pattern
    row-there least row is =
        let all = (weigh-exact is.ranks row.support).0 is.weighed in
        let (items, member) = Counts-one (Member is.ranks) d.sequences row.support all (omega (arith, least, is.enough)) in
        let same : member.pattern ≡ row.pattern = ranked-same order member.pattern row.pattern is.ranks member.ranked is.ranked in
        let over : IsWithinPivot order pivot row.pattern = subst (IsWithinPivot order pivot) same member.within in (
          record {
            not_empty = λ none. member.generated.0 (same ∙ none);
            exact = Counts-by (Member is.ranks) (λ others. IsPatternOf d.links d.expression others row.pattern) (member-pattern row.pattern is.ranks is.ranked over) d.sequences row.support all;
            enough = is.enough;
          },
          over,
        )

    row-back : (row : Row) → IsFrequent d row.pattern row.support × IsWithinPivot order pivot row.pattern → IsLoadedRow order d.threshold states loads row
    row-back row (frequent, over) =
        let (ranks, ranked) = within-ranks order pivot row.pattern over in
        record {
          ranks = ranks;
          ranked = ranked;
          weighed = (weigh-exact ranks row.support).1 (Counts-by (λ others. IsPatternOf d.links d.expression others row.pattern) (Member ranks)
              (λ items. let both = member-pattern row.pattern ranks ranked over items in (both.1, both.0)) d.sequences row.support frequent.exact);
          enough = frequent.enough;
        }

    -- THE ROWS of the loads are the frequent patterns with the pivot
    pub loads-rows : 1 ≤ d.threshold → (rows : List Row) → AreLoadedRows order d.threshold states loads rows → AreRowsOfPivot d order pivot rows
    loads-rows least rows are_rows = record {
      once = are_rows.once;
      exact = λ row. (
        (λ held. row-there least row ((are_rows.exact row).0 held)),
        (λ is. (are_rows.exact row).1 (row-back row is)),
      );
    }

    -- what is accepted from the loads is short, and has ranks of the order
    pub loads-finite : All IsWithinLimits d.sequences → AreFinite states (length order) most_length loads
    loads-finite limits load held list accepts =
        let is = are.each load held in
        let (i, inside, same) = Contains-from (λ i. sequence_at d.sequences i) numbers is.one is.held in
        let few : length (sequence_at d.sequences i).items ≤ most_length = (limits i (record { items = []; weight = 0 }) (within i inside)).short in
        let one : length is.one.items ≡ length (sequence_at d.sequences i).items = ap (λ (s : Sequence Item). length s.items) same in
        let member = (is.root.language list).0 accepts in
        let short = pattern-shorter d.links d.expression is.one.items member.pattern member.generated in
        let long = ranked-length order member.pattern list member.ranked in
        record {
          short = omega (arith, short, long, few, one);
          ranks = λ k e below. ranked-bounds order member.pattern list member.ranked (get_or list k e) (Contains-get_or list k e below);
        }

    -- The sets of the loads

    abbrev Coded : Load → CodeOfPart → Type 0
    Coded load pair = (pair.pivot ≡ pivot) × IsCodeOf (Accepts states load.state) pair.code

    codes-of : (ls : List Load) → ((load : Load) → Contains ls load → load.state < length states) → (pairs : List CodeOfPart) × AllZip Coded ls pairs
    codes-of [] inside = ([], tt)
    codes-of (l ∷ ls) inside =
        let (s, at) = get-some states l.state (inside l (Contains-first l ls)) in
        let (code, is) = state-code states registry l.state s at in
        let (pairs, zip) = codes-of ls (λ other held. inside other (Contains-other l ls other held)) in
        let pair : CodeOfPart = record { pivot = pivot; code = code } in
        (pair ∷ pairs, ((refl, is), zip))

    codes-apart : (first second : Load) (one other : CodeOfPart) → first.state < length states → second.state < length states
        → Coded first one → Coded second other → one ≡ other → first.state ≡ second.state
    codes-apart first second one other low high (p, is) (q, also) same =
        let (s, s_is) = get-some states first.state low in
        let (t, t_is) = get-some states second.state high in
        let code : one.code ≡ other.code = ap (λ (pair : CodeOfPart). pair.code) same in
        registry-same states registry first.state second.state s t s_is t_is
        (equal-codes (Accepts states first.state) (Accepts states second.state) other.code (subst (IsCodeOf (Accepts states first.state)) code is) also)

    pairs-apart : (ls : List Load) (pairs : List CodeOfPart) → AllZip Coded ls pairs → AllPairs Apart ls → ((load : Load) → Contains ls load → load.state < length states)
        → AllPairs (λ (first : CodeOfPart) second. first ≢ second) pairs
    pairs-apart [] [] zip apart inside = λ i j e less below. absurd (omega (arith, below))
    pairs-apart [] (p ∷ pairs) zip apart inside = absurd zip
    pairs-apart (l ∷ ls) [] zip apart inside = absurd zip
    pairs-apart (l ∷ ls) (p ∷ pairs) zip apart inside =
        AllPairs-cons (λ (first : CodeOfPart) second. first ≢ second) p pairs
        (λ k e below same.
        let (other, held, coded) = zip-second Coded ls pairs zip.1 (get_or pairs k e) (Contains-get_or pairs k e below) in
        AllPairs-head Apart l ls apart other held
        (codes-apart l other p (get_or pairs k e) (inside l (Contains-first l ls)) (inside other (Contains-other l ls other held)) zip.0 coded same))
        (pairs-apart ls pairs zip.1 (AllPairs-tail Apart l ls apart) (λ other held. inside other (Contains-other l ls other held)))

    loads-inside : (load : Load) → Contains loads load → load.state < length states
    loads-inside load held = (are.each load held).root.inside

    counted-there : 1 ≤ pivot → IsAliveLabel d order pivot [] → (load : Load) → Contains loads load → (pair : CodeOfPart) → Coded load pair
        → Contains (pivot ∷ []) pair.pivot × IsCounted d order pair
    counted-there least alive load held pair (same_pivot, coded) =
        let is = are.each load held in
        let (i, inside, same) = Contains-from (λ i. sequence_at d.sequences i) numbers is.one is.held in
        let (below, (pattern, generated, over)) = (of_pivot.exact i).0 inside in
        let (ranks, ranked) = within-ranks order pivot pattern over in
        let code : IsPivotCode d order pivot pair.code is.one.items = code-also (Accepts states load.state) (IsPivotMember d order pivot is.one.items) is.root.language pair.code coded in
        let member : IsPivotMember d order pivot is.one.items ranks =
        subst (λ (s : Sequence Item). IsPivotMember d order pivot s.items ranks) (sym same) (record { pattern = pattern; ranked = ranked; generated = generated; within = over }) in (
          subst (Contains (pivot ∷ [])) (sym same_pivot) (Contains-first pivot []),
          record {
            least = subst (λ p. 1 ≤ p) (sym same_pivot) least;
            alive = subst (λ p. IsAliveLabel d order p []) (sym same_pivot) alive;
            one = is.one;
            held = subst (Contains d.sequences) (sym same) (Contains-get_or d.sequences i (record { items = []; weight = 0 }) below);
            some = ranks;
            member = subst (λ p. IsPivotMember d order p is.one.items ranks) (sym same_pivot) member;
            coded = subst (λ p. IsPivotCode d order p pair.code is.one.items) (sym same_pivot) code;
          },
        )

    counted-back : (pairs : List CodeOfPart) → AllZip Coded loads pairs → (pair : CodeOfPart) → Contains (pivot ∷ []) pair.pivot → IsCounted d order pair → Contains pairs pair
    counted-back pairs zip pair held is = elim (Contains-cases pivot [] pair.pivot held) [
      | inr none ↦ absurd (Contains-none pair.pivot none)
      | inl same_pivot ↦
          let member : IsPivotMember d order pivot is.one.items is.some = subst (λ p. IsPivotMember d order p is.one.items is.some) same_pivot is.member in
          let coded : IsPivotCode d order pivot pair.code is.one.items = subst (λ p. IsPivotCode d order p pair.code is.one.items) same_pivot is.coded in
          let (i, below, same) = sequence_is d.sequences is.one is.held in
          let here : IsPivotMember d order pivot (sequence_at d.sequences i).items is.some = subst (λ (s : Sequence Item). IsPivotMember d order pivot s.items is.some) (sym same) member in
          let inside : Contains numbers i = (of_pivot.exact i).1 (below, (here.pattern, here.generated, here.within)) in
          let (load, there, root) = are.all (sequence_at d.sequences i) (Contains-by (λ i. sequence_at d.sequences i) numbers i inside) in
          let (other, among, (other_pivot, other_code)) = zip-first Coded loads pairs zip load there in
          let also : IsPivotCode d order pivot other.code (sequence_at d.sequences i).items =
          code-also (Accepts states load.state) (IsPivotMember d order pivot (sequence_at d.sequences i).items) root.language other.code other_code in
          let code : other.code ≡ pair.code =
          code-unique (IsPivotMember d order pivot is.one.items) other.code pair.code (subst (λ (s : Sequence Item). IsPivotCode d order pivot other.code s.items) same also) coded in
          let one : other ≡ pair = (λ k. record { pivot = (other_pivot ∙ sym same_pivot) k; code = code k }) in
          subst (Contains pairs) one among
    ]

    -- THE SETS of the pivot are as many as the loads
    pub loads-sets : 1 ≤ pivot → IsAliveLabel d order pivot [] → AreSetsOfPivots d order (pivot ∷ []) (length loads)
    loads-sets least alive =
        let (pairs, zip) = codes-of loads loads-inside in
        record {
          pairs = pairs;
          once = pairs-apart loads pairs zip are.once loads-inside;
          exact = λ pair. (
            (λ held. let (load, inside, coded) = zip-second Coded loads pairs zip pair held in counted-there least alive load inside pair coded),
            (λ (held, counted). counted-back pairs zip pair held counted),
          );
          counted = zip-long Coded loads pairs zip;
        }
