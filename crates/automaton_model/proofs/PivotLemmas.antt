-- The rows of groups are the frequent patterns with the pivot, and those of all pivots are the answer.
use Rattle.std.proofs.Common.{◌≡◌, ◌≢◌, ◌⊎◌, ◌↔◌, ℕ, ◌≤◌, ◌<◌, inl, inr, List, [], ◌∷◌, get_or, sym, ◌∙◌, subst, arith}
use Rattle.std.specs.List.{AllPairs, AllZip, Contains, flat_map}
use Rattle.mine_model.specs.declared.item.Item.{Item}
use Rattle.mine_model.specs.declared.row.Row.{Row}
use Rattle.mine_model.specs.Generation.{IsPatternOf}
use Rattle.mine_model.specs.Support.{Sequence, Counts, HasFrequency}
use Rattle.mine_model.specs.Answer.{Data, IsFrequent}
use Rattle.mine_model.specs.Ranks.{Ranking, AreRanked, AreRanks}
use Rattle.mine_model.specs.Numbered.{AreFrequent, PatternsDiffer}
use Rattle.mine_model.specs.Pivots.{IsWithinPivot, IsAliveLabel}
use Rattle.mine_model.proofs.ListLemmas.{Contains-first, Contains-other, AllPairs-append, AllPairs-tail, AllPairs-head}
use Rattle.mine_model.proofs.ElementLemmas.{flat-cases, flat-held}
use Rattle.mine_model.proofs.SupportLemmas.{Counts-one}
use Rattle.mine_model.proofs.FrequencyLemmas.{Counts-by, frequent-items}
use Rattle.mine_model.proofs.RankedLemmas.{ranked-same, within-ranks}
use Rattle.mine_model.proofs.AliveLemmas.{Counts-part, IsAlive-frequent, IsAlive-shorter}
use Rattle.mine_model.specs.Lists.{IsEarlier}
use Rattle.mine_model.proofs.EarlierLemmas.{earlier-itself}
use Rattle.search_tree.proofs.SearchAnswerLemmas.{frequent-ranks}
use Rattle.search_tree.proofs.PivotLemmas.{pivot-same, place_of}
use Rattle.automaton_model.specs.Automata.{Accepts}
use Rattle.automaton_model.specs.Codes.{IsCodeOf}
use Rattle.automaton_model.specs.Members.{IsPivotMember, IsPivotCode}
use Rattle.automaton_model.specs.declared.groups.Group.{Group}
use Rattle.automaton_model.specs.Groups.{AreGroups, LieIn, grouped, IsGroupRow, AreGroupRows, AreOfPivot, part_of, AreRowsOfPivot}
use Rattle.automaton_model.proofs.ZipLemmas.{zip-first, zip-second}
use Rattle.automaton_model.proofs.AutomatonLemmas.{code-same, code-unique, accepts-exact, accepts-decided}
use Rattle.automaton_model.proofs.CountLemmas.{Counts-within, IsIn, groups-sequences, sequences-groups}

-- Members of coded sets

-- the ranks lie in the code of a set exactly where they are a member
pub lie-exact : (IsMember : List ℕ → Type 0) (code ranks : List ℕ) → IsCodeOf IsMember code → LieIn ranks code ↔ IsMember ranks
lie-exact IsMember code ranks (states, least, is) = (
  (λ (others, also, accepts).
      let same : others ≡ states = code-same others states (sym also ∙ is) in
      (accepts-exact IsMember states least ranks).0 (subst (λ l. Accepts l 0 ranks) same accepts)),
  (λ member. (states, is, (accepts-exact IsMember states least ranks).1 member)),
)

pub lie-decided : (IsMember : List ℕ → Type 0) (code ranks : List ℕ) → IsCodeOf IsMember code → LieIn ranks code ⊎ (LieIn ranks code → ⊥)
lie-decided IsMember code ranks (states, least, is) = elim (accepts-decided states ranks 0) [
  | inl accepts ↦ inl (states, is, accepts)
  | inr never ↦ inr (λ (others, also, accepts). never (subst (λ l. Accepts l 0 ranks) (code-same others states (sym also ∙ is)) accepts))
]

-- the groups have different codes
pub codes-apart : (d : Data Item) (order : List Item) (pivot : ℕ) (sequences : List (Sequence Item)) (groups : List Group)
    → AreGroups d order pivot sequences groups → AllPairs (λ (low : Group) (high : Group). low.automaton ≢ high.automaton) groups
codes-apart d order pivot sequences groups are i j e less inside same =
    earlier-itself (get_or groups i e).automaton (subst (IsEarlier (get_or groups i e).automaton) (sym same) (are.rising i j e less inside))

module _ (d : Data Item) (order : List Item) (pivot : ℕ) where
  -- a sequence has at most one code
  pub one_code : (items : List Item) (code other : List ℕ) → IsPivotCode d order pivot code items → IsPivotCode d order pivot other items → code ≡ other
  one_code items code other p q = code-unique (IsPivotMember d order pivot items) code other p q

  -- COUNTING groups is counting sequences
  module _ (sequences : List (Sequence Item)) (groups : List Group) (are : AreGroups d order pivot sequences groups) (ranks : List ℕ) where
    counted : (group : Group) → Contains groups group → Counts (IsPivotCode d order pivot group.automaton) sequences group.count
    counted group held = (are.group group held).counted

    decided : (group : Group) → Contains groups group → LieIn ranks group.automaton ⊎ (LieIn ranks group.automaton → ⊥)
    decided group held = let is = are.group group held in lie-decided (IsPivotMember d order pivot is.one.items) group.automaton ranks is.coded

    abbrev In : List Item → Type 0
    In = IsIn (IsPivotCode d order pivot) one_code (LieIn ranks) groups

    member_in : (s : Sequence Item) → Contains sequences s → In s.items ↔ IsPivotMember d order pivot s.items ranks
    member_in s held = (
      (λ (group, inside, code, lies). (lie-exact (IsPivotMember d order pivot s.items) group.automaton ranks code).0 lies),
      (λ member. (let (group, inside, code) = are.all s held in (group, inside, code, (lie-exact (IsPivotMember d order pivot s.items) group.automaton ranks code).1 member))),
    )

    pub groups-count : (n : ℕ) → Counts (LieIn ranks) (grouped groups) n ↔ Counts (λ items. IsPivotMember d order pivot items ranks) sequences n
    groups-count n = (
      (λ c. Counts-within In (λ items. IsPivotMember d order pivot items ranks) sequences member_in n
          (groups-sequences (IsPivotCode d order pivot) one_code (LieIn ranks) sequences groups (codes-apart d order pivot sequences groups are) counted n c)),
      (λ c. sequences-groups (IsPivotCode d order pivot) one_code (LieIn ranks) sequences groups (codes-apart d order pivot sequences groups are) counted decided n
          (Counts-within (λ items. IsPivotMember d order pivot items ranks) In sequences (λ s held. ((member_in s held).1, (member_in s held).0)) n c)),
    )

-- The rows of one pivot

module _ (d : Data Item) (order : List Item) (pivot : ℕ) where
  abbrev IsPattern : List Item → List Item → Type 0
  IsPattern pattern items = IsPatternOf d.links d.expression items pattern

  -- the ranks of a pattern with this pivot are a member where the items have the pattern
  member_pattern : (pattern : List Item) (ranks : List ℕ) → AreRanked order pattern ranks → IsWithinPivot order pivot pattern
      → (items : List Item) → IsPivotMember d order pivot items ranks ↔ IsPattern pattern items
  member_pattern pattern ranks ranked within items = (
    (λ member. subst (λ p. IsPattern p items) (ranked-same order member.pattern pattern ranks member.ranked ranked) member.generated),
    (λ is. record { pattern = pattern; ranked = ranked; generated = is; within = within }),
  )

  module _ (numbers : List ℕ) (are : AreOfPivot d order pivot numbers) (groups : List Group) (grouped_are : AreGroups d order pivot (part_of d numbers) groups) where
    -- what groups of the part count of ranks is what all sequences count
    part_count : (ranks : List ℕ) (n : ℕ) → Counts (λ items. IsPivotMember d order pivot items ranks) (part_of d numbers) n
        ↔ Counts (λ items. IsPivotMember d order pivot items ranks) d.sequences n
    part_count ranks n =
        Counts-part (λ items. IsPivotMember d order pivot items ranks) d.sequences numbers are.rising (λ i held. ((are.exact i).0 held).0)
        (λ i below member. (are.exact i).1 (below, (member.pattern, member.generated, member.within))) n

    pub all-count : (ranks : List ℕ) (n : ℕ) → Counts (LieIn ranks) (grouped groups) n ↔ Counts (λ items. IsPivotMember d order pivot items ranks) d.sequences n
    all-count ranks n =
        let here = groups-count d order pivot (part_of d numbers) groups grouped_are ranks n in
        let all = part_count ranks n in
        ((λ c. all.0 (here.0 c)), (λ c. here.1 (all.1 c)))

    -- THE ROWS of groups are the frequent patterns with this pivot
    pub rows-exact : 1 ≤ d.threshold → (row : Row) → IsGroupRow order d.threshold groups row
        ↔ (IsFrequent d row.pattern row.support × IsWithinPivot order pivot row.pattern)
    rows-exact least row = (there, back)
      where
        there : IsGroupRow order d.threshold groups row → IsFrequent d row.pattern row.support × IsWithinPivot order pivot row.pattern
        there is =
            let all = (all-count is.ranks row.support).0 is.counted in
            let (items, member) = Counts-one (λ items. IsPivotMember d order pivot items is.ranks) d.sequences row.support all (omega (arith, least, is.enough)) in
            let same : member.pattern ≡ row.pattern = ranked-same order member.pattern row.pattern is.ranks member.ranked is.ranked in
            let within : IsWithinPivot order pivot row.pattern = subst (IsWithinPivot order pivot) same member.within in (
              record {
                not_empty = λ none. member.generated.0 (same ∙ none);
                exact = Counts-by (λ others. IsPivotMember d order pivot others is.ranks) (IsPattern row.pattern) (member_pattern row.pattern is.ranks is.ranked within) d.sequences row.support all;
                enough = is.enough;
              },
              within,
            )

        back : IsFrequent d row.pattern row.support × IsWithinPivot order pivot row.pattern → IsGroupRow order d.threshold groups row
        back (frequent, within) =
            let (ranks, ranked) = within-ranks order pivot row.pattern within in
            record {
              ranks = ranks;
              ranked = ranked;
              counted = (all-count ranks row.support).1 (Counts-by (IsPattern row.pattern) (λ items. IsPivotMember d order pivot items ranks)
                  (λ items. let both = member_pattern row.pattern ranks ranked within items in (both.1, both.0)) d.sequences row.support frequent.exact);
              enough = frequent.enough;
            }

    pub all-exact : 1 ≤ d.threshold → (rows : List Row) → AreGroupRows order d.threshold groups rows → AreRowsOfPivot d order pivot rows
    all-exact least rows are_rows = record {
      once = are_rows.once;
      exact = λ row. (let both = rows-exact least row in let held = are_rows.exact row in ((λ inside. both.0 (held.0 inside)), (λ is. held.1 (both.1 is))));
    }

-- The rows of all pivots

module _ (d : Data Item) (ranking : Ranking) (are : AreRanks d.links d.sequences d.threshold ranking) where
  none_differ : PatternsDiffer []
  none_differ i j e less inside = absurd (omega (arith, inside))

  lists_once : (pivots : List ℕ) (lists : List (List Row)) → AllZip (AreRowsOfPivot d ranking.order) pivots lists → ((pivot : ℕ) → Contains pivots pivot → 1 ≤ pivot)
      → AllPairs (λ low high. low < high) pivots → PatternsDiffer (flat_map (λ (rows : List Row). rows) lists)
  lists_once [] [] zip least rising = none_differ
  lists_once [] (r ∷ lists) zip least rising = absurd zip
  lists_once (p ∷ pivots) [] zip least rising = absurd zip
  lists_once (p ∷ pivots) (r ∷ lists) zip least rising =
      AllPairs-append (λ (first : Row) (second : Row). first.pattern ≢ second.pattern) r (flat_map (λ (rows : List Row). rows) lists) zip.0.once
      (lists_once pivots lists zip.1 (λ q held. least q (Contains-other p pivots q held)) (AllPairs-tail (λ low high. low < high) p pivots rising))
      (λ first second here there same.
      let (rows, held, inside) = flat-cases (λ (rows : List Row). rows) lists second there in
      let (q, among, of_q) = zip-second (AreRowsOfPivot d ranking.order) pivots lists zip.1 rows held in
      let left = ((zip.0.exact first).0 here).1 in
      let right = ((of_q.exact second).0 inside).1 in
      let less : p < q = AllPairs-head (λ low high. low < high) p pivots rising q among in
      let one : p ≡ q = pivot-same ranking.order are.once p q (least p (Contains-first p pivots)) (least q (Contains-other p pivots q among)) first.pattern left
      (subst (IsWithinPivot ranking.order q) (sym same) right) in
      omega (arith, less, one))

  -- THE ROWS of all alive pivots are the frequent patterns, each once
  pub all-rows : ((w : Item) → (m : ℕ) × HasFrequency d.links d.sequences w m) → (pivots : List ℕ) → AllPairs (λ low high. low < high) pivots
      → ((pivot : ℕ) → Contains pivots pivot ↔ ((1 ≤ pivot) × IsAliveLabel d ranking.order pivot []))
      → (lists : List (List Row)) → AllZip (AreRowsOfPivot d ranking.order) pivots lists → AreFrequent d (flat_map (λ (rows : List Row). rows) lists)
  all-rows known pivots rising alive lists zip = record {
    once = lists_once pivots lists zip (λ p held. ((alive p).0 held).0) rising;
    frequent = λ row. (
      (λ held.
          let (rows, inside, among) = flat-cases (λ (rows : List Row). rows) lists row held in
          let (pivot, holds, of_it) = zip-second (AreRowsOfPivot d ranking.order) pivots lists zip rows inside in
          ((of_it.exact row).0 among).0),
      (λ frequent.
          let items = frequent-items d.links d.sequences known d.threshold d.expression row.pattern row.support frequent.exact frequent.enough in
          let (ranks, ranked) = frequent-ranks d ranking are row.pattern items in
          let (pivot, least, within) = place_of ranking.order row.pattern ranks frequent.not_empty ranked in
          let label : IsAliveLabel d ranking.order pivot [] = record {
            prefix = [];
            ranked = tt;
            alive = IsAlive-shorter d (IsWithinPivot ranking.order pivot) [] row.pattern (IsAlive-frequent d (IsWithinPivot ranking.order pivot) row.pattern row.support frequent within);
          } in
          let (rows, inside, of_it) = zip-first (AreRowsOfPivot d ranking.order) pivots lists zip pivot ((alive pivot).1 (least, label)) in
          flat-held (λ (rows : List Row). rows) lists rows row inside ((of_it.exact row).1 (frequent, within))),
    );
  }
