-- The work of the engine over candidate automata by ranks is that by items.
use Rattle.std.proofs.Common.{◌≡◌, ◌≢◌, ◌↔◌, ℕ, ◌≤◌, ◌<◌, List, [], length, refl, sym, ap, ◌∙◌, subst}
use Rattle.std.specs.List.{All, AllPairs, Contains}
use Rattle.mine_model.specs.declared.item.Item.{Item}
use Rattle.mine_model.specs.declared.mined.Work.{Work}
use Rattle.mine_model.specs.Hierarchy.{Link}
use Rattle.mine_model.specs.Answer.{Data}
use Rattle.mine_model.specs.Ranks.{Ranking, HasRank, AreRanked, AreRanks, AreTiesByName}
use Rattle.mine_model.specs.Pivots.{IsWithinPivot}
use Rattle.mine_model.specs.PartitionWork.{IsNamedBefore}
use Rattle.mine_model.proofs.RankedLemmas.{ranked-same, item_rank, same_ranks, within-ranks, within-top}
use Rattle.mining_job.specs.Problems.{Problem, data_of, IsWhole}
use Rattle.automaton_model.specs.Members.{IsPivotMember, IsPivotCode}
use Rattle.automaton_model.specs.Work.{CodeOfPart, IsCounted, IsAutomatonWork}
use Rattle.automaton_model.specs.NamedWork.{IsNumberOfClasses, PivotCandidates, IsPivotCandidate, AreOfPart, AreSameSet, IsCandidateSetWork}
use Rattle.automaton_model.proofs.AutomatonLemmas.{code-unique, code-also, equal-codes}
use Rattle.automaton_model.proofs.ClassLemmas.{classes-by}
use Rattle.search_tree.proofs.PartitionRankLemmas.{order-within, Bound, at_rank, bound-same, item_at, label-same, label-back, label-forth, label-ranked}
use Rattle.desq_run.proofs.PivotCodeLemmas.{pivot-code}

module _ (names : List (List ℕ)) (d : Data Item) (ranking : Ranking) (ranks : AreRanks d.links d.sequences d.threshold ranking)
    (ties : AreTiesByName names ranking) (within : (w : Item) → Contains ranking.order w → w.0 < length ranking.frequencies) where
  abbrev IsOne : PivotCandidates Item → List Item → Type 0
  IsOne = IsPivotCandidate (IsNamedBefore names) d

  abbrev IsMember : ℕ → PivotCandidates Item → List ℕ → Type 0
  IsMember top of = IsPivotMember d ranking.order top of.sequence.items

  -- the candidates of an item are the members of its rank
  module _ (of : PivotCandidates Item) (top : ℕ) (has : HasRank ranking.order of.pivot top) where
    candidate-member : (pattern : List Item) → IsOne of pattern → (list : List ℕ) × AreRanked ranking.order pattern list × IsMember top of list
    candidate-member pattern is =
        let bounded : IsWithinPivot ranking.order top pattern =
        (within-top ranking.order top has.least pattern).1 ((bound-same names d ranking ranks ties within of.pivot top has pattern).1 is.bounded) in
        let (list, ranked) = within-ranks ranking.order top pattern bounded in
        (list, ranked, record { pattern = pattern; ranked = ranked; generated = is.generated; within = bounded })

    member-candidate : (list : List ℕ) (member : IsMember top of list) → IsOne of member.pattern
    member-candidate list member = record {
      generated = member.generated;
      bounded = (bound-same names d ranking ranks ties within of.pivot top has member.pattern).0
          ((within-top ranking.order top has.least member.pattern).0 member.within);
    }

  module _ (first second : PivotCandidates Item) (top : ℕ) (one : HasRank ranking.order first.pivot top) (other : HasRank ranking.order second.pivot top) where
    candidates_in : ((list : List ℕ) → IsMember top first list → IsMember top second list) → (pattern : List Item) → IsOne first pattern → IsOne second pattern
    candidates_in also pattern is =
        let (list, ranked, member) = candidate-member first top one pattern is in
        let own : IsMember top second list = also list member in
        subst (IsOne second) (ranked-same ranking.order own.pattern pattern list own.ranked ranked) (member-candidate second top other list own)

    members_in : ((pattern : List Item) → IsOne first pattern → IsOne second pattern) → (list : List ℕ) → IsMember top first list → IsMember top second list
    members_in also list member =
        let (others, ranked, own) = candidate-member second top other member.pattern (also member.pattern (member-candidate first top one list member)) in
        subst (IsMember top second) (same_ranks ranking.order ranks.once member.pattern others list ranked member.ranked) own

  -- a pivot and a code show candidates, which are all that the code has
  abbrev Shows : CodeOfPart → PivotCandidates Item → Type 0
  Shows pair of = HasRank ranking.order of.pivot pair.pivot × IsPivotCode d ranking.order pair.pivot pair.code of.sequence.items

  module _ (least : 1 ≤ d.threshold) where
    abbrev IsShown : CodeOfPart → Type 0
    IsShown = IsCounted d ranking.order

    abbrev Are : PivotCandidates Item → Type 0
    Are = AreOfPart (IsNamedBefore names) d

    abbrev AreSame : PivotCandidates Item → PivotCandidates Item → Type 0
    AreSame = AreSameSet (IsNamedBefore names) d

    shown : (pair : CodeOfPart) → IsShown pair → (of : PivotCandidates Item) × Are of × Shows pair of
    shown pair is =
        let pivot : Item = item_at names d ranking ranks ties within least pair.pivot in
        let of : PivotCandidates Item = record { pivot = pivot; sequence = is.one } in
        let has : HasRank ranking.order pivot pair.pivot = (label-ranked names d ranking ranks ties within least pair.pivot [] (is.least, is.alive)).0 in (
          of,
          record {
            alive = label-forth names d ranking ranks ties within least pair.pivot [] (is.least, is.alive);
            held = is.held;
            some = (is.member.pattern, member-candidate of pair.pivot has is.some is.member);
          },
          (has, is.coded),
        )

    coded : (of : PivotCandidates Item) → Are of → (pair : CodeOfPart) × IsShown pair × Shows pair of
    coded of is =
        let (top, list, first, rest, label) = label-back names d ranking ranks ties within least of.pivot [] is.alive in
        let has : HasRank ranking.order of.pivot top =
        subst (λ v. HasRank ranking.order v top) (sym first) (label-ranked names d ranking ranks ties within least top list label).0 in
        let (ranks_of, ranked, member) = candidate-member of top has is.some.0 is.some.1 in
        let (code, is_code) = pivot-code d ranking.order ranks.once top has.least of.sequence.items in (
          record { pivot = top; code = code },
          record {
            least = has.least;
            alive = (label-same names d ranking ranks ties within of.pivot top has [] [] tt).1 is.alive;
            one = of.sequence;
            held = is.held;
            some = ranks_of;
            member = member;
            coded = is_code;
          },
          (has, is_code),
        )

    one_pair : (pair other : CodeOfPart) (of also : PivotCandidates Item) → Shows pair of → Shows other also → AreSame of also → pair ≡ other
    one_pair pair other of also p q same =
        let moved : HasRank ranking.order of.pivot other.pivot = subst (λ v. HasRank ranking.order v other.pivot) (sym same.pivot) q.0 in
        let top : pair.pivot ≡ other.pivot = item_rank ranking.order ranks.once of.pivot pair.pivot other.pivot p.0 moved in
        let own : IsPivotCode d ranking.order other.pivot pair.code of.sequence.items = subst (λ t. IsPivotCode d ranking.order t pair.code of.sequence.items) top p.1 in
        let here : IsPivotCode d ranking.order other.pivot pair.code also.sequence.items =
        code-also (IsMember other.pivot of) (IsMember other.pivot also)
        (λ list. (
          members_in of also other.pivot moved q.0 (λ pattern. (same.same pattern).0) list,
          members_in also of other.pivot q.0 moved (λ pattern. (same.same pattern).1) list,
        ))
        pair.code own in
        let code : pair.code ≡ other.code = code-unique (IsMember other.pivot also) pair.code other.code here q.1 in
        λ i. record { pivot = top i; code = code i }

    one_set : (pair other : CodeOfPart) (of also : PivotCandidates Item) → Shows pair of → Shows other also → pair ≡ other → AreSame of also
    one_set pair other of also p q same =
        let moved : HasRank ranking.order also.pivot pair.pivot = subst (λ (c : CodeOfPart). HasRank ranking.order also.pivot c.pivot) (sym same) q.0 in
        let own : IsPivotCode d ranking.order pair.pivot pair.code also.sequence.items =
        subst (λ (c : CodeOfPart). IsPivotCode d ranking.order c.pivot c.code also.sequence.items) (sym same) q.1 in
        let equal = equal-codes (IsMember pair.pivot of) (IsMember pair.pivot also) pair.code p.1 own in
        let e : Item = record { 0 = 0 } in
        record {
          pivot = sym (at_rank names d ranking ranks ties within of.pivot pair.pivot e p.0) ∙ at_rank names d ranking ranks ties within also.pivot pair.pivot e moved;
          same = λ pattern. (
            candidates_in of also pair.pivot p.0 moved (λ list. (equal list).0) pattern,
            candidates_in also of pair.pivot moved p.0 (λ list. (equal list).1) pattern,
          );
        }

    -- THE WORK by ranks is that by items
    pub set-items : (work : Work) → IsAutomatonWork d ranking.order work → IsCandidateSetWork (IsNamedBefore names) d work
    set-items work is = record {
      nodes = is.nodes;
      parts = classes-by IsShown (λ (first second : CodeOfPart). first ≡ second) Are AreSame Shows shown coded one_pair one_set work.parts (record {
        things = is.pairs;
        apart = is.once;
        has = λ pair held. (is.exact pair).0 held;
        all = λ pair counted. (pair, (is.exact pair).1 counted, refl);
        counted = is.parts;
      });
      candidates = is.candidates;
    }

-- the work of a problem whose links are between its items
pub problem-set-work : (problem : Problem) → IsWhole problem
    → All (λ (link : Link Item). (link.child.0 < problem.hierarchy.items) × (link.parent.0 < problem.hierarchy.items)) problem.hierarchy.links
    → (names : List (List ℕ)) → AreTiesByName names problem.ranking → (work : Work) → IsAutomatonWork (data_of problem) problem.ranking.order work
    → IsCandidateSetWork (IsNamedBefore names) (data_of problem) work
problem-set-work problem whole ends names ties work is =
    let within = order-within (data_of problem) problem.ranking whole.ranks whole.least problem.hierarchy.items ends whole.items whole.ranked in
    set-items names (data_of problem) problem.ranking whole.ranks ties within whole.least work is
