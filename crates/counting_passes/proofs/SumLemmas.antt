-- Sums, sequence after sequence and worker after worker.
use Rattle.std.proofs.Common.{◌≡◌, ℕ, ◌+◌, ◌*◌, ◌≤◌, inl, inr, Bool, nat_eq, List, [], ◌∷◌, ◌++◌, length, sym, ap, ◌∙◌, subst, arith, length-append}
use Rattle.std.specs.Cmp.Lexicographic.{pointwise}
use Rattle.std.proofs.lemmas.Bool.{cases_lt}
use Rattle.std.proofs.lemmas.List.{append-nil, append_assoc}
use Rattle.mine_model.specs.declared.item.Item.{Item}
use Rattle.mine_model.specs.Answer.{Data}
use Rattle.mine_model.specs.Support.{Sequence}
use Rattle.mining_job.specs.Problems.{Problem, data_of}
use Rattle.candidate_graph.specs.Graphs.{Node}
use Rattle.prefix_counts.specs.Prefixes.{Prefixes, no_prefixes}
use Rattle.prefix_counts.specs.Sums.{sum_of, AreJoined}
use Rattle.prefix_counts.proofs.SumLemmas.{either-none}
use Rattle.prefix_sieve.specs.Sieves.{AreDealt}
use Rattle.sieved_counts.specs.Counted.{HasCounted, AreCounted}
use Rattle.worker_shares.specs.Shares.{share_of}
use Rattle.worker_shares.proofs.ShareLemmas.{shares_to, dealt-shares}
use Rattle.counting_passes.specs.Counts.{AreSumsOf, CountsAll, GrowsUpTo}

-- ---- one sequence

-- no sum grows by more than the weight
pub grown-by : (levels : List (List Bool)) (weight longest : ℕ) (nodes : List Node) (before after : Prefixes) → HasCounted levels weight longest nodes before after
    → GrowsUpTo weight before after
grown-by levels weight longest nodes before after has list = elim (cases_lt (sum_of before list + weight) (sum_of after list)) [
  | inl more ↦
      let same : sum_of after list ≡ sum_of before list = has.others list (λ is. let sum = has.counted list is in omega (arith, sum, more)) in
      absurd (omega (arith, same, more))
  | inr less ↦ less
]

pub grown-more : (least most : ℕ) (before after : Prefixes) → least ≤ most → GrowsUpTo least before after → GrowsUpTo most before after
grown-more least most before after less grown list = let sum = grown list in omega (arith, sum, less)

-- ---- sequence after sequence

pub sums-none : (problem : Problem) (levels : List (List Bool)) (counts : Prefixes) → AreCounted (data_of problem) problem.ranking.order levels [] no_prefixes
    → counts ≡ no_prefixes → AreSumsOf problem levels [] counts
sums-none problem levels counts counted none = subst (AreSumsOf problem levels []) (sym none) (record {
  counted = counted;
  most = λ list. let nothing : sum_of no_prefixes list ≡ 0 = either-none (pointwise nat_eq [] list) 0 in omega (arith, nothing);
})

pub counts-none : (problem : Problem) (levels : List (List Bool)) (sequences : List (Sequence Item)) (counts : Prefixes) → sequences ≡ []
    → CountsAll problem levels sequences counts counts
counts-none problem levels sequences counts none = λ some are.
    subst (λ (ss : List (Sequence Item)). AreSumsOf problem levels ss counts) (sym (ap (λ (ss : List (Sequence Item)). some ++ ss) none ∙ append-nil some)) are

pub counts-both : (problem : Problem) (levels : List (List Bool)) (sequences more all : List (Sequence Item)) (first middle last : Prefixes) → all ≡ sequences ++ more
    → CountsAll problem levels sequences first middle → CountsAll problem levels more middle last → CountsAll problem levels all first last
counts-both problem levels sequences more all first middle last is one other = λ some are.
    subst (λ (ss : List (Sequence Item)). AreSumsOf problem levels ss last) (append_assoc some sequences more ∙ ap (λ (ss : List (Sequence Item)). some ++ ss) (sym is))
    (other (some ++ sequences) (one some are))

pub counts-same : (problem : Problem) (levels : List (List Bool)) (sequences others : List (Sequence Item)) (before after : Prefixes) → sequences ≡ others
    → CountsAll problem levels sequences before after → CountsAll problem levels others before after
counts-same problem levels sequences others before after same counts = subst (λ (ss : List (Sequence Item)). CountsAll problem levels ss before after) same counts

-- ---- worker after worker

dealt-length : (all some others : List (Sequence Item)) → AreDealt all some others → length all ≡ length some + length others
dealt-length [] some others (none, also) =
    let one : length some ≡ 0 = ap (λ (ss : List (Sequence Item)). length ss) none in
    let other : length others ≡ 0 = ap (λ (ss : List (Sequence Item)). length ss) also in
    omega (arith, one, other)
dealt-length (s ∷ all) some others (inl (before, behind, is, dealt)) =
    let rest = dealt-length all (before ++ behind) others dealt in
    let whole : length some ≡ length before + length (s ∷ behind) = ap (λ (ss : List (Sequence Item)). length ss) is ∙ length-append before (s ∷ behind) in
    let parts = length-append before behind in
    omega (arith, rest, whole, parts)
dealt-length (s ∷ all) some others (inr (before, behind, is, dealt)) =
    let rest = dealt-length all some (before ++ behind) dealt in
    let whole : length others ≡ length before + length (s ∷ behind) = ap (λ (ss : List (Sequence Item)). length ss) is ∙ length-append before (s ∷ behind) in
    let parts = length-append before behind in
    omega (arith, rest, whole, parts)

-- what the law says of two workers
abbrev pub SharesJoin : Type 0
SharesJoin = (d : Data Item) (order : List Item) (levels : List (List Bool)) (all some others : List (Sequence Item)) (mine theirs joined : Prefixes)
    → AreDealt all some others → AreCounted d order levels some mine → AreCounted d order levels others theirs → AreJoined mine theirs joined
    → AreCounted d order levels all joined

pub sums-more : SharesJoin → (problem : Problem) (levels : List (List Bool)) (workers worker : ℕ) (mine theirs joined : Prefixes) → AreJoined mine theirs joined
    → AreSumsOf problem levels (shares_to problem.sequences workers worker) mine → AreSumsOf problem levels (share_of problem.sequences workers worker) theirs
    → AreSumsOf problem levels (shares_to problem.sequences workers (worker + 1)) joined
sums-more join problem levels workers worker mine theirs joined both one other =
    let all : List (Sequence Item) = shares_to problem.sequences workers (worker + 1) in
    let some : List (Sequence Item) = shares_to problem.sequences workers worker in
    let others : List (Sequence Item) = share_of problem.sequences workers worker in
    let dealt = dealt-shares problem.sequences workers worker in
    record {
      counted = join (data_of problem) problem.ranking.order levels all some others mine theirs joined dealt one.counted other.counted both;
      most = λ list.
          let sum = both.added list in
          let here = one.most list in
          let there = other.most list in
          let long : length all ≡ length some + length others = dealt-length all some others dealt in
          omega (arith, sum, here, there, long);
    }
