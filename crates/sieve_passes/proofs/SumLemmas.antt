-- Sums, sequence after sequence and worker after worker.
use Rattle.std.proofs.Common.{◌≡◌, ℕ, ◌+◌, Bool, List, [], ◌++◌, length, sym, ap, ◌∙◌, subst}
use Rattle.std.proofs.lemmas.List.{append-nil, append_assoc}
use Rattle.mine_model.specs.declared.item.Item.{Item}
use Rattle.mine_model.specs.Answer.{Data}
use Rattle.mine_model.specs.Support.{Sequence}
use Rattle.mining_job.specs.Problems.{Problem, data_of}
use Rattle.prefix_sieve.specs.Buckets.{AreJoined}
use Rattle.prefix_sieve.specs.Hashes.{hash_of}
use Rattle.prefix_sieve.specs.Sieves.{HasEnough, AreDealt}
use Rattle.worker_shares.specs.Shares.{share_of}
use Rattle.worker_shares.proofs.ShareLemmas.{shares_to, dealt-shares}
use Rattle.sieve_passes.specs.Sums.{HasAll, AddsAll}

-- ---- sequence after sequence

pub adds-none : (problem : Problem) (levels : List (List Bool)) (sequences : List (Sequence Item)) (sums : List ℕ) → sequences ≡ [] → AddsAll problem levels sequences sums sums
adds-none problem levels sequences sums none = λ some has.
    subst (λ (ss : List (Sequence Item)). HasAll problem levels ss sums) (sym (ap (λ (ss : List (Sequence Item)). some ++ ss) none ∙ append-nil some)) has

pub adds-both : (problem : Problem) (levels : List (List Bool)) (sequences more all : List (Sequence Item)) (first middle last : List ℕ) → all ≡ sequences ++ more
    → AddsAll problem levels sequences first middle → AddsAll problem levels more middle last → AddsAll problem levels all first last
adds-both problem levels sequences more all first middle last is one other = λ some has.
    subst (λ (ss : List (Sequence Item)). HasAll problem levels ss last) (append_assoc some sequences more ∙ ap (λ (ss : List (Sequence Item)). some ++ ss) (sym is))
    (other (some ++ sequences) (one some has))

pub adds-same : (problem : Problem) (levels : List (List Bool)) (sequences others : List (Sequence Item)) (before after : List ℕ) → sequences ≡ others
    → AddsAll problem levels sequences before after → AddsAll problem levels others before after
adds-same problem levels sequences others before after same adds = subst (λ (ss : List (Sequence Item)). AddsAll problem levels ss before after) same adds

-- ---- worker after worker

-- what the law says of two workers
abbrev pub SharesJoin : Type 0
SharesJoin = (d : Data Item) (order : List Item) (hash : List ℕ → ℕ) (levels : List (List Bool))
    (longest : ℕ) (all some others : List (Sequence Item)) (mine theirs sums : List ℕ)
    → AreDealt all some others → HasEnough d order hash levels longest some mine
    → HasEnough d order hash levels longest others theirs → AreJoined mine theirs sums
    → HasEnough d order hash levels longest all sums

pub has-more : SharesJoin → (problem : Problem) (levels : List (List Bool)) (workers worker : ℕ) (mine theirs sums : List ℕ) → AreJoined mine theirs sums
    → HasAll problem levels (shares_to problem.sequences workers worker) mine → HasAll problem levels (share_of problem.sequences workers worker) theirs
    → HasAll problem levels (shares_to problem.sequences workers (worker + 1)) sums
has-more join problem levels workers worker mine theirs sums joined one other =
    let all : List (Sequence Item) = shares_to problem.sequences workers (worker + 1) in
    let some : List (Sequence Item) = shares_to problem.sequences workers worker in
    join (data_of problem) problem.ranking.order hash_of levels (length levels + 1) all some (share_of problem.sequences workers worker) mine theirs sums
    (dealt-shares problem.sequences workers worker) one other joined
