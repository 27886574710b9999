use Rattle.std.proofs.Common.{◌≡◌, List, [], ◌∷◌, ◌++◌, length, ap, ◌∙◌, subst, sym, arith}
use Rattle.std.specs.Global.{Vec}
use Rattle.std.proofs.lemmas.List.{append-nil}
use Rattle.pivot_partition.specs.declared.pairs.Pair.{Pair}
use Rattle.mine_model.specs.Ranks.{Ranking}
use Rattle.pivot_partition.specs.Pairs.{ArePairs, all_of}
use Rattle.pivot_partition.proofs.SeedLemmas.{no-seeds}
use Rattle.pivot_partition.proofs.splitting.split_alone.Goals as goal

pub seeds_of-requires : goal.seeds_of-requires
seeds_of-requires c =
    let count : c.sequences.result ≡ length c.args.job.now.sequences = c.sequences.ensures.count ∙ ap length c.db.ensures.sequences in
    let all = subst (λ n. ArePairs c.args.job.now 0 n c.in_ok-pairs.pairs.items) count c.in_ok-pairs.ensures in
    let parts = c.as_slice.ensures.value ∙ c.in_ok-push.ensures.items ∙ ap (λ (l : List (Vec Pair)). l ++ c.in_ok-pairs.pairs ∷ []) c.new-parts.ensures.items in
    subst (λ (l : List (Vec Pair)). ArePairs c.args.job.now 0 (length c.args.job.now.sequences) (all_of l)) (sym parts)
    (subst (ArePairs c.args.job.now 0 (length c.args.job.now.sequences)) (sym (append-nil c.in_ok-pairs.pairs.items)) all)

pub returns-then-count-eq0-clause-alive : goal.returns-then-count-eq0-clause-alive
returns-then-count-eq0-clause-alive c =
    no-seeds c.args.job.now c.ranks.ensures.whole.least
    (omega (arith, c.count.ensures.count, ap (λ (r : Ranking). length r.order) c.ranks.ensures.ranking, c.if-count-eq0.true))
    c.new.result.items c.new.ensures.items
