use Rattle.std.proofs.Common.{◌≡◌, ◌+◌, ◌∙◌, ◌++◌, ◌∷◌, [], ◌<◌, leb, length, get_or, length-append, append_assoc, ap, sym, subst, arith}
use Rattle.std.specs.Vec.Iter.{into_iter_items}
use Rattle.std.proofs.lemmas.List.{append-nil, length_push, get_or_at, nil_from_length}
use Rattle.pivot_partition.proofs.SeedLemmas.{seeds-all, seeds-next}
use Rattle.pivot_partition.proofs.splitting.seeds_with.Goals as goal

pub lists-preserved : goal.lists-preserved
lists-preserved c =
    let steps = c.in-Some.ensures.steps in
    let is = c.lists.invariant in
    let (pairs, are, weights, filed) = c.requires.pairs in
    let whole : c.lists.yielded ++ (c.in-Some.sequences ∷ into_iter_items c.next.new.self) ≡ c.args.lists.items = ap (λ xs. c.lists.yielded ++ xs) (sym steps.0) ∙ is.seen in
    let inside : c.lists.place < length c.args.lists.items = omega (arith, is.place, ap length whole, length-append c.lists.yielded (c.in-Some.sequences ∷ into_iter_items c.next.new.self)) in
    let at : c.in-Some.sequences ≡ get_or c.args.lists.items c.lists.place c.in-Some.sequences =
    subst (λ l. c.in-Some.sequences ≡ get_or l c.lists.place c.in-Some.sequences) whole (sym (get_or_at c.lists.yielded c.in-Some.sequences (into_iter_items c.next.new.self) c.in-Some.sequences c.lists.place (sym is.place))) in
    record {
      seen = rw append_assoc (ap (λ xs. c.lists.yielded ++ xs) (sym steps.0) ∙ is.seen);
      count = omega (arith, steps.1, is.count, ap length steps.0);
      place = ap (λ n. n + 1) is.place ∙ sym (length_push c.lists.yielded c.in-Some.sequences);
      seeds = seeds-next c.args.job.now pairs are c.threshold-threshold.ensures.whole.least c.args.sums.now weights c.args.lists.items filed c.lists.place c.in-Some.sequences inside at
          (leb c.threshold-threshold.result (get_or c.args.sums.now c.lists.place 0)) (ap (λ n. leb n (get_or c.args.sums.now c.lists.place 0)) c.threshold-threshold.ensures.threshold)
          c.lists.seeds.items c.push_seed.new.seeds.items c.in_ok-push_seed.ensures.enough c.in_ok-push_seed.ensures.less is.seeds;
    }

pub returns-clause-alive : goal.returns-clause-alive
returns-clause-alive c =
    let is = c.lists.invariant in
    let (pairs, are, weights, filed) = c.requires.pairs in
    let none : into_iter_items c.lists.sequences-iterator ≡ [] = nil_from_length (into_iter_items c.lists.sequences-iterator) (omega (arith, is.count, c.in-None.ensures.steps.0)) in
    let whole : c.lists.yielded ≡ c.args.lists.items = sym (append-nil c.lists.yielded) ∙ ap (λ l. c.lists.yielded ++ l) (sym none) ∙ is.seen in
    seeds-all c.args.job.now c.threshold-threshold.ensures.whole.least c.lists.seeds.items c.lists.place (omega (arith, is.place, ap length whole, c.requires.long, c.requires.ranks)) is.seeds
