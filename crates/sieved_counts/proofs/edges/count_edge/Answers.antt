use Rattle.std.proofs.Common.{◌≡◌, List, false, IsTrue, sym, subst, ◌∙◌}
use Rattle.std.specs.List.{slice_get}
use Rattle.prefix_sieve.specs.Sieves.{lets_pass}
use Rattle.sieved_counts.specs.declared.fronts.Front.{Front}
use Rattle.sieved_counts.specs.Fronts.{IsLonger, HasGone}
use Rattle.sieved_counts.proofs.GoneLemmas.{gone-past, gone-one}
use Rattle.sieved_counts.proofs.edges.count_edge.Goals as goal

pub returns-then-not-passes : goal.returns-then-not-passes
returns-then-not-passes c = λ list of.
    let level = slice_get c.args.sieve.now c.args.before in
    let stops : lets_pass level c.hash_behind-hash.result ≡ false = sym c.passes.ensures ∙ c.if-not-passes.true in
    gone-past level c.args.weight list c.args.edge c.hash_behind-hash.result (c.hash_behind-hash.ensures list of.hash) stops c.args.counts.now c.args.next.now.items

pub returns : goal.returns
returns c = λ list of.
    let level = slice_get c.args.sieve.now c.args.before in
    let lets : IsTrue (lets_pass level c.hash_behind-hash.result) = sym c.passes.ensures ∙ c.if-not-passes.false in
    subst (λ (fs : List Front). HasGone (λ longer other. (other ≡ c.args.edge) × IsLonger level list longer other) c.args.weight c.args.counts.now c.take.new.counts c.args.next.now.items fs)
    (sym c.in_ok-push.ensures.items)
    (gone-one level c.args.weight list c.args.edge c.hash_behind-hash.result (c.hash_behind-hash.ensures list of.hash) lets c.args.counts.now c.take.new.counts c.in_ok-number.number
    (c.in_ok-number.ensures list of.number) c.args.next.now.items)
