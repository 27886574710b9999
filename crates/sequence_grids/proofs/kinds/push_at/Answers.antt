use Rattle.std.proofs.Common.{◌≡◌, ◌∙◌, ◌+◌, ◌↔◌, ◌++◌, ap, sym, subst, arith, ℕ, length, List, length-append}
use Rattle.std.specs.Bool.{IsTrue}
use Rattle.std.specs.List.{Contains, slice_range}
use Rattle.mine_model.proofs.AncestryLemmas.{slice_range-behind}
use Rattle.sequence_grids.specs.Grids.{WritesRank}
use Rattle.sequence_grids.specs.Kinds.{Writes, Needs}
use Rattle.sequence_grids.proofs.KindLemmas.{IsRow-more, AreActs-more, writes_holds, needs_holds}
use Rattle.sequence_grids.proofs.kinds.push_at.Goals as goal

pub returns-clause-row : goal.returns-clause-row
returns-clause-row c heads base column head row =
    let (more, is_more, are) = c.in_ok-silent.ensures.outputs in
    let long : c.len.result ≡ length c.push_found.new.ranks.items = omega (arith, c.len.ensures) in
    let end : c.in_ok-to_number.field-0 ≡ length (c.args.ranks.now.items ++ more) = c.in_ok-to_number.ensures ∙ long ∙ ap length is_more in
    rw (c.in_ok-push-2.ensures.items, is_more)
    (IsRow-more c.args.job.now c.args.bound c.args.t base heads c.args.ends.now.items c.args.ranks.now.items more _ column c.args.k head row end are.outputs are.rising)

pub returns-clause-acts : goal.returns-clause-acts
returns-clause-acts c heads column head acts =
    let (more, is_more, are) = c.in_ok-silent.ensures.outputs in
    let ranks = c.as_slice.result.now in
    let first : c.len-first.result ≡ length c.args.ranks.now.items = omega (arith, c.len-first.ensures) in
    let all : ranks ≡ c.args.ranks.now.items ++ more = c.as_slice.ensures.value ∙ is_more in
    let long : length ranks ≡ length c.args.ranks.now.items + length more = ap length all ∙ length-append c.args.ranks.now.items more in
    let behind : slice_range ranks c.len-first.result (length ranks) ≡ more =
    rw (first, long, all) (slice_range-behind c.args.ranks.now.items more (length c.args.ranks.now.items + length more) (omega arith)) in
    let found : (rank : ℕ) → Contains (slice_range ranks c.len-first.result (length ranks)) rank ↔ WritesRank c.args.job.now c.args.bound c.args.t c.args.k rank =
    subst (λ (xs : List ℕ). (rank : ℕ) → Contains xs rank ↔ WritesRank c.args.job.now c.args.bound c.args.t c.args.k rank) (sym behind) are.outputs in
    let writes : IsTrue c.is_needed-writes.result ↔ Writes c.args.job.now c.args.bound c.args.t c.args.k =
    writes_holds c.args.job.now c.args.bound c.args.t c.args.k c.is_needed-writes.result (slice_range ranks c.len-first.result (length ranks)) found c.is_needed-writes.ensures in
    let needs : IsTrue c.is_needed-needs.result ↔ Needs c.args.job.now c.args.bound c.args.t c.args.k =
    needs_holds c.args.job.now c.args.bound c.args.t c.args.k c.is_needed-needs.result (slice_range ranks c.len-first.result (length ranks)) found c.is_needed-needs.ensures in
    rw c.in_ok-push.ensures.items
    (AreActs-more c.args.job.now c.args.bound c.args.t heads c.args.scratch.now.acts.items column c.args.k _ head acts (record { silent = c.in_ok-silent.ensures.silent; writes = writes; needs = needs }))
