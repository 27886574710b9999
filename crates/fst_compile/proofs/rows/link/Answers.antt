use Rattle.std.proofs.Common.{◌≡◌, ◌<◌, length, get_or, subst, ℕ, ◌⊎◌, ◌↔◌}
use Rattle.std.proofs.lemmas.List.{get_or_default}
use Rattle.state_bits.specs.Members.{Has}
use Rattle.fst_compile.proofs.RowLemmas.{IsLinkedSoFar-none, IsLinkedSoFar-more, IsLinkedSoFar-all}
use Rattle.fst_compile.proofs.rows.link.Goals as goal

pub loop-j-init : goal.loop-j-init
loop-j-init c = IsLinkedSoFar-none c.args.rows.now c.args.last.now c.set_of-targets.result

pub loop-j-preserved : goal.loop-j-preserved
loop-j-preserved c =
    let within : get_or c.args.last.now c.loop-j.j-index 0 < length c.args.rows.now = c.requires.last c.loop-j.j-index 0 c.loop-j-test.true in
    let inside : get_or c.args.last.now c.loop-j.j-index 0 < length c.loop-j.rows = rw c.loop-j.auto.rows within in
    let row : get_or c.loop-j.rows (get_or c.args.last.now c.loop-j.j-index 0) c.index-rows-j.result ≡ get_or c.loop-j.rows (get_or c.args.last.now c.loop-j.j-index 0) 0 =
    get_or_default c.loop-j.rows (get_or c.args.last.now c.loop-j.j-index 0) c.index-rows-j.result 0 inside in
    IsLinkedSoFar-more c.args.rows.now c.loop-j.rows c.args.last.now c.set_of-targets.result c.loop-j.j-index c.union_with.new.self c.loop-j.invariant
    c.loop-j-test.true within
    (subst (λ (x : ℕ). (k : ℕ) → Has c.union_with.new.self k ↔ (Has x k ⊎ Has c.set_of-targets.result k)) row c.union_with.ensures)

pub returns : goal.returns
returns c = IsLinkedSoFar-all c.args.rows.now c.loop-j.rows c.args.last.now c.args.first.now c.set_of-targets.result c.loop-j.j-index c.loop-j.invariant c.loop-j-test.false c.set_of-targets.ensures
