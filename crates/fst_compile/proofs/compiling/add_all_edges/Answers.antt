use Rattle.std.proofs.Common.{arith}
use Rattle.mine_model.specs.Numbered.{tree_of}
use Rattle.fst_compile.proofs.CopyLemmas.{built_size, built_within}
use Rattle.fst_compile.proofs.CompileLemmas.{IsWhole-built}
use Rattle.fst_compile.proofs.compiling.add_all_edges.Goals as goal

pub set_of-requires : goal.set_of-requires
set_of-requires c =
    let within = built_within 1088 c.in_ok-whole.ensures (omega (arith, built_size c.in_ok-whole.ensures, c.requires.room, c.requires.few)) in
    rw c.as_slice.ensures.value within.first

pub finals_of-requires : goal.finals_of-requires
finals_of-requires c =
    let within = built_within 1088 c.in_ok-whole.ensures (omega (arith, built_size c.in_ok-whole.ensures, c.requires.room, c.requires.few)) in
    within.last

pub returns : goal.returns
returns c =
    IsWhole-built (tree_of c.args.expr.now) c.set_of.result c.finals_of.result c.args.rows.now c.add_edges.new.rows c.in_ok-whole.whole c.requires.none
    c.in_ok-whole.ensures c.requires.room (rw c.as_slice.ensures.value at c.set_of.ensures) c.finals_of.ensures
