use Rattle.std.proofs.Common.{◌∙◌, sym}
use Rattle.item_names.specs.Names.{IsInterned}
use Rattle.made_input.proofs.MakingLemmas.{name-next, on-ok}
use Rattle.made_input.proofs.naming.all_names.Goals as goal

pub loop-number-preserved : goal.loop-number-preserved
loop-number-preserved c =
    let name = c.as_bytes.result.now in
    name-next c.loop-number.number c.loop-number.names c.intern.new.self name c.loop-number-test.true c.loop-number.invariant
    (c.as_bytes.ensures.value ∙ c.as_str.ensures.value ∙ c.name_of.ensures)
    (on-ok c.intern.result (IsInterned c.loop-number.names name c.intern.new.self) (sym c.is_err.ensures.value ∙ c.if-is_err.false) c.intern.ensures.names)
