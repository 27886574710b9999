use Rattle.std.proofs.Common.{ℕ, List, true, false, refl, subst}
use Rattle.place_records.specs.Twins.{words_for}
use Rattle.place_records.proofs.TwinLemmas.{IsCut, move_is}
use Rattle.place_records.proofs.twin.twin_of.Goals as goal

pub returns : goal.returns
returns g c states class behind are of_class of_triple =
    let more : IsCut c.cut-writes.result (words_for c.args.words c.args.needed) c.cut-2.result =
    subst (λ (ws : List ℕ). IsCut c.cut-writes.result ws c.cut-2.result) c.continuing.ensures c.cut-2.ensures in
    let move = move_is states class behind c.args.words of_class of_triple c.args.targets.now c.cut-silent.result c.cut-written.result c.cut-writes.result are
    c.cut-silent.ensures c.cut-written.ensures c.cut-writes.ensures c.args.needed in
    record { early_is = move false _ refl c.cut.ensures more c.cut-3.ensures c.cut-4.ensures; late_is = move true _ refl c.cut-late.ensures more c.cut-3.ensures c.cut-4.ensures }
