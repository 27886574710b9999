use Rattle.std.proofs.Common.{◌≡◌, [], get_or, sym, ◌∙◌}
use Rattle.std.proofs.lemmas.Option.{get_or_from_slice_get}
use Rattle.std.proofs.lemmas.Bool.Decides.{Decides-eqb}
use Rattle.std.proofs.lemmas.Slice.Eq.{slice_eq-Decides}
use Rattle.pattern_counts.proofs.table.is_list.Goals as goal

pub returns : goal.returns
returns c =
    let tells = slice_eq-Decides Decides-eqb c.list.result.now c.args.list.now c.eq.result c.eq.ensures in
    let here : get_or c.args.lists.now.lists c.args.number [] ≡ c.list.result.now = get_or_from_slice_get c.args.lists.now.lists c.args.number c.list.result.now [] c.list.ensures in
    (λ yes. here ∙ tells.0 yes, λ same. tells.1 (sym here ∙ same))
