use Rattle.std.proofs.Common.{◌∙◌, ap, arith}
use Rattle.std.specs.List.{slice_range}
use Rattle.place_walk.proofs.PieceLemmas.{coded-range}
use Rattle.place_walk.proofs.stands.Stands.piece.Goals as goal

pub returns : goal.returns
returns c =
    coded-range c.self.inside.codes.now c.self.inside.rest.now c.args.from c.args.to c.min.result c.min-2.result c.saturating_sub.result c.saturating_sub-2.result
    (omega (arith, c.min.ensures, c.saturating_sub.ensures)) (omega (arith, c.min-2.ensures, c.saturating_sub-2.ensures)) (omega (arith, c.min.ensures)) (omega (arith, c.min-2.ensures))
    (λ less. omega (arith, less, c.min.ensures, c.saturating_sub.ensures)) (λ less. omega (arith, less, c.min-2.ensures, c.saturating_sub-2.ensures)) c.requires.ordered
    ∙ ap (λ l. slice_range l c.args.from c.args.to) c.self.view_is
