use Rattle.std.proofs.Common.{◌∙◌, sym, IsTrue, subst}
use Rattle.sequence_reader.proofs.BlockLemmas.{IsAt-end, IsAt-behind, IsNext-read}
use Rattle.sequence_reader.proofs.block.Block.follow.Goals as goal

pub returns-then-self-clause-at : goal.returns-then-self-clause-at
returns-then-self-clause-at g c told lines at =
    IsAt-end told (g.F.Files.left c.args.files.now) lines c.args.before.now c.take_rest.new.self c.requires.before (subst IsTrue c.in-Ok.ensures.last c.if-self.true)
    c.in-Ok.ensures.first c.in-Ok.ensures.bytes c.in-Ok.ensures.lines c.in-Ok.ensures.total at

pub returns-clause-at : goal.returns-clause-at
returns-clause-at g c told lines at =
    IsAt-behind told (g.F.Files.left c.args.files.now) (g.F.Files.left c.fill.new.files) lines c.args.before.now c.take_rest.new.self c.fill.new.self c.requires.before c.in_ok-fill.ensures.block
    (sym c.in-Ok.ensures.last ∙ c.if-self.false) (c.fill.ensures.first ∙ c.in-Ok.ensures.first) c.in-Ok.ensures.bytes c.in-Ok.ensures.total c.in_ok-fill.ensures.added c.in_ok-fill.ensures.end at

pub returns-clause-block : goal.returns-clause-block
returns-clause-block g c =
    IsNext-read c.args.before.now c.take_rest.new.self c.fill.new.self c.requires.before c.in_ok-fill.ensures.block c.in-Ok.ensures.filled c.in-Ok.ensures.total c.in_ok-fill.ensures.place
