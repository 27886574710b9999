use Rattle.std.proofs.Common.{◌∙◌, take, ap}
use Rattle.sequence_reader.proofs.BlockLemmas.{IsAt-start}
use Rattle.sequence_reader.proofs.block.Block.begin.Goals as goal

pub returns-clause-at : goal.returns-clause-at
returns-clause-at g c =
    IsAt-start (g.F.Files.left c.args.files.now) (g.F.Files.left c.fill.new.files) c.args.self.now c.fill.new.self (ap (λ k. take k c.args.self.now.buffer.items) c.requires.none) c.requires.unread
    c.in_ok-fill.ensures.block (c.fill.ensures.first ∙ c.requires.first) c.in_ok-fill.ensures.added c.in_ok-fill.ensures.end
