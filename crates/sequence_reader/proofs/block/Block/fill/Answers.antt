use Rattle.std.proofs.Common.{◌∙◌, arith}
use Rattle.sequence_reader.proofs.AddingLemmas.{WereAdded-more}
use Rattle.sequence_reader.proofs.block.Block.fill.Goals as goal

pub loop-self-preserved : goal.loop-self-preserved
loop-self-preserved g c =
    let filled = c.in_ok-read_some.ensures.filled in
    let total = c.in_ok-read_some.ensures.total in
    let filled_before = c.make_room.ensures.filled in
    let total_before = c.make_room.ensures.total in
    let within = c.read_some.ensures.within in
    let before = c.loop-self.invariant.read in
    let some = c.if-branch-eq0.false in
    let more = c.read_some.ensures.never_falls in
    let so_far = c.loop-self.invariant.rising in
    record {
      added =
          WereAdded-more (g.F.Files.left c.args.files.now) (g.F.Files.left c.loop-self.files) (g.F.Files.left c.read_some.new.files) c.args.self.now c.loop-self.self c.make_room.new.self c.read_some.new.self
          c.make_room.ensures.bytes c.make_room.ensures.total c.loop-self.invariant.added c.in_ok-read_some.ensures.added;
      place = let so_far = c.loop-self.invariant.place in omega (arith, so_far, filled, total, filled_before, total_before);
      some = omega (arith, filled, within, some);
      within = within;
      read = omega (arith, filled, total, filled_before, total_before, before);
      few = c.in_ok-read_some.ensures.few;
      more = c.read_some.ensures.last ∙ c.make_room.ensures.last ∙ c.loop-self.invariant.more;
      first = c.read_some.ensures.first ∙ c.make_room.ensures.first ∙ c.loop-self.invariant.first;
      same = c.read_some.ensures.same_files ∙ c.loop-self.invariant.same;
      names = c.read_some.ensures.same_names ∙ c.loop-self.invariant.names;
      rising = omega (arith, more, so_far);
    }
