use Rattle.std.proofs.Common.{List, ap, ◌∙◌}
use Rattle.mine_model.specs.declared.item.Item.{Item}
use Rattle.mine_model.specs.Ancestry.{Ancestry}
use Rattle.mine_model.specs.Database.{sequence_at}
use Rattle.mine_model.specs.Support.{Sequence}
use Rattle.pattern_proof.specs.Reading.{numbers_of}
use Rattle.pattern_proof.proofs.RunLemmas.{parts-writes}
use Rattle.pattern_proof.proofs.checking.checks.Goals as goal

pub returns : goal.returns
returns c =
    parts-writes c.args.job.now c.hierarchy.ensures.whole c.args.seq (numbers_of c.args.path.now) c.args.pattern.now c.sequence.result.now c.hierarchy.result.now.links c.fst.result.now
    (ap (λ (h : Ancestry). h.links) c.hierarchy.ensures.hierarchy) c.fst.ensures.transducer
    (c.sequence.ensures.items ∙ ap (λ (s : List (Sequence Item)). (sequence_at s c.args.seq).items) c.db.ensures.sequences) c.writes.result c.writes.ensures
