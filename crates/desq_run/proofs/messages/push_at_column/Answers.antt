use Rattle.std.proofs.Common.{refl, append_assoc}
use Rattle.desq_run.proofs.messages.push_at_column.Goals as goal

pub returns-clause-text : goal.returns-clause-text
returns-clause-text c =
    rw (c.push_str-2.ensures.bytes, c.push_number.ensures.bytes, c.push_str.ensures.bytes, c.from.ensures) (simp append_assoc refl)
