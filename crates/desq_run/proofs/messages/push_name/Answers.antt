use Rattle.std.proofs.Common.{refl, append_assoc}
use Rattle.desq_run.proofs.messages.push_name.Goals as goal

pub returns-in-Merged-clause-bytes : goal.returns-in-Merged-clause-bytes
returns-in-Merged-clause-bytes c =
    rw (c.in-Merged.is, c.push_number.ensures.bytes, c.push_str-in-Merged.ensures.bytes, c.from.ensures) (simp append_assoc refl)
