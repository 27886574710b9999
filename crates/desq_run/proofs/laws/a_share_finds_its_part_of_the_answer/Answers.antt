use Rattle.desq_run.proofs.SharedLemmas.{some-part}
use Rattle.desq_run.proofs.laws.a_share_finds_its_part_of_the_answer.Goals as goal

pub returns : goal.returns
returns c input share answer part is is_part = some-part input.command.source input share answer part is is_part
