use Rattle.member_counts.proofs.BitLemmas.{bits_added}
use Rattle.member_counts.proofs.bits.add_bits.Goals as goal

pub returns : goal.returns
returns c = bits_added c.args.one c.args.two c.args.three
