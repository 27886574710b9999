use Rattle.part_windows.proofs.KeyLemmas.{merged-entries}
use Rattle.part_windows.proofs.laws.equal_keys_make_entries.Goals as goal

pub returns : goal.returns
returns c = λ problem bound key sequences entries is_key are. merged-entries key problem bound entries sequences is_key are
