use Rattle.pattern_proof.proofs.FieldLemmas.{file-names}
use Rattle.pattern_proof.proofs.laws.names_in_files_are_names_of_files.Goals as goal

pub returns : goal.returns
returns c = file-names
