use Rattle.std.proofs.Common.{◌∙◌, ap, List, [], Option, codes, unwrap_or}
use Rattle.clap.specs.Words.{Text, found_of}
use Rattle.clap.proofs.WalkLemmas.{raw_values-rows}
use Rattle.command_line.proofs.words.given_names.Goals as goal

pub returns : goal.returns
returns c = ap (λ (o : Option (List Text)). unwrap_or o []) (c.get_raw.ensures ∙ raw_values-rows (found_of c.args.matches.now) (codes "file"))
