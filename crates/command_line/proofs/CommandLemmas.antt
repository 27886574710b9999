-- What words say is one thing: a command, and no other, or none.
use Rattle.std.proofs.Common.{◌≡◌, ◌∙◌, ◌↔◌, rules, refl, sym, ap, inl, inr, ℕ, Bool, true, false, IsTrue, List, Option, Some, None, codes}
use Rattle.std.proofs.lemmas.Option.{none-some, same_Some}
use Rattle.clap.specs.Words.{Row, Text}
use Rattle.command_line.specs.Options.{rows}
use Rattle.command_line.specs.Words.{Command, GivesMerge, GivesSeed, GivesShare, GivesSource, GivesTask, IsCommand, IsGiven, IsOfFile, IsProvable, IsUsage, Source, SuitsTask, Task, check, embed, make, merge, mine, prove, read}
use Rattle.command_line.specs.declared.share.Share.{Share}
use Rattle.command_line.proofs.ShareTexts.{given-share-unique}

given-task-unique : (found : List Row) (a b : Task) → GivesTask found a → GivesTask found b → a ≡ b
given-task-unique found mine mine p q = refl
given-task-unique found mine prove p q = absurd (p.0 q.0)
given-task-unique found mine (check proof) p q = absurd (none-some proof (sym p.1 ∙ q.given))
given-task-unique found prove mine p q = absurd (q.0 p.0)
given-task-unique found prove prove p q = refl
given-task-unique found prove (check proof) p q = absurd (q.only p.0)
given-task-unique found (check proof) mine p q = absurd (none-some proof (sym q.1 ∙ p.given))
given-task-unique found (check proof) prove p q = absurd (p.only q.0)
given-task-unique found (check proof) (check other) p q = ap check (same_Some proof other (sym p.given ∙ q.given))

pub IsCommand-unique : (words : List Text) (first second : Command) → IsCommand words first → IsCommand words second → first ≡ second
IsCommand-unique words first second a b =
    let shares : first.share ≡ second.share = given-share-unique (rows words) first.share second.share a.says.mode.shared b.says.mode.shared in
    let tasks : first.task ≡ second.task = given-task-unique (rows words) first.task second.task a.says.task b.says.task in
    search rules

pub IsUsage-excludes : (words : List Text) (command : Command) → IsUsage words → IsCommand words command → ⊥
IsUsage-excludes words command (inl refused) is = refused is.taken
IsUsage-excludes words command (inr broken) is = broken is.rules

-- beside a proof nothing is mined but an expression in a file
read_alone : (found : List Row) (source : Source) → IsProvable found → ((files : List Text) → GivesMerge found files → ⊥) → GivesSource found source
    → (expression : Text) × (file : Text) × (source ≡ read expression file)
read_alone found (read expression file) p unmerged gives = (expression, file, refl)
read_alone found (embed rule file) p unmerged gives = absurd (none-some gives.3.digits (sym p.gap ∙ gives.3.given))
read_alone found (make count expression) p unmerged gives = absurd (none-some gives.1.digits (sym p.generated ∙ gives.1.given))
read_alone found (merge files) p unmerged gives = absurd (unmerged files gives)

no_share : (found : List Row) (share : Option Share) → IsProvable found → GivesShare found share → share ≡ None
no_share found None p gives = refl
no_share found (Some share) p gives = absurd (none-some gives.0 (sym p.split ∙ gives.1))

no_seed : (found : List Row) (seed : Option ℕ) → GivesSeed found None → GivesSeed found seed → seed ≡ None
no_seed found None away gives = refl
no_seed found (Some n) away gives = absurd (none-some gives.0 (sym away ∙ gives.1))

not_told : (told : Bool) (P : Type 0) → IsTrue told ↔ P → (P → ⊥) → told ≡ false
not_told true P same away = absurd (away (same.0 refl))
not_told false P same away = refl

of_file : (words : List Text) (command : Command) → IsCommand words command → IsProvable (rows words)
    → ((files : List Text) → GivesMerge (rows words) files → ⊥) → IsOfFile command
of_file words command is p unmerged =
    let source = read_alone (rows words) command.source p unmerged is.says.source in
    record { expression = source.0; file = source.1; source = source.2; share = no_share (rows words) command.share p is.says.mode.shared }

suits : (words : List Text) (command : Command) → IsCommand words command → (task : Task) → GivesTask (rows words) task → SuitsTask task command
suits words command is mine gives = tt
suits words command is prove gives = of_file words command is gives.2 (λ files m. m.alone.proof gives.0)
suits words command is (check proof) gives = (
  of_file words command is gives.provable (λ files m. none-some proof (sym m.alone.check ∙ gives.given)),
  no_seed (rows words) command.seed gives.simulate is.says.mode.given,
  not_told command.stats (IsGiven (rows words) (codes "stats")) is.says.stats gives.stats,
)

-- what a command says suits its task
pub task_suits : (words : List Text) (command : Command) → IsCommand words command → SuitsTask command.task command
task_suits words command is = suits words command is command.task is.says.task
