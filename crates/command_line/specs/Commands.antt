-- What a command of the code says, in the words of its meaning.
use Rattle.std.specs.Prelude.{map, option_map, string_bytes}
use Rattle.command_line.specs.declared.words.Command.{Command as ReadCommand}
use Rattle.command_line.specs.declared.words.Source.{Source as ReadSource}
use Rattle.command_line.specs.declared.words.Source.TheVariants.{Read, Embed, Make, Merge}
use Rattle.command_line.specs.declared.words.Task.{Task as ReadTask}
use Rattle.command_line.specs.declared.words.Task.TheVariants.{Mine, Prove, Check}
use Rattle.command_line.specs.Words.{Command, Source, Task, read, embed, make, merge, mine, prove, check}

abbrev pub source_said : ReadSource → Source
source_said (Read expression file) = read (string_bytes expression) (string_bytes file)
source_said (Embed rule file) = embed rule (string_bytes file)
source_said (Make count expression) = make count (string_bytes expression)
source_said (Merge files) = merge (map string_bytes files.items)

abbrev pub task_said : ReadTask → Task
task_said Mine = mine
task_said Prove = prove
task_said (Check proof) = check (string_bytes proof)

abbrev pub command_said : ReadCommand → Command
command_said said = record {
  threshold = said.threshold;
  source = source_said said.source;
  hierarchy = option_map string_bytes said.hierarchy;
  weighted = said.weighted;
  engine = said.engine;
  workers = said.workers;
  seed = said.seed;
  share = said.share;
  stats = said.stats;
  task = task_said said.task;
}
