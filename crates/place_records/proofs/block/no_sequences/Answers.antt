use Rattle.place_records.proofs.BlockLemmas.{IsOver-none, IsBlock-none}
use Rattle.place_records.proofs.block.no_sequences.Goals as goal

pub returns-clause-over : goal.returns-clause-over
returns-clause-over g c = IsOver-none c.args.job.now c.args.bound c.args.tables c.args.kinds.now c.in_ok-twins_over.field-0 c.requires.alphabet.table_is c.requires.alphabet.kinds_are c.in_ok-twins_over.ensures

pub returns-clause-none : goal.returns-clause-none
returns-clause-none g c from =
    rw (c.new.ensures.items, c.new-2.ensures) (IsBlock-none c.args.job.now c.args.bound c.args.kinds.now from c.in_ok-twins_over.field-0.twins)
