use Rattle.std.proofs.Common.{sym, subst, Option}
use Rattle.command_line.specs.declared.share.Share.{Share}
use Rattle.desq_run.specs.Ends.{AreRowsTo}
use Rattle.desq_run.proofs.ExistenceLemmas.{accepted-answered}
use Rattle.desq_run.proofs.TextLemmas.{answer-text}
use Rattle.desq_run.proofs.laws.an_accepted_input_has_an_answer.Goals as goal

pub returns : goal.returns
returns c = record {
  answer = λ words input said mined none. accepted-answered words input said mined none;
  text = λ words input said mined whole unchecked none.
      let (answer, is) = accepted-answered words input said mined none in
      answer-text words input said mined none answer (subst (λ (share : Option Share). AreRowsTo share input.command.source input answer) (sym whole) is) input.command.task unchecked;
}
