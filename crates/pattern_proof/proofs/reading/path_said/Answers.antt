use Rattle.std.proofs.Common.{length, ap, arith}
use Rattle.fst_compile.specs.Transducer.{Transducer}
use Rattle.pattern_proof.proofs.JudgedLemmas.{path-said}
use Rattle.pattern_proof.proofs.reading.path_said.Goals as goal

pub returns : goal.returns
returns c =
    let sequences = ap length c.db.ensures.sequences in
    let count = c.sequences-sequences.ensures.count in let most = c.sequences-sequences.ensures.most in
    let labels = ap (λ (m : Transducer). length m.labels) c.fst.ensures.transducer in
    let states = c.states-states.ensures.states in let few = c.states-states.ensures.few in
    path-said c.args.job.now c.db.ensures.whole (omega (arith, sequences, count, most)) (omega (arith, labels, states, few)) c.args.text.now _ c.path_in.result c.path_in.ensures
