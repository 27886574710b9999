use Rattle.std.proofs.Common.{◌≤◌, ◌<◌, ◌+◌, length, arith}
use Rattle.pattern_proof.specs.Finding.{Question, question_of}
use Rattle.pattern_proof.proofs.FindingLemmas.{last-ends, some-ends}
use Rattle.pattern_proof.proofs.search.ends.Goals as goal

pub returns-then-silent-written : goal.returns-then-silent-written
returns-then-silent-written c =
    let q : Question = question_of c.args.search.now in
    let cut = c.requires.search.cut in
    let fits : length q.pattern ≤ length q.items = omega (arith, cut) in
    let last = last-ends q fits c.args.silent c.args.written c.requires.place c.args.state.0 c.if-silent-written.true in
    ((λ yes. last.0 (c.is_final.ensures.0 yes)), (λ ends. c.is_final.ensures.1 (last.1 ends)))

pub returns-else-silent-written : goal.returns-else-silent-written
returns-else-silent-written c =
    let q : Question = question_of c.args.search.now in
    let cut = c.requires.search.cut in
    let fits : length q.pattern ≤ length q.items = omega (arith, cut) in
    let a = c.requires.place.read in
    let b = c.requires.place.wrote in
    let apart = c.if-silent-written.false in
    let more : c.args.silent + c.args.written < length q.items = omega (arith, a, b, fits, apart) in
    some-ends q fits c.args.silent c.args.written c.requires.place c.args.state.0 more c.next_edge.result c.is_some.result c.is_some.ensures c.next_edge.ensures
