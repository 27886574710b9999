use Rattle.std.proofs.Common.{◌≡◌, ◌+◌, ◌≤◌, ◌<◌, List, length, get_or, sym, ap, ◌∙◌, subst, arith}
use Rattle.mine_model.specs.declared.item.Item.{Item}
use Rattle.mine_model.specs.Database.{sequence_at}
use Rattle.mine_model.specs.Support.{Sequence}
use Rattle.fst_compile.specs.Transducer.{Transducer}
use Rattle.mining_job.specs.Problems.{Problem, items_of}
use Rattle.pattern_proof.specs.Rooms.{HasRoom}
use Rattle.pattern_proof.proofs.proof_writer.ProofWriter.new.Goals as goal

pub invariant_of-result : goal.invariant_of-result
invariant_of-result c =
    let problem : Problem = c.args.job.now in
    let same : c.db.result.now ≡ problem.sequences = c.db.ensures.sequences in
    let states : c.states.result ≡ length problem.transducer.labels + 1 = c.states.ensures.states ∙ ap (λ (m : Transducer). length m.labels + 1) c.fst.ensures.transducer in (
      c.requires.frequent,
      c.requires.named,
      c.in_ok-lists_of.ensures,
      (λ k d inside place within.
          let own : place < length c.db.result.now = subst (λ (s : List (Sequence Item)). place < length s) (sym same) within in
          let longest : length (items_of problem place) ≤ c.longest_sequence-items.result =
          subst (λ (s : List (Sequence Item)). length (sequence_at s place).items ≤ c.longest_sequence-items.result) same (c.longest_sequence-items.ensures.longest place own) in
          subst (λ n. HasRoom c.in_ok-new.field-0 n (length (items_of problem place)) (length (get_or c.args.rows.now k d).pattern)) states
          (c.in_ok-new.ensures (length (items_of problem place)) (length (get_or c.args.rows.now k d).pattern) longest (c.longest_pattern-pattern.ensures k d inside))),
      (let long = c.in_ok-vec.ensures.len in omega (arith, long)),
    )
