use Rattle.std.proofs.Common.{◌≡◌, ◌+◌, ◌-◌, ◌∙◌, ℕ, drop, length, sym, subst, arith, refl}
use Rattle.std.specs.List.{All, slice_range}
use Rattle.std.proofs.lemmas.List.Elements.{All-take, All-drop}
use Rattle.stand_sums.specs.declared.sum.Counted.{Counted}
use Rattle.stand_sums.specs.Writings.{IsReadable}
use Rattle.stand_sums.specs.Sequences.{weight_of}
use Rattle.stand_sums.proofs.PartLemmas.{counted-start, counted-more, counted-all, front-weight, blank}
use Rattle.stand_sums.proofs.SumLemmas.{more-sums}
use Rattle.stand_sums.proofs.counting.count_all.Goals as goal

pub sequences-init : goal.sequences-init
sequences-init g c = record {
  room = refl;
  sums = c.requires.sums;
  within = omega arith;
  counted = λ sequences are. counted-start (g.T.Outputs.ranks c.args.table.now) c.args.aim c.args.weights.now c.args.visits.now sequences c.args.sums.now are;
}

pub count_sequence-requires-clause-readable : goal.count_sequence-requires-clause-readable
count_sequence-requires-clause-readable g c =
    let readable = IsReadable (g.T.Outputs.ranks c.args.table.now) (g.T.Outputs.CanAsk c.args.table.now) (length c.args.sums.now) in
    let part : All readable (slice_range c.args.visits.now c.sequences.from c.sequence_end-end.result) =
    All-take readable (c.sequence_end-end.result - c.sequences.from) (drop c.sequences.from c.args.visits.now) (All-drop readable c.sequences.from c.args.visits.now c.requires.readable) in
    subst (λ (n : ℕ). All (IsReadable (g.T.Outputs.ranks c.args.table.now) (g.T.Outputs.CanAsk c.args.table.now) n) (slice_range c.args.visits.now c.sequences.from c.sequence_end-end.result)) (sym c.sequences.invariant.room) part

pub count_sequence-requires-clause-sums : goal.count_sequence-requires-clause-sums
count_sequence-requires-clause-sums g c =
    let next : c.in_ok-number.field-0 ≡ c.sequences.number + 1 = c.in_ok-number.ensures in
    more-sums c.sequences.number c.in_ok-number.field-0 c.sequences.sums c.sequences.touched.items (omega arith) c.sequences.invariant.sums

pub sequences-preserved : goal.sequences-preserved
sequences-preserved g c =
    let ranks = g.T.Outputs.ranks c.args.table.now in
    let next : c.in_ok-number.field-0 ≡ c.sequences.number + 1 = c.in_ok-number.ensures in
    let ends = c.sequence_end-end.ensures in
    let counted : Counted = record { number = c.in_ok-number.field-0; weight = c.weight_of-weight.result } in
    let weight : c.weight_of-weight.result ≡ weight_of c.args.weights.now (slice_range c.args.visits.now c.sequences.from c.sequence_end-end.result) =
    c.weight_of-weight.ensures ∙ sym (front-weight c.args.weights.now c.args.visits.now c.sequences.from c.sequence_end-end.result blank ends.some ends.within) in
    record {
      room = c.in_ok-count_sequence.ensures.room ∙ c.sequences.invariant.room;
      sums = c.in_ok-count_sequence.ensures.sums;
      within = ends.within;
      counted = λ sequences are.
          counted-more ranks c.args.aim c.args.weights.now c.args.visits.now c.sequences.from c.sequence_end-end.result sequences c.args.sums.now c.sequences.sums c.count_sequence.new.sums
          c.sequences.number counted (c.sequences.invariant.counted sequences are) ends c.sequences.invariant.room c.sequences.invariant.sums.right (omega arith) weight
          c.in_ok-count_sequence.ensures.counted;
    }

pub returns-clause-counted : goal.returns-clause-counted
returns-clause-counted g c sequences are rank before after at also =
    counted-all (g.T.Outputs.ranks c.args.table.now) c.args.aim c.args.weights.now c.args.visits.now c.sequences.from sequences c.args.sums.now c.sequences.sums
    (c.sequences.invariant.counted sequences are) c.sequences-test.false rank before after at also
