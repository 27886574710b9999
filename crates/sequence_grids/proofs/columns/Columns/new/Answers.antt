use Rattle.std.proofs.Common.{◌≡◌, ◌∙◌, ◌+◌, ◌∷◌, [], arith, length}
use Rattle.std.proofs.lemmas.List.{length-append}
use Rattle.sequence_grids.proofs.ColumnLemmas.{numbers_more}
use Rattle.sequence_grids.proofs.columns.Columns.new.Goals as goal

pub loop-k-preserved : goal.loop-k-preserved
loop-k-preserved c =
    let so_far = c.loop-k.invariant in
    let least = so_far.least in
    let long = so_far.long in
    record {
      least = omega arith;
      heads = c.column_of.ensures.heads;
      long = rw c.in_ok-push-2.ensures.items (omega (arith, length-append c.loop-k.numbers.items (c.in_ok-number.number ∷ [])));
      numbers = rw c.in_ok-push-2.ensures.items (numbers_more c.args.fst.now.labels c.loop-k.heads.items c.column_of.new.heads.items c.loop-k.numbers.items c.loop-k.k c.in_ok-number.number
          so_far.long so_far.numbers c.column_of.ensures.grow c.in_ok-number.ensures.column);
    }

pub returns : goal.returns
returns c =
    let so_far = c.loop-k.invariant in
    let long = so_far.long in
    let last : c.loop-k.k ≡ length c.args.fst.now.labels + 1 = omega (arith, c.states-k-end.ensures.states, c.loop-k-test.false, c.loop-k.auto.k-end) in
    record {
      all = long ∙ last;
      heads_are = so_far.heads;
      numbers_are = λ k least most. so_far.numbers k least (omega arith);
    }
