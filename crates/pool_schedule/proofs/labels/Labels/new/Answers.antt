use Rattle.std.proofs.Common.{[], length, ap, ◌∙◌, sym}
use Rattle.pool_schedule.specs.FrontCoding.{labels_by, last_by, fresh_in}
use Rattle.pool_schedule.proofs.CodingLemmas.{fresh_in-none, labels_by-none, last_by-none}
use Rattle.pool_schedule.proofs.labels.Labels.new.Goals as goal

pub invariant_of-result : goal.invariant_of-result
invariant_of-result c = record {
  whole = ap fresh_in c.new.ensures.items ∙ fresh_in-none ∙ ap length (sym c.new-2.ensures.items);
  last = ap (λ codes. last_by [] codes c.new-2.result.items) c.new.ensures.items ∙ last_by-none [] c.new-2.result.items ∙ sym c.new-3.ensures.items;
}

pub returns : goal.returns
returns c = ap (λ codes. labels_by [] codes c.new-2.result.items) c.new.ensures.items ∙ labels_by-none [] c.new-2.result.items
