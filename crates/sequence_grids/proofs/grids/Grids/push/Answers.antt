use Rattle.std.proofs.Common.{◌≡◌, ◌∙◌, ◌<◌, sym, ap, subst, arith, ℕ, List, length}
use Rattle.mine_model.specs.declared.item.Item.{Item}
use Rattle.mine_model.specs.Support.{Sequence}
use Rattle.mine_model.specs.Database.{sequence_at}
use Rattle.sequence_grids.specs.Grids.{GridList}
use Rattle.mining_job.specs.Problems.{items_of}
use Rattle.sequence_grids.specs.Places.{ArePlaces, AreGrids}
use Rattle.sequence_grids.proofs.GridLemmas.{items_within, AreGrids-grow, AreGrids-more}
use Rattle.sequence_grids.proofs.grids.Grids.push.Goals as goal

pub push_places-requires-clause-items : goal.push_places-requires-clause-items
push_places-requires-clause-items c =
    let same : c.sequence-items.result.now ≡ items_of c.self.inside.job.now c.args.seq =
    c.sequence-items.ensures.items ∙ ap (λ (sequences : List (Sequence Item)). (sequence_at sequences c.args.seq).items) c.db.ensures.sequences in
    let inside : c.args.seq < length c.self.inside.job.now.sequences = subst (λ (v : GridList). c.args.seq < length v.problem.sequences) (sym c.self.view_is) c.requires in
    rw same (items_within c.self.inside.job.now c.db.ensures.whole c.args.seq inside)

pub invariant_of-self-in_err-push_places : goal.invariant_of-self-in_err-push_places
invariant_of-self-in_err-push_places c =
    rw (c.in_ok-reserve.ensures.items, c.in_ok-reserve-2.ensures.items)
    (AreGrids-grow c.self.inside.job.now c.self.inside.bound c.self.inside.tables c.push_places.new.tables c.self.inside.kinds c.push_places.new.kinds c.self.inside.places.items c.push_places.new.places.items
    c.self.inside.ends.items c.self.inside.sequences.items c.self.invariant c.push_places.ensures.tables_grow c.push_places.ensures.kinds_grow c.push_places.ensures.places_grow c.push_places.ensures.kinds)

pub invariant_of-self-2 : goal.invariant_of-self-2
invariant_of-self-2 c =
    let same : c.sequence-items.result.now ≡ items_of c.self.inside.job.now c.args.seq =
    c.sequence-items.ensures.items ∙ ap (λ (sequences : List (Sequence Item)). (sequence_at sequences c.args.seq).items) c.db.ensures.sequences in
    let grown : AreGrids c.self.inside.job.now c.self.inside.bound c.push_places.new.tables c.push_places.new.kinds c.push_places.new.places.items c.self.inside.ends.items c.self.inside.sequences.items =
    AreGrids-grow c.self.inside.job.now c.self.inside.bound c.self.inside.tables c.push_places.new.tables c.self.inside.kinds c.push_places.new.kinds c.self.inside.places.items c.push_places.new.places.items
    c.self.inside.ends.items c.self.inside.sequences.items c.self.invariant c.push_places.ensures.tables_grow c.push_places.ensures.kinds_grow c.push_places.ensures.places_grow c.push_places.ensures.kinds in
    let end : length c.push_places.new.places.items ≡ c.len.result = omega (arith, c.len.ensures) in
    let one : ArePlaces c.self.inside.job.now c.self.inside.bound c.push_places.new.tables c.push_places.new.kinds c.push_places.new.places.items c.len.result (items_of c.self.inside.job.now c.args.seq) =
    subst (ArePlaces c.self.inside.job.now c.self.inside.bound c.push_places.new.tables c.push_places.new.kinds c.push_places.new.places.items c.len.result) same
    (subst (λ (n : ℕ). ArePlaces c.self.inside.job.now c.self.inside.bound c.push_places.new.tables c.push_places.new.kinds c.push_places.new.places.items n c.sequence-items.result.now) end
    c.in_ok-push_places.ensures.places) in
    rw (c.push_reserved.ensures.items, c.push_reserved-2.ensures.items, c.in_ok-reserve.ensures.items, c.in_ok-reserve-2.ensures.items)
    (AreGrids-more c.self.inside.job.now c.self.inside.bound c.push_places.new.tables c.push_places.new.kinds c.push_places.new.places.items c.self.inside.ends.items c.self.inside.sequences.items
    c.args.seq c.len.result grown one)
