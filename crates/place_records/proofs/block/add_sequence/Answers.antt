use Rattle.std.proofs.Common.{rules, ◌≡◌, ◌∙◌, ◌<◌, ◌+◌, ◌^◌, ℕ, List, true, false, length, arith, ap, sym, subst, true≢false}
use Rattle.std.specs.List.{All}
use Rattle.mine_model.specs.declared.item.Item.{Item}
use Rattle.mine_model.specs.Support.{Sequence}
use Rattle.mine_model.specs.Database.{sequence_at}
use Rattle.mining_job.specs.Problems.{items_of}
use Rattle.sequence_grids.specs.Grids.{Completes}
use Rattle.sequence_grids.specs.Kinds.{AreMet, Extends}
use Rattle.sequence_grids.specs.Places.{ArePlaces}
use Rattle.sequence_grids.proofs.GridLemmas.{items_within}
use Rattle.place_records.specs.Twins.{TwinSets}
use Rattle.place_records.specs.Filled.{AreHere, AreKnown}
use Rattle.place_records.specs.Blocks.{IsOver, IsBlock}
use Rattle.place_records.proofs.BlockLemmas.{IsOver-grow, IsBlock-skip, IsBlock-more}
use Rattle.place_records.proofs.block.add_sequence.Goals as goal

pub places_of-requires : goal.places_of-requires
places_of-requires g c =
    let same : c.sequence-items.result.now ≡ items_of c.args.job.now c.args.number =
    c.sequence-items.ensures.items ∙ ap (λ (sequences : List (Sequence Item)). (sequence_at sequences c.args.number).items) c.db.ensures.sequences in
    let width = c.requires.width in
    let over : IsOver c.args.job.now c.args.bound c.args.kinds.now c.args.block.now.twins = c.requires.over in
    let items : All (λ t. t.0 < c.args.job.now.hierarchy.items) c.sequence-items.result.now = rw same (items_within c.args.job.now c.db.ensures.whole c.args.number c.requires.number) in
    let met : AreMet c.args.kinds.now c.sequence-items.result.now = subst (AreMet c.args.kinds.now) (sym same) c.requires.met in
    search rules

pub returns-then-not-found-clause-block : goal.returns-then-not-found-clause-block
returns-then-not-found-clause-block g c from least block =
    let same : c.sequence-items.result.now ≡ items_of c.args.job.now c.args.number =
    c.sequence-items.ensures.items ∙ ap (λ (sequences : List (Sequence Item)). (sequence_at sequences c.args.number).items) c.db.ensures.sequences in
    let not_here : Completes c.args.job.now c.args.bound (items_of c.args.job.now c.args.number) 0 false → ⊥ = λ completes.
    let found : c.in_ok-found.found ≡ true = c.in_ok-found.ensures.completes.1 (subst (λ (xs : List Item). Completes c.args.job.now c.args.bound xs 0 false) (sym same) completes) in
    true≢false (sym found ∙ c.if-not-found.true) in
    subst (λ (twins : List TwinSets). IsBlock c.args.job.now c.args.bound c.args.kinds.now from (c.args.number + 1) twins c.args.block.now.sequences.items c.args.block.now.places) (sym c.places_of.ensures.twins)
    (IsBlock-skip c.args.job.now c.args.bound c.args.kinds.now from c.args.number c.args.block.now.twins.twins c.args.block.now.sequences.items c.args.block.now.places block not_here)

pub overflow_add-len : goal.overflow_add-len
overflow_add-len g c = omega (arith, c.len.ensures, c.requires.few, c.sequence-items.ensures.most)

pub fill_sequence-requires : goal.fill_sequence-requires
fill_sequence-requires g c =
    let over = c.places_of.ensures.over in
    let width = c.requires.width in
    let needed = over.needed_is in
    let table = over.table_is in
    let first = over.first in
    let room = c.places_of.new.room.items in
    let end : length room ≡ c.len-end.result = omega (arith, c.len-end.ensures) in
    let kept : ArePlaces c.args.job.now c.args.bound c.places_of.new.self.table c.args.kinds.now c.as_slice.result.now c.len-end.result c.sequence-items.result.now =
    rw c.as_slice.ensures.value (subst (λ (n : ℕ). ArePlaces c.args.job.now c.args.bound c.places_of.new.self.table c.args.kinds.now room n c.sequence-items.result.now) end c.in_ok-found.ensures.places) in
    let known : AreKnown c.places_of.new.self.twins c.args.block.now.places = subst (λ (twins : List TwinSets). AreKnown twins c.args.block.now.places) (sym c.places_of.ensures.twins) c.requires.known in
    search rules

pub returns-in_err-fill_sequence-clause-over : goal.returns-in_err-fill_sequence-clause-over
returns-in_err-fill_sequence-clause-over g c = IsOver-grow c.args.job.now c.args.bound c.args.kinds.now c.places_of.new.self c.fill_sequence.new.twins c.places_of.ensures.over c.fill_sequence.ensures.twins

pub returns-clause-over : goal.returns-clause-over
returns-clause-over g c = IsOver-grow c.args.job.now c.args.bound c.args.kinds.now c.places_of.new.self c.fill_sequence.new.twins c.places_of.ensures.over c.fill_sequence.ensures.twins

pub returns-clause-block : goal.returns-clause-block
returns-clause-block g c from least block =
    let same : c.sequence-items.result.now ≡ items_of c.args.job.now c.args.number =
    c.sequence-items.ensures.items ∙ ap (λ (sequences : List (Sequence Item)). (sequence_at sequences c.args.number).items) c.db.ensures.sequences in
    let twins = c.args.block.now.twins.twins in
    let places = c.args.block.now.places in
    let after = c.fill_sequence.new.twins.twins in
    let longer = c.fill_sequence.new.places in
    let made = c.in_ok-fill_sequence.ensures in
    let completes : Completes c.args.job.now c.args.bound (items_of c.args.job.now c.args.number) 0 false =
    subst (λ (xs : List Item). Completes c.args.job.now c.args.bound xs 0 false) same (c.in_ok-found.ensures.completes.0 c.if-not-found.false) in
    let grows : Extends twins after = subst (λ (before : List TwinSets). Extends before after) c.places_of.ensures.twins c.fill_sequence.ensures.twins.twins in
    let as_long : length c.sequence-items.result.now ≡ length (items_of c.args.job.now c.args.number) = ap length same in
    let long : length longer ≡ length places + length (items_of c.args.job.now c.args.number) + 1 = omega (arith, made.long, as_long) in
    let few : length longer < 2 ^ 32 = omega (arith, made.long, c.if-len-items.false, c.len.ensures) in
    let here : AreHere c.args.job.now c.args.bound after c.args.kinds.now (items_of c.args.job.now c.args.number) longer (length places) =
    subst (λ (xs : List Item). AreHere c.args.job.now c.args.bound after c.args.kinds.now xs longer (length places)) same made.here in
    rw c.in_ok-push.ensures.items
    (IsBlock-more c.args.job.now c.args.bound c.args.kinds.now from c.args.number twins c.args.block.now.sequences.items places block after longer least completes grows c.fill_sequence.ensures.grow long few made.known here)
