use Rattle.std.proofs.Common.{rules, ◌≡◌, ◌∙◌, ℕ, ◌-◌, ◌<◌, Some, List, ◌∷◌, [], ◌++◌, length, take, get_or, sym, ap, subst, arith}
use Rattle.std.proofs.lemmas.List.{take_all}
use Rattle.std.proofs.lemmas.Option.{slice_get-get_or}
use Rattle.std.proofs.lemmas.Slice.Zip.{AllZip-long}
use Rattle.packed_snapshots.specs.declared.snapshot.PlainSnapshot.{PlainSnapshot as Plain}
use Rattle.packed_snapshots.specs.declared.snapshot.Place.{Place}
use Rattle.packed_snapshots.specs.Snapshots.{start, last_place, IsBehind}
use Rattle.packed_snapshots.specs.Packed.{IsPacked}
use Rattle.place_walk.specs.declared.stand.Stand.{Stand}
use Rattle.waiting_stands.specs.Layouts.{IsStandOf}
use Rattle.packed_snapshots.proofs.SnapshotLemmas.{last_place-append}
use Rattle.waiting_stands.proofs.LayoutLemmas.{seen-at, IsNext, is-next, IsRead, is-read, read_at, read-is, read-place}
use Rattle.waiting_stands.proofs.packing.pack.Goals as goal
use Rattle.mine_model.proofs.ElementLemmas.{take-next}

pub last_up_to-grid-requires-clause-within : goal.last_up_to-grid-requires-clause-within
last_up_to-grid-requires-clause-within c =
    let (list, are) = c.requires.stands in
    let next = is-next c.args.sequences.now c.args.starts.now list c.args.stands c.loop-index.index c.loop-index.grid c.loop-index.before c.get-stand.result
    c.requires.layout are c.get-stand.ensures (c.loop-index.invariant.before list are) c.loop-index.invariant.reached in
    next.within

pub last_up_to-grid-requires-clause-not_above : goal.last_up_to-grid-requires-clause-not_above
last_up_to-grid-requires-clause-not_above c =
    let (list, are) = c.requires.stands in
    let next = is-next c.args.sequences.now c.args.starts.now list c.args.stands c.loop-index.index c.loop-index.grid c.loop-index.before c.get-stand.result
    c.requires.layout are c.get-stand.ensures (c.loop-index.invariant.before list are) c.loop-index.invariant.reached in
    next.not_above

pub overflow_cast-next : goal.overflow_cast-next
overflow_cast-next c =
    let (list, are) = c.requires.stands in
    let next : IsNext c.args.sequences.now c.args.starts.now list c.loop-index.index c.loop-index.grid c.loop-index.before c.get-stand.result =
    is-next c.args.sequences.now c.args.starts.now list c.args.stands c.loop-index.index c.loop-index.grid c.loop-index.before c.get-stand.result
    c.requires.layout are c.get-stand.ensures (c.loop-index.invariant.before list are) c.loop-index.invariant.reached in
    let read : IsRead c.args.sequences.now c.args.starts.now next.one c.get-stand.result c.last_up_to-grid.result =
    is-read c.args.sequences.now c.args.starts.now next.one c.get-stand.result c.last_up_to-grid.result c.requires.layout next.is c.last_up_to-grid.ensures in
    let small : c.get-stand.result.place - get_or c.args.starts.now c.last_up_to-grid.result 0 < 65536 = omega (arith, read.position, next.near) in
    search rules

pub push-requires : goal.push-requires
push-requires c =
    let (list, are) = c.requires.stands in
    let next : IsNext c.args.sequences.now c.args.starts.now list c.loop-index.index c.loop-index.grid c.loop-index.before c.get-stand.result =
    is-next c.args.sequences.now c.args.starts.now list c.args.stands c.loop-index.index c.loop-index.grid c.loop-index.before c.get-stand.result
    c.requires.layout are c.get-stand.ensures (c.loop-index.invariant.before list are) c.loop-index.invariant.reached in
    subst (IsBehind c.loop-index.before)
    (sym (read-place c.args.sequences.now c.args.starts.now next.one c.get-stand.result c.last_up_to-grid.result c.args.seen c.requires.layout next.is c.last_up_to-grid.ensures))
    next.behind

pub loop-index-preserved : goal.loop-index-preserved
loop-index-preserved c =
    let sequences = c.args.sequences.now in
    let starts = c.args.starts.now in
    let index : ℕ = c.loop-index.index in
    let stand : Stand = c.get-stand.result in
    let at : ℕ = c.last_up_to-grid.result in
    let pushed : Plain = read_at sequences starts at stand c.args.seen in
    record {
      packed = λ list are seen.
          let next : IsNext sequences starts list index c.loop-index.grid c.loop-index.before stand =
          is-next sequences starts list c.args.stands index c.loop-index.grid c.loop-index.before stand
          c.requires.layout are c.get-stand.ensures (c.loop-index.invariant.before list are) c.loop-index.invariant.reached in
          let has : next.one.seen ≡ c.args.seen = seen-at list index next.one c.args.seen seen next.one_is in
          let is : pushed ≡ next.one = read-is sequences starts next.one stand at c.args.seen c.requires.layout next.is c.last_up_to-grid.ensures has in
          let more = c.in_ok-push.ensures.ok (take index list) (c.loop-index.invariant.packed list are seen) (c.loop-index.invariant.before list are) in
          subst (λ (l : List Plain). IsPacked l c.push.new.bytes.items) (sym (take-next list index next.one next.one_is))
          (subst (λ (one : Plain). IsPacked (take index list ++ one ∷ []) c.push.new.bytes.items) is more.0);
      before = λ list are.
          let next : IsNext sequences starts list index c.loop-index.grid c.loop-index.before stand =
          is-next sequences starts list c.args.stands index c.loop-index.grid c.loop-index.before stand
          c.requires.layout are c.get-stand.ensures (c.loop-index.invariant.before list are) c.loop-index.invariant.reached in
          ap last_place (take-next list index next.one next.one_is)
          ∙ (last_place-append start (take index list) next.one
          ∙ (sym (read-place sequences starts next.one stand at c.args.seen c.requires.layout next.is c.last_up_to-grid.ensures) ∙ sym c.place-before.ensures));
      reached = record {
        none = λ first. absurd (omega (arith, first));
        some = λ later.
            let (list, are) = c.requires.stands in
            let next : IsNext sequences starts list index c.loop-index.grid c.loop-index.before stand =
            is-next sequences starts list c.args.stands index c.loop-index.grid c.loop-index.before stand
            c.requires.layout are c.get-stand.ensures (c.loop-index.invariant.before list are) c.loop-index.invariant.reached in
            let read : IsRead sequences starts next.one stand at = is-read sequences starts next.one stand at c.requires.layout next.is c.last_up_to-grid.ensures in
            slice_get-get_or sequences at 0 read.within ∙ ap (λ (place : Place). Some place.sequence) (sym c.place-before.ensures);
      };
    }

pub returns : goal.returns
returns c = λ list are seen.
    let long : length c.args.stands ≡ length list = AllZip-long (IsStandOf c.args.sequences.now c.args.starts.now) list c.args.stands are.are in
    let whole : take c.loop-index.index list ≡ list = take_all c.loop-index.index list (omega (arith, long, c.loop-index-test.false, c.len-index-end.ensures)) in
    rw c.shrink_to_fit.ensures.items (subst (λ (l : List Plain). IsPacked l c.loop-index.bytes.items) whole (c.loop-index.invariant.packed list are seen))
