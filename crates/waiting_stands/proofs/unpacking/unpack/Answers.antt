use Rattle.std.proofs.Common.{rules, ◌≡◌, ◌∙◌, ℕ, ◌+◌, ◌<◌, None, List, ◌∷◌, [], ◌++◌, append_assoc, length, get_or, sym, ap, subst, arith}
use Rattle.std.specs.List.{AllZip}
use Rattle.std.proofs.lemmas.Slice.Zip.{all_zipped_more, AllZip-long}
use Rattle.packed_snapshots.specs.declared.snapshot.PlainSnapshot.{PlainSnapshot as Plain}
use Rattle.place_walk.specs.declared.stand.Stand.{Stand}
use Rattle.waiting_stands.specs.Layouts.{IsStandOf, AreMarked}
use Rattle.waiting_stands.proofs.MarkLemmas.{IsComing, is-coming, is-marked, marked-more, last-more, stand-at, found-at, forward-to}
use Rattle.waiting_stands.proofs.unpacking.unpack.Goals as goal

pub last_in_rising-at-requires-clause-within : goal.last_in_rising-at-requires-clause-within
last_in_rising-at-requires-clause-within c =
    let (list, packed, have) = c.requires.packed in
    let whole : c.loop-next.yielded ++ c.in-Some.next ∷ c.next.new.self ≡ list =
    ap (λ (rest : List Plain). c.loop-next.yielded ++ rest) (sym c.in-Some.ensures.steps) ∙ c.loop-next.invariant.seen list packed in
    let coming = is-coming c.args.sequences.now c.args.starts.now c.loop-next.yielded c.in-Some.next c.next.new.self list c.loop-next.grid c.loop-next.first
    c.requires.layout packed.rising have whole c.loop-next.invariant.reached in
    coming.within

pub last_in_rising-at-requires-clause-not_above : goal.last_in_rising-at-requires-clause-not_above
last_in_rising-at-requires-clause-not_above c =
    let (list, packed, have) = c.requires.packed in
    let whole : c.loop-next.yielded ++ c.in-Some.next ∷ c.next.new.self ≡ list =
    ap (λ (rest : List Plain). c.loop-next.yielded ++ rest) (sym c.in-Some.ensures.steps) ∙ c.loop-next.invariant.seen list packed in
    let coming = is-coming c.args.sequences.now c.args.starts.now c.loop-next.yielded c.in-Some.next c.next.new.self list c.loop-next.grid c.loop-next.first
    c.requires.layout packed.rising have whole c.loop-next.invariant.reached in
    coming.not_above

pub overflow_add-starts : goal.overflow_add-starts
overflow_add-starts c =
    let (list, packed, have) = c.requires.packed in
    let whole : c.loop-next.yielded ++ c.in-Some.next ∷ c.next.new.self ≡ list =
    ap (λ (rest : List Plain). c.loop-next.yielded ++ rest) (sym c.in-Some.ensures.steps) ∙ c.loop-next.invariant.seen list packed in
    let coming : IsComing c.args.sequences.now c.args.starts.now c.loop-next.yielded c.in-Some.next c.loop-next.grid c.loop-next.first =
    is-coming c.args.sequences.now c.args.starts.now c.loop-next.yielded c.in-Some.next c.next.new.self list c.loop-next.grid c.loop-next.first
    c.requires.layout packed.rising have whole c.loop-next.invariant.reached in
    let place : coming.has.stand.place ≡ get_or c.args.starts.now c.last_in_rising-at.result 0 + c.in-Some.next.position =
    stand-at c.args.sequences.now c.args.starts.now c.in-Some.next coming.has.stand c.last_in_rising-at.result c.requires.layout coming.has.is c.last_in_rising-at.ensures in
    let fits : get_or c.args.starts.now c.last_in_rising-at.result 0 + c.in-Some.next.position < 4294967296 = omega (arith, place, coming.has.fits) in
    search rules

pub loop-next-preserved : goal.loop-next-preserved
loop-next-preserved c =
    let sequences = c.args.sequences.now in
    let starts = c.args.starts.now in
    let yielded : List Plain = c.loop-next.yielded in
    let next : Plain = c.in-Some.next in
    let at : ℕ = c.last_in_rising-at.result in
    let (list, packed, have) = c.requires.packed in
    let whole : yielded ++ next ∷ c.next.new.self ≡ list =
    ap (λ (rest : List Plain). yielded ++ rest) (sym c.in-Some.ensures.steps) ∙ c.loop-next.invariant.seen list packed in
    let coming : IsComing sequences starts yielded next c.loop-next.grid c.loop-next.first =
    is-coming sequences starts yielded next c.next.new.self list c.loop-next.grid c.loop-next.first c.requires.layout packed.rising have whole c.loop-next.invariant.reached in
    let found = found-at sequences starts next coming.has.stand at c.requires.layout coming.has.is c.last_in_rising-at.ensures in
    let forward = forward-to sequences starts next coming.has.stand c.loop-next.grid at c.requires.layout coming.has.is c.last_in_rising-at.ensures coming.within coming.not_above in
    let stand : Stand = record { place = get_or starts at 0 + next.position; state = next.state; first = c.begins.result } in
    let of : IsStandOf sequences starts next stand = record {
      grid = coming.has.is.grid;
      sequence = coming.has.is.sequence;
      place = sym (stand-at sequences starts next coming.has.stand at c.requires.layout coming.has.is c.last_in_rising-at.ensures) ∙ coming.has.is.place;
      room = λ following there.
          let place = stand-at sequences starts next coming.has.stand at c.requires.layout coming.has.is c.last_in_rising-at.ensures in
          let room = coming.has.is.room following there in
          omega (arith, place, room);
      state = search rules;
    } in
    let mark = is-marked sequences starts yielded next c.loop-next.grid at c.loop-next.first c.begins.result c.requires.layout c.loop-next.invariant.reached coming found forward c.begins.ensures in
    let pushed : c.push.new.self.items ≡ c.loop-next.stands.items ++ stand ∷ [] = c.in_ok-push.ensures.items in
    let long : length c.loop-next.stands.items ≡ length yielded = AllZip-long (IsStandOf sequences starts) yielded c.loop-next.stands.items c.loop-next.invariant.stands in
    record {
      seen = λ other is. append_assoc yielded (next ∷ []) c.next.new.self ∙ (ap (λ (rest : List Plain). yielded ++ rest) (sym c.in-Some.ensures.steps) ∙ c.loop-next.invariant.seen other is);
      stands = subst (AllZip (IsStandOf sequences starts) (yielded ++ next ∷ [])) (sym pushed)
          (all_zipped_more (IsStandOf sequences starts) yielded c.loop-next.stands.items next stand c.loop-next.invariant.stands of);
      marks = subst (AreMarked None (yielded ++ next ∷ [])) (sym pushed) (marked-more None yielded c.loop-next.stands.items next stand long c.loop-next.invariant.marks mark);
      reached = record { none = λ same. absurd (cc); some = λ same. (next.sequence, last-more None yielded next, found) };
    }
