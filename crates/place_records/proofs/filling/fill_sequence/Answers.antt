use Rattle.std.proofs.Common.{rules, ◌≡◌, ◌∙◌, ◌<◌, [], ◌∷◌, ◌++◌, length, arith, ap, sym, subst}
use Rattle.std.proofs.lemmas.List.{length-append}
use Rattle.std.proofs.lemmas.Option.{slice_get_within}
use Rattle.mine_model.proofs.ElementLemmas.{get-some}
use Rattle.sequence_grids.specs.Places.{IsTableOf, ArePlaces}
use Rattle.sequence_grids.specs.Tables.{TableValue}
use Rattle.sequence_grids.proofs.KindLemmas.{Extends-nothing, Extends-twice}
use Rattle.place_records.specs.Records.{goes_with}
use Rattle.place_records.specs.Twins.{dead_twin}
use Rattle.place_records.specs.Filled.{wall_record}
use Rattle.place_records.proofs.NumberLemmas.{TwinsGrow-twice}
use Rattle.place_records.proofs.FillLemmas.{AreUpTo-more, AreKnown-more, AreHere-all, first-kept}
use Rattle.place_records.proofs.filling.fill_sequence.Goals as goal

pub record_at-requires : goal.record_at-requires
record_at-requires g c =
    let before = c.loop-position.invariant.twins in
    let width = c.requires.width in
    let needed : c.loop-position.twins.needed ≡ goes_with c.args.bound.need = before.needed ∙ c.requires.needed in
    let table : IsTableOf c.args.job.now c.loop-position.twins.table = subst (IsTableOf c.args.job.now) (sym before.table) c.requires.table in
    let kept : ArePlaces c.args.job.now c.args.bound c.loop-position.twins.table c.args.kinds.now c.args.kept.now c.args.end c.args.items.now =
    subst (λ (v : TableValue). ArePlaces c.args.job.now c.args.bound v c.args.kinds.now c.args.kept.now c.args.end c.args.items.now) (sym before.table) c.requires.kept in
    let inside : c.loop-position.position < length c.args.items.now = c.loop-position-test.true in
    search rules

pub loop-position-preserved : goal.loop-position-preserved
loop-position-preserved g c =
    let before = c.loop-position.invariant in
    let entry = c.in_ok-entry.entry in
    let pushed = c.in_ok-push.ensures.pushed in
    let (t, there) = get-some c.args.items.now c.loop-position.position c.loop-position-test.true in
    let is = c.in_ok-entry.ensures.entry t there in
    let long : length c.push.new.self ≡ length (c.loop-position.places ++ entry ∷ []) = ap length pushed in
    let longer = length-append c.loop-position.places (entry ∷ []) in
    let was = before.long in
    record {
      twins = TwinsGrow-twice c.args.twins.now c.loop-position.twins c.record_at.new.twins before.twins c.record_at.ensures.twins;
      grow = Extends-twice c.args.places.now c.loop-position.places c.push.new.self before.grow (entry ∷ [], pushed);
      long = omega (arith, long, longer, was);
      known = AreKnown-more c.loop-position.twins.twins c.record_at.new.twins.twins c.loop-position.places c.push.new.self entry before.known c.record_at.ensures.twins.twins pushed
          (slice_get_within c.record_at.new.twins.twins entry.of is.twin is.there);
      here = AreUpTo-more c.args.job.now c.args.bound c.loop-position.twins.twins c.record_at.new.twins.twins c.args.kinds.now c.args.items.now c.loop-position.places c.push.new.self (length c.args.places.now)
          c.loop-position.position entry before.here c.record_at.ensures.twins.twins pushed before.long c.in_ok-entry.ensures.entry;
    }

pub returns-clause-known : goal.returns-clause-known
returns-clause-known g c =
    let twins = c.loop-position.twins.twins in
    AreKnown-more twins twins c.loop-position.places c.push_wall.new.places wall_record c.loop-position.invariant.known (Extends-nothing twins) c.in_ok-push_wall.ensures.pushed
    (slice_get_within twins 0 dead_twin (first-kept c.args.twins.now.twins twins c.requires.first c.loop-position.invariant.twins.twins))

pub returns-clause-here : goal.returns-clause-here
returns-clause-here g c =
    let all : length c.args.items.now ≡ c.loop-position.position = omega arith in
    AreHere-all c.args.job.now c.args.bound c.loop-position.twins.twins c.args.kinds.now c.args.items.now c.loop-position.places c.push_wall.new.places (length c.args.places.now) c.loop-position.position
    c.loop-position.invariant.here all c.in_ok-push_wall.ensures.pushed c.loop-position.invariant.long
    (first-kept c.args.twins.now.twins c.loop-position.twins.twins c.requires.first c.loop-position.invariant.twins.twins)
