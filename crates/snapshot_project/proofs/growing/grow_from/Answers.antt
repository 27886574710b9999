use Rattle.std.proofs.Common.{◌≡◌, ◌∙◌, ◌+◌, ◌<◌, None, length, map, refl, sym, ap, arith}
use Rattle.std.proofs.lemmas.List.{length-map}
use Rattle.sequence_grids.specs.Grids.{GridList}
use Rattle.snapshot_project.specs.Ahead.{items_if}
use Rattle.snapshot_project.specs.Founds.{IsFoundIn}
use Rattle.snapshot_project.specs.Longer.{told_of, AreKept}
use Rattle.snapshot_project.specs.Stands.{StandList, standing}
use Rattle.snapshot_project.proofs.GrownLemmas.{empty-next, stands-for, grown-next, grown-each, grown-within}
use Rattle.snapshot_project.proofs.GrownAheadLemmas.{grown-longer, grown-count}
use Rattle.snapshot_project.proofs.growing.grow_from.Goals as goal

pub returns-then-len-eq0-clause-next : goal.returns-then-len-eq0-clause-next
returns-then-len-eq0-clause-next c ranks support projected =
    let none : length c.args.stands.now ≡ 0 = omega (arith, c.len.ensures, c.if-len-eq0.true) in
    rw c.new.ensures.items
    (empty-next c.args.part.now c.requires.is c.args.least c.requires.least ranks (standing c.args.aim.seen support c.args.stands.now) projected refl refl none)

pub find-requires-clause-known : goal.find-requires-clause-known
find-requires-clause-known c =
    let part : GridList = c.args.part.now in
    let any : 0 < length c.args.stands.now = omega (arith, c.len.ensures, c.if-len-eq0.false) in
    let (ranks, support, projected) = c.requires.projected in (
      part,
      c.requires.known,
      c.requires.room,
      stands-for part c.requires.is c.args.least c.requires.least ranks (standing c.args.aim.seen support c.args.stands.now) projected refl refl c.args.aim refl c.requires.need
          c.args.stands.now refl any,
    )

pub longer_by-requires-clause-within : goal.longer_by-requires-clause-within
longer_by-requires-clause-within c filed =
    let part : GridList = c.args.part.now in
    let any : 0 < length c.args.stands.now = omega (arith, c.len.ensures, c.if-len-eq0.false) in
    let most : length part.problem.ranking.order < c.args.room.now.ranks + 1 = omega (arith, c.requires.room) in
    let found = c.in_ok-found.found in
    let (ranks, support, projected) = c.requires.projected in
    grown-within part c.requires.is c.args.least c.requires.least (c.args.room.now.ranks + 1) most ranks (standing c.args.aim.seen support c.args.stands.now) projected
    c.args.aim refl c.requires.need refl refl any found.ranks.items found.run.stands (items_if found.longer) (c.in_ok-found.ensures.found part c.requires.known) filed

pub longer_by-requires-clause-kept : goal.longer_by-requires-clause-kept
longer_by-requires-clause-kept c filed =
    let part : GridList = c.args.part.now in
    let any : 0 < length c.args.stands.now = omega (arith, c.len.ensures, c.if-len-eq0.false) in
    let most : length part.problem.ranking.order < c.args.room.now.ranks + 1 = omega (arith, c.requires.room) in
    let found = c.in_ok-found.found in
    let (ranks, support, projected) = c.requires.projected in (
      c.args.least,
      ranks,
      grown-each part c.requires.is c.args.least c.requires.least (c.args.room.now.ranks + 1) most ranks (standing c.args.aim.seen support c.args.stands.now) projected
          c.args.aim refl c.requires.need refl refl any found.ranks.items found.run.stands (items_if found.longer) (c.in_ok-found.ensures.found part c.requires.known) filed,
    )

pub returns-clause-next : goal.returns-clause-next
returns-clause-next c ranks support projected =
    let part : GridList = c.args.part.now in
    let any : 0 < length c.args.stands.now = omega (arith, c.len.ensures, c.if-len-eq0.false) in
    let most : length part.problem.ranking.order < c.args.room.now.ranks + 1 = omega (arith, c.requires.room) in
    let found = c.in_ok-found.found in
    rw (c.in_ok-next.ensures, c.as_slice.ensures.value)
    (grown-next part c.requires.is c.args.least c.requires.least (c.args.room.now.ranks + 1) most ranks (standing c.args.aim.seen support c.args.stands.now) projected
    c.args.aim refl c.requires.need refl refl any found.ranks.items found.run.stands (items_if found.longer) (c.in_ok-found.ensures.found part c.requires.known))

pub returns-clause-all : goal.returns-clause-all
returns-clause-all c =
    let part : GridList = c.args.part.now in
    let any : 0 < length c.args.stands.now = omega (arith, c.len.ensures, c.if-len-eq0.false) in
    let most : length part.problem.ranking.order < c.args.room.now.ranks + 1 = omega (arith, c.requires.room) in
    let found = c.in_ok-found.found in
    let (ranks, support, projected) = c.requires.projected in
    let kept : StandList = standing c.args.aim.seen support c.args.stands.now in
    let is_found : IsFoundIn part c.args.aim c.args.least (c.args.room.now.ranks + 1) kept.stands found.ranks.items found.run.stands (items_if found.longer) =
    c.in_ok-found.ensures.found part c.requires.known in
    let each : items_if found.longer ≡ None → AreKept part c.args.aim c.args.least ranks found.run.stands found.ranks.items =
    grown-each part c.requires.is c.args.least c.requires.least (c.args.room.now.ranks + 1) most ranks kept projected
    c.args.aim refl c.requires.need refl refl any found.ranks.items found.run.stands (items_if found.longer) is_found in
    let nexts : c.in_ok-next.next.items ≡ map told_of found.ranks.items = c.in_ok-next.ensures ∙ ap (map told_of) c.as_slice.ensures.value in
    grown-count part c.requires.is c.args.least c.requires.least (c.args.room.now.ranks + 1) most ranks kept projected c.args.aim refl c.requires.need refl refl any
    found.ranks.items found.run.stands (items_if found.longer) is_found c.in_ok-longer.longer.items
    (λ filed. c.in_ok-longer.ensures.stands filed c.args.least ranks (each filed)) c.in_ok-longer.ensures.ahead
    ∙ sym (length-map found.ranks.items told_of) ∙ sym (ap length nexts)

pub returns-clause-each : goal.returns-clause-each
returns-clause-each c ranks support projected =
    let part : GridList = c.args.part.now in
    let any : 0 < length c.args.stands.now = omega (arith, c.len.ensures, c.if-len-eq0.false) in
    let most : length part.problem.ranking.order < c.args.room.now.ranks + 1 = omega (arith, c.requires.room) in
    let found = c.in_ok-found.found in
    let kept : StandList = standing c.args.aim.seen support c.args.stands.now in
    let is_found : IsFoundIn part c.args.aim c.args.least (c.args.room.now.ranks + 1) kept.stands found.ranks.items found.run.stands (items_if found.longer) =
    c.in_ok-found.ensures.found part c.requires.known in
    let each : items_if found.longer ≡ None → AreKept part c.args.aim c.args.least ranks found.run.stands found.ranks.items =
    grown-each part c.requires.is c.args.least c.requires.least (c.args.room.now.ranks + 1) most ranks kept projected
    c.args.aim refl c.requires.need refl refl any found.ranks.items found.run.stands (items_if found.longer) is_found in
    let nexts : c.in_ok-next.next.items ≡ map told_of found.ranks.items = c.in_ok-next.ensures ∙ ap (map told_of) c.as_slice.ensures.value in
    grown-longer part c.requires.is c.args.least c.requires.least (c.args.room.now.ranks + 1) most ranks kept projected c.args.aim refl c.requires.need refl refl any
    found.ranks.items found.run.stands (items_if found.longer) is_found c.in_ok-next.next.items c.in_ok-longer.longer.items nexts
    (λ filed. c.in_ok-longer.ensures.stands filed c.args.least ranks (each filed)) c.in_ok-longer.ensures.ahead
