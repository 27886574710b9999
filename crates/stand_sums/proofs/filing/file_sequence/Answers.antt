use Rattle.std.proofs.Common.{◌∙◌, List, [], ◌∷◌, map, take, get_or, refl, sym, ap, subst, arith}
use Rattle.std.proofs.lemmas.List.{take_all, map-id}
use Rattle.place_walk.specs.declared.visit.Visit.{Visit}
use Rattle.stand_sums.specs.Kept.{Filing, filings_in, filed_behind, filed_behind_all}
use Rattle.stand_sums.proofs.PartLemmas.{blank}
use Rattle.stand_sums.proofs.FileLemmas.{HaveRoom, filings-more, visit-room, room-have, room-all}
use Rattle.stand_sums.proofs.filing.file_sequence.Goals as goal

pub loop-visit-init : goal.loop-visit-init
loop-visit-init g c = record {
  form = refl;
  files = c.requires.files;
  filed = sym (map-id (filings_in c.args.run.now.stands c.args.shelves.now.items));
}

pub file_visit-requires-clause-room : goal.file_visit-requires-clause-room
file_visit-requires-clause-room g c =
    let ranks = g.T.Outputs.ranks c.args.table.now in
    let visit : Visit = get_or c.args.visits.now c.loop-visit.visit-index blank in
    let old : List Filing = filings_in c.args.run.now.stands c.args.shelves.now.items in
    let have : HaveRoom ranks c.args.aim c.args.visits.now old = room-have ranks c.args.aim c.args.visits.now c.args.run.now.stands c.args.shelves.now.items c.requires.room in
    let room : HaveRoom ranks c.args.aim (visit ∷ []) (map (filed_behind_all ranks c.args.aim c.args.end (take c.loop-visit.visit-index c.args.visits.now)) old) =
    visit-room ranks c.args.aim c.args.end c.args.visits.now c.loop-visit.visit-index blank old c.loop-visit-test.true have in
    room-all ranks c.args.aim (visit ∷ []) c.loop-visit.run.stands c.loop-visit.shelves.items
    (subst (HaveRoom ranks c.args.aim (visit ∷ [])) (sym c.loop-visit.invariant.filed) room)

pub loop-visit-preserved : goal.loop-visit-preserved
loop-visit-preserved g c =
    let ranks = g.T.Outputs.ranks c.args.table.now in
    let visit : Visit = get_or c.args.visits.now c.loop-visit.visit-index blank in
    let old : List Filing = filings_in c.args.run.now.stands c.args.shelves.now.items in
    record {
      form = c.file_visit.ensures.form ∙ c.loop-visit.invariant.form;
      files = c.file_visit.ensures.files;
      filed = c.file_visit.ensures.filed
          ∙ ap (map (λ (filing : Filing). filed_behind ranks c.args.aim c.args.end filing visit)) c.loop-visit.invariant.filed
          ∙ filings-more ranks c.args.aim c.args.end c.args.visits.now c.loop-visit.visit-index blank c.loop-visit-test.true old;
    }

pub returns-clause-filed : goal.returns-clause-filed
returns-clause-filed g c =
    let ranks = g.T.Outputs.ranks c.args.table.now in
    c.loop-visit.invariant.filed
    ∙ ap (λ (l : List Visit). map (filed_behind_all ranks c.args.aim c.args.end l) (filings_in c.args.run.now.stands c.args.shelves.now.items)) (take_all c.loop-visit.visit-index c.args.visits.now (omega arith))
