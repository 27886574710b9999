use Rattle.std.proofs.Common.{◌≡◌, ◌∙◌, [], ◌∷◌, map, sym, ap, subst}
use Rattle.std.specs.List.{All, slice_range}
use Rattle.stand_sums.specs.Files.{Filed, unfiled, with_more, HasRoom, IsFull}
use Rattle.stand_sums.specs.Runs.{RunValue}
use Rattle.candidate_graph.specs.Kept.{AreInRun}
use Rattle.candidate_graph.proofs.FoundLemmas.{one-sequence, files-within, files-room, files-full, files-run, no-run}
use Rattle.candidate_graph.proofs.finding.file.Goals as goal

pub begin-requires-clause-within : goal.begin-requires-clause-within
begin-requires-clause-within g c =
    files-within (g.T.Outputs.ranks c.args.table.now) c.args.aim c.args.visits.now c.args.files.now.room c.args.found.now c.requires.found

pub file-requires-clause-room : goal.file-requires-clause-room
file-requires-clause-room g c =
    subst (All (HasRoom (g.T.Outputs.ranks c.args.table.now) c.args.aim c.args.visits.now)) (sym c.in_ok-begin.ensures.begun)
    (files-room (g.T.Outputs.ranks c.args.table.now) c.args.aim c.args.visits.now c.args.files.now.room c.args.found.now c.requires.found)

pub finish-requires : goal.finish-requires
finish-requires g c =
    let ranks = g.T.Outputs.ranks c.args.table.now in
    let visits = c.args.visits.now in
    let filed : c.file.new.self.filed ≡ map (with_more ranks c.args.aim (visits ∷ [])) (map unfiled c.args.found.now) =
    c.in_ok-file.ensures.filed (visits ∷ []) (one-sequence visits c.requires.marked) ∙ ap (map (with_more ranks c.args.aim (visits ∷ []))) c.in_ok-begin.ensures.begun in
    record { full = subst (All IsFull) (sym filed) (files-full ranks c.args.aim visits c.args.files.now.room c.args.found.now c.requires.found) }

pub returns-clause-run : goal.returns-clause-run
returns-clause-run g c =
    let ranks = g.T.Outputs.ranks c.args.table.now in
    let visits = c.args.visits.now in
    let filed : c.file.new.self.filed ≡ map (with_more ranks c.args.aim (visits ∷ [])) (map unfiled c.args.found.now) =
    c.in_ok-file.ensures.filed (visits ∷ []) (one-sequence visits c.requires.marked) ∙ ap (map (with_more ranks c.args.aim (visits ∷ []))) c.in_ok-begin.ensures.begun in
    files-run ranks c.args.aim visits c.args.files.now.room c.args.found.now c.requires.found c.finish.result.stands
    (subst (All (λ (filed : Filed). slice_range c.finish.result.stands filed.first filed.last ≡ filed.stands)) filed c.finish.ensures.stands)

pub returns-then-not-has_places-clause-run : goal.returns-then-not-has_places-clause-run
returns-then-not-has_places-clause-run g c =
    let ranks = g.T.Outputs.ranks c.args.table.now in
    subst (AreInRun ranks c.args.aim c.args.visits.now c.args.found.now) (sym (ap (λ (v : RunValue). v.stands) c.new.ensures))
    (no-run ranks c.args.aim c.args.visits.now c.args.files.now.room c.args.found.now c.requires.found (c.has_places.ensures c.if-not-has_places.true))
