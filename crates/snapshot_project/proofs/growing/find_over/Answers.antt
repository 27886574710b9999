use Rattle.std.proofs.Common.{◌≡◌, sym, ap, ◌∙◌, rules}
use Rattle.place_records.specs.Values.{moves_for}
use Rattle.snapshot_project.specs.Aims.{goes}
use Rattle.snapshot_project.proofs.growing.find_over.Goals as goal

pub find_by-requires : goal.find_by-requires
find_by-requires g c =
    let width = c.requires.width in
    let some = c.requires.some in
    let ready = c.requires.ready in
    let room = c.requires.room in
    let few = c.requires.few in
    let rows = c.requires.memos.late_rows in
    let moves : c.args.memos.now.late.moves ≡ moves_for c.args.over.now.records (goes c.args.aim.seen c.args.aim.need) =
    c.requires.memos.late_moves ∙ ap (moves_for c.args.over.now.records) (sym c.if-goes_on.true ∙ c.goes_on.ensures) in
    search rules

pub find_by-requires-else-goes_on : goal.find_by-requires-else-goes_on
find_by-requires-else-goes_on g c =
    let width = c.requires.width in
    let some = c.requires.some in
    let ready = c.requires.ready in
    let room = c.requires.room in
    let few = c.requires.few in
    let rows = c.requires.memos.early_rows in
    let moves : c.args.memos.now.early.moves ≡ moves_for c.args.over.now.records (goes c.args.aim.seen c.args.aim.need) =
    c.requires.memos.early_moves ∙ ap (moves_for c.args.over.now.records) (sym c.if-goes_on.false ∙ c.goes_on.ensures) in
    search rules

pub returns-then-goes_on-clause-memos : goal.returns-then-goes_on-clause-memos
returns-then-goes_on-clause-memos g c = record {
  early_rows = c.requires.memos.early_rows;
  early_moves = c.requires.memos.early_moves;
  late_rows = c.find_by.ensures.rows ∙ c.requires.memos.late_rows;
  late_moves = c.find_by.ensures.moves ∙ c.requires.memos.late_moves;
}

pub returns-else-goes_on-clause-memos : goal.returns-else-goes_on-clause-memos
returns-else-goes_on-clause-memos g c = record {
  early_rows = c.find_by-else-goes_on.ensures.rows ∙ c.requires.memos.early_rows;
  early_moves = c.find_by-else-goes_on.ensures.moves ∙ c.requires.memos.early_moves;
  late_rows = c.requires.memos.late_rows;
  late_moves = c.requires.memos.late_moves;
}
