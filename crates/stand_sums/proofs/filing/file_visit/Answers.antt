use Rattle.std.proofs.Common.{◌≡◌, ◌≢◌, ◌<◌, ◌∙◌, ℕ, true, false, List, [], ◌∷◌, map, get_or, length, refl, sym, ap, rules}
use Rattle.std.specs.List.{All, AllPairs}
use Rattle.std.proofs.lemmas.List.{map-id}
use Rattle.stand_sums.specs.Writings.{goes_on}
use Rattle.stand_sums.specs.Kept.{Filing, filings_in, filed_for}
use Rattle.stand_sums.proofs.FileLemmas.{HaveRoom, filings-yes, filings-no, room-for, room-have, quiet-visit}
use Rattle.stand_sums.proofs.filing.file_visit.Goals as goal
use Rattle.stand_sums.proofs.filing.file_visit.Goals.{then-goes_on, else-goes_on}

pub loop-rank-init : goal.loop-rank-init
loop-rank-init g c = record {
  form = refl;
  files = c.requires.files;
  filed = sym (map-id (filings_in c.args.run.now.stands c.args.shelves.now.items));
}

pub file_rank-requires-clause-rank : goal.file_rank-requires-clause-rank
file_rank-requires-clause-rank g c =
    let ranks : List ℕ = c.outputs-ranks.result.now in
    let all : All (λ rank. rank < length c.args.places.now) ranks = rw c.outputs-ranks.ensures c.requires.readable.within in
    all c.loop-rank.rank-index 0 c.loop-rank-test.true

pub file_rank-requires-clause-room : goal.file_rank-requires-clause-room
file_rank-requires-clause-room g c =
    let ranks = g.T.Outputs.ranks c.args.table.now in
    let rs : List ℕ = c.outputs-ranks.result.now in
    let apart : AllPairs (λ one other. one ≢ other) rs = rw c.outputs-ranks.ensures c.requires.readable.once in
    let goes : goes_on c.args.aim (get_or rs c.loop-rank.rank-index 0) c.args.visit.action ≡ true = sym c.goes_on.ensures ∙ c.if-goes_on.true in
    let old : List Filing = filings_in c.args.run.now.stands c.args.shelves.now.items in
    let have : HaveRoom ranks c.args.aim (c.args.visit ∷ []) old = room-have ranks c.args.aim (c.args.visit ∷ []) c.args.run.now.stands c.args.shelves.now.items c.requires.room in
    room-for ranks c.args.aim c.args.visit c.args.end rs c.outputs-ranks.ensures apart c.loop-rank.rank-index c.loop-rank-test.true goes old
    c.loop-rank.run.stands c.loop-rank.shelves.items have c.loop-rank.invariant.filed c.loop-rank.invariant.files.shelved

pub loop-rank-preserved : goal.loop-rank-preserved
loop-rank-preserved g c =
    let rs : List ℕ = c.outputs-ranks.result.now in
    let k : ℕ = c.loop-rank.rank-index in
    let apart : AllPairs (λ one other. one ≢ other) rs = rw c.outputs-ranks.ensures c.requires.readable.once in
    let old : List Filing = filings_in c.args.run.now.stands c.args.shelves.now.items in
    elim c.if-goes_on.branch [
      | then-goes_on w ↦
          let goes : goes_on c.args.aim (get_or rs k 0) c.args.visit.action ≡ true = sym c.goes_on.ensures ∙ w.if-goes_on.true in
          rw (w.shelves-is, w.run-is) (record {
            form = w.file_rank.ensures.form ∙ c.loop-rank.invariant.form;
            files = w.file_rank.ensures.files;
            filed = w.file_rank.ensures.filed
                ∙ ap (map (filed_for (get_or rs k 0) c.args.visit c.args.end)) c.loop-rank.invariant.filed
                ∙ filings-yes c.args.aim c.args.visit c.args.end rs apart k c.loop-rank-test.true goes old;
          })
      | else-goes_on w ↦
          let stays : goes_on c.args.aim (get_or rs k 0) c.args.visit.action ≡ false = sym c.goes_on.ensures ∙ w.if-goes_on.false in
          rw (w.shelves-is, w.run-is) (record {
            form = c.loop-rank.invariant.form;
            files = c.loop-rank.invariant.files;
            filed = c.loop-rank.invariant.filed ∙ filings-no c.args.aim c.args.visit c.args.end rs apart k c.loop-rank-test.true stays old;
          })
    ]

pub returns-then-not-visit-2-clause-filed : goal.returns-then-not-visit-2-clause-filed
returns-then-not-visit-2-clause-filed g c =
    let more : c.args.visit.action.more ≡ false = search rules in
    let unseen : c.args.visit.action.unseen ≡ false = search rules in
    quiet-visit (g.T.Outputs.ranks c.args.table.now) c.args.aim c.args.end c.args.visit (filings_in c.args.run.now.stands c.args.shelves.now.items) more unseen
