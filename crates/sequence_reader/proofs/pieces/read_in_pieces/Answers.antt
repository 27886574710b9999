use Rattle.std.proofs.Common.{◌≡◌, [], ◌∷◌, ◌++◌, Ok, true, false, ◌∙◌, ap, sym, subst, map, List, ℕ}
use Rattle.std.proofs.lemmas.List.{append-nil}
use Rattle.std.proofs.lemmas.List.Concat.{flat_map-append}
use Rattle.std.specs.Borrow.{Bor}
use Rattle.std.specs.List.{AllZip, flat_map}
use Rattle.text_ports.specs.Scanning.{lines_behind}
use Rattle.sequence_reader.specs.declared.reading.Reading.{Reading}
use Rattle.sequence_reader.specs.Blocks.{text_of}
use Rattle.sequence_reader.specs.Taking.{behind, IsTaken, all_waiting, with_waiting}
use Rattle.sequence_reader.proofs.TakingLemmas.{IsTaken-same}
use Rattle.sequence_reader.proofs.JoiningLemmas.{AllZip-more, pieces-bytes, lines-bytes}
use Rattle.sequence_reader.proofs.pieces.read_in_pieces.Goals as goal

pub returns-in-Ok-last-clause-taken : goal.returns-in-Ok-last-clause-taken
returns-in-Ok-last-clause-taken g c is known lines weighted taken =
    let bytes : Bor (List ℕ) → List ℕ = λ piece. piece.now in
    let pieces : List (Bor (List ℕ)) = c.as_slice.result.now in
    let own : List ℕ = c.split_at.result.1.now in
    let between : Reading = c.read_beside-readings.new.all in
    let others : flat_map lines_behind (map bytes pieces) ≡ lines_behind c.split_at.result.0.now =
    lines-bytes bytes pieces ∙ ap (flat_map (λ (piece : Bor (List ℕ)). lines_behind piece.now)) c.as_slice.ensures.value ∙ c.in_ok-pieces.ensures.lines in
    let whole : flat_map lines_behind (map bytes pieces ++ own ∷ []) ≡ lines_behind (text_of c.args.block.now) =
    flat_map-append lines_behind (map bytes pieces) (own ∷ []) ∙ ap (λ w. flat_map lines_behind (map bytes pieces) ++ w) (append-nil (lines_behind own))
    ∙ (λ j. (others ∙ ap lines_behind c.split_at.ensures.front) j ++ ap lines_behind c.split_at.ensures.back j)
    ∙ sym c.line_end.ensures.between ∙ ap lines_behind c.text-text.ensures.text in
    let done : c.number_all.result ≡ Ok true = c.in_ok-number_all-in-Ok-last.was ∙ cc is in
    let names = c.read_beside-readings.ensures.same_known in
    let appended = rw c.in_ok-last.was at c.read_beside-readings.ensures.appended in
    let so_far = IsTaken-same known weighted lines (with_waiting c.args.all.now c.args.waiting.now.items) between names
    (appended ∙ ap (λ w. c.args.all.now.db ++ all_waiting w) c.as_slice-2.ensures.value) c.read_beside-readings.ensures.same taken in
    let read = rw c.in-Ok.is at c.read_beside-readings.ensures.pieces in
    let last = rw (c.in_ok-last.was, c.in-Ok-last.is) at c.read_beside-readings.ensures.own in
    let texts = pieces-bytes bytes (λ text reading. IsTaken between.names weighted (lines_behind text) (behind between.names reading)) pieces c.in-Ok.readings.items
    (subst (λ (n : List (List ℕ)). AllZip (λ (piece : Bor (List ℕ)) (reading : Reading). IsTaken n weighted (lines_behind piece.now) (behind n reading)) pieces c.in-Ok.readings.items) (sym names)
    (subst (λ b. AllZip (λ (piece : Bor (List ℕ)) (reading : Reading). IsTaken c.args.all.now.names b (lines_behind piece.now) (behind c.args.all.now.names reading)) pieces c.in-Ok.readings.items) taken.same read)) in
    let by_caller = subst (λ (n : List (List ℕ)). IsTaken n weighted (lines_behind own) (behind n c.in-Ok-last.last)) (sym names)
    (subst (λ b. IsTaken c.args.all.now.names b (lines_behind own) (behind c.args.all.now.names c.in-Ok-last.last)) taken.same last) in
    let all = subst (AllZip (λ (text : List ℕ) (reading : Reading). IsTaken between.names weighted (lines_behind text) (behind between.names reading)) (map bytes pieces ++ own ∷ [])) (sym c.in-Ok-push.ensures.items)
    (AllZip-more (λ text reading. IsTaken between.names weighted (lines_behind text) (behind between.names reading)) (map bytes pieces) c.in-Ok.readings.items own c.in-Ok-last.last texts by_caller) in
    subst (λ l. IsTaken known weighted (lines ++ l) (with_waiting c.number_all.new.all c.number_all.new.waiting.items)) whole
    (c.number_all.ensures.joined done known lines (map bytes pieces ++ own ∷ []) weighted so_far all)

pub returns-in-Ok-last-clause-untaken : goal.returns-in-Ok-last-clause-untaken
returns-in-Ok-last-clause-untaken g c is known lines weighted taken =
    let not_done : c.number_all.result ≡ Ok false = c.in_ok-number_all-in-Ok-last.was ∙ cc is in
    let appended = rw c.in_ok-last.was at c.read_beside-readings.ensures.appended in
    IsTaken-same known weighted lines (with_waiting c.args.all.now c.args.waiting.now.items) c.number_all.new.all
    (c.number_all.ensures.refused not_done ∙ c.read_beside-readings.ensures.same_known)
    (c.number_all.ensures.same_db ∙ appended ∙ ap (λ w. c.args.all.now.db ++ all_waiting w) c.as_slice-2.ensures.value)
    (c.number_all.ensures.same ∙ c.read_beside-readings.ensures.same) taken

pub returns-in-Ok-clause-untaken : goal.returns-in-Ok-clause-untaken
returns-in-Ok-clause-untaken g c is known lines weighted taken =
    let appended = rw c.in_ok-last.was at c.read_beside-readings.ensures.appended in
    IsTaken-same known weighted lines (with_waiting c.args.all.now c.args.waiting.now.items) c.read_beside-readings.new.all c.read_beside-readings.ensures.same_known
    (appended ∙ ap (λ w. c.args.all.now.db ++ all_waiting w) c.as_slice-2.ensures.value) c.read_beside-readings.ensures.same taken

pub returns-clause-untaken : goal.returns-clause-untaken
returns-clause-untaken g c is known lines weighted taken =
    let appended = rw c.in_ok-last.was at c.read_beside-readings.ensures.appended in
    IsTaken-same known weighted lines (with_waiting c.args.all.now c.args.waiting.now.items) c.read_beside-readings.new.all c.read_beside-readings.ensures.same_known
    (appended ∙ ap (λ w. c.args.all.now.db ++ all_waiting w) c.as_slice-2.ensures.value) c.read_beside-readings.ensures.same taken

pub returns-in-Err-push-clause-kept : goal.returns-in-Err-push-clause-kept
returns-in-Err-push-clause-kept g c = ([], c.read_beside-readings.ensures.same_known ∙ sym (append-nil c.args.all.now.names))
