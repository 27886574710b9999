use Rattle.std.proofs.Common.{◌≡◌, ◌∙◌, ◌+◌, ℕ, List, [], ◌∷◌, ◌++◌, get_or, take, length, ap, subst, arith}
use Rattle.std.proofs.lemmas.List.{take_more}
use Rattle.mine_model.specs.declared.item.Item.{Item}
use Rattle.mine_model.specs.Support.{Sequence}
use Rattle.mine_model.specs.Database.{sequence_at}
use Rattle.mining_job.specs.Problems.{items_of}
use Rattle.sequence_grids.specs.Places.{ArePlaces, AreKept}
use Rattle.sequence_grids.proofs.GridLemmas.{AreKept-grow, AreKept-more}
use Rattle.sequence_grids.proofs.cuts.push_all.Goals as goal

pub loop-seq-preserved : goal.loop-seq-preserved
loop-seq-preserved c =
    let job = c.args.job.now in
    let sequences = c.args.sequences.now in
    let index = c.loop-seq.seq-index in
    let seq : ℕ = get_or sequences index 0 in
    let tables = c.push_places.new.tables in
    let kinds = c.push_places.new.kinds in
    let places = c.push_places.new.places.items in
    let same : c.sequence-items.result.now ≡ items_of job seq =
    c.sequence-items.ensures.items ∙ ap (λ (sequences : List (Sequence Item)). (sequence_at sequences seq).items) c.db.ensures.sequences in
    let grown : AreKept job c.args.bound tables kinds places c.loop-seq.ends.items (take index sequences) =
    AreKept-grow job c.args.bound c.loop-seq.tables tables c.loop-seq.kinds kinds c.loop-seq.places.items places c.loop-seq.ends.items (take index sequences) c.loop-seq.invariant.kept
    c.push_places.ensures.tables_grow c.push_places.ensures.kinds_grow c.push_places.ensures.places_grow in
    let end : length places ≡ c.len.result = omega (arith, c.len.ensures) in
    let one : ArePlaces job c.args.bound tables kinds places c.len.result (items_of job seq) =
    subst (ArePlaces job c.args.bound tables kinds places c.len.result) same
    (subst (λ (n : ℕ). ArePlaces job c.args.bound tables kinds places n c.sequence-items.result.now) end c.in_ok-push_places.ensures.places) in
    let more : take (index + 1) sequences ≡ take index sequences ++ seq ∷ [] = take_more sequences index 0 c.loop-seq-test.true in
    record {
      kept = rw (more, c.in_ok-push.ensures.items) (AreKept-more job c.args.bound tables kinds places c.loop-seq.ends.items (take index sequences) seq c.len.result grown one);
      cuts = c.push_places.ensures.cuts;
    }
