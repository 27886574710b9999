use Rattle.std.proofs.Common.{◌++◌, ◌∷◌, [], ℕ, map, take, get_or, All, refl, sym, ap, ◌∙◌, subst}
use Rattle.std.proofs.lemmas.List.{map-append, take_more}
use Rattle.std.proofs.lemmas.List.Elements.{All-push}
use Rattle.mining_job.specs.declared.part_seed.PartSeed.{PartSeed}
use Rattle.mining_job.specs.Parts.{pivot_of, IsComplete}
use Rattle.search_engine.proofs.SearchLemmas.{complete-same}
use Rattle.search_engine.proofs.search.copied.Goals as goal

abbrev pivot_at : PartSeed → ℕ
pivot_at seed = pivot_of seed.pivot

pub loop-seed-preserved : goal.loop-seed-preserved
loop-seed-preserved c =
    let copy : PartSeed = record { pivot = c.seed-item.result.pivot; sequences = c.in_ok-from_slice.field-0 } in
    record {
      pivots = ap (map pivot_at) c.in_ok-push.ensures.items ∙ map-append pivot_at c.loop-seed.copies.items (copy ∷ [])
          ∙ ap (λ l. l ++ pivot_at copy ∷ []) c.loop-seed.invariant.pivots
          ∙ sym (ap (map pivot_at) (take_more c.args.seeds.now c.loop-seed.seed-index c.seed-item.result c.loop-seed-test.true)
          ∙ map-append pivot_at (take c.loop-seed.seed-index c.args.seeds.now) (get_or c.args.seeds.now c.loop-seed.seed-index c.seed-item.result ∷ [])
          ∙ ap (λ s. map pivot_at (take c.loop-seed.seed-index c.args.seeds.now) ++ pivot_at s ∷ []) (sym c.seed-item.is));
      complete = λ problem all.
          let here : IsComplete problem c.seed-item.result = subst (IsComplete problem) (sym c.seed-item.is) (all c.loop-seed.seed-index c.seed-item.result c.loop-seed-test.true) in
          let same = c.in_ok-from_slice.ensures.items ∙ c.as_slice.ensures.value in
          subst (All (IsComplete problem)) (sym c.in_ok-push.ensures.items)
          (All-push (IsComplete problem) c.loop-seed.copies.items copy (c.loop-seed.invariant.complete problem all) (complete-same problem c.seed-item.result copy refl same here));
    }
