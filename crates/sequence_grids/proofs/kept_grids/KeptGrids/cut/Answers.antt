use Rattle.std.proofs.Common.{◌≡◌, ◌∙◌, ◌<◌, ℕ, List, replicate, length, slice_index, ap, arith}
use Rattle.std.proofs.lemmas.List.{get_or-replicate, length-replicate}
use Rattle.std.proofs.lemmas.Option.{slice_get_within}
use Rattle.sequence_grids.specs.Cuts.{AreReadable}
use Rattle.sequence_grids.specs.Tables.{unknown}
use Rattle.sequence_grids.proofs.CutLemmas.{AreCuts-none}
use Rattle.sequence_grids.proofs.kept_grids.KeptGrids.cut.Goals as goal

pub push_all-requires-clause-cuts : goal.push_all-requires-clause-cuts
push_all-requires-clause-cuts c =
    let readable : AreReadable c.args.job.now c.in_ok-kinds.kinds = record {
      columns_are = rw c.fst-2.ensures.transducer at c.in_ok-kinds.ensures.columns;
      each = λ number kind found.
          let inside : number < length c.in_ok-kinds.kinds.kinds.items = slice_get_within c.in_ok-kinds.kinds.kinds.items number kind found in
          absurd (omega (arith, inside, ap length c.in_ok-kinds.ensures.no_kinds));
    } in
    AreCuts-none c.args.job.now c.args.bound c.in_ok-tables.tables.classes c.in_ok-kinds.kinds c.args.alphabet.now c.as_mut_slice.result.now readable
    (λ k below.
    let are : c.as_mut_slice.result.now ≡ replicate c.len.result unknown = c.as_mut_slice.ensures.value ∙ c.in_ok-cuts.ensures.items_if_clones_equal (λ y same. same) in
    let inside : k < c.len.result = rw (are, length-replicate) at below in
    ap (λ (xs : List ℕ). slice_index xs k) are ∙ get_or-replicate c.len.result k unknown 0 inside)
