use Rattle.std.proofs.Common.{◌≡◌, ◌∙◌, ℕ, ◌+◌, ◌<◌, true, length, get_or, ap, sym, subst, arith, Some, List}
use Rattle.std.specs.List.{slice_index}
use Rattle.std.proofs.lemmas.List.{get_or_default}
use Rattle.std.proofs.lemmas.Option.{same_Some, slice_get-get_or, slice_get_within}
use Rattle.fst_compile.specs.Rows.{IsSetOf}
use Rattle.sequence_grids.specs.declared.kinds.Kind.{Kind}
use Rattle.sequence_grids.specs.declared.kinds.Kinds.{Kinds}
use Rattle.sequence_grids.specs.Kinds.{HasCell, row_at}
use Rattle.place_records.specs.Ranks.{RanksValue, CanAskOf, ranks_in, ranks_of, AreSets}
use Rattle.place_records.proofs.rank_table.RankTableMasks.mask.Goals as goal

pub returns : goal.returns
returns c =
    let kinds : Kinds = c.self.inside.kinds in
    let sets : List ℕ = c.self.inside.sets.items in
    let number : ℕ = c.args.kind in
    let state : ℕ = c.args.state in
    let keeps : c.self.inside.has_sets ≡ true = subst (λ (v : RanksValue). v.keeps ≡ true) (sym c.self.view_is) c.requires.kept in
    let are : AreSets c.self.inside.kinds c.self.inside.sets.items = c.self.invariant keeps in
    let asked : HasCell c.self.inside.kinds c.args.kind c.args.state = subst (λ (v : RanksValue). CanAskOf v c.args.kind c.args.state) (sym c.self.view_is) c.requires.asked in
    let (kind, found, known, inside) = asked in
    let column : ℕ = slice_index kinds.columns.numbers.items state in
    let read : c.index.result.now ≡ column = c.index.ensures ∙ get_or_default kinds.columns.numbers.items state c.index.result.now 0 known in
    let within : number < length kinds.kinds.items = slice_get_within kinds.kinds.items number kind found in
    let that : c.index-2.result.now ≡ kind = same_Some c.index-2.result.now kind (ap Some c.index-2.ensures ∙ (sym (slice_get-get_or kinds.kinds.items number c.index-2.result.now within) ∙ found)) in
    let place : c.index-2.result.now.base + c.index.result.now ≡ kind.base + column = ap (λ (k : Kind). k.base + c.index.result.now) that ∙ ap (λ (n : ℕ). kind.base + n) read in
    let before : kind.base + column < length kinds.ends.items = let room = inside.room in omega (arith, room) in
    let below : kind.base + column < length sets = let long = are.long in omega (arith, before, long) in
    let set : c.index-3.result.now ≡ slice_index sets (kind.base + column) =
    c.index-3.ensures ∙ (ap (λ (n : ℕ). get_or sets n c.index-3.result.now) place ∙ get_or_default sets (kind.base + column) c.index-3.result.now 0 below) in
    let exact : IsSetOf c.index-3.result.now (row_at kinds.ends.items kinds.ranks.items kind.base column) =
    subst (λ (s : ℕ). IsSetOf s (row_at kinds.ends.items kinds.ranks.items kind.base column)) (sym set) (are.exact kind.base column before inside) in
    let ranks : ranks_of c.args.self.now number state ≡ row_at kinds.ends.items kinds.ranks.items kind.base column =
    ap (λ (v : RanksValue). ranks_of v number state) (sym c.self.view_is) ∙ ap (λ o. ranks_in kinds o state) found in
    subst (λ (these : List ℕ). IsSetOf c.index-3.result.now these) (sym ranks) exact
