use Rattle.std.proofs.Common.{◌≡◌, ℕ, ◌+◌, ◌<◌, inl, inr, true, false, true≢false, Bool, List, length, get_or, sym, ap, ◌∙◌, subst, arith}
use Rattle.std.specs.List.{slice_index_or}
use Rattle.std.proofs.lemmas.Bool.{cases_eq}
use Rattle.std.proofs.lemmas.List.{get_or_default}
use Rattle.mine_model.specs.declared.item.Item.{Item}
use Rattle.mine_model.specs.Ancestry.{Ancestry}
use Rattle.mine_model.specs.Hierarchy.{IsAncestor}
use Rattle.pattern_proof.specs.declared.listing.Lister.{Lister}
use Rattle.pattern_proof.specs.Listing.{AreListed, BeginsAt, Fronts, fronts_of}
use Rattle.pattern_proof.proofs.ListingLemmas.{first-listed}
use Rattle.pattern_proof.proofs.listing.list_under.Goals as goal
use Rattle.pattern_proof.proofs.listing.list_under.Goals.{then-marked-w+in_ok-list_place, else-marked-w}

abbrev none : Item
none = record { 0 = 0 }

-- the lists of the items up to here begin with the place
abbrev Begin : List Bool → ℕ → List Item → ℕ → Fronts → Type 0
Begin marked place items n fronts = (k : ℕ) (d : Item) → k < n → k < length items → slice_index_or marked (get_or items k d).0 false ≡ true → BeginsAt fronts place (get_or items k d)

next : (marked : List Bool) (place : ℕ) (items : List Item) (i : ℕ) (old new : Fronts) → ((v : Item) → BeginsAt old place v → BeginsAt new place v)
    → (slice_index_or marked (get_or items i none).0 false ≡ true → BeginsAt new place (get_or items i none)) → Begin marked place items i old → Begin marked place items (i + 1) new
next marked place items i old new keeps here before k d less inside is = elim (cases_eq k i) [
  | inl same ↦
      let there : get_or items i none ≡ get_or items k d = sym (get_or_default items k d none inside ∙ ap (λ n. get_or items n none) same) in
      subst (BeginsAt new place) there (here (subst (λ (v : Item). slice_index_or marked v.0 false ≡ true) (sym there) is))
  | inr apart ↦ keeps (get_or items k d) (before k d (omega (arith, less, apart)) inside is)
]

pub loop-w-preserved : goal.loop-w-preserved
loop-w-preserved c =
    let marked : List Bool = c.args.marked.now in
    let place : ℕ = c.args.place in
    let items : List Item = c.ancestors-w-items.result.now in
    let i : ℕ = c.loop-w.w-index in
    let old : Fronts = fronts_of c.loop-w.lister in
    elim c.if-marked-w.branch [
      | then-marked-w+in_ok-list_place b ↦
          (let (listed, begins, keeps) = first-listed c.args.job.now marked old (fronts_of b.list_place.new.lister) place (get_or items i none) b.in_ok-list_place.ensures c.requires.place c.loop-w.invariant.listed in
          let back = sym b.lister-is in record {
            listed = subst (λ (x : Lister). AreListed c.args.job.now marked (fronts_of x) place (place + 1)) back listed;
            first = subst (λ (x : Lister). Begin marked place items (i + 1) (fronts_of x)) back (next marked place items i old (fronts_of b.list_place.new.lister) keeps (λ is. begins) c.loop-w.invariant.first);
            kept = λ v had. subst (λ (x : Lister). BeginsAt (fronts_of x) place v) back (keeps v (c.loop-w.invariant.kept v had));
          })
      | else-marked-w b ↦
          (let back = sym b.lister-is in record {
            listed = subst (λ (x : Lister). AreListed c.args.job.now marked (fronts_of x) place (place + 1)) back c.loop-w.invariant.listed;
            first = subst (λ (x : Lister). Begin marked place items (i + 1) (fronts_of x)) back
                (next marked place items i old old (λ v had. had) (λ is. absurd (true≢false (sym is ∙ b.if-marked-w.false))) c.loop-w.invariant.first);
            kept = λ v had. subst (λ (x : Lister). BeginsAt (fronts_of x) place v) back (c.loop-w.invariant.kept v had);
          })
    ]

pub returns-clause-first : goal.returns-clause-first
returns-clause-first c = λ w above is.
    let items : List Item = c.ancestors-w-items.result.now in
    let own : IsAncestor c.hierarchy.result.now.links w c.args.t = subst (λ (h : Ancestry). IsAncestor h.links w c.args.t) (sym c.hierarchy.ensures.hierarchy) above in
    let (k, inside, at) = (c.ancestors-w-items.ensures.ancestors w).1 own in
    let last = c.loop-w-test.false in
    subst (BeginsAt (fronts_of c.loop-w.lister) c.args.place) at
    (c.loop-w.invariant.first k w (omega (arith, inside, last)) inside (subst (λ (v : Item). slice_index_or c.args.marked.now v.0 false ≡ true) (sym at) is))
