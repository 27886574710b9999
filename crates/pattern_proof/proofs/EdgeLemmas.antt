-- Edges that rise by the state that they lead to, and one step of a run.
use Rattle.std.proofs.Common.{◌≡◌, ℕ, ◌<◌, ◌≤◌, suc, inl, inr, ◌↔◌, true, false, List, [], ◌∷◌, ◌++◌, map, length, get_or, refl, sym, ap, ◌∙◌, subst, arith, Contains}
use Rattle.std.proofs.lemmas.Bool.{cases_eq}
use Rattle.std.proofs.lemmas.List.{get_or_default, get_or-map, length-map}
use Rattle.std.proofs.lemmas.List.Kept.{AllPairs-from_increasing}
use Rattle.std.specs.List.{slice_index_or}
use Rattle.mine_model.specs.declared.item.Item.{Item}
use Rattle.mine_model.specs.Hierarchy.{Link}
use Rattle.mine_model.specs.Numbered.{leaf_of}
use Rattle.mine_model.specs.Generation.{Matches, MayWrite, WritesAt}
use Rattle.fst_compile.specs.declared.edge.Edge.{Edge}
use Rattle.fst_compile.specs.declared.edge.Label.{Label}
use Rattle.fst_compile.specs.Transducer.{Transducer, Enters, edges_from, target, RisesByTarget}
use Rattle.pattern_proof.specs.Steps.{IsRun}

module _ (edges : List Edge) (to : ℕ) (rising : RisesByTarget edges) where
  far : (i j : ℕ) (d : Edge) → i < j → j < length edges → (get_or edges i d).to.0 < (get_or edges j d).to.0
  far i j d less within =
      let long = length-map edges target in
      let first : get_or (map target edges) i 0 ≡ (get_or edges i d).to.0 = get_or-map target edges i d 0 (omega arith) in
      let second : get_or (map target edges) j 0 ≡ (get_or edges j d).to.0 = get_or-map target edges j d 0 within in
      let pair = AllPairs-from_increasing (map target edges) rising i j 0 less (omega (arith, long, within)) in
      omega (arith, first, second, pair)

  pub edge_before : (m k : ℕ) (e d : Edge) → k ≤ m → m < length edges → (get_or edges m e).to.0 < to → (get_or edges k d).to.0 < to
  edge_before m k e d upto within less =
      let read : (get_or edges m e).to.0 ≡ (get_or edges m d).to.0 = ap (λ t. t.to.0) (get_or_default edges m e d within) in
      elim (cases_eq k m) [
        | inl same ↦ subst (λ n. (get_or edges n d).to.0 < to) (sym same) (omega (arith, read, less))
        | inr other ↦ (let more = far k m d (omega arith) within in omega (arith, read, less, more))
      ]

  pub edge_behind : (m k : ℕ) (e d : Edge) → m ≤ k → k < length edges → ((get_or edges m e).to.0 ≡ to → ⊥) → to ≤ (get_or edges m e).to.0 → to < (get_or edges k d).to.0
  edge_behind m k e d from within apart least =
      let more : to < (get_or edges m e).to.0 = omega (arith, apart, least) in
      let read : (get_or edges m e).to.0 ≡ (get_or edges m d).to.0 = ap (λ t. t.to.0) (get_or_default edges m e d (omega arith)) in
      elim (cases_eq k m) [
        | inl same ↦ subst (λ n. to < (get_or edges n d).to.0) (sym same) (omega (arith, read, more))
        | inr other ↦ (let less = far m k d (omega arith) within in omega (arith, read, more, less))
      ]

-- edges into one state read and write the same
one_label : (labels : List Label) (one other : Edge) → Enters labels one → Enters labels other → one.to.0 ≡ other.to.0 → (one.leaf ≡ other.leaf) × (one.captured ≡ other.captured)
one_label labels one other a b same =
    let d : Label = record { leaf = one.leaf; captured = one.captured } in
    let numbers : a.number ≡ b.number = (let x = a.to in let y = b.to in omega (arith, x, y, same)) in
    let labels_same : d ≡ record { leaf = other.leaf; captured = other.captured } =
    sym (a.label d) ∙ ap (λ n. slice_index_or labels n d) numbers ∙ b.label d in
    (ap (λ (l : Label). l.leaf) labels_same, ap (λ (l : Label). l.captured) labels_same)

module _ (links : List (Link Item)) (transducer : Transducer) (from to : ℕ) (t : Item) (rest : List Item) where
  -- what a step of a run needs
  abbrev pub Goes : (List ℕ → List Item → Type 0)
  Goes states items = IsRun links transducer from (to ∷ states) (t ∷ items) rest

  pub no-edge : ((edge : Edge) → Contains (edges_from transducer from) edge → edge.to.0 ≡ to → ⊥) → (states : List ℕ) (items : List Item) → Goes states items → ⊥
  no-edge none states items (edge, here, there, held, is, reads, writes, both, run) = none edge held is

  module _ (labelled : (edge : Edge) → Contains (edges_from transducer from) edge → Enters transducer.labels edge) (edge : Edge) (held : Contains (edges_from transducer from) edge) (is : edge.to.0 ≡ to) where
    leaf_same : (other : Edge) → Contains (edges_from transducer from) other → other.to.0 ≡ to → (other.leaf ≡ edge.leaf) × (other.captured ≡ edge.captured)
    leaf_same other there to_is = one_label transducer.labels other edge (labelled other there) (labelled edge held) (to_is ∙ sym is)

    pub within-labels : to ≤ length transducer.labels
    within-labels = let enters = labelled edge held in let a = enters.to in let b = enters.within in omega (arith, a, b, is)

    pub no-match : (Matches links (leaf_of edge.leaf) t → ⊥) → (states : List ℕ) (items : List Item) → Goes states items → ⊥
    no-match none states items (other, here, there, kept, to_is, matches, writes, both, run) =
        none (subst (λ l. Matches links (leaf_of l) t) (leaf_same other kept to_is).0 matches)

    module _ (matches : Matches links (leaf_of edge.leaf) t) where
      pub silent : edge.captured ≡ false → (states : List ℕ) (items : List Item) → Goes states items ↔ IsRun links transducer to states items rest
      silent quiet states items = (forth, back)
        where
          forth : Goes states items → IsRun links transducer to states items rest
          forth (other, here, there, kept, to_is, reads, writes, both, run) =
              let nothing : here ≡ [] = subst (λ b. WritesAt links (leaf_of other.leaf) b t here) ((leaf_same other kept to_is).1 ∙ quiet) writes in
              subst (λ l. IsRun links transducer to states items l) (sym (both ∙ ap (λ l. l ++ there) nothing)) run

          back : IsRun links transducer to states items rest → Goes states items
          back run = (edge, [], rest, held, is, matches, subst (λ b. WritesAt links (leaf_of edge.leaf) b t []) (sym quiet) refl, refl, run)

      -- a captured edge writes the first of the rest, where it may
      pub written : edge.captured ≡ true → (v : Item) (others : List Item) → rest ≡ v ∷ others → MayWrite links (leaf_of edge.leaf) t v
          → (states : List ℕ) (items : List Item) → Goes states items ↔ IsRun links transducer to states items others
      written captured v others cut may states items = (forth, back)
        where
          forth : Goes states items → IsRun links transducer to states items others
          forth (other, here, there, kept, to_is, reads, writes, both, run) =
              let (w, allowed, one) = subst (λ b. WritesAt links (leaf_of other.leaf) b t here) ((leaf_same other kept to_is).1 ∙ captured) writes in
              let whole : v ∷ others ≡ w ∷ there = sym cut ∙ both ∙ ap (λ l. l ++ there) one in
              let tail : others ≡ there = cc in
              subst (λ l. IsRun links transducer to states items l) (sym tail) run

          back : IsRun links transducer to states items others → Goes states items
          back run = (edge, v ∷ [], others, held, is, matches, subst (λ b. WritesAt links (leaf_of edge.leaf) b t (v ∷ [])) (sym captured) (v, may, refl), cut, run)

      pub not-written : edge.captured ≡ true → ((v : Item) (others : List Item) → rest ≡ v ∷ others → MayWrite links (leaf_of edge.leaf) t v → ⊥)
          → (states : List ℕ) (items : List Item) → Goes states items → ⊥
      not-written captured none states items (other, here, there, kept, to_is, reads, writes, both, run) =
          let (w, allowed, one) = subst (λ b. WritesAt links (leaf_of other.leaf) b t here) ((leaf_same other kept to_is).1 ∙ captured) writes in
          none w there (both ∙ ap (λ l. l ++ there) one) (subst (λ l. MayWrite links (leaf_of l) t w) (leaf_same other kept to_is).0 allowed)

-- a run has a state for each item
pub run-length : (links : List (Link Item)) (transducer : Transducer) (state : ℕ) (states : List ℕ) (items output : List Item) → IsRun links transducer state states items output → length states ≡ length items
run-length links transducer state [] [] output run = refl
run-length links transducer state [] (t ∷ items) output run = absurd run
run-length links transducer state (next ∷ states) [] output run = absurd run
run-length links transducer state (next ∷ states) (t ∷ items) output (edge, here, there, held, is, reads, writes, both, run) = ap suc (run-length links transducer next states items there run)
