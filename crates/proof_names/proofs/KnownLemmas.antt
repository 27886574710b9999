-- Known names without repetition, and that patterns of data have known names.
use Rattle.std.proofs.Common.{ℕ, zero, suc, ◌≤◌, ◌↔◌, false, inl, inr, List, [], ◌∷◌, refl, sym, ap, subst, arith, Contains}
use Rattle.std.specs.List.{AllByRecursion}
use Rattle.mine_model.specs.Answer.{Data, IsFrequent}
use Rattle.mine_model.specs.Generation.{IsPatternOf}
use Rattle.mine_model.specs.Names.{AreDistinct, IsFileName}
use Rattle.mine_model.proofs.GenerationLemmas.{Generates-items}
use Rattle.mine_model.proofs.ListLemmas.{Contains-cases, Contains-first, Contains-other}
use Rattle.mine_model.proofs.OnceLemmas.{list_or_not}
use Rattle.mine_model.proofs.SupportLemmas.{Counts-some}
use Rattle.pattern_proof.specs.ProofLines.{AreFileNames}
use Rattle.proof_names.specs.Numberings.{AreKnown}
use Rattle.proof_names.proofs.NamingLemmas.{index-held, above-has}

distinct-more : (name : List ℕ) (names : List (List ℕ)) → (Contains names name → ⊥) → AreDistinct names → AreDistinct (name ∷ names)
distinct-more name names new distinct zero zero i_less j_less same = refl
distinct-more name names new distinct zero (suc j) i_less j_less same = absurd (new (subst (Contains names) (sym same) (index-held names j (omega (arith, j_less)))))
distinct-more name names new distinct (suc i) zero i_less j_less same = absurd (new (subst (Contains names) same (index-held names i (omega (arith, i_less)))))
distinct-more name names new distinct (suc i) (suc j) i_less j_less same = ap suc (distinct i j (omega (arith, i_less)) (omega (arith, j_less)) same)

-- the same names, each once
pub distinct-names : (known : List (List ℕ)) → AllByRecursion IsFileName known
    → (names : List (List ℕ)) × AreFileNames names × ((name : List ℕ) → (Contains known name ↔ Contains names name))
distinct-names [] files = ([], record { distinct = λ i j i_less j_less same. absurd (omega (arith, i_less)); some = tt; bytes = tt }, (λ name. ((λ x. x), (λ x. x))))
distinct-names (first ∷ known) files =
    let (names, are, held) = distinct-names known files.1 in
    elim (list_or_not names first) [
      | inl there ↦ (
        names,
        are,
        (λ name. (
          (λ inside. elim (Contains-cases first known name inside) [ inl same ↦ subst (Contains names) (sym same) there | inr other ↦ (held name).0 other ]),
          (λ inside. Contains-other first known name ((held name).1 inside)),
        )),
      )
      | inr new ↦ (
        first ∷ names,
        record { distinct = distinct-more first names new are.distinct; some = (files.0.0, are.some); bytes = (files.0.1, are.bytes) },
        (λ name. (
          (λ inside. elim (Contains-cases first known name inside) [
            | inl same ↦ subst (Contains (first ∷ names)) (sym same) (Contains-first first names)
            | inr other ↦ Contains-other first names name ((held name).0 other)
          ]),
          (λ inside. elim (Contains-cases first names name inside) [
            | inl same ↦ subst (Contains (first ∷ known)) (sym same) (Contains-first first known)
            | inr other ↦ Contains-other first known name ((held name).1 other)
          ]),
        )),
      )
    ]

-- the names of a frequent pattern are known
pub frequent-known : (known : List (List ℕ)) (d : Data (List ℕ)) → AreKnown known d → 1 ≤ d.threshold → (pattern : List (List ℕ)) (support : ℕ)
    → IsFrequent d pattern support → AllByRecursion (Contains known) pattern
frequent-known known d are some pattern support is =
    let (items, has, inside) = Counts-some (λ items. IsPatternOf d.links d.expression items pattern) (AllByRecursion (Contains known)) d.sequences support is.exact
    (let enough = is.enough in omega (arith, some, enough)) are.sequences in
    Generates-items d.links (Contains known) (λ v t up held. above-has (Contains known) d.links are.parents t v held up) d.expression false items pattern has.1 inside
