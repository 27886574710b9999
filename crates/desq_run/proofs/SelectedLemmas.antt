-- The part of an answer is what a share selects of it.
use Rattle.std.proofs.Common.{◌≡◌, ◌⊎◌, ◌↔◌, ℕ, ◌+◌, inl, inr, Bool, ◌&&◌, ◌||◌, List, [], ◌∷◌, Contains, refl, sym, ◌∙◌, subst}
use Rattle.std.specs.Bool.{Decides}
use Rattle.std.specs.Str.{bytes_eq}
use Rattle.std.proofs.lemmas.Bool.{cases_Bool}
use Rattle.std.proofs.lemmas.Bool.Decides.{Decides-like, Decides-and, Decides-or, not_from_Decides}
use Rattle.std.proofs.lemmas.Slice.Eq.{bytes_eq-Decides}
use Rattle.mine_model.specs.Hierarchy.{Link, IsAncestor}
use Rattle.mine_model.specs.Support.{Sequence, HoldsUnder, HasFrequency}
use Rattle.mine_model.specs.Answer.{Data, NamedRow, ComesBefore, Rises}
use Rattle.mine_model.proofs.AnswerLemmas.{ComesBefore-irreflexive, ComesBefore-chain}
use Rattle.mine_model.proofs.GenerationLemmas.{IsAncestor-none}
use Rattle.mine_model.proofs.WalkLemmas.{IsWalk-without, IsAncestor-with}
use Rattle.mine_model.proofs.ListLemmas.{Contains-cases, Contains-first, Contains-other, Contains-none, AllByRecursion-contained}
use Rattle.command_line.specs.declared.share.Share.{Share}
use Rattle.split_merge.specs.Shares.{AreCounted, IsRowOfShare, AreSelected, IsPart}
use Rattle.desq_run.specs.Parts.{IsPartBy}

module _ (Has : NamedRow → Type 0) where
  -- rows in order, some of which are those with the property, are selected by it
  selected : (xs some : List NamedRow) → Rises xs → Rises some → ((row : NamedRow) → Contains some row → Contains xs row × Has row)
      → ((row : NamedRow) → Contains xs row → Has row → Contains some row) → AreSelected Has xs some
  selected [] [] rises also there back = refl
  selected [] (y ∷ ys) rises also there back = absurd (Contains-none y (there y (Contains-first y ys)).0)
  selected (x ∷ xs) [] rises also there back =
      inr (
        (λ has. Contains-none x (back x (Contains-first x xs) has)),
        selected xs [] rises.1 also (λ row held. absurd (Contains-none row held)) (λ row held has. back row (Contains-other x xs row held) has),
      )
  selected (x ∷ xs) (y ∷ ys) rises also there back = elim (Contains-cases x xs y (there y (Contains-first y ys)).0) [
    | inl same ↦ inl (
      subst Has same (there y (Contains-first y ys)).1,
      (
        ys,
        (λ i. same i ∷ ys),
        selected xs ys rises.1 also.1
            (λ row held. (
              (let inside = there row (Contains-other y ys row held) in
                  elim (Contains-cases x xs row inside.0) [
                    | inl here ↦ absurd (ComesBefore-irreflexive y (subst (ComesBefore y) (here ∙ sym same) (AllByRecursion-contained (ComesBefore y) ys row also.0 held)))
                    | inr later ↦ later
                  ]),
              (there row (Contains-other y ys row held)).1,
            ))
            (λ row held has. elim (Contains-cases y ys row (back row (Contains-other x xs row held) has)) [
              | inl here ↦ absurd (ComesBefore-irreflexive x (subst (ComesBefore x) (here ∙ same) (AllByRecursion-contained (ComesBefore x) xs row rises.0 held)))
              | inr later ↦ later
            ]),
      ),
    )
    | inr later ↦ inr (
      (λ has. elim (Contains-cases y ys x (back x (Contains-first x xs) has)) [
        | inl here ↦ ComesBefore-irreflexive x (subst (ComesBefore x) (sym here) (AllByRecursion-contained (ComesBefore x) xs y rises.0 later))
        | inr behind ↦ ComesBefore-irreflexive x (ComesBefore-chain x y x (AllByRecursion-contained (ComesBefore x) xs y rises.0 later) (AllByRecursion-contained (ComesBefore y) ys x also.0 behind))
      ]),
      selected xs (y ∷ ys) rises.1 also
          (λ row held. (
            elim (Contains-cases x xs row (there row held).0) [
              | inl here ↦ absurd (out_of_front row held here later)
              | inr behind ↦ behind
            ],
            (there row held).1,
          ))
          (λ row held has. back row (Contains-other x xs row held) has),
    )
  ]
    where
      out_of_front : (row : NamedRow) → Contains (y ∷ ys) row → row ≡ x → Contains xs y → ⊥
      out_of_front row held here later = elim (Contains-cases y ys row held) [
        | inl first ↦ ComesBefore-irreflexive x (subst (ComesBefore x) (sym first ∙ here) (AllByRecursion-contained (ComesBefore x) xs y rises.0 later))
        | inr behind ↦ ComesBefore-irreflexive x (ComesBefore-chain x y x (AllByRecursion-contained (ComesBefore x) xs y rises.0 later)
            (subst (ComesBefore y) here (AllByRecursion-contained (ComesBefore y) ys row also.0 behind)))
      ]

-- THE PART of a share is the part of the answer, in the words of shares
pub part-of : (IsRow : NamedRow → Type 0) (d : Data (List ℕ)) (share : Share) (answer part : List NamedRow)
    → Rises answer → ((row : NamedRow) → Contains answer row ↔ IsRow row) → IsPartBy IsRow d share part → IsPart d share.index share.of answer part
part-of IsRow d share answer part rises frequent is = record {
  order = is.order;
  list = is.list;
  selected = selected (IsRowOfShare is.order share.index share.of) answer part rises is.ordered
      (λ row held. let (is_row, of_share) = (is.exact row).0 held in ((frequent row).1 is_row, of_share))
      (λ row held has. (is.exact row).1 ((frequent row).0 held, has));
}

-- Each item has a frequency: what stands above a name is decided

abbrev is_above : List (Link (List ℕ)) → List ℕ → List ℕ → Bool
is_above [] w t = bytes_eq t w
is_above (link ∷ links) w t = is_above links w t || (is_above links link.child t && is_above links w link.parent)

above-decided : (links : List (Link (List ℕ))) (w t : List ℕ) → Decides (is_above links w t) (IsAncestor links w t)
above-decided [] w t = Decides-like (bytes_eq t w) (λ same. ([], same)) (IsAncestor-none w t) (bytes_eq-Decides t w)
above-decided (link ∷ links) w t =
    Decides-like (is_above links w t || (is_above links link.child t && is_above links w link.parent))
    (IsAncestor-with links link w t) (λ up. IsWalk-without links link t up.0 w up.1)
    (Decides-or (is_above links w t) (is_above links link.child t && is_above links w link.parent) (above-decided links w t)
    (Decides-and (is_above links link.child t) (is_above links w link.parent) (above-decided links link.child t) (above-decided links w link.parent)))

holds-or-not : (links : List (Link (List ℕ))) (w : List ℕ) (items : List (List ℕ)) → HoldsUnder links w items ⊎ (HoldsUnder links w items → ⊥)
holds-or-not links w [] = inr (λ held. Contains-none held.0 held.1)
holds-or-not links w (t ∷ items) = elim (cases_Bool (is_above links w t)) [
  | inl over ↦ inl (t, Contains-first t items, (above-decided links w t).0 over)
  | inr apart ↦ elim (holds-or-not links w items) [
    | inl later ↦ inl (later.0, Contains-other t items later.0 later.1, later.2)
    | inr none ↦ inr (λ (u, held, above). elim (Contains-cases t items u held) [
      | inl same ↦ not_from_Decides (is_above links w t) (above-decided links w t) apart (subst (IsAncestor links w) same above)
      | inr behind ↦ none (u, behind, above)
    ])
  ]
]

frequency-of : (links : List (Link (List ℕ))) (sequences : List (Sequence (List ℕ))) (w : List ℕ) → (m : ℕ) × HasFrequency links sequences w m
frequency-of links [] w = (0, refl)
frequency-of links (s ∷ sequences) w =
    let (m, is) = frequency-of links sequences w in
    elim (holds-or-not links w s.items) [
      | inl has ↦ (s.weight + m, inl (has, (m, refl, is)))
      | inr not ↦ (m, inr (not, is))
    ]

pub are-counted : (d : Data (List ℕ)) → AreCounted d
are-counted d w = frequency-of d.links d.sequences w
