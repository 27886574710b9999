-- A run has one counted work.
use Rattle.std.proofs.Common.{◌≡◌, ℕ, inl, inr, List, [], ◌∷◌, sym, ap, ◌∙◌, arith}
use Rattle.mine_model.specs.declared.mined.Work.{Work}
use Rattle.mine_model.specs.Support.{Sequence}
use Rattle.mine_model.specs.Answer.{Data}
use Rattle.mine_model.specs.Candidates.{IsCandidate}
use Rattle.mine_model.specs.Counted.{HasPairs, told_of, IsCountingWork}
use Rattle.mine_model.specs.Growth.{IsAlive, AreFrequentItems, IsSearchWork}
use Rattle.mine_model.proofs.NumberLemmas.{IsNumberOf-unique}

module _ {A : Type 0} (d : Data A) where
  pub HasPairs-unique : (sequences : List (Sequence A)) (m n : ℕ) → HasPairs d sequences m → HasPairs d sequences n → m ≡ n
  HasPairs-unique [] m n first second = first ∙ sym second
  HasPairs-unique (sequence ∷ sequences) m n (here, rest, sum, has, more) (here', rest', sum', has', more') =
      omega (arith, sum, sum', IsNumberOf-unique (IsCandidate d sequence.items) here here' has has', HasPairs-unique sequences rest rest' more more')

works-same : (first second : Work) → first.nodes ≡ second.nodes → first.parts ≡ second.parts → first.candidates ≡ second.candidates → first ≡ second
works-same first second nodes parts candidates =
    ap (λ x. let w : Work = record { nodes = x; parts = first.parts; candidates = first.candidates } in w) nodes
    ∙ ap (λ x. let w : Work = record { nodes = second.nodes; parts = x; candidates = first.candidates } in w) parts
    ∙ ap (λ x. let w : Work = record { nodes = second.nodes; parts = second.parts; candidates = x } in w) candidates

pub IsCountingWork-unique : (d : Data (List ℕ)) (first second : Work) → IsCountingWork d first → IsCountingWork d second → first ≡ second
IsCountingWork-unique d first second one other =
    let (m, pairs, told) = one.pairs in
    let (n, pairs', told') = other.pairs in
    works-same first second (one.nodes ∙ sym other.nodes) (one.parts ∙ sym other.parts)
    (told ∙ ap told_of (HasPairs-unique d d.sequences m n pairs pairs') ∙ sym told')

pub IsSearchWork-unique : (d : Data (List ℕ)) (first second : Work) → IsSearchWork d first → IsSearchWork d second → first ≡ second
IsSearchWork-unique d first second one other =
    works-same first second
    (IsNumberOf-unique (IsAlive d (AreFrequentItems d)) first.nodes second.nodes one.nodes other.nodes)
    (elim one.parts [
      | inl some ↦ elim other.parts [ inl more ↦ some.0 ∙ sym more.0 | inr none ↦ absurd (none.1 some.1) ]
      | inr none ↦ elim other.parts [ inl some ↦ absurd (none.1 some.1) | inr more ↦ none.0 ∙ sym more.0 ]
    ])
    (one.candidates ∙ sym other.candidates)
