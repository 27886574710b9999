use Rattle.std.proofs.Common.{◌≡◌, ◌∙◌, ◌<◌, ◌++◌, ◌∷◌, ◌⊎◌, Some, List, [], sym, ap, subst}
use Rattle.std.proofs.lemmas.List.Elements.{All-contains}
use Rattle.mine_model.proofs.ElementLemmas.{slice_get-mapped_by}
use Rattle.place_walk.specs.declared.stand.Stand.{Stand}
use Rattle.candidate_graph.specs.Graphs.{Standpoint}
use Rattle.candidate_graph.specs.Words.{key_of, point_of, IsKey, points_in}
use Rattle.candidate_graph.proofs.WordLemmas.{AreSmall, point-back, is-key, keys-more, points-more}
use Rattle.candidate_graph.proofs.nodes.Nodes.number.Goals as goal
use Rattle.candidate_graph.proofs.nodes.Nodes.number.Goals.{In_ok-number}

module _ (c : In_ok-number) where
  small : AreSmall c.args.stands.now
  small stand held = All-contains (λ (s : Stand). s.state < 65536) c.args.stands.now stand c.in_ok-write_key.ensures.small held

  words-are : c.as_slice.result.now ≡ key_of (record { seen = c.args.seen; stands = c.args.stands.now })
  words-are = c.as_slice.ensures.value ∙ c.in_ok-write_key.ensures.written

  keyed : IsKey c.as_slice.result.now
  keyed = subst IsKey (sym words-are) (is-key c.args.seen c.args.stands.now c.requires small)

  point-is : point_of c.as_slice.result.now ≡ record { seen = c.args.seen; stands = c.args.stands.now }
  point-is = ap point_of words-are ∙ point-back c.args.seen c.args.stands.now c.requires small

pub invariant_of-self-2 : goal.invariant_of-self-2
invariant_of-self-2 c =
    let at = (goal.at.invariant_of-self-2 c).In_ok-number in
    keys-more c.self.inside.keys.lists c.number.new.self.lists c.as_slice.result.now (keyed at) c.in_ok-number.ensures.lists c.self.invariant

pub returns-clause-grows : goal.returns-clause-grows
returns-clause-grows c =
    let at = (goal.at.returns-clause-grows c).In_ok-number in
    let here : Standpoint = record { seen = c.args.seen; stands = c.args.stands.now } in
    subst (λ (l : List Standpoint). (points_in c.number.new.self.lists ≡ l) ⊎ (points_in c.number.new.self.lists ≡ l ++ here ∷ [])) c.self.view_is
    (points-more c.self.inside.keys.lists c.number.new.self.lists c.as_slice.result.now here (point-is at) c.in_ok-number.ensures.lists)

pub returns-clause-number : goal.returns-clause-number
returns-clause-number c =
    let at = (goal.at.returns-clause-number c).In_ok-number in
    slice_get-mapped_by point_of c.number.new.self.lists c.in_ok-number.number c.as_slice.result.now c.in_ok-number.ensures.number
    ∙ ap (λ (p : Standpoint). Some p) (point-is at)
