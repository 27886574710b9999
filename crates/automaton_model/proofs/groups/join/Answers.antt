use Rattle.std.proofs.Common.{◌≡◌, inl, inr, List, [], ◌∷◌, ◌++◌, sym, ap, ◌∙◌, arith}
use Rattle.std.proofs.lemmas.List.{nil_from_length}
use Rattle.automaton_model.specs.declared.groups.Group.{Group}
use Rattle.automaton_model.proofs.MergeLemmas.{codes-differ}
use Rattle.automaton_model.proofs.groups.join.Goals.{in-Some+else-eq+in_ok-push-2, in_default}
use Rattle.automaton_model.proofs.groups.join.Goals as goal

pub returns-clause-joined : goal.returns-clause-joined
returns-clause-joined c = elim c.match-pop.branch [
  | in-Some+else-eq+in_ok-push-2 w ↦ inr (
    c.pop.new.self.items,
    w.in-Some.last,
    w.in-Some.ensures.items,
    inr (
      (λ same. codes-differ w.code.result.now w.code-in-Some.result.now w.eq.result w.eq.ensures w.if-eq.false (w.code.ensures ∙ same ∙ sym w.code-in-Some.ensures)),
      c.in_ok-push-3.ensures.items ∙ (λ i. (w.groups-is i).items ++ c.args.part ∷ []) ∙ ap (λ (l : List Group). l ++ c.args.part ∷ []) w.in_ok-push-2.ensures.items,
    ),
  )
  | in_default w ↦
      let before : c.args.groups.now.items ≡ [] = nil_from_length c.args.groups.now.items (omega (arith, w.in_default.ensures.cases.0, c.args.groups.now.ok.0)) in
      let left : c.pop.new.self.items ≡ [] = nil_from_length c.pop.new.self.items (omega (arith, w.in_default.ensures.cases.1, c.pop.new.self.ok.0)) in
      inl (before, c.in_ok-push-3.ensures.items ∙ (λ i. (w.groups-is i).items ++ c.args.part ∷ []) ∙ ap (λ (l : List Group). l ++ c.args.part ∷ []) left)
]
