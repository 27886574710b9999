use Rattle.std.proofs.Common.{◌≡◌, ℕ, ◌+◌, ◌≤◌, true, false, List, [], ◌∷◌, ◌++◌, length, drop, refl, sym, ap, ◌∙◌, subst, arith, append_assoc}
use Rattle.std.proofs.lemmas.List.{append-nil, map-append, drop_all}
use Rattle.mine_model.specs.declared.item.Item.{Item}
use Rattle.mine_model.specs.Hierarchy.{Link}
use Rattle.fst_compile.specs.declared.edge.Edge.{Edge}
use Rattle.fst_compile.specs.declared.edge.State.{State}
use Rattle.fst_compile.specs.Transducer.{Transducer}
use Rattle.pattern_proof.specs.Reading.{numbers_of}
use Rattle.pattern_proof.specs.Steps.{IsRun}
use Rattle.pattern_proof.specs.Finding.{Question, question_of, IsPlace, CanEnd}
use Rattle.pattern_proof.proofs.FindingLemmas.{right-behind, ends-passes, goes-silent, goes-written}
use Rattle.pattern_proof.proofs.search.choose.Goals as goal
use Rattle.pattern_proof.proofs.search.choose.Goals.{then-edge, else-edge}

-- the edge leads to that place, from where a path goes on
abbrev Moves : Question → ℕ → ℕ → ℕ → Edge → ℕ → ℕ → Type 0
Moves q s w state edge s' w' = IsPlace q s' w' × CanEnd q s' w' edge.to.0
    × ((states : List ℕ) → IsRun q.links q.transducer edge.to.0 states (drop (s' + w') q.items) (drop w' q.pattern)
    → IsRun q.links q.transducer state (edge.to.0 ∷ states) (drop (s + w) q.items) (drop w q.pattern))

-- one more state behind those that were found
one-more : (found : List State) (to : State) (new : List State) (tail : List ℕ) → new ≡ found ++ to ∷ [] → numbers_of found ++ (to.0 ∷ tail) ≡ numbers_of new ++ tail
one-more found to new tail is =
    sym (append_assoc (numbers_of found) (to.0 ∷ []) tail)
    ∙ ap (λ l. l ++ tail) (sym (map-append (λ (state : State). state.0) found (to ∷ [])) ∙ ap numbers_of (sym is))

-- where no item is left, no state is
no-state : (links : List (Link Item)) (transducer : Transducer) (state : ℕ) (states : List ℕ) (items output : List Item) → items ≡ [] → IsRun links transducer state states items output → states ≡ []
no-state links transducer state [] items output none run = refl
no-state links transducer state (next ∷ states) items output none run = absurd (subst (λ l. IsRun links transducer state (next ∷ states) l output) none run)

pub next_edge-requires-clause-silent : goal.next_edge-requires-clause-silent
next_edge-requires-clause-silent c = λ place.
    right-behind (question_of c.args.search.now) 0 c.args.words.now c.requires.right (c.loop-silent.silent + 1) c.loop-silent.written place (omega arith)

pub next_edge-requires-clause-written : goal.next_edge-requires-clause-written
next_edge-requires-clause-written c = λ place.
    right-behind (question_of c.args.search.now) 0 c.args.words.now c.requires.right c.loop-silent.silent (c.loop-silent.written + 1) place (omega arith)

pub returns-in_default-clause-run : goal.returns-in_default-clause-run
returns-in_default-clause-run c =
    let q : Question = question_of c.args.search.now in
    let cut = c.requires.search.cut in
    let fits : length q.pattern ≤ length q.items = omega (arith, cut) in
    let (edge, held, passes) = ends-passes q fits c.loop-silent.silent c.loop-silent.written c.loop-silent.invariant.place c.loop-silent.state.0 c.loop-silent-test.true c.loop-silent.invariant.ends in
    absurd (c.in_default.ensures edge held passes)

pub loop-silent-preserved : goal.loop-silent-preserved
loop-silent-preserved c =
    let q : Question = question_of c.args.search.now in
    let cut = c.requires.search.cut in
    let fits : length q.pattern ≤ length q.items = omega (arith, cut) in
    let s : ℕ = c.loop-silent.silent in
    let w : ℕ = c.loop-silent.written in
    let state : ℕ = c.loop-silent.state.0 in
    let edge : Edge = c.in-Some.edge in
    let place = c.loop-silent.invariant.place in
    let moves : Moves q s w state edge c.if-edge.silent c.if-edge.written = elim c.if-edge.branch [
      | then-edge b ↦
          (let loud : edge.captured ≡ true = grind (arith, b.if-edge.true) in
          subst (λ x. Moves q s w state edge x c.if-edge.written) (sym b.silent-is)
          (subst (λ x. Moves q s w state edge s x) (sym b.written-is) (goes-written q fits s w place state edge c.in-Some.ensures.0 c.in-Some.ensures.2 loud)))
      | else-edge b ↦
          (let quiet : edge.captured ≡ false = grind (arith, b.if-edge.false) in
          subst (λ x. Moves q s w state edge x c.if-edge.written) (sym b.silent-is)
          (subst (λ x. Moves q s w state edge (s + 1) x) (sym b.written-is) (goes-silent q fits s w place state edge c.in-Some.ensures.0 c.in-Some.ensures.2 quiet)))
    ] in
    let more : c.if-edge.silent + c.if-edge.written ≡ s + w + 1 = elim c.if-edge.branch [
      | then-edge b ↦ (let x = b.silent-is in let y = b.written-is in omega (arith, x, y))
      | else-edge b ↦ (let x = b.silent-is in let y = b.written-is in omega (arith, x, y))
    ] in
    let pushed = c.push_reserved.ensures.len in
    let long = c.loop-silent.invariant.long in
    record {
      place = moves.0;
      state = c.in-Some.ensures.1;
      long = omega (arith, pushed, long, more);
      deep = c.push_reserved.ensures.capacity ∙ c.loop-silent.invariant.deep;
      ends = moves.1;
      adds = λ states run.
          subst (λ l. IsRun q.links q.transducer 0 l q.items q.pattern) (one-more c.loop-silent.states.items edge.to c.push_reserved.new.self.items states c.push_reserved.ensures.items)
          (c.loop-silent.invariant.adds (edge.to.0 ∷ states) (moves.2 states run));
    }

pub returns-clause-run : goal.returns-clause-run
returns-clause-run c =
    let q : Question = question_of c.args.search.now in
    let last = c.loop-silent-test.false in
    let none = drop_all (c.loop-silent.silent + c.loop-silent.written) q.items (omega (arith, last)) in
    let (states, run) = c.loop-silent.invariant.ends in
    let empty = no-state q.links q.transducer c.loop-silent.state.0 states _ _ none run in
    subst (λ l. IsRun q.links q.transducer 0 l q.items q.pattern) (ap (λ l. numbers_of c.loop-silent.states.items ++ l) empty ∙ append-nil (numbers_of c.loop-silent.states.items))
    (c.loop-silent.invariant.adds states run)
