use Rattle.std.proofs.Common.{◌≡◌, ◌≤◌, ◌*◌, ◌++◌, ◌∷◌, [], nat_eq, ℕ, List, length, take, drop, get_or, sym, ap, ◌∙◌, subst}
use Rattle.automaton_model.specs.Automata.{StateValue}
use Rattle.group_search.specs.Decoded.{states_in, edges_in}
use Rattle.group_search.proofs.DecodeLemmas.{IsReading, reading-first, reading-room, reading-next, reading-done, behind-two}
use Rattle.group_search.proofs.decoded.decode.Goals as goal

pub states-init : goal.states-init
states-init c = reading-first c.args.base c.args.code.now c.requires.code.0 c.args.heads.now.items c.args.edges.now.items c.requires.code.1 c.requires.held

pub split_at-requires : goal.split_at-requires
split_at-requires c =
    subst (λ (l : List ℕ). 2 * get_or c.states.left.now 1 0 ≤ length l) (sym (behind-two c.states.left.now))
    (reading-room c.args.base c.args.code.now c.args.heads.now.items c.args.edges.now.items c.states.left.now c.states.heads.items c.states.edges.items c.states.invariant c.states-test.true)

pub states-preserved : goal.states-preserved
states-preserved c =
    let left : List ℕ = c.states.left.now in
    let back : c.split_at.result.1.now ≡ drop (2 * get_or left 1 0) (drop 2 left) = c.split_at.ensures.back ∙ ap (drop (2 * get_or left 1 0)) (behind-two left) in
    let front : c.split_at.result.0.now ≡ take (2 * get_or left 1 0) (drop 2 left) = c.split_at.ensures.front ∙ ap (take (2 * get_or left 1 0)) (behind-two left) in
    let state : List ℕ → StateValue = λ pairs. record { accepts = nat_eq (get_or left 0 0) 1; edges = edges_in c.args.base pairs } in
    subst (λ (l : List ℕ). IsReading c.args.base c.args.code.now c.args.heads.now.items c.args.edges.now.items l c.push_state.new.heads.items c.push_state.new.edges.items) (sym back)
    (reading-next c.args.base c.args.code.now c.args.heads.now.items c.args.edges.now.items c.states.left.now c.states.heads.items c.states.edges.items c.states.invariant c.states-test.true
    c.push_state.new.heads.items c.push_state.new.edges.items c.in_ok-push_state.ensures.held
    (c.in_ok-push_state.ensures.states ∙ ap (λ (pairs : List ℕ). states_in c.states.heads.items c.states.edges.items ++ state pairs ∷ []) front))

pub returns : goal.returns
returns c =
    reading-done c.args.base c.args.code.now c.args.heads.now.items c.args.edges.now.items c.states.left.now c.states.heads.items c.states.edges.items c.states.invariant c.states-test.false
