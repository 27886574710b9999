use Rattle.std.proofs.Common.{◌≡◌, ◌+◌, ◌++◌, ◌∷◌, [], map, sum_by, ℕ, arith, List, false, eqb, slice_set, ap, sym, ◌∙◌, subst}
use Rattle.std.specs.List.{list_any}
use Rattle.automaton_model.specs.Searches.{Load}
use Rattle.group_search.specs.declared.loads.LoadedState.{LoadedState}
use Rattle.group_search.specs.Found.{load_of}
use Rattle.cand_automaton.specs.Loads.{IsLoaded}
use Rattle.cand_automaton.proofs.HeldLemmas.{states_of, held-more, held-states, held-new, held-added, held-weight, turned, turned-back, kept-keys}
use Rattle.cand_automaton.proofs.loads.Loads.add.Goals as goal

pub overflow_add-index_mut : goal.overflow_add-index_mut
overflow_add-index_mut c =
    let keys = c.self.inside.states.keys in
    let stay = kept-keys keys c.insert_full.new.self.keys (keys ++ c.args.state ∷ []) (list_any (eqb c.args.state) keys) c.in_ok-place.ensures.keys
    (turned-back c.in_ok-place.new (list_any (eqb c.args.state) keys) c.in_ok-place.ensures.added c.if-new.false) in
    let items : c.reserve.new.self.items ≡ c.self.inside.held.items = c.reserve.ensures.items in
    let at = held-added keys c.insert_full.new.self.keys c.reserve.new.self.items c.args.state c.in_ok-place.place c.index_mut.result.now (c.self.invariant ∙ ap states_of (sym items)) stay
    c.in_ok-place.ensures.stored c.index_mut.ensures.value in
    let most = held-weight c.reserve.new.self.items c.in_ok-place.place c.index_mut.result.now at.0 in
    let whole : sum_by (λ (load : Load). load.weight) (map load_of c.reserve.new.self.items) ≡ sum_by (λ (load : Load). load.weight) c.args.self.now =
    ap (λ (l : List Load). sum_by (λ (load : Load). load.weight) l) (ap (map load_of) items ∙ c.self.view_is) in
    omega (arith, most, whole, c.requires)

pub invariant_of-self-else-new : goal.invariant_of-self-else-new
invariant_of-self-else-new c =
    let keys = c.self.inside.states.keys in
    let stay = kept-keys keys c.insert_full.new.self.keys (keys ++ c.args.state ∷ []) (list_any (eqb c.args.state) keys) c.in_ok-place.ensures.keys
    (turned-back c.in_ok-place.new (list_any (eqb c.args.state) keys) c.in_ok-place.ensures.added c.if-new.false) in
    let items : c.reserve.new.self.items ≡ c.self.inside.held.items = c.reserve.ensures.items in
    let are : keys ≡ states_of c.reserve.new.self.items = c.self.invariant ∙ ap states_of (sym items) in
    let at = held-added keys c.insert_full.new.self.keys c.reserve.new.self.items c.args.state c.in_ok-place.place c.index_mut.result.now are stay
    c.in_ok-place.ensures.stored c.index_mut.ensures.value in
    stay ∙ are ∙ sym (held-states c.reserve.new.self.items c.in_ok-place.place c.index_mut.result.now (c.index_mut.result.now.weight + c.args.weight) at.0)

pub returns-then-new : goal.returns-then-new
returns-then-new c =
    let keys = c.self.inside.states.keys in
    let none = turned c.in_ok-place.new (list_any (eqb c.args.state) keys) c.in_ok-place.ensures.added c.if-new.true in
    let items : c.reserve.new.self.items ≡ c.self.inside.held.items = c.reserve.ensures.items in
    let one : LoadedState = record { state = c.args.state; weight = c.args.weight } in
    let pushed : c.push.new.self.items ≡ c.reserve.new.self.items ++ one ∷ [] = rw c.unwrap.ensures at c.push.ensures.items in
    let loaded = held-new c.self.inside.held.items c.args.state c.args.weight (subst (λ (l : List ℕ). list_any (eqb c.args.state) l ≡ false) c.self.invariant none) in
    subst (λ (l : List LoadedState). IsLoaded c.args.self.now c.args.state c.args.weight (map load_of l)) (sym (pushed ∙ ap (λ (l : List LoadedState). l ++ one ∷ []) items))
    (subst (λ (l : List Load). IsLoaded l c.args.state c.args.weight (map load_of (c.self.inside.held.items ++ one ∷ []))) c.self.view_is loaded)

pub returns-else-new : goal.returns-else-new
returns-else-new c =
    let keys = c.self.inside.states.keys in
    let stay = kept-keys keys c.insert_full.new.self.keys (keys ++ c.args.state ∷ []) (list_any (eqb c.args.state) keys) c.in_ok-place.ensures.keys
    (turned-back c.in_ok-place.new (list_any (eqb c.args.state) keys) c.in_ok-place.ensures.added c.if-new.false) in
    let items : c.reserve.new.self.items ≡ c.self.inside.held.items = c.reserve.ensures.items in
    let one = c.index_mut.result.now in
    let at = held-added keys c.insert_full.new.self.keys c.reserve.new.self.items c.args.state c.in_ok-place.place one (c.self.invariant ∙ ap states_of (sym items)) stay
    c.in_ok-place.ensures.stored c.index_mut.ensures.value in
    let loaded = held-more c.reserve.new.self.items c.in_ok-place.place one c.args.weight at.0 in
    let more : LoadedState = record { state = one.state; weight = one.weight + c.args.weight } in
    subst (λ (l : List Load). IsLoaded l c.args.state c.args.weight (map load_of (slice_set c.reserve.new.self.items c.in_ok-place.place more))) (ap (map load_of) items ∙ c.self.view_is)
    (subst (λ (n : ℕ). IsLoaded (map load_of c.reserve.new.self.items) n c.args.weight (map load_of (slice_set c.reserve.new.self.items c.in_ok-place.place more))) at.1 loaded)
