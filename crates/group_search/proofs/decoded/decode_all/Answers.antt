use Rattle.std.proofs.Common.{◌≡◌, ◌+◌, ◌++◌, ◌∷◌, [], List, length, take, sym, ap, ◌∙◌, subst, arith}
use Rattle.std.specs.List.{Contains}
use Rattle.std.proofs.lemmas.List.{take_more}
use Rattle.automaton_model.specs.declared.groups.Group.{Group}
use Rattle.group_search.specs.declared.loads.LoadedState.{LoadedState}
use Rattle.group_search.proofs.DecodeLemmas.{AreRead, read-more}
use Rattle.group_search.proofs.decoded.decode_all.Goals as goal

pub decode-requires-clause-code : goal.decode-requires-clause-code
decode-requires-clause-code c =
    let held : Contains c.args.groups.now c.group-item.result = (c.groups.group-index, c.groups-test.true, sym c.group-item.is) in
    let (count, most, is) = c.requires.codes c.group-item.result held in
    (is.states, c.code.ensures ∙ is.coded)

pub groups-preserved : goal.groups-preserved
groups-preserved c =
    let groups : List Group = c.args.groups.now in
    let group : Group = c.group-item.result in
    let held : Contains c.args.groups.now c.group-item.result = (c.groups.group-index, c.groups-test.true, sym c.group-item.is) in
    let (count, most, is) = c.requires.codes c.group-item.result held in
    let (states, coded, added) = c.in_ok-decode.ensures in
    let base : c.in_ok-base.base ≡ length c.groups.heads.items = omega (arith, c.in_ok-base.ensures, c.len.ensures, c.groups.heads.ok.0) in
    let seen : take (c.groups.group-index + 1) groups ≡ take c.groups.group-index groups ++ group ∷ [] =
    take_more groups c.groups.group-index group c.groups-test.true ∙ ap (λ (x : Group). take c.groups.group-index groups ++ x ∷ []) (sym c.group-item.is) in
    subst (λ (l : List LoadedState). AreRead (take (c.groups.group-index + 1) groups) c.decode.new.heads.items c.decode.new.edges.items l) (sym c.in_ok-push.ensures.items)
    (subst (λ (l : List Group). AreRead l c.decode.new.heads.items c.decode.new.edges.items (c.groups.loads.items ++ (record { state = c.in_ok-base.base; weight = group.count }) ∷ [])) (sym seen)
    (read-more (take c.groups.group-index groups) c.groups.heads.items c.groups.edges.items c.groups.loads.items c.groups.invariant group count most is c.in_ok-base.base base
    states (sym c.code.ensures ∙ coded) c.decode.new.heads.items c.decode.new.edges.items added))
