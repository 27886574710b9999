use Rattle.std.proofs.Common.{◌≡◌, ◌+◌, ◌∙◌, List, length, ap, arith, length-append}
use Rattle.automaton_model.specs.declared.state.Edge.{Edge}
use Rattle.group_search.specs.declared.decoded.Head.{Head}
use Rattle.group_search.specs.Decoded.{states_in, edges_in}
use Rattle.group_search.proofs.DecodeLemmas.{head-pushed}
use Rattle.group_search.proofs.decoded.push_state.Goals as goal

pub returns-clause-states : goal.returns-clause-states
returns-clause-states c =
    let head : Head = record { accepts = c.args.accepts; from = c.len-from.result; end = c.len.result } in
    let more : List Edge = edges_in c.args.base c.args.pairs.now in
    let from : c.len-from.result ≡ length c.args.edges.now.items = omega (arith, c.len-from.ensures, c.args.edges.now.ok.0) in
    let long = ap (λ (l : List Edge). length l) c.in_ok-push_edges.ensures in
    let end : c.len.result ≡ length c.args.edges.now.items + length more =
    omega (arith, c.len.ensures, c.push_edges.new.edges.ok.0, long, length-append c.args.edges.now.items more) in
    (λ i. states_in (c.in_ok-push.ensures.items i) (c.in_ok-push_edges.ensures i))
    ∙ head-pushed c.args.heads.now.items c.args.edges.now.items more head c.requires from end
