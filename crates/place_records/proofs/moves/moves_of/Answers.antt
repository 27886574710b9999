use Rattle.std.proofs.Common.{◌≡◌, ◌∙◌, ◌+◌, [], ◌∷◌, ◌++◌, map, take, sym, ap}
use Rattle.std.proofs.lemmas.List.{map-append, map_more}
use Rattle.walk_memo.specs.Moves.{move_sets}
use Rattle.place_records.specs.Twins.{twin_sets, move_in}
use Rattle.place_records.proofs.moves.moves_of.Goals as goal

pub loop-twin-preserved : goal.loop-twin-preserved
loop-twin-preserved g c =
    let twins = c.args.twins.now in
    let index = c.loop-twin.twin-index in
    let twin = c.twin-item.result in
    let sets : map (twin_sets {W = g.row.W}) (take (index + 1) twins) ≡ map (twin_sets {W = g.row.W}) (take index twins) ++ twin_sets {W = g.row.W} twin ∷ [] =
    map_more (twin_sets {W = g.row.W}) twins index twin c.loop-twin-test.true
    ∙ ap (λ t. map (twin_sets {W = g.row.W}) (take index twins) ++ twin_sets {W = g.row.W} t ∷ []) (sym c.twin-item.is) in
    let before : map (move_sets {W = g.row.W}) c.push.new.self.items ≡ map (move_sets {W = g.row.W}) c.loop-twin.moves.items ++ move_sets {W = g.row.W} c.movement.result.now ∷ [] =
    ap (map (move_sets {W = g.row.W})) c.in_ok-push.ensures.items ∙ map-append (move_sets {W = g.row.W}) c.loop-twin.moves.items (c.movement.result.now ∷ []) in
    let after : map (move_in c.args.goes) (map (twin_sets {W = g.row.W}) (take (index + 1) twins))
    ≡ map (move_in c.args.goes) (map (twin_sets {W = g.row.W}) (take index twins)) ++ move_in c.args.goes (twin_sets {W = g.row.W} twin) ∷ [] =
    ap (map (move_in c.args.goes)) sets ∙ map-append (move_in c.args.goes) (map (twin_sets {W = g.row.W}) (take index twins)) (twin_sets {W = g.row.W} twin ∷ []) in
    before ∙ (ap (λ ms. ms ++ move_sets {W = g.row.W} c.movement.result.now ∷ []) c.loop-twin.invariant
    ∙ (ap (λ m. map (move_in c.args.goes) (map (twin_sets {W = g.row.W}) (take index twins)) ++ m ∷ []) c.movement.ensures ∙ sym after))
