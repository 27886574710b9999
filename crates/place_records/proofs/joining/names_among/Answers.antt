use Rattle.std.proofs.Common.{◌≡◌, ◌∙◌, ◌+◌, [], ◌∷◌, ◌++◌, map, take, refl, sym, ap, subst}
use Rattle.std.proofs.lemmas.List.{map_more, take_all}
use Rattle.sequence_grids.proofs.KindLemmas.{Extends-nothing, Extends-twice}
use Rattle.place_records.specs.Twins.{twin_sets}
use Rattle.place_records.specs.Blocks.{AreNames}
use Rattle.place_records.proofs.NumberLemmas.{Extends-added}
use Rattle.place_records.proofs.BlockLemmas.{AreNames-none, AreNames-more}
use Rattle.place_records.proofs.joining.names_among.Goals as goal

pub loop-twin-init : goal.loop-twin-init
loop-twin-init g c = record { grow = Extends-nothing (map (twin_sets {W = g.row.W}) c.args.all.now.keys); names = AreNames-none [] (map (twin_sets {W = g.row.W}) c.args.all.now.keys) _ refl c.new-names.ensures.items }

pub loop-twin-preserved : goal.loop-twin-preserved
loop-twin-preserved g c =
    let twins = c.args.twins.now in
    let index = c.loop-twin.twin-index in
    let twin = c.twin-item.result in
    let before = c.loop-twin.invariant in
    let sets : map (twin_sets {W = g.row.W}) (take (index + 1) twins) ≡ map (twin_sets {W = g.row.W}) (take index twins) ++ twin_sets {W = g.row.W} twin ∷ [] =
    map_more (twin_sets {W = g.row.W}) twins index twin c.loop-twin-test.true
    ∙ ap (λ t. map (twin_sets {W = g.row.W}) (take index twins) ++ twin_sets {W = g.row.W} t ∷ []) (sym c.twin-item.is) in
    let added = Extends-added _ _ _ c.twin_in.ensures.grows in
    record {
      grow = Extends-twice (map (twin_sets {W = g.row.W}) c.args.all.now.keys) (map (twin_sets {W = g.row.W}) c.loop-twin.all.keys) (map (twin_sets {W = g.row.W}) c.twin_in.new.twins.keys) before.grow added;
      names = AreNames-more (map (twin_sets {W = g.row.W}) (take index twins)) (map (twin_sets {W = g.row.W}) (take (index + 1) twins)) (map (twin_sets {W = g.row.W}) c.loop-twin.all.keys)
          (map (twin_sets {W = g.row.W}) c.twin_in.new.twins.keys) c.loop-twin.names.items c.push.new.self.items (twin_sets {W = g.row.W} twin) _ before.names sets c.in_ok-push.ensures.items added c.in_ok-twin_in.ensures.there;
    }

pub returns-clause-names : goal.returns-clause-names
returns-clause-names g c =
    subst (λ twins. AreNames (map (twin_sets {W = g.row.W}) twins) (map (twin_sets {W = g.row.W}) c.loop-twin.all.keys) c.loop-twin.names.items) (take_all c.loop-twin.twin-index c.args.twins.now c.loop-twin-test.false)
    c.loop-twin.invariant.names
