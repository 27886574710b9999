use Rattle.std.proofs.Common.{◌≡◌, true, false, refl, sym, ◌∙◌, rules}
use Rattle.snapshot_project.specs.Aims.{goes}
use Rattle.sequence_candidates.proofs.ExpandLemmas.{node-walks, node-grown}
use Rattle.sequence_candidates.proofs.expanding.expand_over.Goals as goal

pub expand-requires : goal.expand-requires
expand-requires g c =
    let width = c.requires.width in
    let inside = c.requires.node in
    let (part, index, on) = c.requires.on in
    let late_is : goes c.seen.result c.args.need ≡ true = sym c.goes.ensures ∙ c.if-goes.true in
    let (walk, stands) = node-walks part c.args.need c.args.terrain.now index c.args.graph.now.room c.args.graph.now.nodes on c.args.node inside c.seen.result c.seen.ensures
    c.args.terrain.now.late true late_is on.terrain_is.rows on.terrain_is.late c.places.result.now c.places.ensures c.table.result.now c.table.ensures in
    search rules

pub expand-requires-else-goes : goal.expand-requires-else-goes
expand-requires-else-goes g c =
    let width = c.requires.width in
    let inside = c.requires.node in
    let (part, index, on) = c.requires.on in
    let late_is : goes c.seen.result c.args.need ≡ false = sym c.goes.ensures ∙ c.if-goes.false in
    let (walk, stands) = node-walks part c.args.need c.args.terrain.now index c.args.graph.now.room c.args.graph.now.nodes on c.args.node inside c.seen.result c.seen.ensures
    c.args.terrain.now.early false late_is refl on.terrain_is.early c.places-else-goes.result.now c.places-else-goes.ensures c.table-else-goes.result.now c.table-else-goes.ensures in
    search rules

pub returns-then-goes-clause-on : goal.returns-then-goes-clause-on
returns-then-goes-clause-on g c = λ part index on.
    let inside = c.requires.node in
    let late_is : goes c.seen.result c.args.need ≡ true = sym c.goes.ensures ∙ c.if-goes.true in
    record {
      part_is = on.part_is;
      need_is = on.need_is;
      terrain_is = record {
        ground = on.terrain_is.ground;
        early = on.terrain_is.early;
        rows = c.expand.ensures.rows ∙ on.terrain_is.rows;
        late = c.expand.ensures.moves ∙ on.terrain_is.late;
      };
      room_is = rw c.expand.ensures.room on.room_is;
      begun_is =
          node-grown part c.args.need c.args.terrain.now index c.args.graph.now.room c.args.graph.now.nodes on c.args.node inside c.seen.result c.seen.ensures
          c.args.terrain.now.late true late_is on.terrain_is.rows on.terrain_is.late c.places.result.now c.places.ensures c.table.result.now c.table.ensures
          c.expand.new.self.nodes c.expand.ensures.grows c.expand.ensures.graph;
    }

pub returns-else-goes-clause-on : goal.returns-else-goes-clause-on
returns-else-goes-clause-on g c = λ part index on.
    let inside = c.requires.node in
    let late_is : goes c.seen.result c.args.need ≡ false = sym c.goes.ensures ∙ c.if-goes.false in
    let rows : c.expand-else-goes.new.memo.rows ≡ c.args.terrain.now.early.rows = c.expand-else-goes.ensures.rows in
    let begun =
    node-grown part c.args.need c.args.terrain.now index c.args.graph.now.room c.args.graph.now.nodes on c.args.node inside c.seen.result c.seen.ensures
    c.args.terrain.now.early false late_is refl on.terrain_is.early c.places-else-goes.result.now c.places-else-goes.ensures c.table-else-goes.result.now c.table-else-goes.ensures
    c.expand-else-goes.new.self.nodes c.expand-else-goes.ensures.grows c.expand-else-goes.ensures.graph in
    record {
      part_is = on.part_is;
      need_is = on.need_is;
      terrain_is = record {
        ground = rw rows on.terrain_is.ground;
        early = c.expand-else-goes.ensures.moves ∙ on.terrain_is.early;
        rows = on.terrain_is.rows ∙ sym rows;
        late = on.terrain_is.late;
      };
      room_is = rw c.expand-else-goes.ensures.room on.room_is;
      begun_is = rw rows begun;
    }
