use Rattle.std.proofs.Common.{◌≤◌, ◌*◌, ◌≡◌, map, length, sym, subst, Some}
use Rattle.std.specs.List.{slice_get}
use Rattle.sequence_grids.specs.Tables.{TableValue, triple_sets}
use Rattle.sequence_grids.proofs.TableLemmas.{mapped_is, words_long, words_bit}
use Rattle.sequence_grids.proofs.table.Table.completing.Goals as goal

pub returns-then-seen-clause-room : goal.returns-then-seen-clause-room
returns-then-seen-clause-room g c =
    let room : length c.args.self.now.predecessors ≤ 64 * g.row.W = subst (λ (v : TableValue). length v.predecessors ≤ 64 * g.row.W) c.self.view_is c.self.invariant.room in
    words_long g.row.W c.index-as_slice-triple.result.seen c.words.result.now (length c.args.self.now.predecessors) c.words.ensures room

pub returns-else-seen-clause-room : goal.returns-else-seen-clause-room
returns-else-seen-clause-room g c =
    let room : length c.args.self.now.predecessors ≤ 64 * g.row.W = subst (λ (v : TableValue). length v.predecessors ≤ 64 * g.row.W) c.self.view_is c.self.invariant.room in
    words_long g.row.W c.index-as_slice-triple.result.unseen c.words-else-seen.result.now (length c.args.self.now.predecessors) c.words-else-seen.ensures room

pub returns-then-seen-clause-states : goal.returns-then-seen-clause-states
returns-then-seen-clause-states g c t found q state =
    let room : length c.args.self.now.predecessors ≤ 64 * g.row.W = subst (λ (v : TableValue). length v.predecessors ≤ 64 * g.row.W) c.self.view_is c.self.invariant.room in
    let there : slice_get (map (triple_sets {W = g.row.W}) c.self.inside.triples.keys) c.args.triple ≡ Some t = subst (λ (v : TableValue). slice_get v.triples c.args.triple ≡ Some t) (sym c.self.view_is) found in
    let same : t ≡ triple_sets {W = g.row.W} c.index-as_slice-triple.result =
    mapped_is (triple_sets {W = g.row.W}) c.self.inside.triples.keys c.as_slice.result.now c.args.triple c.index-as_slice-triple.result t there c.as_slice.ensures.keys c.index-as_slice-triple.is in
    rw (same, c.if-seen.true) (words_bit g.row.W c.index-as_slice-triple.result.seen c.words.result.now (length c.args.self.now.predecessors) q c.words.ensures room state)

pub returns-else-seen-clause-states : goal.returns-else-seen-clause-states
returns-else-seen-clause-states g c t found q state =
    let room : length c.args.self.now.predecessors ≤ 64 * g.row.W = subst (λ (v : TableValue). length v.predecessors ≤ 64 * g.row.W) c.self.view_is c.self.invariant.room in
    let there : slice_get (map (triple_sets {W = g.row.W}) c.self.inside.triples.keys) c.args.triple ≡ Some t = subst (λ (v : TableValue). slice_get v.triples c.args.triple ≡ Some t) (sym c.self.view_is) found in
    let same : t ≡ triple_sets {W = g.row.W} c.index-as_slice-triple.result =
    mapped_is (triple_sets {W = g.row.W}) c.self.inside.triples.keys c.as_slice.result.now c.args.triple c.index-as_slice-triple.result t there c.as_slice.ensures.keys c.index-as_slice-triple.is in
    rw (same, c.if-seen.false) (words_bit g.row.W c.index-as_slice-triple.result.unseen c.words-else-seen.result.now (length c.args.self.now.predecessors) q c.words-else-seen.ensures room state)
