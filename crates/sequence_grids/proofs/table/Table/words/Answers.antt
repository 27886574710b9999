use Rattle.std.proofs.Common.{◌≤◌, ◌*◌, ◌≡◌, map, length, sym, subst, Some}
use Rattle.std.specs.List.{slice_get}
use Rattle.sequence_grids.specs.Tables.{TableValue, class_sets, triple_sets}
use Rattle.sequence_grids.proofs.TableLemmas.{mapped_is, words_bit}
use Rattle.sequence_grids.proofs.table.Table.words.Goals as goal

pub returns-clause-class : goal.returns-clause-class
returns-clause-class g c class found =
    let room : length c.args.self.now.predecessors ≤ 64 * g.row.W = subst (λ (v : TableValue). length v.predecessors ≤ 64 * g.row.W) c.self.view_is c.self.invariant.room in
    let there : slice_get (map (class_sets {W = g.row.W}) c.self.inside.classes.keys) c.args.class ≡ Some class = subst (λ (v : TableValue). slice_get v.classes c.args.class ≡ Some class) (sym c.self.view_is) found in
    let same : class ≡ class_sets {W = g.row.W} c.index-as_slice-class.result =
    mapped_is (class_sets {W = g.row.W}) c.self.inside.classes.keys c.as_slice.result.now c.args.class c.index-as_slice-class.result class there c.as_slice.ensures.keys c.index-as_slice-class.is in
    rw same (record {
      silent = λ k inside. words_bit g.row.W c.index-as_slice-class.result.silent c.words.result.now (length c.args.self.now.predecessors) k c.words.ensures room inside;
      writing = λ k inside. words_bit g.row.W c.index-as_slice-class.result.writes c.words-2.result.now (length c.args.self.now.predecessors) k c.words-2.ensures room inside;
    })

pub returns-clause-after : goal.returns-clause-after
returns-clause-after g c triple found =
    let room : length c.args.self.now.predecessors ≤ 64 * g.row.W = subst (λ (v : TableValue). length v.predecessors ≤ 64 * g.row.W) c.self.view_is c.self.invariant.room in
    let there : slice_get (map (triple_sets {W = g.row.W}) c.self.inside.triples.keys) c.args.after ≡ Some triple = subst (λ (v : TableValue). slice_get v.triples c.args.after ≡ Some triple) (sym c.self.view_is) found in
    let same : triple ≡ triple_sets {W = g.row.W} c.index-as_slice-after.result =
    mapped_is (triple_sets {W = g.row.W}) c.self.inside.triples.keys c.as_slice-2.result.now c.args.after c.index-as_slice-after.result triple there c.as_slice-2.ensures.keys c.index-as_slice-after.is in
    rw same (record {
      seen = λ k inside. words_bit g.row.W c.index-as_slice-after.result.seen c.words-3.result.now (length c.args.self.now.predecessors) k c.words-3.ensures room inside;
      more = λ k inside. words_bit g.row.W c.index-as_slice-after.result.more c.words-4.result.now (length c.args.self.now.predecessors) k c.words-4.ensures room inside;
      unseen = λ k inside. words_bit g.row.W c.index-as_slice-after.result.unseen c.words-5.result.now (length c.args.self.now.predecessors) k c.words-5.ensures room inside;
      ending = λ k inside. words_bit g.row.W c.index-as_slice-after.result.ends c.words-6.result.now (length c.args.self.now.predecessors) k c.words-6.ensures room inside;
    })
