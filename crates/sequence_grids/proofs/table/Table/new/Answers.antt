use Rattle.sequence_grids.specs.declared.table.Triple.{Triple}
use Rattle.sequence_grids.specs.Tables.{triple_sets}
use Rattle.sequence_grids.proofs.TableLemmas.{first_inserted, IsLast-of, triple_eq}
use Rattle.sequence_grids.proofs.table.Table.new.Goals as goal

pub returns-clause-last : goal.returns-clause-last
returns-clause-last g c =
    let the_triple : Triple g.row.W = record { seen = c.finals_of-finals.result; more = c.new.result; unseen = c.new-2.result; ends = c.finals_of-finals.result } in (
      triple_sets {W = g.row.W} the_triple,
      first_inserted (triple_sets {W = g.row.W}) (triple_eq {W = g.row.W}) c.new-triples.result.keys c.insert.new.self.keys the_triple c.new-triples.ensures.empty c.in_ok-insert.ensures.keys,
      IsLast-of c.args.fst.now.finals c.finals_of-finals.result c.finals_of-finals.ensures c.new.result c.new-2.result c.new.ensures c.new-2.ensures,
    )
