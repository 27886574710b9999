use Rattle.std.proofs.Common.{List, ℕ, [], ◌∷◌, ◌++◌, take, append_assoc}
use Rattle.mine_model.specs.Bytes.{space}
use Rattle.pattern_writer.proofs.WrittenLemmas.{cut_last}
use Rattle.pattern_writer.proofs.writing.put_other.Goals as goal

pub returns-clause-cut : goal.returns-clause-cut
returns-clause-cut g c =
    let front : List ℕ = take c.args.filled c.args.room.now in
    cut_last _ (g.O.Sink.written c.args.out.now) (g.O.Sink.written c.put.new.out) (g.O.Sink.written c.put-2.new.out)
    (take c.in_ok-behind_space.behind_space c.put.new.room) (front ++ space ∷ []) c.args.name.now _
    c.in_ok-behind_space.ensures.held c.put-2.ensures.cut (append_assoc front (space ∷ []) c.args.name.now)
