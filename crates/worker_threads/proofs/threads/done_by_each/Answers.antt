use Rattle.std.proofs.Common.{◌≤◌, ◌∷◌, length, Result, subst, ◌∙◌, sym, arith}
use Rattle.mine_model.specs.declared.memory.NoMemory.{NoMemory}
use Rattle.worker_threads.specs.Doing.{AreDone}
use Rattle.worker_threads.specs.contracts.threads.done_by_each.F-Fn.{words}
use Rattle.worker_threads.proofs.DoingLemmas.{done-all_ok, first-apart}
use Rattle.worker_threads.proofs.threads.done_by_each.Goals as goal

pub returns : goal.returns
returns g c =
    let Does : g.row.A.Denot → Result g.row.B.Denot NoMemory → Type 0 = λ start result. (words g.row.A g.row.B g.row.R g.row.F g.F.Fn).post c.args.work.now start result in
    let starts = c.args.starts.items in
    let some : 1 ≤ length starts = omega (arith, c.remove-first.ensures.len, c.args.starts.ok.0) in
    let apart = first-apart starts c.remove-first.result some c.remove-first.ensures.value in
    let others : AreDone Does c.remove-first.new.self.items c.in_ok-results.results.items = rw c.in_ok-results.was at c.join-others.ensures.first in
    done-all_ok Does starts c.in_ok-dones.dones.items
    (subst (AreDone Does starts) (sym c.in_ok-insert.ensures.items ∙ c.in_ok-dones.ensures)
    (subst (λ l. AreDone Does l (c.join-others.result.1 ∷ c.in_ok-results.results.items)) apart
    (c.join-others.ensures.second, rw c.remove-first.ensures.items at others)))
