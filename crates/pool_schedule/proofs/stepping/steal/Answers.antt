use Rattle.std.proofs.Common.{◌≡◌, ◌≢◌, ℕ, ◌<◌, Some, List, set, slice_get, slice_index_or, length, refl, sym, ap, ◌∙◌, arith}
use Rattle.std.proofs.lemmas.List.{get_or-set_other}
use Rattle.std.proofs.lemmas.Option.{get_or_from_slice_get}
use Rattle.pool_schedule.specs.declared.worker.Worker.{Worker}
use Rattle.pool_schedule.proofs.StepLemmas.{at-now}
use Rattle.pool_schedule.proofs.stepping.steal.Goals as goal

module _ {N : Type 0} where
  other_at : (workers : List (Worker N)) (w from : ℕ) (x y now : Worker N) → slice_get workers w ≡ Some x → from ≢ w → now ≡ slice_index_or (set workers from y) w now → slice_get workers w ≡ Some now
  other_at workers w from x y now at other is = at-now workers w x now at (is ∙ get_or-set_other workers from w y now (λ e. other (sym e)))

pub returns-in_ok-push_back : goal.returns-in_ok-push_back
returns-in_ok-push_back g c =
    let robbed : Worker g.row.N.Denot = record { deque = c.pop_front.new.self; stack = c.index_mut.result.now.stack; pending = c.index_mut.result.now.pending } in
    record {
      worker = c.index_mut-in-Some.result.now;
      victim = c.index_mut.result.now;
      thief = record { deque = c.index_mut-in-Some.result.now.deque; stack = c.push_back.new.self; pending = c.index_mut-in-Some.result.now.pending };
      robbed = robbed;
      node = c.in-Some.node;
      at = other_at c.args.machine.now.workers.items c.args.w c.args.from c.requires.0 robbed c.index_mut-in-Some.result.now c.requires.2 c.requires.4 c.index_mut-in-Some.ensures.value;
      at_victim = at-now c.args.machine.now.workers.items c.args.from c.requires.1 c.index_mut.result.now c.requires.3 c.index_mut.ensures.value;
      workers = refl {A = List (Worker g.row.N.Denot)};
      posted = refl;
      lost = c.in-Some.ensures.items;
      kept = (refl, refl);
      got = c.in_ok-push_back.ensures.items;
      same = (refl, refl);
    }

pub returns-in_default : goal.returns-in_default
returns-in_default g c =
    let same : c.index_mut.result.now ≡ c.requires.1 = c.index_mut.ensures.value ∙ get_or_from_slice_get c.args.machine.now.workers.items c.args.from c.requires.1 c.index_mut.result.now c.requires.3 in
    let filled : 0 < length c.requires.1.deque.items = c.requires.6 in
    let size : length c.index_mut.result.now.deque.items ≡ length c.requires.1.deque.items = ap (λ (x : Worker g.row.N.Denot). length x.deque.items) same in
    let empty : length c.index_mut.result.now.deque.items ≡ 0 = (omega (arith, c.in_default.ensures.cases)) in
    absurd (omega arith)
