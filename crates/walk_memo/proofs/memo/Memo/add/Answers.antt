use Rattle.std.proofs.Common.{◌≡◌, ◌<◌, ℕ, refl, sym, subst, List, ◌++◌, length, map}
use Rattle.state_bits.specs.Members.{Has}
use Rattle.walk_memo.specs.Moves.{move_sets}
use Rattle.walk_memo.specs.Memos.{MemoValue}
use Rattle.walk_memo.specs.Kept.{AreSets}
use Rattle.walk_memo.proofs.MemoLemmas.{sets-insert, IsMemo-grow, Keeps-sets}
use Rattle.walk_memo.proofs.memo.Memo.add.Given.{Over}
use Rattle.walk_memo.proofs.memo.Memo.add.Goals as goal
use Rattle.walk_memo.proofs.memo.Memo.add.Goals.{In_ok-index}

module _ (g : Over) (c : In_ok-index g) where
  abbrev before : MemoValue
  before = record { rows = c.self.inside.rows.items; moves = map (move_sets {W = g.row.W}) c.self.inside.moves.items; sets = c.self.inside.sets.keys; actions = c.self.inside.actions.items }

  grown : AreSets c.self.inside.rows.items c.insert_full.new.self.keys × ((more : List ℕ) × (c.insert_full.new.self.keys ≡ c.self.inside.sets.keys ++ more))
  grown = sets-insert c.self.inside.rows.items c.self.inside.sets.keys c.insert_full.new.self.keys c.args.set.now c.self.invariant.sets_are c.in_ok-index.ensures.keys
      (subst (λ (v : MemoValue). (q : ℕ) → Has c.args.set.now q → q < length v.rows) (sym c.self.view_is) c.requires.within)

pub invariant_of-self-2 : goal.invariant_of-self-2
invariant_of-self-2 g c =
    let there = (goal.at.invariant_of-self-2 g c).In_ok-index in
    let after : MemoValue = record { rows = c.self.inside.rows.items; moves = map (move_sets {W = g.row.W}) c.self.inside.moves.items; sets = c.insert_full.new.self.keys; actions = c.self.inside.actions.items } in
    IsMemo-grow (before g there) after refl refl
    (Keeps-sets c.self.inside.rows.items (map (move_sets {W = g.row.W}) c.self.inside.moves.items) c.self.inside.sets.keys c.insert_full.new.self.keys c.self.inside.actions.items (grown g there).1)
    g.row.W c.self.inside.steps c.self.inside.joins c.self.inside.most_sets c.self.invariant (grown g there).0

pub returns-clause-empty : goal.returns-clause-empty
returns-clause-empty g c = (grown g (goal.at.returns-clause-empty g c).In_ok-index).0.empty

pub returns-clause-keeps : goal.returns-clause-keeps
returns-clause-keeps g c =
    let there = (goal.at.returns-clause-keeps g c).In_ok-index in
    rw (← c.self.view_is)
    (Keeps-sets c.self.inside.rows.items (map (move_sets {W = g.row.W}) c.self.inside.moves.items) c.self.inside.sets.keys c.insert_full.new.self.keys c.self.inside.actions.items (grown g there).1)
