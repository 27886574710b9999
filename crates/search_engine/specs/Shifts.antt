-- How the labels stand while a worker runs.
use Rattle.std.specs.Prelude.{ℕ, List, ◌++◌}
use Rattle.std.specs.List.{flat_map}
use Rattle.search_tree.specs.Cover.{Shift}
use Rattle.mine_model.specs.Labels.{SameLabels}
use Rattle.node_pool.specs.declared.seat.Seat.{Seat}
use Rattle.search_engine.specs.Workers.{BoardPass, IsShift}

-- these labels were posted, where those came first and those are held: the kids of what was posted came, too
abbrev pub PostedFrom : (List ℕ → List (List ℕ)) → List (List ℕ) → List (List ℕ) → List (List ℕ) → Type 0
PostedFrom kids first posted held = SameLabels (posted ++ held) (first ++ flat_map kids posted)

-- a worker on its way holds these labels
pub record IsUnderWay {T G : Type 0} (kids : List ℕ → List (List ℕ)) (seat later : Seat T G)
    (pass after : BoardPass) (held : List (List ℕ)) : Type 0 where
  pub shift : Shift
  pub is_shift : IsShift seat later pass after shift
  pub balance : PostedFrom kids shift.got shift.made (shift.given ++ held)
