use Rattle.sequence_grids.proofs.tables.Tables.new.Goals as goal
use Rattle.sequence_grids.proofs.tables.Tables.new.Goals.{then-states-le64+in_ok-new, else-states-le64+then-states-le256+in_ok-new-2, else-states-le64+else-states-le256+in_ok-new-3}

pub returns-clause-edges : goal.returns-clause-edges
returns-clause-edges c = elim c.if-states-le64.branch [
  | then-states-le64+in_ok-new w ↦ rw w.width-is w.in_ok-new.ensures.edges
  | else-states-le64+then-states-le256+in_ok-new-2 w ↦ rw w.width-is w.in_ok-new-2.ensures.edges
  | else-states-le64+else-states-le256+in_ok-new-3 w ↦ rw w.width-is w.in_ok-new-3.ensures.edges
]

pub returns-clause-last : goal.returns-clause-last
returns-clause-last c = elim c.if-states-le64.branch [
  | then-states-le64+in_ok-new w ↦ rw w.width-is w.in_ok-new.ensures.last
  | else-states-le64+then-states-le256+in_ok-new-2 w ↦ rw w.width-is w.in_ok-new-2.ensures.last
  | else-states-le64+else-states-le256+in_ok-new-3 w ↦ rw w.width-is w.in_ok-new-3.ensures.last
]
