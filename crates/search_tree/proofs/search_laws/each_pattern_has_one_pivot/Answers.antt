use Rattle.search_tree.proofs.PivotLemmas.{pivot-same, place_of}
use Rattle.search_tree.proofs.SearchTreeLemmas.{one_pivot}
use Rattle.search_tree.proofs.search_laws.each_pattern_has_one_pivot.Goals as goal

pub returns-clause-some : goal.returns-clause-some
returns-clause-some c = λ order items ranks some ranked. place_of order items ranks some ranked

pub returns-clause-one : goal.returns-clause-one
returns-clause-one c = λ order items first second once one two within also. pivot-same order once first second one two items within also

pub returns-clause-labels : goal.returns-clause-labels
returns-clause-labels c = λ first second ranks others same. one_pivot first second ranks others same
