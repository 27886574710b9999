use Rattle.stand_sums.proofs.GroupLemmas.{stands-groups, stands-rising}
use Rattle.stand_sums.proofs.laws.stands_of_visits_can_be_walked.Goals as goal

pub returns-clause-groups : goal.returns-clause-groups
returns-clause-groups c = stands-groups

pub returns-clause-rising : goal.returns-clause-rising
returns-clause-rising c = stands-rising
