use Rattle.px_cuts.proofs.FaultsJoined.{fault_joins, fault_stays, none_joins, no_fault_on_either}
use Rattle.px_cuts.proofs.faults.faults_on_parts_are_faults.Goals as goal

pub returns-clause-none : goal.returns-clause-none
returns-clause-none c = no_fault_on_either

pub returns-clause-stays : goal.returns-clause-stays
returns-clause-stays c = fault_stays

pub returns-clause-none_of_all : goal.returns-clause-none_of_all
returns-clause-none_of_all c = none_joins

pub returns-clause-stays_in_all : goal.returns-clause-stays_in_all
returns-clause-stays_in_all c = fault_joins
