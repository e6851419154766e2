use Rattle.px_cuts.proofs.Alone.{faults_alone, key_alone, refusals_alone, safe_faults_alone, safe_kind_alone, safe_names_there, safe_refusals_alone, value_alone}
use Rattle.px_cuts.proofs.beside.columns_beside_are_nothing.Goals as goal

pub returns-clause-refusals : goal.returns-clause-refusals
returns-clause-refusals c = safe_refusals_alone

pub returns-clause-kind : goal.returns-clause-kind
returns-clause-kind c = safe_kind_alone

pub returns-clause-faults : goal.returns-clause-faults
returns-clause-faults c = safe_faults_alone

pub returns-clause-value : goal.returns-clause-value
returns-clause-value c e columns external p w = value_alone e columns external p (safe_names_there e columns w)

pub returns-clause-key : goal.returns-clause-key
returns-clause-key c = key_alone

pub returns-clause-key_refusals : goal.returns-clause-key_refusals
returns-clause-key_refusals c = refusals_alone

pub returns-clause-key_faults : goal.returns-clause-key_faults
returns-clause-key_faults c = faults_alone
