use Rattle.px_frame.proofs.PartRows.{one_key, all_of_a_key}
use Rattle.px_laws.proofs.parts.parts_are_the_rows_of_a_key.Goals as goal

pub returns-clause-one_key : goal.returns-clause-one_key
returns-clause-one_key c = one_key

pub returns-clause-whole_key : goal.returns-clause-whole_key
returns-clause-whole_key c = all_of_a_key
