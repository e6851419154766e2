use Rattle.px_answers.proofs.Columns.{behind_column, behind_height}
use Rattle.px_scope.proofs.columns.found_column.Goals as goal

pub returns-then-is_added-clause-column : goal.returns-then-is_added-clause-column
returns-then-is_added-clause-column c =
    behind_column c.args.name.now c.len.result c.get_columns.result.now c.args.df.now c.column_behind.result c.column_behind.ensures c.get_columns.ensures.columns c.get_columns.ensures.frame

pub returns-then-is_added-clause-height : goal.returns-then-is_added-clause-height
returns-then-is_added-clause-height c =
    behind_height c.args.name.now c.len.result c.get_columns.result.now c.args.df.now c.column_behind.result c.column_behind.ensures c.get_columns.ensures.columns c.get_columns.ensures.frame
