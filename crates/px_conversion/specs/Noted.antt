-- What is noted of an expression while it is planned.
use Rattle.std.specs.Prelude.{◌||◌}
use Rattle.px_tree.specs.Shape.{has_window}
use Rattle.px_tree.specs.Tree.{Tree}
use Rattle.px_conversion.specs.Depth.{is_too_deep}
use Rattle.px_conversion.specs.declared.conversion.ExpressionConversionState.{ExpressionConversionState}

-- what is noted of an expression that was planned: a window in it, and too great a depth
abbrev pub noted : Tree → ExpressionConversionState → ExpressionConversionState
noted e s = record s { has_windows = s.has_windows || has_window e; too_deep = s.too_deep || is_too_deep s.depth_limit e }
