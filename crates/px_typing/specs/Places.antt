-- Groups beside the frame: groups refuse more, and give no other type.
use Rattle.std.specs.Prelude.{◌≡◌, [], Ok}
use Rattle.px_column.specs.Prelude.{Kind}
use Rattle.px_tree.specs.Tree.{Tree}
use Rattle.px_tree.specs.Typing.{Scope, refusals_of, type_of}
use Rattle.px_tree.specs.declared.context.Context.TheVariants.{Default, Aggregation}

-- what is not refused on groups is not refused on the frame
abbrev pub IsRefusedMoreOnGroups : Tree → Type 0
IsRefusedMoreOnGroups t = (scope : Scope) → refusals_of t scope Aggregation ≡ [] → refusals_of t scope Default ≡ []

-- a type on groups is the type on the frame
abbrev pub KeepsTypeOnFrame : Tree → Type 0
KeepsTypeOnFrame t = (scope : Scope) (k : Kind) → type_of t scope Aggregation ≡ Ok k → type_of t scope Default ≡ Ok k
