-- What contracts see of a node: the tree of its expression, and the columns that it names with the schemas they were planned over.
use Rattle.std.specs.Prelude.{ℕ, Bool, ◌&&◌, List, Option, length, take, drop, codes, find, is_none, if◌then◌else◌, refl}
use Rattle.std.specs.Str.{bytes_eq}
use Rattle.std.specs.Coded.{Coded, code_by, coded×, coded_list, coded_ℕ}
use Rattle.px_column.specs.Prelude.{Series}
use Rattle.px_frame.specs.External.{Frame, look_in}
use Rattle.px_frame.specs.Frame.{look}
use Rattle.px_frame.specs.Schema.{FieldKind, coded_field, has_field_name}
use Rattle.px_tree.specs.Tree.{Tree}
use Rattle.px_tree.specs.TreeCode.{coded_tree}

-- a column node: the name, and the schema that it was planned over
pub record PlannedColumn : Type 0 where
  pub name : List ℕ
  pub schema : List FieldKind

-- an expression, and its column nodes from left to right
pub record Planned : Type 0 where
  pub tree : Tree
  pub columns : List PlannedColumn

-- the code of a column node
abbrev pub coded_column : Coded PlannedColumn
coded_column = code_by (List ℕ × List FieldKind) (coded× (coded_list coded_ℕ) (coded_list coded_field)) (λ c. (c.name, c.schema)) (λ p. record { name = p.0; schema = p.1 }) (λ _. refl)

-- the code of an expression and its column nodes
abbrev pub coded_planned : Coded Planned
coded_planned = code_by (Tree × List PlannedColumn) (coded× coded_tree (coded_list coded_column)) (λ p. (p.tree, p.columns)) (λ p. record { tree = p.0; columns = p.1 }) (λ _. refl)

-- the names that a plan keeps for columns which it adds itself begin so
abbrev pub reserved_prefix : List ℕ
reserved_prefix = codes "__POLARS_CSER_"

-- whether a name begins with the reserved prefix
abbrev pub is_reserved : List ℕ → Bool
is_reserved n = bytes_eq (take (length reserved_prefix) n) reserved_prefix

-- a reserved name that the schema lacks
abbrev pub is_added : PlannedColumn → Bool
is_added c = is_reserved c.name && is_none (find (has_field_name c.name) c.schema)

-- the column that a column node finds: a reserved name that its schema lacks only behind as many columns as the schema has
abbrev pub found_by : PlannedColumn → Frame → Option Series
found_by c frame = if is_added c then look c.name (drop (length c.schema) frame.columns) else look_in c.name frame
