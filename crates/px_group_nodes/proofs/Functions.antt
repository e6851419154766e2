-- What a function makes of cells: its name, its type and its shape.
use Rattle.std.proofs.Common.{◌≡◌, ◌^◌, Bool, true, false, ◌&&◌, cond, List, [], ◌∷◌, Result, Ok, Err, map, nat_lt, refl, sym, ap, ◌∙◌}
use Rattle.std.specs.List.{list_all}
use Rattle.px_column.specs.Prelude.{Kind, Slot}
use Rattle.px_column.specs.Result.{◌>>=◌}
use Rattle.px_value.specs.declared.error.ComputeWhy.TheVariants.{TooLong}
use Rattle.px_value.specs.declared.error.PxError.{PxError}
use Rattle.px_value.specs.declared.error.PxError.TheVariants.{ComputeError}
use Rattle.px_column.specs.Function.{between_slot, in_slot, is_not_null_slot, is_null_slot, not_slot}
use Rattle.px_frame.specs.Cell.{Cell, unit, rows, count_of, is_unit_cell, list_of}
use Rattle.px_frame.specs.Spread.{NamedCell}
use Rattle.px_tree.specs.Node.{function_cell, map_cell}
use Rattle.px_tree.specs.Shape.{is_unit_call}
use Rattle.px_tree.specs.Typing.{function_kind}
use Rattle.px_tree.specs.Value.{first_kind}
use Rattle.px_tree.specs.declared.function.FunctionExpr.{FunctionExpr}
use Rattle.px_tree.specs.declared.function.FunctionExpr.TheVariants.{IsNull, IsNotNull, Not, IsBetween, IsIn, Reverse, Shift, DropNulls, NullCount, Explode}
use Rattle.px_nodes.specs.Named.{cells_in, first_name, function_named, kinds_of, short, under}
use Rattle.px_context.specs.Context.{Context, has_units}
use Rattle.px_lanes.specs.Alike.{AreLike}
use Rattle.px_lanes.proofs.Operators.{IsTyped, IsUnder, made_under, ok_is, typed_by}
use Rattle.px_group_nodes.specs.Function.{first_context_name, function_answers, function_type, function_units, has_first_units}
use Rattle.px_group_nodes.proofs.Columns.{IsRowIn, like_many, row_kinds}
use Rattle.px_group_nodes.proofs.RowsOfThree.{three_shape}

abbrev pub cell_ok : Cell → Result Cell PxError
cell_ok c = Ok c

-- whether the first of some cells is a unit
abbrev pub is_first_unit : List Cell → Bool
is_first_unit [] = false
is_first_unit (c ∷ cs) = is_unit_cell c

short_by : (b : Bool) (c x : Cell) → cond b (Ok c) (Err (ComputeError TooLong)) ≡ Ok x → c ≡ x
short_by true c x h = cc
short_by false c x h = absurd (cc)

-- a cell that is short is the same
pub short_made : (r : Result Cell PxError) (x : Cell) → (r >>= short) ≡ Ok x → r ≡ Ok x
short_made (Ok c) x h = ap Ok (short_by (nat_lt (count_of c) (2 ^ 32)) c x h)
short_made (Err e) x h = absurd (cc)

map_shape : (f : Slot → Slot) (c y : Cell) → cell_ok (map_cell f c) ≡ Ok y → is_unit_cell y ≡ is_unit_cell c
map_shape f (unit s) y h = let same : unit (f s) ≡ y = cc in ap is_unit_cell (sym same)
map_shape f (rows xs) y h = let same : rows (map f xs) ≡ y = cc in ap is_unit_cell (sym same)

rows_shape : (xs : List Slot) (y : Cell) → cell_ok (rows xs) ≡ Ok y → is_unit_cell y ≡ false
rows_shape xs y h = let same : rows xs ≡ y = cc in ap is_unit_cell (sym same)

unit_shape : (s : Slot) (y : Cell) → cell_ok (unit s) ≡ Ok y → is_unit_cell y ≡ true
unit_shape s y h = let same : unit s ≡ y = cc in ap is_unit_cell (sym same)

and_true : (a : Bool) → a ≡ (a && true)
and_true true = refl
and_true false = refl

-- whether a function's cell is a unit, by whether its first cell is, and each of them
cell_shape : (f : FunctionExpr) (k : Kind) (cs : List Cell) (y : Cell) → function_cell f k cs ≡ Ok y → is_unit_cell y ≡ is_unit_call f (is_first_unit cs) (list_all is_unit_cell cs)
cell_shape IsNull k (c ∷ []) y h = map_shape is_null_slot c y h
cell_shape IsNotNull k (c ∷ []) y h = map_shape is_not_null_slot c y h
cell_shape Not k (c ∷ []) y h = map_shape not_slot c y h
cell_shape (IsBetween closed) k (a ∷ b ∷ c ∷ []) y h = three_shape (between_slot k closed) a b c y h ∙ ap (λ u. is_unit_cell a && (is_unit_cell b && u)) (and_true (is_unit_cell c))
cell_shape IsIn k (a ∷ b ∷ []) y h = map_shape (in_slot (list_of b)) a y h
cell_shape Reverse k (c ∷ []) y h = rows_shape _ y h
cell_shape (Shift periods) k (c ∷ []) y h = rows_shape _ y h
cell_shape DropNulls k (c ∷ []) y h = rows_shape _ y h
cell_shape NullCount k (c ∷ []) y h = unit_shape _ y h
cell_shape Explode k (c ∷ []) y h = rows_shape _ y h
cell_shape _ k cs y h = absurd (cc)

module _ (f : FunctionExpr) (xs : List NamedCell) (m : NamedCell) (h : function_named f xs ≡ Ok m) where
  function_typed : IsTyped (function_kind f (kinds_of xs)) (λ k. under (first_name xs) k (function_cell f (first_kind (kinds_of xs)) (cells_in xs) >>= short)) m
  function_typed = typed_by (function_kind f (kinds_of xs)) (λ k. under (first_name xs) k (function_cell f (first_kind (kinds_of xs)) (cells_in xs) >>= short)) m h

  function_under : IsUnder (first_name xs) function_typed.kind (function_cell f (first_kind (kinds_of xs)) (cells_in xs) >>= short) m
  function_under = made_under (first_name xs) function_typed.kind (function_cell f (first_kind (kinds_of xs)) (cells_in xs) >>= short) m function_typed.made

  -- the name is the first one's
  pub function_name : m.name ≡ first_name xs
  function_name = function_under.name_is

  -- the type is the function's
  pub function_kinds : function_kind f (kinds_of xs) ≡ Ok m.kind
  function_kinds = function_typed.typed ∙ ap Ok (sym function_under.kind_is)

  -- the cell is the function's
  pub function_made : function_cell f (first_kind (kinds_of xs)) (cells_in xs) ≡ Ok m.cell
  function_made = short_made (function_cell f (first_kind (kinds_of xs)) (cells_in xs)) m.cell function_under.cell

  -- and its shape
  pub function_shape : is_unit_cell m.cell ≡ is_unit_call f (is_first_unit (cells_in xs)) (list_all is_unit_cell (cells_in xs))
  function_shape = cell_shape f (first_kind (kinds_of xs)) (cells_in xs) m.cell function_made

row_name : (cs : List Context) (xs : List NamedCell) → IsRowIn cs xs → first_name xs ≡ first_context_name cs
row_name [] [] h = refl
row_name [] (x ∷ xs) h = absurd h
row_name (c ∷ cs) [] h = absurd h
row_name (c ∷ cs) (x ∷ xs) h = h.0.name_is

row_first_unit : (cs : List Context) (xs : List NamedCell) → IsRowIn cs xs → is_first_unit (cells_in xs) ≡ has_first_units cs
row_first_unit [] [] h = refl
row_first_unit [] (x ∷ xs) h = absurd h
row_first_unit (c ∷ cs) [] h = absurd h
row_first_unit (c ∷ cs) (x ∷ xs) h = h.0.shape

row_units : (cs : List Context) (xs : List NamedCell) → IsRowIn cs xs → list_all is_unit_cell (cells_in xs) ≡ list_all (λ c. has_units c.layout) cs
row_units [] [] h = refl
row_units [] (x ∷ xs) h = absurd h
row_units (c ∷ cs) [] h = absurd h
row_units (c ∷ cs) (x ∷ xs) h = λ i. h.0.shape i && row_units cs xs h.1 i

-- the answers group by group have the first one's name, the function's type, and its shape
pub function_alike : (f : FunctionExpr) (cs : List Context) (k : Kind) (ms : List NamedCell) → function_type f cs ≡ Ok k → function_answers f cs ≡ map Ok ms
    → AreLike (first_context_name cs) k (function_units f cs) ms
function_alike f cs k ms t h =
    like_many (first_context_name cs) k (function_units f cs) (function_named f) cs
    (λ xs m p made. record {
      name_is = function_name f xs m made ∙ row_name cs xs p;
      kind_is = ok_is m.kind k (sym (function_kinds f xs m made) ∙ ap (function_kind f) (row_kinds cs xs p) ∙ t);
      shape = function_shape f xs m made ∙ (λ i. is_unit_call f (row_first_unit cs xs p i) (row_units cs xs p i));
    }) _ ms h
