-- The contexts of cells that were made group by group, where their name, type and shape were made beside them.
use Rattle.std.proofs.Common.{◌≡◌, ◌⊎◌, ℕ, ◌^◌, ◌≤◌, Bool, false, List, Result, Ok, Err, IfOk, IfErr, length, map, subst, sum, sym, ap, ◌∙◌}
use Rattle.px_column.specs.Prelude.{Kind, Refuses}
use Rattle.px_value.specs.declared.error.ComputeWhy.TheVariants.{TooLong}
use Rattle.px_value.specs.declared.error.PxError.{PxError}
use Rattle.px_value.specs.declared.error.PxError.TheVariants.{ComputeError, OutOfMemory}
use Rattle.px_frame.specs.CellView.{named_cell}
use Rattle.px_frame.specs.Spread.{NamedCell}
use Rattle.px_frame.specs.declared.cell.Cell.{Cell}
use Rattle.px_context.specs.Context.{Context, cell_kind, has_units}
use Rattle.px_lanes.specs.Alike.{AreLike, lengths_in}
use Rattle.px_lanes.specs.Made.{IsMade, IsRefusal, KeepsGroups, counts_in, named_cells}
use Rattle.px_lanes.proofs.Grouping.{refused_fault, refused_kind, refused_of}

module _ (items cells : List Cell) (same : cells ≡ items) where
  -- cells of one name, one type and one shape
  pub alike_as : (name m : List ℕ) (k : Kind) (one u : Bool) → m ≡ name → u ≡ one → AreLike name k one (map named_cell items) → AreLike m k u (map named_cell cells)
  alike_as name m k one u n h like = subst (λ (cs : List Cell). AreLike m k u (map named_cell cs)) (sym same) (subst (λ w. AreLike m k w (map named_cell items)) (sym h) (subst (λ w. AreLike w k one (map named_cell items)) (sym n) like))

  -- the context of a node's answers
  pub made_as : (r : Result Context PxError) (answers : List (Result NamedCell PxError)) (name m : List ℕ) (kind : Result Kind PxError) (k : Kind) (one u : Bool) (count : ℕ) → m ≡ name → u ≡ one → length items ≡ count
      → answers ≡ map Ok (map named_cell items) → kind ≡ Ok k → IfOk r (λ c. named_cells c ≡ map named_cell cells) → IfOk r (λ c. c.values.name ≡ m) → IfOk r (λ c. cell_kind c ≡ k) → IfOk r (λ c. has_units c.layout ≡ u)
      → IfOk r (λ c. length c.groups.groups ≡ length cells) → IfOk r (IsMade answers name kind one count)
  made_as (Ok c) answers name m kind k one u count n h many a t are named typed shaped counted = record {
    cells = a ∙ ap (map Ok) (sym (are ∙ ap (map named_cell) same));
    name_is = named ∙ n;
    kind_is = t ∙ ap Ok (sym typed);
    shape = shaped ∙ h;
    count_is = counted ∙ ap length same ∙ many;
  }
  made_as (Err e) answers name m kind k one u count n h many a t are named typed shaped counted = tt

  -- a refusal of that context is one of the node's
  pub refused_as : (r : Result Context PxError) (answers : List (Result NamedCell PxError)) (kind : Result Kind PxError) → answers ≡ map Ok (map named_cell items)
      → IfErr r (λ e. (e ≡ OutOfMemory) ⊎ ((e ≡ ComputeError TooLong) × (2 ^ 32 ≤ sum (lengths_in (map named_cell cells))))) → IfErr r (λ e. (kind ≡ Err e) ⊎ IsRefusal e answers (counts_in answers))
  refused_as r answers kind a h =
      refused_of r answers (λ e. kind ≡ Err e) (map named_cell items) a
      (subst (λ (cs : List Cell). IfErr r (λ e. (e ≡ OutOfMemory) ⊎ ((e ≡ ComputeError TooLong) × (2 ^ 32 ≤ sum (lengths_in (map named_cell cs)))))) same h)

-- a refusal of the type is the node's
pub refused_typed : (e : PxError) (kind : Result Kind PxError) (answers : List (Result NamedCell PxError)) → Refuses e kind → (kind ≡ Err e) ⊎ IsRefusal e answers (counts_in answers)
refused_typed e kind answers h = refused_fault e kind answers (counts_in answers) (refused_kind e kind answers h)

-- a context that was made anew keeps no groups
pub touched_keeps : (r : Result Context PxError) (cs : List Context) → IfOk r (λ c. c.untouched ≡ false) → IfOk r (KeepsGroups cs)
touched_keeps (Ok c) cs h = λ e. absurd (cc)
touched_keeps (Err e) cs h = tt
