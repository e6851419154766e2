-- Whole cells at the rows of their parts.
use Rattle.std.proofs.Common.{◌≡◌, ◌^◌, ◌≤◌, Result, Ok, Err, length, map, sum, refl, sym, ◌∙◌, ap, subst}
use Rattle.std.specs.List.{flat_map, zip}
use Rattle.px_column.specs.Prelude.{Answers, Refuses, Series, slot_at}
use Rattle.px_column.specs.Result.{◌>>=◌}
use Rattle.px_value.specs.declared.error.PxError.{PxError}
use Rattle.px_value.specs.declared.error.PxError.TheVariants.{ComputeError}
use Rattle.px_value.specs.declared.error.ComputeWhy.TheVariants.{TooLong}
use Rattle.px_frame.specs.Cell.{value_of_cell}
use Rattle.px_frame.specs.Frame.{series_at}
use Rattle.px_frame.specs.Groups.{Groups, rows_of}
use Rattle.px_tree.specs.Window.{in_row_order, joined}
use Rattle.px_context.specs.Changes.{aggregated, counts_of, finalized}
use Rattle.px_context.specs.Context.{Context, cells_of}
use Rattle.px_context.proofs.Sameness.{aggregated_long}
use Rattle.px_window.specs.Placed.{rows_joined}
use Rattle.px_window.specs.Places.{HoldsEachRowOnce, part_numbers}
use Rattle.px_window.proofs.Joining.{joined_at}

-- a column's rows, in the order of the parts' rows
abbrev in_rows : Context → Groups → Series → Series
in_rows c g s = record s { slots = in_row_order g.height (flat_map joined (zip (rows_of g) (cells_of c))) }

-- whole cells are too long only where there are 2^32 values
long_from : (c : Context) (r : Result Context PxError) → aggregated c ≡ r → (r >>= λ d. Ok d.values) ≡ Err (ComputeError TooLong) → 2 ^ 32 ≤ sum (counts_of c)
long_from c (Ok d) e h = absurd (cc)
long_from c (Err x) e h = aggregated_long c (e ∙ (let same : x ≡ ComputeError TooLong = cc in ap Err same))

pub finalized_long : (c : Context) (e : PxError) → Refuses e (finalized c) → e ≡ ComputeError TooLong → 2 ^ 32 ≤ sum (counts_of c)
finalized_long c e h f = long_from c (aggregated c) refl (subst (λ (x : PxError). Refuses x (finalized c)) f h)

module _ (c : Context) (g : Groups) (once : HoldsEachRowOnce g) (whole : Series) (e : finalized c ≡ Ok whole) (slots : whole.slots ≡ map value_of_cell (cells_of c)) (many : length (cells_of c) ≡ length g.groups) where
  -- the rows of the whole cells, in the order of the parts' rows
  taken_is : series_at (part_numbers g) whole ≡ in_rows c g whole
  taken_is = λ i. record whole { slots = (ap (λ xs. map (λ n. slot_at xs n) (part_numbers g)) slots ∙ joined_at g once (cells_of c) many) i }

  pub joined_taken : (r : Result Series PxError) → Answers r (Ok (series_at (part_numbers g) whole)) → Answers r (rows_joined c g)
  joined_taken r h = subst (Answers r) (ap (λ (s : Series). Ok s) taken_is ∙ ap (λ q. q >>= λ s. Ok (in_rows c g s)) (sym e)) h
