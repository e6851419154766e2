-- What a context with a list or a value for each group has in common with the one that it is made of.
use Rattle.std.proofs.Common.{◌≡◌, Bool, Result, Ok, Err, OnErr, OnOk, length, map, refl, sym, ap, subst}
use Rattle.px_column.specs.Prelude.{AnswersBy, Series}
use Rattle.px_column.specs.Result.{◌>>=◌}
use Rattle.px_value.specs.declared.error.PxError.{PxError}
use Rattle.px_frame.specs.Cell.{value_of_cell}
use Rattle.px_frame.specs.Groups.{Groups}
use Rattle.px_frame.specs.Reduced.{listed_by}
use Rattle.px_context.specs.Changes.{KeepsType, aggregated, all_rows, first_repeated, laid_kind, with_lists, with_scalars}
use Rattle.px_context.specs.Context.{Context, HasShape, IsContext, cell_kind, cells_of, has_units, item_kind}
use Rattle.px_context.specs.declared.agg_state.Layout.{Layout}
use Rattle.px_context.specs.declared.agg_state.Layout.TheVariants.{Lists, Scalars, Flat, Rows, Unit as Single}
use Rattle.px_context.specs.declared.agg_state.UpdateGroups.{UpdateGroups}
use Rattle.px_context.proofs.Aggregating.{AreLists-listed, AreLists-whole, cells_first, cells_listed, cells_whole, kind_listed, kind_lists, name_listed, values_listed, values_scalar}

-- a list or a value for each group of c stands in d
record IsLaid (c d : Context) : Type 0 where
  cells : cells_of d ≡ cells_of c
  name : d.values.name ≡ c.values.name
  kind : cell_kind d ≡ cell_kind c
  units : has_units d.layout ≡ has_units c.layout
  values : d.values.slots ≡ map value_of_cell (cells_of d)
  laid : d.values.kind ≡ laid_kind c

abbrev okay : Context → Result Context PxError
okay c = Ok c

ok_same : (c d : Context) → okay c ≡ okay d → c ≡ d
ok_same c d e = cc

module _ (s : Series) (g : Groups) (u : UpdateGroups) (m : Bool) (d : Context) where
  abbrev of_layout : Layout → Context
  of_layout l = record { layout = l; values = s; groups = g; update = u; untouched = m }

  flat : (r : Result Series PxError) → listed_by s g ≡ r → (r >>= λ q. Ok (with_lists (of_layout Flat) q)) ≡ Ok d → IsLaid (of_layout Flat) d
  flat (Ok q) f e =
      subst (IsLaid (of_layout Flat)) (ok_same (with_lists (of_layout Flat) q) d e) (record {
        cells = cells_listed s q g f;
        name = name_listed s q g f;
        kind = ap item_kind (kind_listed s q g f);
        units = refl;
        values = values_listed q g (AreLists-listed s q g f);
        laid = kind_listed s q g f;
      })
  flat (Err x) f e = cc

  whole : (r : Result Series PxError) → listed_by s (all_rows (length g.groups) (length s.slots)) ≡ r → (r >>= λ q. Ok (with_lists (of_layout Rows) q)) ≡ Ok d → IsLaid (of_layout Rows) d
  whole (Ok q) f e =
      subst (IsLaid (of_layout Rows)) (ok_same (with_lists (of_layout Rows) q) d e) (record {
        cells = cells_whole s q g f;
        name = name_listed s q (all_rows (length g.groups) (length s.slots)) f;
        kind = ap item_kind (kind_listed s q (all_rows (length g.groups) (length s.slots)) f);
        units = refl;
        values = values_listed q g (AreLists-whole s q g f);
        laid = kind_listed s q (all_rows (length g.groups) (length s.slots)) f;
      })
  whole (Err x) f e = cc

  laid_in : (l : Layout) → HasShape l s g → aggregated (of_layout l) ≡ Ok d → IsLaid (of_layout l) d
  laid_in Lists h e =
      subst (IsLaid (of_layout Lists)) (ok_same (of_layout Lists) d e)
      (record { cells = refl; name = refl; kind = refl; units = refl; values = values_listed s g h; laid = kind_lists s.kind h.kind })
  laid_in Scalars h e =
      subst (IsLaid (of_layout Scalars)) (ok_same (of_layout Scalars) d e) (record { cells = refl; name = refl; kind = refl; units = refl; values = values_scalar s g; laid = refl })
  laid_in Flat h e = flat (listed_by s g) refl e
  laid_in Rows h e = whole (listed_by s (all_rows (length g.groups) (length s.slots))) refl e
  laid_in Single h e =
      let made = first_repeated s (length g.groups) in
      subst (IsLaid (of_layout Single)) (ok_same (with_scalars (of_layout Single) made) d e)
      (record { cells = cells_first s g; name = refl; kind = refl; units = refl; values = values_scalar made g; laid = refl })

laid : (c d : Context) → IsContext c → aggregated c ≡ Ok d → IsLaid c d
laid c d ok e = laid_in c.values c.groups c.update c.untouched d c.layout ok.shape e

module _ {X : Type 0} (c d : Context) where
  -- the cells stay
  pub laid_cells : (r : Result X PxError) → IsContext c → AnswersBy (λ _. d) r (aggregated c) → OnErr r (d ≡ c) → cells_of d ≡ cells_of c
  laid_cells (Ok x) ok a k = (laid c d ok a).cells
  laid_cells (Err e) ok a k = ap cells_of k

  -- and so do their name and their type
  pub laid_type : (r : Result X PxError) → IsContext c → AnswersBy (λ _. d) r (aggregated c) → OnErr r (d ≡ c) → KeepsType c d
  laid_type (Ok x) ok a k = let l = laid c d ok a in (l.name, l.kind, l.units)
  laid_type (Err e) ok a k = subst (KeepsType c) (sym k) (refl, refl, refl)

  -- the column has their values
  pub laid_values : (r : Result X PxError) → IsContext c → AnswersBy (λ _. d) r (aggregated c) → OnOk r (d.values.slots ≡ map value_of_cell (cells_of d))
  laid_values (Ok x) ok a = (laid c d ok a).values
  laid_values (Err e) ok a = tt

  -- in their type, or in lists of it
  pub laid_as : (r : Result X PxError) → IsContext c → AnswersBy (λ _. d) r (aggregated c) → OnOk r (d.values.kind ≡ laid_kind c)
  laid_as (Ok x) ok a = (laid c d ok a).laid
  laid_as (Err e) ok a = tt
