-- Contexts under another name.
use Rattle.std.proofs.Common.{◌≡◌, ℕ, List, refl}
use Rattle.px_column.specs.Prelude.{Series}
use Rattle.px_frame.specs.Groups.{Groups}
use Rattle.px_context.specs.Built.{renamed}
use Rattle.px_context.specs.Context.{AreLists, Context, HasShape, IsContext, cells_in, cells_of}
use Rattle.px_context.specs.declared.agg_state.Layout.{Layout}
use Rattle.px_context.specs.declared.agg_state.Layout.TheVariants.{Lists, Scalars, Flat, Rows, Unit as Single}

-- a column has the rows that its layout wants whatever its name
renamed_shape : (l : Layout) (s : Series) (g : Groups) (n : List ℕ) → HasShape l s g → HasShape l (record s { name = n }) g
renamed_shape Lists s g n h = record { each = h.each; kind = h.kind; present = h.present }
renamed_shape Scalars s g n h = h
renamed_shape Flat s g n h = h
renamed_shape Rows s g n h = h
renamed_shape Single s g n h = h

-- a context stays one under another name
pub renamed_context : (c : Context) (n : List ℕ) → IsContext c → IsContext (renamed c n)
renamed_context c n h = record { shape = renamed_shape c.layout c.values c.groups n h.shape; pending = h.pending; mark = h.mark }

renamed_in : (l : Layout) (s : Series) (g : Groups) (n : List ℕ) → cells_in l (record s { name = n }) g ≡ cells_in l s g
renamed_in Lists s g n = refl
renamed_in Scalars s g n = refl
renamed_in Flat s g n = refl
renamed_in Rows s g n = refl
renamed_in Single s g n = refl

-- and its cells stay as they were
pub renamed_cells : (c : Context) (n : List ℕ) → cells_of (renamed c n) ≡ cells_of c
renamed_cells c n = renamed_in c.layout c.values c.groups n
