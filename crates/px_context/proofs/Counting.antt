-- A context has as many cells as groups.
use Rattle.std.proofs.Common.{◌≡◌, ◌∙◌, length}
use Rattle.std.proofs.lemmas.List.{length-map}
use Rattle.px_column.specs.Prelude.{Series, slot_at}
use Rattle.px_frame.specs.Cell.{rows, unit}
use Rattle.px_frame.specs.Frame.{slots_at}
use Rattle.px_frame.specs.Groups.{Group, Groups}
use Rattle.px_context.specs.Context.{Context, HasShape, IsContext, cells_in, items_at, kind_in}
use Rattle.px_context.specs.Part.{part, parts_in}
use Rattle.px_context.specs.declared.agg_state.Layout.{Layout}
use Rattle.px_context.specs.declared.agg_state.Layout.TheVariants.{Lists, Scalars, Flat, Rows, Unit as Single}

many_cells : (l : Layout) (s : Series) (g : Groups) → HasShape l s g → length (cells_in l s g) ≡ length g.groups
many_cells Lists s g h = length-map s.slots (λ x. rows (items_at x)) ∙ h.each
many_cells Scalars s g h = length-map s.slots unit ∙ h
many_cells Flat s g h = length-map g.groups (λ (p : Group). rows (slots_at s.slots p.rows))
many_cells Rows s g h = length-map g.groups (λ (p : Group). rows s.slots)
many_cells Single s g h = length-map g.groups (λ (p : Group). unit (slot_at s.slots 0))

-- also where each is told with its type
pub many_parts : (c : Context) → IsContext c → length (parts_in c.layout c.values c.groups) ≡ length c.groups.groups
many_parts c ok = length-map (cells_in c.layout c.values c.groups) (part (kind_in c.layout c.values.kind)) ∙ many_cells c.layout c.values c.groups ok.shape
