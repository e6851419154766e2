use Rattle.std.proofs.Common.{◌≡◌, ◌+◌, ◌≤◌, List, Ok, length, drop, take, ap, sym, ◌∙◌, arith, subst}
use Rattle.std.specs.Prelude.{Result}
use Rattle.std.proofs.lemmas.List.FromFn.{length-map-range_with_len}
use Rattle.px_value.specs.Datum.{Slot}
use Rattle.px_value.specs.Kind.{Kind}
use Rattle.px_value.specs.KindView.{kind_of}
use Rattle.px_value.specs.declared.error.PxError.{PxError}
use Rattle.px_array.specs.Inside.{IsInside, window, inner_slot}
use Rattle.px_array.specs.Places.{Places}
use Rattle.px_array.proofs.Windows.{window_within, same_window, inside_within, inside_same}
use Rattle.px_array.proofs.array.Array.slice.Goals as goal

abbrev places : Kind → List Slot → Places
places k xs = record { kind = k; slots = xs }

abbrev okay : Kind → Result Kind PxError
okay k = Ok k

same_kind : (a b : Kind) → okay a ≡ okay b → b ≡ a
same_kind a b h = cc

pub overflow_add-result : goal.overflow_add-result
overflow_add-result c =
    let x = c.self.inside in
    let count : length (window x.inner x.first x.len) ≡ length c.args.self.now.slots = ap (λ (s : Places). length s.slots) c.self.view_is in
    omega (arith, count, length-map-range_with_len (inner_slot x.inner) x.first x.len, c.requires, c.self.invariant.bound)

pub invariant_of-result : goal.invariant_of-result
invariant_of-result c =
    let x = c.self.inside in
    let y = c.in_ok-share.field-0 in
    let count : length (window x.inner x.first x.len) ≡ length c.args.self.now.slots = ap (λ (s : Places). length s.slots) c.self.view_is in
    let within : c.args.offset + c.args.len ≤ x.len = omega (arith, count, length-map-range_with_len (inner_slot x.inner) x.first x.len, c.requires) in
    let kind : kind_of c.in_ok-try_clone.field-0 ≡ kind_of x.dtype = same_kind _ _ c.in_ok-try_clone.ensures in
    subst (λ (k : Kind). IsInside k y (x.first + c.args.offset) c.args.len) (sym kind)
    (inside_within (kind_of x.dtype) y x.first x.len c.args.offset c.args.len within
    (inside_same (kind_of x.dtype) x.inner y x.first x.len c.in_ok-share.ensures.covers c.in_ok-share.ensures.same c.self.invariant))

pub returns : goal.returns
returns c =
    let x = c.self.inside in
    let y = c.in_ok-share.field-0 in
    let count : length (window x.inner x.first x.len) ≡ length c.args.self.now.slots = ap (λ (s : Places). length s.slots) c.self.view_is in
    let within : c.args.offset + c.args.len ≤ x.len = omega (arith, count, length-map-range_with_len (inner_slot x.inner) x.first x.len, c.requires) in
    let kind : kind_of c.in_ok-try_clone.field-0 ≡ kind_of x.dtype = same_kind _ _ c.in_ok-try_clone.ensures in
    let rows : window y (x.first + c.args.offset) c.args.len ≡ take c.args.len (drop c.args.offset (window x.inner x.first x.len)) =
    same_window (inner_slot y) (inner_slot x.inner) (x.first + c.args.offset) c.args.len c.in_ok-share.ensures.same ∙ sym (window_within (inner_slot x.inner) x.first x.len c.args.offset c.args.len within) in
    let whole : places (kind_of c.in_ok-try_clone.field-0) (window y (x.first + c.args.offset) c.args.len) ≡ places c.args.self.now.kind (take c.args.len (drop c.args.offset c.args.self.now.slots)) =
    (λ i. places (kind i) (rows i)) ∙ ap (λ (s : Places). places s.kind (take c.args.len (drop c.args.offset s.slots))) c.self.view_is in
    ap (λ (s : Places). Ok s) (sym whole)
