use Rattle.std.proofs.Common.{◌≡◌, ◌∷◌, ◌++◌, [], is_some, length, true, ap, ◌∙◌, arith}
use Rattle.std.proofs.lemmas.List.FromFn.{length-map-range_with_len}
use Rattle.px_value.specs.Kind.{slot_fits}
use Rattle.px_value.specs.KindView.{kind_of}
use Rattle.px_value.specs.LentView.{slot_of_ref}
use Rattle.px_array.specs.Inside.{stored}
use Rattle.px_array.specs.Lanes.{lane_slot}
use Rattle.px_array.specs.Places.{Places}
use Rattle.px_array.proofs.Growing.{on_err_any, kept, kept_built, grown, grown_built}
use Rattle.px_array.proofs.builder.ArrayBuilder.push_ref.Goals as goal

pub overflow_add-self : goal.overflow_add-self
overflow_add-self c =
    let x = c.self.inside.store in
    let count : length (stored x.lanes x.valid.items x.len) ≡ length c.args.self.now.slots = ap (λ (s : Places). length s.slots) c.self.view_is in
    omega (arith, count, length-map-range_with_len (lane_slot x.lanes x.valid.items) 0 x.len, c.requires.room)

pub invariant_of-self-in_err-add_ref : goal.invariant_of-self-in_err-add_ref
invariant_of-self-in_err-add_ref c =
    let x = c.self.inside.store in
    kept_built (kind_of c.self.inside.dtype) x.lanes c.add_ref.new.lanes x.valid.items c.make_room.new.words.items x.len c.self.invariant
    (omega (arith, c.make_room.ensures.covers)) c.make_room.ensures.same c.in_err-add_ref.ensures.for_kind c.in_err-add_ref.ensures.holds c.in_err-add_ref.ensures.same

pub returns-in_err-add_ref-clause-err : goal.returns-in_err-add_ref-clause-err
returns-in_err-add_ref-clause-err c =
    let x = c.self.inside.store in
    on_err_any c.from_residual-in_err-add_ref.result
    (ap (λ s. record { kind = kind_of c.self.inside.dtype; slots = s }) (kept x.lanes c.add_ref.new.lanes x.valid.items c.make_room.new.words.items x.len (λ i _. c.make_room.ensures.same i) c.in_err-add_ref.ensures.same) ∙ c.self.view_is)

pub invariant_of-self-2 : goal.invariant_of-self-2
invariant_of-self-2 c =
    let x = c.self.inside.store in
    let count : length (stored x.lanes x.valid.items x.len) ≡ length c.args.self.now.slots = ap (λ (s : Places). length s.slots) c.self.view_is in
    let fits : slot_fits (kind_of c.self.inside.dtype) (slot_of_ref c.args.slot) ≡ true = ap (λ (s : Places). slot_fits s.kind (slot_of_ref c.args.slot)) c.self.view_is ∙ c.requires.fits in
    grown_built (kind_of c.self.inside.dtype) x.lanes c.add_ref.new.lanes x.valid.items c.make_room.new.words.items c.put_bit.new.words.items x.len (is_some c.args.slot) (slot_of_ref c.args.slot)
    c.self.invariant c.make_room.ensures.same c.in_ok-add_ref.ensures.for_kind c.in_ok-add_ref.ensures.holds c.in_ok-add_ref.ensures.same c.in_ok-add_ref.ensures.here
    (c.put_bit.ensures.here ∙ c.is_some-present.ensures) c.put_bit.ensures.others
    (omega (arith, c.put_bit.ensures.len, c.in_ok-make_room.ensures.room)) fits
    (omega (arith, count, length-map-range_with_len (lane_slot x.lanes x.valid.items) 0 x.len, c.requires.room))

pub returns-clause-ok : goal.returns-clause-ok
returns-clause-ok c =
    let x = c.self.inside.store in
    ap (λ s. record { kind = kind_of c.self.inside.dtype; slots = s }) (grown x.lanes c.add_ref.new.lanes x.valid.items c.make_room.new.words.items c.put_bit.new.words.items x.len (is_some c.args.slot) (slot_of_ref c.args.slot)
    c.make_room.ensures.same c.in_ok-add_ref.ensures.same c.in_ok-add_ref.ensures.here (c.put_bit.ensures.here ∙ c.is_some-present.ensures) c.put_bit.ensures.others)
    ∙ ap (λ (s : Places). record { kind = s.kind; slots = s.slots ++ slot_of_ref c.args.slot ∷ [] }) c.self.view_is
