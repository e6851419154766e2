use Rattle.std.proofs.Common.{◌≡◌, ◌∙◌, ◌+◌, ◌<◌, ◌^◌, ◌∷◌, ◌++◌, List, [], ap, arith, length, subst, sym, take}
use Rattle.std.proofs.lemmas.List.{length-take-le}
use Rattle.px_value.specs.Datum.{Slot}
use Rattle.px_value.specs.LentView.{slot_of_ref}
use Rattle.px_column.proofs.Taking.{take_row}
use Rattle.px_column.proofs.column.Column.state.Goals as goal

pub absorb-requires : goal.absorb-requires
absorb-requires g c =
    let xs = c.args.self.now.slots in
    let i = c.loop-index.index in
    let below : i < length xs = omega (arith, c.len-index-end.ensures) in
    record {
      kind = c.args.self.now.kind;
      rows = take i xs;
      stands = c.loop-index.invariant;
      fits = c.get.ensures.fits;
      short = omega (arith, below, length-take-le i xs (omega (arith, below)), c.rows.ensures.short);
    }

pub loop-index-preserved : goal.loop-index-preserved
loop-index-preserved g c =
    let xs = c.args.self.now.slots in
    let i = c.loop-index.index in
    let below : i < length xs = omega (arith, c.len-index-end.ensures) in
    let room : length (take i xs) + 1 < 2 ^ 32 = omega (arith, below, length-take-le i xs (omega (arith, below)), c.rows.ensures.short) in
    let more : take i xs ++ slot_of_ref c.get.result ∷ [] ≡ take (i + 1) xs = sym (take_row xs i below ∙ ap (λ s. take i xs ++ s ∷ []) (sym c.get.ensures.value)) in
    subst (λ (ys : List Slot). g.R.Reduce.stands_for c.absorb.new.self c.args.self.now.kind ys) more
    (c.in_ok-absorb.ensures.one c.args.self.now.kind (take i xs) c.loop-index.invariant c.get.ensures.fits room)
