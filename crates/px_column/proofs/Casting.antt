-- Rows that are cast one by one.
use Rattle.std.proofs.Common.{◌≡◌, ◌∙◌, ℕ, List, [], ◌∷◌, ◌++◌, Result, Ok, append-nil, sym, ap, subst}
use Rattle.std.specs.Result.{result_map_both}
use Rattle.px_value.specs.Answer.{Answers, Refuses}
use Rattle.px_value.specs.Datum.{Slots, Slot, slots, items, items-slots}
use Rattle.px_value.specs.Kind.{Kind}
use Rattle.px_value.specs.Result.{◌>>=◌}
use Rattle.px_value.specs.Series.{Series}
use Rattle.px_value.specs.declared.cast_options.CastOptions.{CastOptions}
use Rattle.px_value.specs.declared.error.PxError.{PxError}
use Rattle.px_value.proofs.Refusing.{refuses_too}
use Rattle.px_operation.specs.Cast.{before, cast_slot, items_cast}
use Rattle.px_operation.proofs.CastLaws.{after, after_none, after_one, items_first, refused_row}
use Rattle.px_column.specs.Retyped.{cast_rows}

-- the column of the rows that are cast, or the first refusal
abbrev column_of : List ℕ → Kind → Result Slots PxError → Result Series PxError
column_of name to r = result_map_both items (λ e. e) r >>= λ ys. Ok (record { name = name; kind = to; slots = ys })

-- a refusal of the rows is that of the column
refused_column : (e : PxError) (name : List ℕ) (to : Kind) (r : Result Slots PxError) → Refuses e r → Refuses e (column_of name to r)
refused_column e name to r = refuses_too e r (column_of name to r) (ap (column_of name to))

-- no row is cast yet
pub cast_start : (to : Kind) (o : CastOptions) (done all rest : List Slot) → done ≡ [] → rest ≡ all → items_cast to o (slots all) ≡ after done (items_cast to o (slots rest))
cast_start to o done all rest none whole = after_none (items_cast to o (slots all)) ∙ (λ i. after (sym none i) (items_cast to o (slots (sym whole i))))

module _ (to : Kind) (o : CastOptions) (done all rest : List Slot) (same : items_cast to o (slots all) ≡ after done (items_cast to o (slots rest))) where
  -- the first of the rows that are left
  cast_first : (x : Slot) (later : List Slot) → rest ≡ x ∷ later → items_cast to o (slots all) ≡ after done (before (cast_slot to to o x) (items_cast to o (slots later)))
  cast_first x later e = same ∙ ap (λ (xs : List Slot). after done (items_cast to o (slots xs))) e ∙ ap (after done) (items_first to to o x later)

  -- one row more that is cast
  pub cast_next : (x v : Slot) (later new : List Slot) → rest ≡ x ∷ later → cast_slot to to o x ≡ Ok v → new ≡ done ++ v ∷ [] → items_cast to o (slots all) ≡ after new (items_cast to o (slots later))
  cast_next x v later new e h n =
      cast_first x later e
      ∙ ap (λ (s : Result Slot PxError). after done (before s (items_cast to o (slots later)))) h
      ∙ after_one done v (items_cast to o (slots later))
      ∙ ap (λ (xs : List Slot). after xs (items_cast to o (slots later))) (sym n)

  -- the refusal of a row is that of its column
  pub cast_refused : (e : PxError) (name : List ℕ) (from : Kind) (x : Slot) (later : List Slot) → rest ≡ x ∷ later → Refuses e (cast_slot to to o x) → Refuses e (cast_rows to o (record { name = name; kind = from; slots = all }))
  cast_refused e name from x later f h =
      refused_column e name to (items_cast to o (slots all))
      (subst (λ (r : Result Slots PxError). Refuses e r) (sym (cast_first x later f)) (refused_row e done (cast_slot to to o x) (items_cast to o (slots later)) h))

  -- all rows are cast, where none is left
  pub cast_all : (name : List ℕ) (from : Kind) (b : Series) (r : Result Series PxError) → rest ≡ [] → b ≡ record { name = name; kind = to; slots = done } → Answers r (Ok b)
      → Answers r (cast_rows to o (record { name = name; kind = from; slots = all }))
  cast_all name from b r none e h =
      let cast : items_cast to o (slots all) ≡ Ok (slots (done ++ [])) = same ∙ ap (λ (xs : List Slot). after done (items_cast to o (slots xs))) none in
      let rows : items (slots (done ++ [])) ≡ done = items-slots (done ++ []) ∙ append-nil done in
      let whole : column_of name to (items_cast to o (slots all)) ≡ Ok b = ap (column_of name to) cast ∙ (λ i. Ok (record { name = name; kind = to; slots = rows i })) ∙ ap Ok (sym e) in
      subst (λ (q : Result Series PxError). Answers r q) (sym whole) h
