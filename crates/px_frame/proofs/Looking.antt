-- A column that is found by its name's place among the names.
use Rattle.std.proofs.Common.{◌≡◌, ℕ, zero, suc, ◌+◌, ◌<◌, Bool, true, false, not, cond, List, [], ◌∷◌, Some, None, length, get_or, refl, sym, ◌∙◌, ap, arith, slice_get, nat_lt}
use Rattle.std.specs.Cmp.Lexicographic.{bytes_decides}
use Rattle.std.specs.List.{position, position_or_len, find, list_all}
use Rattle.std.proofs.lemmas.Bool.Decides.{nat_tests}
use Rattle.std.proofs.lemmas.List.{length-map}
use Rattle.std.proofs.lemmas.List.Folds.{find_at}
use Rattle.px_column.specs.Prelude.{Series}
use Rattle.px_frame.specs.Frame.{name_eq, has_name, names_of, look, height_of, has_height, is_even}
use Rattle.px_frame.proofs.Each.{has_height_is}
use Rattle.px_value.proofs.FitLaws.{both}

place_of_name : (n : List ℕ) (frame : List Series) → position_or_len (has_name n) frame ≡ position_or_len (name_eq n) (names_of frame)
place_of_name n [] = refl
place_of_name n (s ∷ frame) = ap (λ p. cond (not (name_eq n s.name)) (1 + p) 0) (place_of_name n frame)

look_by_place : (n : List ℕ) (frame : List Series) → look n frame ≡ slice_get frame (position_or_len (name_eq n) (names_of frame))
look_by_place n frame = find_at (has_name n) frame ∙ ap (slice_get frame) (place_of_name n frame)

past_the_end : {X : Type 0} (xs : List X) (i : ℕ) → nat_lt i (length xs) ≡ false → slice_get xs i ≡ None
past_the_end [] i h = refl
past_the_end (x ∷ xs) zero h = let e : nat_lt zero (suc (length xs)) ≡ true = grind (arith, nat_tests) in absurd (cc (h, e))
past_the_end (x ∷ xs) (suc i) h = past_the_end xs i (grind (arith, nat_tests))

at_place : {X : Type 0} (xs : List X) (i : ℕ) (x : X) → i < length xs → x ≡ get_or xs i x → slice_get xs i ≡ Some x
at_place [] i x h e = absurd (omega (arith, h))
at_place (y ∷ ys) zero x h e = ap Some (sym e)
at_place (y ∷ ys) (suc i) x h e = at_place ys i x (omega (arith, h)) e

none_found : (i n : ℕ) (b : Bool) → None ≡ cond b (Some i) None → b ≡ false
none_found i n true h = cc
none_found i n false h = refl

pub some_found : (test : List ℕ → Bool) (ks : List (List ℕ)) (place : ℕ) → Some place ≡ position test ks → (place ≡ position_or_len test ks) × (place < length ks)
some_found test ks place h = by (nat_lt (position_or_len test ks) (length ks)) refl h
  where
    by : (b : Bool) → nat_lt (position_or_len test ks) (length ks) ≡ b → Some place ≡ cond b (Some (position_or_len test ks)) None → (place ≡ position_or_len test ks) × (place < length ks)
    by true e f = let same : place ≡ position_or_len test ks = cc in (same, grind (arith, nat_tests))
    by false e f = cc

pub length_names : (frame : List Series) → length (names_of frame) ≡ length frame
length_names frame = length-map frame (λ s. s.name)

-- where the name is not among the names, no column has it
pub not_looked_up : (n : List ℕ) (frame : List Series) → None ≡ position (name_eq n) (names_of frame) → None ≡ look n frame
not_looked_up n frame h =
    let p = position_or_len (name_eq n) (names_of frame) in
    let past = none_found p 0 (nat_lt p (length (names_of frame))) h in
    sym (look_by_place n frame ∙ past_the_end frame p (ap (nat_lt p) (sym (length_names frame)) ∙ past))

-- the column at the name's place has it
pub looked_up : (n : List ℕ) (frame : List Series) (place : ℕ) (s : Series) → Some place ≡ position (name_eq n) (names_of frame) → s ≡ get_or frame place s → Some s ≡ look n frame
looked_up n frame place s h e =
    let f = some_found (name_eq n) (names_of frame) place h in
    let there : place < length frame = omega (arith, f.1, length_names frame) in
    sym (look_by_place n frame ∙ ap (slice_get frame) (sym f.0) ∙ at_place frame place s there e)

-- the column that is found has the name, and what holds of each column
found_by : (test : Series → Bool) (frame : List Series) (s : Series) → Some s ≡ find test frame → test s ≡ true
found_by test [] s e = cc
found_by test (x ∷ frame) s e = by (test x) refl (found_by test frame s) e
  where
    by : (b : Bool) → test x ≡ b → (Some s ≡ find test frame → test s ≡ true) → Some s ≡ cond b (Some x) (find test frame) → test s ≡ true
    by true h rest f = let same : s ≡ x = cc in ap test same ∙ h
    by false h rest f = rest f

found_among : (test each : Series → Bool) (frame : List Series) (s : Series) → list_all each frame ≡ true → Some s ≡ find test frame → each s ≡ true
found_among test each [] s a e = cc
found_among test each (x ∷ frame) s a e = by (test x) (found_among test each frame s (both (each x) (list_all each frame) a).1) e
  where
    by : (b : Bool) → (Some s ≡ find test frame → each s ≡ true) → Some s ≡ cond b (Some x) (find test frame) → each s ≡ true
    by true rest f = let same : s ≡ x = cc in ap each same ∙ (both (each x) (list_all each frame) a).0
    by false rest f = rest f

pub looked_name : (n : List ℕ) (frame : List Series) (s : Series) → Some s ≡ look n frame → s.name ≡ n
looked_name n frame s e = sym ((bytes_decides n s.name).0 (found_by (has_name n) frame s e))

pub looked_height : (n : List ℕ) (frame : List Series) (s : Series) → is_even frame ≡ true → Some s ≡ look n frame → length s.slots ≡ height_of frame
looked_height n frame s h e = has_height_is (height_of frame) s (found_among (has_name n) (has_height (height_of frame)) frame s h e)
