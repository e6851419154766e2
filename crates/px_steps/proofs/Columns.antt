-- The columns of a group step: their names, their lengths, and the frame that they make.
use Rattle.std.proofs.Common.{◌≡◌, ℕ, ◌<◌, Bool, true, false, not, ◌&&◌, ◌||◌, List, [], ◌∷◌, Option, Some, None, Ok, Err, length, map, refl, ◌∙◌, ap, arith, option_and_then, if◌then◌else◌}
use Rattle.std.specs.List.{list_all, list_any}
use Rattle.std.proofs.lemmas.List.{length-map}
use Rattle.px_column.specs.Prelude.{Series, slot_at}
use Rattle.px_value.specs.declared.error.PxError.TheVariants.{ShapeMismatch, InvalidOperation}
use Rattle.px_value.specs.declared.error.InvalidWhy.TheVariants.{ListKey}
use Rattle.px_frame.specs.Aggregate.{key_column}
use Rattle.px_frame.specs.Frame.{names_of, height_of, has_height, all_have_height}
use Rattle.px_frame.specs.Groups.{Group, group_of, grouped, groups_by, first_row, is_list}
use Rattle.px_steps.specs.Finds.{is_key}
use Rattle.px_tree.specs.Grouped.{key_values}
use Rattle.px_value.proofs.FitLaws.{both}
use Rattle.px_frame.proofs.LookLaws.{has_length}

pub and_then_some : {A B : Type 0} (o : Option A) (f : A → Option B) (b : B) → option_and_then f o ≡ Some b → (a : A) × (o ≡ Some a) × (f a ≡ Some b)
and_then_some None f b h = cc
and_then_some (Some a) f b h = (a, refl, h)

-- the parts of some columns, where there is a key, none is a list and all have the height
pub grouped_is : (n : ℕ) (by : List Series) → 0 < length by → list_any is_list by ≡ false → all_have_height n by ≡ true → grouped n by ≡ Ok (groups_by by n)
grouped_is n [] h l a = absurd (omega (arith, h))
grouped_is n (s ∷ by) h l a =
    ap (λ (b : Bool). if b then Err (InvalidOperation ListKey) else (if all_have_height n (s ∷ by) then Ok (groups_by (s ∷ by) n) else Err ShapeMismatch)) l
    ∙ ap (λ (b : Bool). if b then Ok (groups_by (s ∷ by) n) else Err ShapeMismatch) a

pub rows_of_groups : (ps : List (List ℕ)) → map (λ (g : Group). g.rows) (map group_of ps) ≡ ps
rows_of_groups [] = refl
rows_of_groups (p ∷ ps) = ap (λ qs. p ∷ qs) (rows_of_groups ps)

key_slots : (s : Series) (ps : List (List ℕ)) → map (λ g. slot_at s.slots (first_row g.rows)) (map group_of ps) ≡ map (λ p. slot_at s.slots (first_row p)) ps
key_slots s [] = refl
key_slots s (p ∷ ps) = ap (λ xs. slot_at s.slots (first_row p) ∷ xs) (key_slots s ps)

pub keys_of_groups : (ps : List (List ℕ)) (by : List Series) → map (key_column (map group_of ps)) by ≡ map (key_values ps) by
keys_of_groups ps [] = refl
keys_of_groups ps (s ∷ by) = λ i. record s { slots = key_slots s ps i } ∷ keys_of_groups ps by i

pub names_of_keys : (ps : List (List ℕ)) (by : List Series) → names_of (map (key_values ps) by) ≡ names_of by
names_of_keys ps [] = refl
names_of_keys ps (s ∷ by) = ap (λ ns. s.name ∷ ns) (names_of_keys ps by)

pub heights_of_keys : (ps : List (List ℕ)) (by : List Series) → all_have_height (length ps) (map (key_values ps) by) ≡ true
heights_of_keys ps [] = refl
heights_of_keys ps (s ∷ by) = λ i. has_length (length ps) (key_values ps s) (length-map ps (λ p. slot_at s.slots (first_row p))) i && heights_of_keys ps by i

pub all_true : {X : Type 0} (test : Series → Bool) (xs : List X) (made : List Series) → map test made ≡ map (λ _. true) xs → list_all test made ≡ true
all_true test xs [] e = refl
all_true test [] (c ∷ made) e = cc
all_true test (x ∷ xs) (c ∷ made) e = let first : test c ≡ true = cc in let rest : map test made ≡ map (λ _. true) xs = cc in λ i. first i && all_true test xs made rest i

un_not : (b : Bool) → not b ≡ true → b ≡ false
un_not true h = cc
un_not false h = refl

-- keys are no lists and have the frame's height
keys_plain : (frame by : List Series) → list_all (is_key frame) by ≡ true → list_any is_list by ≡ false
keys_plain frame [] h = refl
keys_plain frame (s ∷ by) h =
    let p = both (is_key frame s) (list_all (is_key frame) by) h in
    let q = both (not (is_list s)) (has_height (height_of frame) s) p.0 in
    λ i. un_not (is_list s) q.0 i || keys_plain frame by p.1 i

pub keys_high : (frame by : List Series) → list_all (is_key frame) by ≡ true → all_have_height (height_of frame) by ≡ true
keys_high frame [] h = refl
keys_high frame (s ∷ by) h =
    let p = both (is_key frame s) (list_all (is_key frame) by) h in
    let q = both (not (is_list s)) (has_height (height_of frame) s) p.0 in
    λ i. q.1 i && keys_high frame by p.1 i

pub grouped_by_keys : (n : ℕ) (frame by : List Series) → n ≡ height_of frame → 0 < length by → list_all (is_key frame) by ≡ true → grouped n by ≡ Ok (groups_by by (height_of frame))
grouped_by_keys n frame by e h k = ap (λ m. grouped m by) e ∙ grouped_is (height_of frame) by h (keys_plain frame by k) (keys_high frame by k)
