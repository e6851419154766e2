-- Columns of frames, one frame after another.
use Rattle.std.proofs.Common.{◌≡◌, ℕ, ◌+◌, ◌<◌, Bool, true, false, cond, List, [], ◌∷◌, ◌++◌, Option, Some, None, drop, get_or, length, refl, sym, ◌∙◌, ap}
use Rattle.std.specs.List.{flat_map}
use Rattle.std.specs.Option.{option_or}
use Rattle.std.proofs.lemmas.List.{at_drop_more}
use Rattle.px_column.specs.Prelude.{Series}
use Rattle.px_frame.specs.Frame.{has_name, look}

-- the column of a name in some columns and others
look_both : (n : List ℕ) (xs ys : List Series) → look n (xs ++ ys) ≡ option_or (look n xs) (look n ys)
look_both n [] ys = refl
look_both n (x ∷ xs) ys = by (has_name n x) (look_both n xs ys)
  where
    by : (b : Bool) → look n (xs ++ ys) ≡ option_or (look n xs) (look n ys) → cond b (Some x) (look n (xs ++ ys)) ≡ option_or (cond b (Some x) (look n xs)) (look n ys)
    by true rest = refl
    by false rest = rest

-- the columns of the frames from a place on
abbrev pub columns_from : List (List Series) → ℕ → List Series
columns_from frames i = flat_map (λ f. f) (drop i frames)

module _ (frames : List (List Series)) (i : ℕ) (f : List Series) (below : i < length frames) (is : f ≡ get_or frames i f) where
  columns_opened : columns_from frames i ≡ f ++ columns_from frames (i + 1)
  columns_opened = at_drop_more (λ (fs : List (List Series)). flat_map (λ x. x) fs) frames i f below ∙ ap (λ (x : List Series). x ++ columns_from frames (i + 1)) (sym is)

  -- of a name, it is in the next frame, or from the one after it on
  pub looked_here : (n : List ℕ) → look n (columns_from frames i) ≡ option_or (look n f) (look n (columns_from frames (i + 1)))
  looked_here n = ap (look n) columns_opened ∙ look_both n f (columns_from frames (i + 1))
