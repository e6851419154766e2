-- What a group step by columns answers.
use Rattle.std.proofs.Common.{◌≡◌, ℕ, ◌==◌, true, false, length, List, [], ◌∷◌, ◌++◌, Option, Some, None, Result, Ok, Err, map, refl, sym, ◌∙◌, ap, arith, subst, option_and_then, if◌then◌else◌}
use Rattle.std.specs.List.{flat_map}
use Rattle.std.proofs.lemmas.Bool.Decides.{nat_tests}
use Rattle.std.specs.Option.{option_map_or}
use Rattle.std.proofs.lemmas.List.{append-nil, map-append}
use Rattle.px_column.specs.Option.{each}
use Rattle.px_column.specs.Prelude.{Answers, Series}
use Rattle.px_value.specs.declared.error.PxError.{PxError}
use Rattle.px_value.specs.declared.error.ComputeWhy.TheVariants.{NoKey}
use Rattle.px_value.specs.declared.error.PxError.TheVariants.{Duplicate, ComputeError, ShapeMismatch}
use Rattle.px_frame.specs.External.{alone}
use Rattle.px_frame.specs.Frame.{first_repeat, frame_of, height_of, is_even, names_of, unless_repeated}
use Rattle.px_frame.specs.Parts.{parts_of}
use Rattle.px_tree.specs.Shape.{name_of}
use Rattle.px_tree.specs.Step.{group}
use Rattle.px_tree.specs.Tree.{Tree, column}
use Rattle.px_steps.specs.Meets.{Meets, unless_refused}
use Rattle.px_steps.proofs.Named.{refuses_first, refuses_none}
use Rattle.px_steps.specs.Plain.{agg_refusals, columns_made, columns_on, key_refusals, no_key_refusal, repeat_refusal, step_refusals}
use Rattle.px_tree.specs.Grouped.{aggregated_on, key_on, key_values}
use Rattle.px_steps.proofs.GroupStep.{even_made, key_names, names_made}

-- columns that are made of the parts
pub columns_laid : (frame by front values : List Series) (ps : List (List ℕ)) (aggs : List Tree) → ps ≡ parts_of by (height_of frame) → front ≡ map (key_values ps) by
    → each (aggregated_on (alone frame) ps) aggs ≡ Some values → columns_on (alone frame) aggs by ≡ Some (front ++ values)
columns_laid frame by front values ps aggs p f a =
    ap (λ (qs : List (List ℕ)). option_and_then (λ vs. Some (map (key_values qs) by ++ vs)) (each (aggregated_on (alone frame) qs) aggs)) (sym p)
    ∙ ap (option_and_then (λ vs. Some (map (key_values ps) by ++ vs))) a ∙ ap (λ (vs : List Series). Some (vs ++ values)) (sym f)

-- an answer tells the first name that stands twice, or the columns
module _ (columns : List Series) where
  told_frame : (r : Result (List Series) PxError) → Answers r (Ok columns) → Meets r [] (Some columns)
  told_frame (Ok f) h = (refl, cc)
  told_frame (Err e) h = refuses_none e columns [] h

  told_repeat : (n : List ℕ) (r : Result (List Series) PxError) → Answers r (Err (Duplicate n)) → Meets r (Duplicate n ∷ []) (Some columns)
  told_repeat n (Ok f) h = cc
  told_repeat n (Err e) h = refuses_first (List Series) e (Duplicate n) [] h

  told : (repeat : Option (List ℕ)) (r : Result (List Series) PxError) → Answers r (unless_repeated repeat (Ok columns)) → Meets r (option_map_or (λ n. Duplicate n ∷ []) repeat []) (Some columns)
  told None r h = told_frame r h
  told (Some n) r h = told_repeat n r h

module _ (frame : List Series) (keys aggs : List Tree) (by columns : List Series) where
  -- a group step that no expression of its refuses
  pub step_answer : (r : Result (List Series) PxError) → Answers r (frame_of columns) → no_key_refusal keys ≡ [] → each (key_on (alone frame)) keys ≡ Some by → flat_map (key_refusals (alone frame)) keys ≡ []
      → columns_on (alone frame) aggs by ≡ Some columns → flat_map (agg_refusals (alone frame)) aggs ≡ []
      → Meets r (step_refusals (group keys aggs None) (alone frame)) (columns_made (group keys aggs None) (alone frame))
  step_answer r answer some k kr made ar =
      let repeat = first_repeat [] (map name_of (keys ++ aggs)) in
      let names : names_of columns ≡ map name_of (keys ++ aggs)
      = names_made (alone frame) aggs by columns made ∙ ap (λ (ns : List (List ℕ)). ns ++ map name_of aggs) (key_names (alone frame) keys by k) ∙ sym (map-append name_of keys aggs) in
      let even : is_even columns ≡ true = even_made (alone frame) aggs by columns made in
      let framed : frame_of columns ≡ unless_repeated repeat (Ok columns) =
      (λ i. unless_repeated (first_repeat [] (names i)) (if even i then Ok columns else Err ShapeMismatch)) in
      let on : columns_made (group keys aggs None) (alone frame) ≡ Some columns = ap (λ o. option_and_then (columns_on (alone frame) aggs) o) k ∙ made in
      let refused : step_refusals (group keys aggs None) (alone frame) ≡ repeat_refusal (keys ++ aggs) =
      (λ i. (((some i ++ kr i) ++ ar i) ++ repeat_refusal (keys ++ aggs)) ++ []) ∙ append-nil (repeat_refusal (keys ++ aggs)) in
      let all = told columns repeat r (subst (Answers r) framed answer) in
      subst (Meets r (step_refusals (group keys aggs None) (alone frame))) (sym on) (subst (λ (es : List PxError). Meets r es (Some columns)) (sym refused) all)

pub some_key : (keys : List (List ℕ)) → (length keys == 0) ≡ false → no_key_refusal (map column keys) ≡ []
some_key [] h = cc
some_key (k ∷ keys) h = refl

no_length : (n : ℕ) → (n == 0) ≡ true → n ≡ 0
no_length n h = grind (arith, nat_tests)

pub no_key : (keys : List (List ℕ)) (aggs : List Tree) (frame : List Series) → (length keys == 0) ≡ true → unless_refused (step_refusals (group (map column keys) aggs None) (alone frame)) ≡ Err (ComputeError NoKey)
no_key [] aggs frame h = refl
no_key (k ∷ keys) aggs frame h = absurd (omega (arith, no_length (length (k ∷ keys)) h))
