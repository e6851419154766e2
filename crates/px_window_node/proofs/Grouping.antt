-- The groups of a window, from the columns of its keys and of its order.
use Rattle.std.proofs.Common.{◌≡◌, ◌⊎◌, inl, inr, ℕ, Bool, true, false, List, [], ◌∷◌, Option, Result, Ok, Err, map, refl, sym, ◌∙◌, ap, if◌then◌else◌}
use Rattle.std.specs.List.{list_any}
use Rattle.px_column.specs.Prelude.{Refuses, Series}
use Rattle.px_column.specs.Result.{◌>>=◌}
use Rattle.px_value.specs.declared.error.InvalidWhy.TheVariants.{ListKey}
use Rattle.px_value.specs.declared.error.PxError.{PxError}
use Rattle.px_value.specs.declared.error.PxError.TheVariants.{InvalidOperation, ShapeMismatch, OutOfMemory}
use Rattle.px_value.specs.declared.sort_options.SortOptions.{SortOptions}
use Rattle.px_frame.specs.Frame.{all_have_height}
use Rattle.px_frame.specs.Groups.{Group, Groups, group_of, is_list, rows_of}
use Rattle.px_frame.specs.Ordered.{ordered_parts}
use Rattle.px_frame.specs.Spread.{NamedCell, spread_all}
use Rattle.px_tree.specs.Window.{OrderCell, order_column}
use Rattle.px_window.specs.Key.{grouped_in, with_order}
use Rattle.px_window_node.specs.Grouped.{window_groups}

-- a refusal is want of memory, or what is expected
pub memory_or_refused : {X : Type 0} (e : PxError) (r : Result X PxError) → Refuses e r → (e ≡ OutOfMemory) ⊎ (r ≡ Err e)
memory_or_refused OutOfMemory r h = inl refl
memory_or_refused _ r h = inr h

-- a choice of refusals and groups
abbrev pub chosen : Bool → Bool → Groups → Result Groups PxError
chosen l h g = if l then Err (InvalidOperation ListKey) else (if h then Ok g else Err ShapeMismatch)

chosen_groups : (l h : Bool) (a g : Groups) → chosen l h a ≡ Ok g → (l ≡ false) × (a ≡ g)
chosen_groups true h a g e = absurd (cc e)
chosen_groups false true a g e = (refl, cc)
chosen_groups false false a g e = absurd (cc e)

rows_back : (ps : List (List ℕ)) → map (λ (p : Group). p.rows) (map group_of ps) ≡ ps
rows_back [] = refl
rows_back (p ∷ ps) = ap (λ (qs : List (List ℕ)). p ∷ qs) (rows_back ps)

-- what groups by some columns say of these
pub record AreGroups (n : ℕ) (by : List Series) (o : Option (Series × SortOptions)) (g : Groups) : Type 0 where
  pub height : g.height ≡ n
  pub rows : rows_of g ≡ ordered_parts by o n
  pub no_list : list_any is_list (with_order o by) ≡ false

pub groups_in : (n : ℕ) (by : List Series) (o : Option (Series × SortOptions)) (g : Groups) → grouped_in n by o ≡ Ok g → AreGroups n by o g
groups_in n [] o g h = absurd (cc h)
groups_in n (s ∷ by) o g h =
    let made : Groups = record { height = n; groups = map group_of (ordered_parts (s ∷ by) o n) } in
    let found = chosen_groups (list_any is_list (with_order o (s ∷ by))) (all_have_height n (with_order o (s ∷ by))) made g h in
    record {
      height = ap (λ (q : Groups). q.height) (sym found.1);
      rows = ap rows_of (sym found.1) ∙ rows_back (ordered_parts (s ∷ by) o n);
      no_list = found.0;
    }

-- the columns of a window's groups
pub record AreGroupsOf (n : ℕ) (keys : List NamedCell) (order : OrderCell) (g : Groups) : Type 0 where
  pub by : List Series
  pub o : Option (Series × SortOptions)
  pub keys_at : spread_all n keys ≡ Ok by
  pub order_at : order_column n order ≡ Ok o
  pub grouped : grouped_in n by o ≡ Ok g

pub groups_there : (n : ℕ) (keys : List NamedCell) (order : OrderCell) (g : Groups) → window_groups n keys order ≡ Ok g → AreGroupsOf n keys order g
groups_there n keys order g h = by (spread_all n keys) refl (order_column n order) refl h
  where
    by : (r : Result (List Series) PxError) → spread_all n keys ≡ r → (s : Result (Option (Series × SortOptions)) PxError) → order_column n order ≡ s → (r >>= λ cs. s >>= λ o. grouped_in n cs o) ≡ Ok g → AreGroupsOf n keys order g
    by (Ok cs) e (Ok o) f k = record { by = cs; o = o; keys_at = e; order_at = f; grouped = k }
    by (Ok cs) e (Err x) f k = absurd (cc k)
    by (Err x) e s f k = absurd (cc k)
