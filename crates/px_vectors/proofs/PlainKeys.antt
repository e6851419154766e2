-- A column that is found by its name, and a key as a column, or why it is refused.
use Rattle.std.proofs.Common.{◌≡◌, ℕ, ◌==◌, Bool, true, false, not, List, [], ◌∷◌, Some, None, length, map, option_map, refl, sym, ◌∙◌, ap}
use Rattle.px_column.specs.Prelude.{is_list_kind, Series}
use Rattle.px_value.specs.declared.error.PxError.TheVariants.{ColumnNotFound, InvalidOperation}
use Rattle.px_value.specs.declared.error.InvalidWhy.TheVariants.{ListKey}
use Rattle.px_frame.specs.External.{alone}
use Rattle.px_frame.specs.Frame.{height_of, look}
use Rattle.px_frame.specs.Schema.{FieldKind, column_field}
use Rattle.px_frame.proofs.LookLaws.{field_look, has_length}
use Rattle.px_tree.specs.Tree.{column}
use Rattle.px_tree.specs.Typing.{kind_of_name, refused_where}
use Rattle.px_steps.specs.Plain.{key_refusals}
use Rattle.px_tree.specs.Grouped.{key_on}

module _ (frame : List Series) (n : List ℕ) where
  -- the type of a name
  pub kind_found : (s : Series) → Some s ≡ look n frame → kind_of_name n (map column_field frame) ≡ Some s.kind
  kind_found s h = ap (option_map (λ (f : FieldKind). f.kind)) (field_look n frame ∙ ap (option_map column_field) (sym h))

  pub kind_missing : None ≡ look n frame → kind_of_name n (map column_field frame) ≡ None
  kind_missing h = ap (option_map (λ (f : FieldKind). f.kind)) (field_look n frame ∙ ap (option_map column_field) (sym h))

  -- a key is the column of its name
  pub key_found : (s : Series) → Some s ≡ look n frame → length s.slots ≡ height_of frame → key_on (alone frame) (column n) ≡ Some (record s { name = n })
  key_found s h l =
      let there : look n frame ≡ Some s = sym h in
      let typed = kind_found s h in
      let high : (length s.slots == height_of frame) ≡ true = has_length (height_of frame) s l in
      rw (there, typed, high) refl

  -- and is not refused unless it is a list
  pub key_passes : (s : Series) → Some s ≡ look n frame → is_list_kind s.kind ≡ false → key_refusals (alone frame) (column n) ≡ []
  key_passes s h l = let typed = kind_found s h in rw typed (ap (λ (b : Bool). refused_where (not (not b)) (InvalidOperation ListKey)) l)

  pub key_missing : None ≡ look n frame → key_refusals (alone frame) (column n) ≡ ColumnNotFound n ∷ []
  key_missing h = let typed = kind_missing h in rw typed refl

  pub key_of_lists : (s : Series) → Some s ≡ look n frame → is_list_kind s.kind ≡ true → key_refusals (alone frame) (column n) ≡ InvalidOperation ListKey ∷ []
  key_of_lists s h l = let typed = kind_found s h in rw typed (ap (λ (b : Bool). refused_where (not (not b)) (InvalidOperation ListKey)) l)
