-- What stands under each key of an expression.
use Rattle.std.proofs.Common.{◌≡◌, ◌≢◌, ℕ, zero, suc, ◌==◌, false, cond, List, [], ◌∷◌, Option, Some, None, option_map, option_and_then, codes, refl, sym, ◌∙◌, ap, arith, subst}
use Rattle.std.specs.Cmp.Lexicographic.{slice_cmp}
use Rattle.std.specs.Option.{option_or}
use Rattle.std.specs.Ordering.{nat_cmp, match_ordering, is_eq}
use Rattle.std.specs.Prelude.{Result, unwrap_or}
use Rattle.std.specs.declared.cmp.Ordering.{Ordering}
use Rattle.std.specs.declared.cmp.Ordering.TheVariants.{Less, Equal, Greater}
use Rattle.std.proofs.lemmas.Bool.Decides.{nat_tests}
use Rattle.std.proofs.lemmas.Map.Text.{is_eq-slice_cmp}
use Rattle.std.proofs.lemmas.Slice.Eq.{bytes_eq-Decides}
use Rattle.serde_json.specs.Data.{Data, null, boolean, number, string, array, object, no_members, member}
use Rattle.serde_json.specs.Find.{as_null, as_str, get}
use Rattle.px_column.specs.Option.{◌>>=◌, each}
use Rattle.px_column.specs.Prelude.{Kind}
use Rattle.px_value.specs.declared.cast_options.CastOptions.{CastOptions}
use Rattle.px_tree.specs.Tree.{Tree, as_explode, cast, column, literal, function, len, series, one_tree, no_trees}
use Rattle.px_tree.specs.View.{tree}
use Rattle.px_tree.specs.declared.expr.Expr.{Expr}
use Rattle.px_document.specs.Document.{column_of, kind_named}
use Rattle.px_document.specs.ExprForm.{expr_within, expr_form, row_form, whole_form, literal_parts, range_parts, alias_parts, binary_parts, ternary_parts, cast_named, cast_parts, function_parts, filter_parts, slice_parts, gather_parts, sort_parts, sort_by_parts, reduction_parts, over_parts}
use Rattle.px_document.specs.Form.{field, fields, items, only_member, single_member, member_count, only, ReadsBy}
use Rattle.px_document.specs.declared.document.fault.DocumentFault.{DocumentFault}

not_one : (n : ℕ) → (suc (suc n) == 1) ≡ false
not_one n = grind (arith, nat_tests)

-- the object that has just this member
pub member_is : (d : Data) (k : List ℕ) (v : Data) → only_member d ≡ Some (k, v) → d ≡ single_member k v
member_is null k v h = cc
member_is (boolean b) k v h = cc
member_is (number n) k v h = cc
member_is (string s) k v h = cc
member_is (array ds) k v h = cc
member_is (object no_members) k v h = cc
member_is (object (member l e no_members)) k v h = ap (λ o. unwrap_or (option_map (λ (p : List ℕ × Data). single_member p.0 p.1) o) d) h
  where
    d : Data
    d = single_member l e
member_is (object (member l e (member m f ms))) k v h = cc

-- where there is no only member there is no field
pub field_none : (q : List ℕ) (d : Data) → only_member d ≡ None → field q d ≡ None
field_none q null h = refl
field_none q (boolean b) h = refl
field_none q (number n) h = refl
field_none q (string s) h = refl
field_none q (array ds) h = refl
field_none q (object no_members) h = refl
field_none q (object (member l e no_members)) h = cc
field_none q (object (member l e (member m f ms))) h =
    ap (λ b. cond b (each (λ j. get j (object (member l e (member m f ms)))) (q ∷ [])) None >>= only) (not_one (member_count ms))

-- under another key there is no such field
pub field_other : (q k : List ℕ) (v : Data) → k ≢ q → field q (single_member k v) ≡ None
field_other q k v h = by (slice_cmp nat_cmp q k) refl
  where
    by : (o : Ordering) → slice_cmp nat_cmp q k ≡ o → ((match_ordering o None (Some v) None >>= λ y. option_map (λ ys. y ∷ ys) (Some [])) >>= only) ≡ None
    by Less e = refl
    by Greater e = refl
    by Equal e = absurd (h (sym ((bytes_eq-Decides q k).0 (sym (is_eq-slice_cmp q k) ∙ ap is_eq e))))

-- what is one of two that are not there
pub neither : {A : Type 0} {a b : Option A} → a ≡ None → b ≡ None → option_or a b ≡ None
neither {a = None} h k = k
neither {a = Some x} h k = cc

-- what is one of two, where the second is not there
pub first_of_two : {A : Type 0} (a : Option A) → option_or a None ≡ a
first_of_two None = refl
first_of_two (Some x) = refl

module _ (E : Data → Option Tree) where
  -- no expression stands where no field of a form is there
  forms_none : (d : Data) → field (codes "col") d ≡ None → field (codes "lit") d ≡ None → field (codes "range") d ≡ None → field (codes "series") d ≡ None → field (codes "alias") d ≡ None → field (codes "bin") d ≡ None → field (codes "when") d ≡ None → field (codes "cast") d ≡ None → field (codes "fn") d ≡ None → field (codes "explode") d ≡ None → field (codes "filter") d ≡ None → field (codes "slice") d ≡ None → field (codes "gather") d ≡ None → field (codes "sort") d ≡ None → field (codes "sort_by") d ≡ None → field (codes "agg") d ≡ None → field (codes "len") d ≡ None → field (codes "over") d ≡ None → expr_form E d ≡ None
  unfolding expr_form row_form whole_form
  forms_none d col lit range' series' alias' bin' when' cast' fn' explode' filter' slice' gather' sort' sort_by' agg' len' over' =
      neither (ap (λ o. option_map column (o >>= as_str)) col)
      (neither (ap (λ o. option_map literal (o >>= fields (codes "type" ∷ codes "value" ∷ []) >>= literal_parts)) lit)
      (neither (ap (λ o. option_map literal (o >>= fields (codes "low" ∷ codes "high" ∷ codes "type" ∷ []) >>= range_parts)) range')
      (neither (ap (λ o. option_map (λ s. literal (series s)) (o >>= column_of)) series')
      (neither (ap (λ o. o >>= items >>= alias_parts E) alias')
      (neither (ap (λ o. o >>= items >>= binary_parts E) bin')
      (neither (ap (λ o. o >>= items >>= ternary_parts E) when')
      (neither (ap (λ o. o >>= items >>= cast_parts E) cast')
      (neither (ap (λ o. o >>= items >>= function_parts E) fn')
      (neither (ap (λ o. option_map (λ e. function (one_tree e no_trees) as_explode) (o >>= E)) explode')
      (neither (ap (λ o. o >>= items >>= filter_parts E) filter')
      (neither (ap (λ o. o >>= items >>= slice_parts E) slice')
      (neither (ap (λ o. o >>= items >>= gather_parts E) gather')
      (neither (ap (λ o. o >>= items >>= sort_parts E) sort')
      (neither (ap (λ o. o >>= items >>= sort_by_parts E) sort_by')
      (neither (ap (λ o. o >>= items >>= reduction_parts E) agg')
      (neither (ap (λ o. option_map (λ _. len) (o >>= as_null)) len')
      (ap (λ o. o >>= fields (codes "function" ∷ codes "keys" ∷ codes "order" ∷ codes "mapping" ∷ []) >>= over_parts E) over')))))))))))))))))

  -- what stands under each key
  pub under_col : (v : Data) → expr_form E (single_member (codes "col") v) ≡ option_map column (as_str v)
  unfolding expr_form row_form whole_form
  under_col v = first_of_two (option_map column (as_str v))

  pub under_lit : (v : Data) → expr_form E (single_member (codes "lit") v) ≡ option_map literal (fields (codes "type" ∷ codes "value" ∷ []) v >>= literal_parts)
  unfolding expr_form row_form whole_form
  under_lit v = first_of_two (option_map literal (fields (codes "type" ∷ codes "value" ∷ []) v >>= literal_parts))

  pub under_range : (v : Data) → expr_form E (single_member (codes "range") v) ≡ option_map literal (fields (codes "low" ∷ codes "high" ∷ codes "type" ∷ []) v >>= range_parts)
  unfolding expr_form row_form whole_form
  under_range v = first_of_two (option_map literal (fields (codes "low" ∷ codes "high" ∷ codes "type" ∷ []) v >>= range_parts))

  pub under_series : (v : Data) → expr_form E (single_member (codes "series") v) ≡ option_map (λ s. literal (series s)) (column_of v)
  unfolding expr_form row_form whole_form
  under_series v = first_of_two (option_map (λ s. literal (series s)) (column_of v))

  pub under_alias : (v : Data) → row_form E (single_member (codes "alias") v) ≡ (items v >>= alias_parts E)
  unfolding row_form whole_form
  under_alias v = first_of_two (items v >>= alias_parts E)

  pub under_bin : (v : Data) → row_form E (single_member (codes "bin") v) ≡ (items v >>= binary_parts E)
  unfolding row_form whole_form
  under_bin v = first_of_two (items v >>= binary_parts E)

  pub under_when : (v : Data) → row_form E (single_member (codes "when") v) ≡ (items v >>= ternary_parts E)
  unfolding row_form whole_form
  under_when v = first_of_two (items v >>= ternary_parts E)

  pub under_cast : (v : Data) → row_form E (single_member (codes "cast") v) ≡ (items v >>= cast_parts E)
  unfolding row_form whole_form
  under_cast v = first_of_two (items v >>= cast_parts E)

  pub under_fn : (v : Data) → row_form E (single_member (codes "fn") v) ≡ (items v >>= function_parts E)
  unfolding row_form whole_form
  under_fn v = first_of_two (items v >>= function_parts E)

  pub under_explode : (v : Data) → row_form E (single_member (codes "explode") v) ≡ option_map (λ e. function (one_tree e no_trees) as_explode) (E v)
  unfolding row_form whole_form
  under_explode v = first_of_two (option_map (λ e. function (one_tree e no_trees) as_explode) (E v))

  pub under_filter : (v : Data) → whole_form E (single_member (codes "filter") v) ≡ (items v >>= filter_parts E)
  unfolding whole_form
  under_filter v = first_of_two (items v >>= filter_parts E)

  pub under_slice : (v : Data) → whole_form E (single_member (codes "slice") v) ≡ (items v >>= slice_parts E)
  unfolding whole_form
  under_slice v = first_of_two (items v >>= slice_parts E)

  pub under_gather : (v : Data) → whole_form E (single_member (codes "gather") v) ≡ (items v >>= gather_parts E)
  unfolding whole_form
  under_gather v = first_of_two (items v >>= gather_parts E)

  pub under_sort : (v : Data) → whole_form E (single_member (codes "sort") v) ≡ (items v >>= sort_parts E)
  unfolding whole_form
  under_sort v = first_of_two (items v >>= sort_parts E)

  pub under_sort_by : (v : Data) → whole_form E (single_member (codes "sort_by") v) ≡ (items v >>= sort_by_parts E)
  unfolding whole_form
  under_sort_by v = first_of_two (items v >>= sort_by_parts E)

  pub under_agg : (v : Data) → whole_form E (single_member (codes "agg") v) ≡ (items v >>= reduction_parts E)
  unfolding whole_form
  under_agg v = first_of_two (items v >>= reduction_parts E)

  pub under_len : (v : Data) → whole_form E (single_member (codes "len") v) ≡ option_map (λ _. len) (as_null v)
  unfolding whole_form
  under_len v = first_of_two (option_map (λ _. len) (as_null v))

  pub under_over : (v : Data) → whole_form E (single_member (codes "over") v) ≡ (fields (codes "function" ∷ codes "keys" ∷ codes "order" ∷ codes "mapping" ∷ []) v >>= over_parts E)
  unfolding whole_form
  under_over v = refl

-- where there is no only member there is no expression
pub unkeyed : (n : ℕ) (d : Data) → only_member d ≡ None → expr_within n d ≡ None
unkeyed zero d h = refl
unkeyed (suc n) d h =
    forms_none (expr_within n) d (field_none (codes "col") d h) (field_none (codes "lit") d h) (field_none (codes "range") d h) (field_none (codes "series") d h)
    (field_none (codes "alias") d h) (field_none (codes "bin") d h) (field_none (codes "when") d h) (field_none (codes "cast") d h) (field_none (codes "fn") d h)
    (field_none (codes "explode") d h) (field_none (codes "filter") d h) (field_none (codes "slice") d h) (field_none (codes "gather") d h) (field_none (codes "sort") d h)
    (field_none (codes "sort_by") d h) (field_none (codes "agg") d h) (field_none (codes "len") d h) (field_none (codes "over") d h)

-- what is read of the value is what is read of the object with it under the key
pub keyed : (F : Data → Option Tree) (r : Result Expr DocumentFault) (q k : List ℕ) (v : Data) (o : Option Tree) → k ≡ q → F (single_member q v) ≡ o → ReadsBy tree r o → ReadsBy tree r (F (single_member k v))
keyed F r q k v o h u read =
    subst (ReadsBy tree r) (sym (ap (λ x. F (single_member x v)) h ∙ u)) read

-- what is read is what is left where a key is none of the first
pub left : (r : Result Expr DocumentFault) {o q : Option Tree} → o ≡ q → ReadsBy tree r q → ReadsBy tree r o
left r e read = subst (ReadsBy tree r) (sym e) read

-- what is one of two, where the first is not there
past : {A : Type 0} {a b c : Option A} → a ≡ None → b ≡ c → option_or a b ≡ c
past {a = None} h e = e
past {a = Some x} h e = cc

module _ (E : Data → Option Tree) (k : List ℕ) (v : Data) where
  -- under another key than those of columns, literals, ranges and series
  pub past_leaves : k ≢ codes "col" → k ≢ codes "lit" → k ≢ codes "range" → k ≢ codes "series" → expr_form E (single_member k v) ≡ row_form E (single_member k v)
  unfolding expr_form row_form whole_form
  past_leaves col lit range' series' =
      let rest : row_form E (single_member k v) ≡ row_form E (single_member k v) = refl in
      past (ap (λ o. option_map column (o >>= as_str)) (field_other (codes "col") k v col))
      (past (ap (λ o. option_map literal (o >>= fields (codes "type" ∷ codes "value" ∷ []) >>= literal_parts)) (field_other (codes "lit") k v lit))
      (past (ap (λ o. option_map literal (o >>= fields (codes "low" ∷ codes "high" ∷ codes "type" ∷ []) >>= range_parts)) (field_other (codes "range") k v range'))
      (past (ap (λ o. option_map (λ s. literal (series s)) (o >>= column_of)) (field_other (codes "series") k v series')) rest)))

  -- under another key than those of what is made row by row
  pub past_rows : k ≢ codes "alias" → k ≢ codes "bin" → k ≢ codes "when" → k ≢ codes "cast" → k ≢ codes "fn" → k ≢ codes "explode" → row_form E (single_member k v) ≡ whole_form E (single_member k v)
  unfolding row_form whole_form
  past_rows alias' bin' when' cast' fn' explode' =
      let rest : whole_form E (single_member k v) ≡ whole_form E (single_member k v) = refl in
      past (ap (λ o. o >>= items >>= alias_parts E) (field_other (codes "alias") k v alias'))
      (past (ap (λ o. o >>= items >>= binary_parts E) (field_other (codes "bin") k v bin'))
      (past (ap (λ o. o >>= items >>= ternary_parts E) (field_other (codes "when") k v when'))
      (past (ap (λ o. o >>= items >>= cast_parts E) (field_other (codes "cast") k v cast'))
      (past (ap (λ o. o >>= items >>= function_parts E) (field_other (codes "fn") k v fn'))
      (past (ap (λ o. option_map (λ e. function (one_tree e no_trees) as_explode) (o >>= E)) (field_other (codes "explode") k v explode')) rest)))))

  -- under another key there is no expression
  pub other_key : k ≢ codes "filter" → k ≢ codes "slice" → k ≢ codes "gather" → k ≢ codes "sort" → k ≢ codes "sort_by" → k ≢ codes "agg" → k ≢ codes "len" → k ≢ codes "over" → whole_form E (single_member k v) ≡ None
  unfolding whole_form
  other_key filter' slice' gather' sort' sort_by' agg' len' over' =
      neither (ap (λ o. o >>= items >>= filter_parts E) (field_other (codes "filter") k v filter'))
      (neither (ap (λ o. o >>= items >>= slice_parts E) (field_other (codes "slice") k v slice'))
      (neither (ap (λ o. o >>= items >>= gather_parts E) (field_other (codes "gather") k v gather'))
      (neither (ap (λ o. o >>= items >>= sort_parts E) (field_other (codes "sort") k v sort'))
      (neither (ap (λ o. o >>= items >>= sort_by_parts E) (field_other (codes "sort_by") k v sort_by'))
      (neither (ap (λ o. o >>= items >>= reduction_parts E) (field_other (codes "agg") k v agg'))
      (neither (ap (λ o. option_map (λ _. len) (o >>= as_null)) (field_other (codes "len") k v len'))
      (ap (λ o. o >>= fields (codes "function" ∷ codes "keys" ∷ codes "order" ∷ codes "mapping" ∷ []) >>= over_parts E) (field_other (codes "over") k v over'))))))))

-- the three items of a list of three
abbrev pub three : List Data → Option (Data × Data × Data)
three (a ∷ b ∷ c ∷ []) = Some (a, b, c)
three _ = None

-- a cast has three parts
pub cast_missed : (E : Data → Option Tree) (o : Option (List Data)) → option_and_then three o ≡ None → option_and_then (cast_parts E) o ≡ None
cast_missed E None h = refl
cast_missed E (Some []) h = refl
cast_missed E (Some (a ∷ [])) h = refl
cast_missed E (Some (a ∷ b ∷ [])) h = refl
cast_missed E (Some (a ∷ b ∷ c ∷ [])) h = cc
cast_missed E (Some (a ∷ b ∷ c ∷ d ∷ ds)) h = refl

chain : {A B C D : Type 0} (a : Option A) (b : Option B) (c : Option C) (f : A → B → C → D) (x : A) (y : B) (z : C) → a ≡ Some x → b ≡ Some y → c ≡ Some z → (a >>= λ x. b >>= λ y. c >>= λ z. Some (f x y z)) ≡ Some (f x y z)
chain a b c f x y z h i j = rw (h, i, j) refl

-- the cast of three parts that were read
pub cast_taken : (E : Data → Option Tree) (e t o : Data) (x : Tree) (k : Kind) (s : CastOptions) → E e ≡ Some x → (as_str t >>= kind_named) ≡ Some k → (as_str o >>= cast_named) ≡ Some s → cast_parts E (e ∷ t ∷ o ∷ []) ≡ Some (cast x k s)
cast_taken E e t o x k s h i j = chain (E e) (as_str t >>= kind_named) (as_str o >>= cast_named) cast x k s h i j
