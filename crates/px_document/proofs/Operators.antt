-- The names of operators, in three parts.
use Rattle.std.proofs.Common.{◌≡◌, ◌∙◌, ℕ, Bool, true, false, List, [], ◌∷◌, ◌++◌, Option, Some, None, if◌then◌else◌, refl, ap, sym}
use Rattle.std.specs.Option.{option_or}
use Rattle.std.specs.Str.{bytes_eq}
use Rattle.px_value.specs.declared.operator.Operator.{Operator}
use Rattle.px_document.specs.ExprForm.{arithmetic, comparisons, logical, meant_by, operator_named}

meant_next : {A : Type 0} (b : Bool) (x : A) (all first second : Option A) → all ≡ option_or first second → (if b then Some x else all) ≡ option_or (if b then Some x else first) second
meant_next true x all first second h = refl
meant_next false x all first second h = h

-- what has the text as its name is in the first list, or else in the second
meant_by_append : {A : Type 0} (names more : List (List ℕ × A)) (s : List ℕ) → meant_by (names ++ more) s ≡ option_or (meant_by names s) (meant_by more s)
meant_by_append [] more s = refl
meant_by_append (n ∷ names) more s = meant_next (bytes_eq s n.0) n.1 (meant_by (names ++ more) s) (meant_by names s) (meant_by more s) (meant_by_append names more s)

by_part : (s : List ℕ) → operator_named s ≡ option_or (meant_by comparisons s) (option_or (meant_by arithmetic s) (meant_by logical s))
by_part s = meant_by_append comparisons (arithmetic ++ logical) s ∙ ap (option_or (meant_by comparisons s)) (meant_by_append arithmetic logical s)

-- where it is no comparison
no_comparison : (s : List ℕ) → None ≡ meant_by comparisons s → operator_named s ≡ option_or (meant_by arithmetic s) (meant_by logical s)
no_comparison s none = by_part s ∙ ap (λ o. option_or o (option_or (meant_by arithmetic s) (meant_by logical s))) (sym none)

pub is_comparison : (s : List ℕ) (o : Operator) → Some o ≡ meant_by comparisons s → Some o ≡ operator_named s
is_comparison s o is = sym (by_part s ∙ ap (λ x. option_or x (option_or (meant_by arithmetic s) (meant_by logical s))) (sym is))

pub is_arithmetic : (s : List ℕ) (o : Operator) → None ≡ meant_by comparisons s → Some o ≡ meant_by arithmetic s → Some o ≡ operator_named s
is_arithmetic s o none is = sym (no_comparison s none ∙ ap (λ x. option_or x (meant_by logical s)) (sym is))

pub is_logical : (s : List ℕ) (r : Option Operator) → None ≡ meant_by comparisons s → None ≡ meant_by arithmetic s → r ≡ meant_by logical s → r ≡ operator_named s
is_logical s r none neither is = is ∙ sym (no_comparison s none ∙ ap (λ x. option_or x (meant_by logical s)) (sym neither))
