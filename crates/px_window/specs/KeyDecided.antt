-- The test of keys decides whether they are the same.
use Rattle.std.specs.Prelude.{◌≡◌, ◌==◌, Bool, true, false, ◌&&◌, List, [], ◌∷◌, Option, Some, None, refl}
use Rattle.std.proofs.Common.{sym, ap, ◌∙◌}
use Rattle.std.specs.Bool.{Decides}
use Rattle.std.specs.Cmp.Lexicographic.{bytes_decides}
use lib.Pointwise.{pointwise}
use Rattle.std.proofs.lemmas.Bool.Decides.{Decides-like, Decides-and, Decides-eqb}
use Rattle.px_column.specs.Prelude.{Series}
use Rattle.px_value.specs.Decided.{row_decides}
use Rattle.px_value.specs.Equality.{bool_eq, row_eq}
use Rattle.px_value.specs.Kind.{Kind, kind_back, kind_eq, kind_number, kind_round}
use Rattle.px_value.specs.declared.sort_options.SortOptions.{SortOptions}
use Rattle.px_window.specs.Key.{Key, all_series_eq, key_eq, options_eq, order_eq, series_eq}

bool_decides : (a b : Bool) → Decides (bool_eq a b) (a ≡ b)
bool_decides true true = (λ h. refl, λ e. refl)
bool_decides false false = (λ h. refl, λ e. refl)
bool_decides true false = (λ h. cc, λ e. cc)
bool_decides false true = (λ h. cc, λ e. cc)

kind_decides : (a b : Kind) → Decides (kind_eq a b) (a ≡ b)
kind_decides a b = Decides-like (kind_eq a b) (λ e. sym (kind_round a) ∙ ap kind_back e ∙ kind_round b) (λ e. ap kind_number e) (Decides-eqb (kind_number a) (kind_number b))

series_decides : (a b : Series) → Decides (series_eq a b) (a ≡ b)
series_decides a b =
    Decides-like (series_eq a b) (λ p i. record { name = p.0 i; kind = p.1.0 i; slots = p.1.1 i }) (λ e. (ap (λ s. s.name) e, (ap (λ s. s.kind) e, ap (λ s. s.slots) e)))
    (Decides-and (pointwise ◌==◌ a.name b.name) (kind_eq a.kind b.kind && row_eq a.slots b.slots) (bytes_decides a.name b.name)
    (Decides-and (kind_eq a.kind b.kind) (row_eq a.slots b.slots) (kind_decides a.kind b.kind) (row_decides a.slots b.slots)))

pub all_series_decides : (xs ys : List Series) → Decides (all_series_eq xs ys) (xs ≡ ys)
all_series_decides [] [] = (λ h. refl, λ e. refl)
all_series_decides [] (y ∷ ys) = (λ h. cc, λ e. cc)
all_series_decides (x ∷ xs) [] = (λ h. cc, λ e. cc)
all_series_decides (x ∷ xs) (y ∷ ys) =
    Decides-like (series_eq x y && all_series_eq xs ys) (λ p i. p.0 i ∷ p.1 i) (λ e. (cc, cc)) (Decides-and (series_eq x y) (all_series_eq xs ys) (series_decides x y) (all_series_decides xs ys))

options_decides : (a b : SortOptions) → Decides (options_eq a b) (a ≡ b)
options_decides a b =
    Decides-like (options_eq a b) (λ p i. record { descending = p.0 i; nulls_last = p.1 i }) (λ e. (ap (λ s. s.descending) e, ap (λ s. s.nulls_last) e))
    (Decides-and (bool_eq a.descending b.descending) (bool_eq a.nulls_last b.nulls_last) (bool_decides a.descending b.descending) (bool_decides a.nulls_last b.nulls_last))

order_decides : (a b : Option (Series × SortOptions)) → Decides (order_eq a b) (a ≡ b)
order_decides None None = (λ h. refl, λ e. refl)
order_decides None (Some b) = (λ h. cc, λ e. cc)
order_decides (Some a) None = (λ h. cc, λ e. cc)
order_decides (Some a) (Some b) =
    Decides-like (options_eq a.1 b.1 && series_eq a.0 b.0) (λ p i. Some (p.1 i, p.0 i)) (λ e. (cc, cc)) (Decides-and (options_eq a.1 b.1) (series_eq a.0 b.0) (options_decides a.1 b.1) (series_decides a.0 b.0))

pub key_decides : (a b : Key) → Decides (key_eq a b) (a ≡ b)
key_decides a b =
    Decides-like (key_eq a b) (λ p i. record { branch = p.0 i; order = p.1.0 i; keys = p.1.1 i }) (λ e. (ap (λ k. k.branch) e, (ap (λ k. k.order) e, ap (λ k. k.keys) e)))
    (Decides-and (a.branch == b.branch) (order_eq a.order b.order && all_series_eq a.keys b.keys) (Decides-eqb a.branch b.branch)
    (Decides-and (order_eq a.order b.order) (all_series_eq a.keys b.keys) (order_decides a.order b.order) (all_series_decides a.keys b.keys)))
