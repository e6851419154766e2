-- What contracts see of what is kept of windows.
use Rattle.std.specs.Prelude.{◌≡◌, ℕ, Bool, List, [], is_some, Ok, refl, ◌++◌}
use Rattle.std.specs.Coded.{Coded, code_by, coded×, coded_ℕ, coded_list}
use Rattle.std.specs.List.{AllByRecursion}
use Rattle.std.specs.Map.{lookup}
use Rattle.px_frame.specs.Groups.{Group, Groups}
use Rattle.px_window.specs.Key.{Key, coded_key, key_eq, ordered_grouped}
use Rattle.px_window.specs.Places.{row_places}

-- these are the groups of a key: of the height of its columns, exactly the parts by them, each in its order
abbrev pub IsExactGroups : Key → Groups → Type 0
IsExactGroups k g = ordered_grouped g.height k ≡ Ok g

-- these are the places of the rows in the joined groups of a key, one for each row
abbrev pub IsExactMap : Key → List ℕ → Type 0
IsExactMap k m = (g : Groups) × IsExactGroups k g × (m ≡ row_places g)

-- groups and places of rows, each under a key, in the order in which they came
pub record Entries : Type 0 where
  pub groups : List (Key × Groups)
  pub maps : List (Key × List ℕ)

-- groups are told apart by their parts
abbrev coded_group : Coded Group
coded_group = code_by (ℕ × List ℕ) (coded× coded_ℕ (coded_list coded_ℕ)) (λ g. (g.first, g.rows)) (λ p. record { first = p.0; rows = p.1 }) (λ _. refl)

-- and so are those of a frame
abbrev coded_groups : Coded Groups
coded_groups = code_by (ℕ × List Group) (coded× coded_ℕ (coded_list coded_group)) (λ g. (g.height, g.groups)) (λ p. record { height = p.0; groups = p.1 }) (λ _. refl)

-- entries are told apart by both lists
abbrev pub coded_entries : Coded Entries
coded_entries =
    code_by (List (Key × Groups) × List (Key × List ℕ)) (coded× (coded_list (coded× coded_key coded_groups)) (coded_list (coded× coded_key (coded_list coded_ℕ)))) (λ c. (c.groups, c.maps)) (λ p. record { groups = p.0; maps = p.1 }) (λ _. refl)

-- nothing is kept
abbrev pub no_entries : Entries
no_entries = record { groups = []; maps = [] }

-- an entry stands under a key
abbrev pub has_entry : {V : Type 0} → Key → List (Key × V) → Bool
has_entry k es = is_some (lookup (key_eq k) es)

-- the old entries, and then others, whose keys are such ones
pub record Grown {V : Type 0} (P : Key → Type 0) (old new : List (Key × V)) : Type 0 where
  pub added : List (Key × V)
  pub whole : new ≡ old ++ added
  pub keyed : AllByRecursion (λ e. P e.0) added
