-- The cells of some contexts at a group have their names, their types and their shapes.
use Rattle.std.proofs.Common.{◌≡◌, ℕ, zero, suc, Bool, List, [], ◌∷◌, Result, Ok, map, replicate, refl}
use Rattle.std.specs.List.{zip}
use Rattle.px_column.specs.Prelude.{Kind}
use Rattle.px_value.specs.declared.error.PxError.{PxError}
use Rattle.px_frame.specs.Cell.{Cell}
use Rattle.px_frame.specs.Spread.{NamedCell}
use Rattle.px_nodes.specs.Named.{kinds_of}
use Rattle.px_context.specs.Context.{Context, cell_kind, cells_of, has_units}
use Rattle.px_lanes.specs.Alike.{AreLike, IsLike}
use Rattle.px_lanes.specs.Made.{named_cells, named_in}
use Rattle.px_lanes.proofs.Likeness.{AreShaped, shaped}
use Rattle.px_group_nodes.specs.Many.{across, answers_of_many}

-- some cells of a context
abbrev pub AreIn : Context → List NamedCell → Type 0
AreIn c [] = Unit {0}
AreIn c (x ∷ xs) = IsLike c.values.name (cell_kind c) (has_units c.layout) x × AreIn c xs

-- a cell of each of some contexts
abbrev pub IsRowIn : List Context → List NamedCell → Type 0
IsRowIn [] [] = Unit {0}
IsRowIn (c ∷ cs) (x ∷ xs) = IsLike c.values.name (cell_kind c) (has_units c.layout) x × IsRowIn cs xs
IsRowIn _ _ = ⊥

-- the same at each group
abbrev pub AreRowsIn : List Context → List (List NamedCell) → Type 0
AreRowsIn cs [] = Unit {0}
AreRowsIn cs (r ∷ rs) = IsRowIn cs r × AreRowsIn cs rs

are_in : (c : Context) (xs : List Cell) → AreShaped (has_units c.layout) xs → AreIn c (map (named_in c) xs)
are_in c [] h = tt
are_in c (x ∷ xs) h = (record { name_is = refl; kind_is = refl; shape = h.0 }, are_in c xs h.1)

rows_of_none : (n : ℕ) → AreRowsIn [] (replicate n [])
rows_of_none zero = tt
rows_of_none (suc n) = (tt, rows_of_none n)

rows_more : (c : Context) (cs : List Context) (xs : List NamedCell) (rs : List (List NamedCell)) → AreIn c xs → AreRowsIn cs rs → AreRowsIn (c ∷ cs) (map (λ (p : NamedCell × List NamedCell). p.0 ∷ p.1) (zip xs rs))
rows_more c cs [] rs h k = tt
rows_more c cs (x ∷ xs) [] h k = tt
rows_more c cs (x ∷ xs) (r ∷ rs) h k = ((h.0, k.0), rows_more c cs xs rs h.1 k.1)

-- at each of so many groups
pub rows_in : (n : ℕ) (cs : List Context) → AreRowsIn cs (across n (map named_cells cs))
rows_in n [] = rows_of_none n
rows_in n (c ∷ cs) = rows_more c cs (named_cells c) (across n (map named_cells cs)) (are_in c (cells_of c) (shaped c)) (rows_in n cs)

-- their types
pub row_kinds : (cs : List Context) (xs : List NamedCell) → IsRowIn cs xs → kinds_of xs ≡ map cell_kind cs
row_kinds [] [] h = refl
row_kinds [] (x ∷ xs) h = absurd h
row_kinds (c ∷ cs) [] h = absurd h
row_kinds (c ∷ cs) (x ∷ xs) h = λ i. h.0.kind_is i ∷ row_kinds cs xs h.1 i

module _ (name : List ℕ) (t : Kind) (one : Bool) (node : List NamedCell → Result NamedCell PxError) (cs : List Context)
    (law : (row : List NamedCell) (m : NamedCell) → IsRowIn cs row → node row ≡ Ok m → IsLike name t one m) where
  like_rows : (rows : List (List NamedCell)) (ms : List NamedCell) → AreRowsIn cs rows → map node rows ≡ map Ok ms → AreLike name t one ms
  like_rows [] [] p h = tt
  like_rows [] (m ∷ ms) p h = absurd (cc)
  like_rows (r ∷ rs) [] p h = absurd (cc)
  like_rows (r ∷ rs) (m ∷ ms) p h =
      let first : node r ≡ Ok m = cc in
      let others : map node rs ≡ map Ok ms = cc in
      (law r m p.0 first, like_rows rs ms p.1 others)

  -- the answers of a node are alike where they are at each group
  pub like_many : (n : ℕ) (ms : List NamedCell) → answers_of_many node n cs ≡ map Ok ms → AreLike name t one ms
  like_many n ms h = like_rows (across n (map named_cells cs)) ms (rows_in n cs) h
