-- What a node makes of contexts: group by group what it makes of their cells.
use Rattle.std.specs.Prelude.{◌≡◌, ◌⊎◌, ℕ, ◌^◌, ◌≤◌, sum, Bool, true, List, [], ◌∷◌, Result, Ok, Err, length, map}
use Rattle.std.specs.List.{zip}
use Rattle.px_column.specs.Prelude.{Kind}
use Rattle.px_value.specs.declared.error.ComputeWhy.TheVariants.{TooLong}
use Rattle.px_value.specs.declared.error.PxError.{PxError}
use Rattle.px_value.specs.declared.error.PxError.TheVariants.{ComputeError, OutOfMemory}
use Rattle.px_frame.specs.Cell.{Cell, count_of}
use Rattle.px_frame.specs.Groups.{Groups}
use Rattle.px_frame.specs.Spread.{NamedCell}
use Rattle.px_context.specs.Context.{Context, cell_kind, cells_of, has_units}
use Rattle.px_context.specs.Part.{Part}

-- a cell of a context, under its name and with its type
abbrev pub named_in : Context → Cell → NamedCell
named_in c x = record { name = c.values.name; kind = cell_kind c; cell = x }

-- its cells, one for each group
abbrev pub named_cells : Context → List NamedCell
named_cells c = map (named_in c) (cells_of c)

-- a cell that is lent, under a name
abbrev pub named_part : List ℕ → Part → NamedCell
named_part name p = record { name = name; kind = p.kind; cell = p.cell }

-- what a node of two inputs answers, group by group
abbrev pub answers_of_two : (NamedCell → NamedCell → Result NamedCell PxError) → List NamedCell → List NamedCell → List (Result NamedCell PxError)
answers_of_two node xs ys = map (λ p. node p.0 p.1) (zip xs ys)

-- one of the answers is this refusal
abbrev pub HasFault : PxError → List (Result NamedCell PxError) → Type 0
HasFault e [] = ⊥
HasFault e (r ∷ rs) = (r ≡ Err e) ⊎ HasFault e rs

-- the number of values of an answer, none of a refusal
abbrev pub count_in : Result NamedCell PxError → ℕ
count_in (Ok c) = count_of c.cell
count_in (Err e) = 0

-- the number of values of all answers
abbrev pub counts_in : List (Result NamedCell PxError) → ℕ
counts_in rs = sum (map count_in rs)

-- memory was wanting, or one of the answers is this refusal
abbrev pub IsFault : PxError → List (Result NamedCell PxError) → Type 0
IsFault e rs = (e ≡ OutOfMemory) ⊎ HasFault e rs

-- the same, or so many values are too many
abbrev pub IsRefusal : PxError → List (Result NamedCell PxError) → ℕ → Type 0
IsRefusal e rs n = IsFault e rs ⊎ ((e ≡ ComputeError TooLong) × (2 ^ 32 ≤ n))

-- the context has these cells, under a name and with a type, as units or as lists, for as many groups
pub record IsMade (answers : List (Result NamedCell PxError)) (name : List ℕ) (kind : Result Kind PxError) (one : Bool) (count : ℕ) (c : Context) : Type 0 where
  pub cells : answers ≡ map Ok (named_cells c)
  pub name_is : c.values.name ≡ name
  pub kind_is : kind ≡ Ok (cell_kind c)
  pub shape : has_units c.layout ≡ one
  pub count_is : length c.groups.groups ≡ count

-- contexts of equally many groups, and of equal groups where both are untouched
pub record ArePaired (a b : Context) : Type 0 where
  pub count : length a.groups.groups ≡ length b.groups.groups
  pub groups : a.untouched ≡ true → b.untouched ≡ true → a.groups ≡ b.groups

-- these are the groups of an untouched one of some contexts
abbrev pub AreUntouched : Groups → List Context → Type 0
AreUntouched g [] = ⊥
AreUntouched g (c ∷ cs) = ((c.untouched ≡ true) × (g ≡ c.groups)) ⊎ AreUntouched g cs

-- where the context is untouched, it has the groups of an untouched one of some contexts
abbrev pub KeepsGroups : List Context → Context → Type 0
KeepsGroups cs c = c.untouched ≡ true → AreUntouched c.groups cs
