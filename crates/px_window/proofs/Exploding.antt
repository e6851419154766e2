-- The values of cells one after another, and how many there are.
use Rattle.std.proofs.Common.{◌≡◌, ℕ, ◌+◌, List, [], ◌∷◌, ◌++◌, Result, Ok, Err, IfOk, length, map, fold, sum, refl, sym, ◌∙◌, ap, arith}
use Rattle.std.specs.List.{flat_map, zip}
use Rattle.std.proofs.lemmas.List.Concat.{length-flat_map}
use Rattle.px_column.specs.Prelude.{Answers, Series}
use Rattle.px_value.specs.declared.error.PxError.{PxError}
use Rattle.px_frame.specs.Cell.{Cell, count_of, list_of, rows}
use Rattle.px_tree.specs.Window.{window_cell}
use Rattle.px_tree.specs.declared.window.WindowMapping.TheVariants.{Explode}

sum_map : {X : Type 0} (f : X → ℕ) (xs : List X) (a : ℕ) → fold (λ b x. b + x) a (map f xs) ≡ fold (λ b x. b + f x) a xs
sum_map f [] a = refl
sum_map f (x ∷ xs) a = sum_map f xs (a + f x)

-- how many values cells have together
pub counted : (cs : List Cell) → length (flat_map list_of cs) ≡ sum (map count_of cs)
counted cs = length-flat_map list_of cs ∙ sym (sum_map count_of cs 0)

-- the cells of a window's parts one after another
cells_alone : (parts : List (List ℕ)) (cells : List Cell) → length parts ≡ length cells → flat_map (λ (p : List ℕ × Cell). list_of p.1) (zip parts cells) ≡ flat_map list_of cells
cells_alone [] [] h = refl
cells_alone [] (c ∷ cells) h = absurd (omega (arith, h))
cells_alone (p ∷ parts) [] h = absurd (omega (arith, h))
cells_alone (p ∷ parts) (c ∷ cells) h = ap (λ ys. list_of c ++ ys) (cells_alone parts cells (omega (arith, h)))

-- where they are made
pub exploded_cells : (cells : List Cell) (m : ℕ) (built : Series) (r : Result Series PxError) → length cells ≡ m → Answers r (Ok (record built { slots = flat_map list_of cells }))
    → IfOk r (λ s. (n : ℕ) (parts : List (List ℕ)) → length parts ≡ m → window_cell Explode n (zip parts cells) ≡ Ok (rows s.slots))
exploded_cells cells m built (Ok s) many h = λ n parts e.
    let same : s ≡ record built { slots = flat_map list_of cells } = cc in
    ap (λ xs. Ok (rows xs)) (cells_alone parts cells (e ∙ sym many) ∙ ap (λ (t : Series). t.slots) (sym same))
exploded_cells cells m built (Err e) many h = tt
