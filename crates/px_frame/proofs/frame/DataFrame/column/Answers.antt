use Rattle.std.proofs.Common.{◌≡◌, ◌∙◌, ap, arith, ℕ, List, Some, get_or}
use Rattle.std.specs.List.{position}
use Rattle.px_column.specs.Prelude.{Series}
use Rattle.px_frame.specs.Frame.{names_of, name_eq, look}
use Rattle.px_frame.proofs.Looking.{looked_up, looked_name, looked_height, not_looked_up, some_found, length_names}
use Rattle.px_frame.proofs.frame.DataFrame.column.Goals as goal

pub returns-in-None-clause-found : goal.returns-in-None-clause-found
returns-in-None-clause-found c =
    rw (← c.self.view_is) (not_looked_up c.args.name.now c.self.inside.columns.items (c.in-None.ensures.index ∙ ap (position (name_eq c.args.name.now)) c.self.invariant.0))

pub index-requires : goal.index-requires
index-requires c =
    let found = some_found (name_eq c.args.name.now) (names_of c.self.inside.columns.items) c.in-Some.place (c.in-Some.ensures.index ∙ ap (position (name_eq c.args.name.now)) c.self.invariant.0) in
    omega (arith, found.1, length_names c.self.inside.columns.items)

here : (n : List ℕ) (frame : List Series) (place : ℕ) (s : Series) (keys : List (List ℕ)) → Some place ≡ position (name_eq n) keys → keys ≡ names_of frame → s ≡ get_or frame place s → Some s ≡ look n frame
here n frame place s keys h e f = looked_up n frame place s (h ∙ ap (position (name_eq n)) e) f

pub returns-in-Some-clause-found : goal.returns-in-Some-clause-found
returns-in-Some-clause-found c =
    rw (← c.self.view_is) (here c.args.name.now c.self.inside.columns.items c.in-Some.place _ _ c.in-Some.ensures.index c.self.invariant.0 c.index.ensures)

pub returns-in-Some-clause-name : goal.returns-in-Some-clause-name
returns-in-Some-clause-name c =
    looked_name c.args.name.now c.self.inside.columns.items _ (here c.args.name.now c.self.inside.columns.items c.in-Some.place _ _ c.in-Some.ensures.index c.self.invariant.0 c.index.ensures)

pub returns-in-Some-clause-height : goal.returns-in-Some-clause-height
returns-in-Some-clause-height c =
    rw (← c.self.view_is) (looked_height c.args.name.now c.self.inside.columns.items _ c.self.invariant.1.even (here c.args.name.now c.self.inside.columns.items c.in-Some.place _ _ c.in-Some.ensures.index c.self.invariant.0 c.index.ensures))
