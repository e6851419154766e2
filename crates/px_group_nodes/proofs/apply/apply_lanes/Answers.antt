use Rattle.std.proofs.Common.{◌≡◌, ◌∙◌, List, Ok, ap, map, subst, sym}
use Rattle.std.proofs.lemmas.Result.{err_from_is_err_and}
use Rattle.px_column.specs.Prelude.{Refuses}
use Rattle.px_frame.specs.CellView.{named_cell}
use Rattle.px_frame.specs.Spread.{NamedCell}
use Rattle.px_nodes.specs.Named.{function_named}
use Rattle.px_lanes.specs.Made.{counts_in}
use Rattle.px_group_nodes.specs.Function.{function_answers}
use Rattle.px_group_nodes.proofs.ManyLanes.{lanes_kept, lanes_lane, lanes_lent, lanes_made, lanes_of, lanes_refused, sound_lent, stands_many}
use Rattle.px_group_nodes.proofs.apply.apply_lanes.Goals as goal

pub returns-in_err-made-clause-refused : goal.returns-in_err-made-clause-refused
returns-in_err-made-clause-refused g c =
    let cs = c.args.inputs.items in
    let f = c.args.function.now in
    let read = lanes_lent c.deref.result.now cs (map named_cell c.in_ok-cells.cells.items) c.deref.ensures.value c.in_ok-cells.ensures.cells in
    let sound = sound_lent c.deref.result.now cs c.deref.ensures.value c.in_ok-cells.ensures.sound in
    let e = c.in_err-made.field-0.0 in
    let p = err_from_is_err_and c.from_residual-in_err-made.result c.from_residual-in_err-made.ensures.1 in
    let refused : Refuses e (function_named f (lanes_of cs)) = subst (λ (xs : List NamedCell). Refuses e (function_named f xs)) read c.in_err-made.ensures.answer in
    rw (p.1, p.2) (lanes_refused f c.requires.rows cs c.requires.paired sound c.requires.lanes c.first_untouched-context.result c.first_untouched-context.ensures e (counts_in (function_answers f cs)) refused)

pub with_lane-requires : goal.with_lane-requires
with_lane-requires g c =
    let cs = c.args.inputs.items in
    let f = c.args.function.now in
    let m = named_cell c.in_ok-made.made in
    let read = lanes_lent c.deref.result.now cs (map named_cell c.in_ok-cells.cells.items) c.deref.ensures.value c.in_ok-cells.ensures.cells in
    let sound = sound_lent c.deref.result.now cs c.deref.ensures.value c.in_ok-cells.ensures.sound in
    let made : function_named f (lanes_of cs) ≡ Ok m = ap (function_named f) (sym read) ∙ c.in_ok-made.ensures.answer in
    stands_many f c.requires.rows cs c.requires.paired sound c.requires.lanes c.first_untouched-context.result c.first_untouched-context.ensures m made

pub returns-clause-made : goal.returns-clause-made
returns-clause-made g c =
    let cs = c.args.inputs.items in
    let f = c.args.function.now in
    let m = named_cell c.in_ok-made.made in
    let read = lanes_lent c.deref.result.now cs (map named_cell c.in_ok-cells.cells.items) c.deref.ensures.value c.in_ok-cells.ensures.cells in
    let sound = sound_lent c.deref.result.now cs c.deref.ensures.value c.in_ok-cells.ensures.sound in
    let made : function_named f (lanes_of cs) ≡ Ok m = ap (function_named f) (sym read) ∙ c.in_ok-made.ensures.answer in
    rw c.with_lane.ensures (lanes_made f c.requires.rows cs c.requires.paired sound c.requires.lanes c.first_untouched-context.result c.first_untouched-context.ensures m made)

pub returns-clause-groups : goal.returns-clause-groups
returns-clause-groups g c =
    let cs = c.args.inputs.items in
    let f = c.args.function.now in
    let m = named_cell c.in_ok-made.made in
    let read = lanes_lent c.deref.result.now cs (map named_cell c.in_ok-cells.cells.items) c.deref.ensures.value c.in_ok-cells.ensures.cells in
    let sound = sound_lent c.deref.result.now cs c.deref.ensures.value c.in_ok-cells.ensures.sound in
    let made : function_named f (lanes_of cs) ≡ Ok m = ap (function_named f) (sym read) ∙ c.in_ok-made.ensures.answer in
    rw c.with_lane.ensures (lanes_kept f c.requires.rows cs c.requires.paired sound c.requires.lanes c.first_untouched-context.result c.first_untouched-context.ensures m made)

pub returns-clause-lane : goal.returns-clause-lane
returns-clause-lane g c =
    let cs = c.args.inputs.items in
    let f = c.args.function.now in
    let m = named_cell c.in_ok-made.made in
    let read = lanes_lent c.deref.result.now cs (map named_cell c.in_ok-cells.cells.items) c.deref.ensures.value c.in_ok-cells.ensures.cells in
    let sound = sound_lent c.deref.result.now cs c.deref.ensures.value c.in_ok-cells.ensures.sound in
    let made : function_named f (lanes_of cs) ≡ Ok m = ap (function_named f) (sym read) ∙ c.in_ok-made.ensures.answer in
    rw c.with_lane.ensures (lanes_lane f c.requires.rows cs c.requires.paired sound c.requires.lanes c.first_untouched-context.result c.first_untouched-context.ensures m made)
