use Rattle.std.proofs.Common.{◌≡◌, ◌∙◌, ◌++◌, ◌∷◌, [], List, ap, arith, map, sym}
use Rattle.std.proofs.lemmas.List.{map_push}
use Rattle.px_frame.specs.CellView.{named_cell}
use Rattle.px_frame.specs.Groups.{Groups}
use Rattle.px_frame.specs.declared.cell.Cell.{Cell}
use Rattle.px_lanes.specs.Lane.{lane_of}
use Rattle.px_group_nodes.specs.Lanes.{IsSound}
use Rattle.px_group_nodes.proofs.Across.{taken}
use Rattle.px_group_nodes.proofs.ManyLanes.{sound_more}
use Rattle.px_group_nodes.proofs.many_lanes.lanes.Goals as goal

pub loop-input-preserved : goal.loop-input-preserved
loop-input-preserved c =
    let xs = c.args.inputs.now in
    let i = c.loop-input.input-index in
    let items = c.loop-input.cells.items in
    let x = c.input-item.result in
    let m = c.in_ok-lane.field-0 in
    let more : map named_cell c.push.new.self.items ≡ map named_cell items ++ named_cell m ∷ [] = ap (λ (cs : List Cell). map named_cell cs) c.in_ok-push.ensures.items ∙ map_push named_cell items m in
    let same : named_cell m ≡ lane_of x = cc c.in_ok-lane.ensures in
    let height : c.height.result ≡ x.groups.height = c.height.ensures ∙ ap (λ (q : Groups). q.height) c.kept_groups.ensures in
    let here : IsSound x = record { context = c.has_lane.ensures.context; groups = c.has_lane.ensures.groups; few = omega (arith, height) } in
    record {
      cells = more ∙ (λ j. c.loop-input.invariant.cells j ++ same j ∷ []) ∙ sym (taken lane_of xs i x c.loop-input-test.true c.input-item.is);
      sound = sound_more xs i x c.loop-input-test.true c.input-item.is here c.loop-input.invariant.sound;
    }
