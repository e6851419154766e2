-- Contexts of one frame and one list of groups are paired.
use Rattle.std.proofs.Common.{◌≡◌, sym, ◌∙◌}
use Rattle.px_frame.specs.External.{Frame}
use Rattle.px_frame.specs.Groups.{Groups}
use Rattle.px_context.specs.Context.{Context}
use Rattle.px_lanes.specs.Made.{ArePaired}
use Rattle.px_group_nodes.specs.Three.{AreThreePaired}
use Rattle.px_answers.specs.Planned.{Planned}
use Rattle.px_group_answers.specs.OnGroups.{IsContextOf}

-- two of them
pub two_paired : (p q : Planned) (frame : Frame) (g : Groups) (a b : Context) → IsContextOf p frame g a → IsContextOf q frame g b → ArePaired a b
two_paired p q frame g a b h k = record { count = h.count ∙ sym k.count; groups = λ t u. h.kept t ∙ sym (k.kept u) }

-- each two of three
pub three_paired : (p q r : Planned) (frame : Frame) (g : Groups) (a b c : Context) → IsContextOf p frame g a → IsContextOf q frame g b → IsContextOf r frame g c → AreThreePaired a b c
three_paired p q r frame g a b c h k l = record {
  first_second = two_paired p q frame g a b h k;
  first_third = two_paired p r frame g a c h l;
  second_third = two_paired q r frame g b c k l;
}
