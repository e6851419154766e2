use Rattle.std.proofs.Common.{◌≡◌, true, false, is_none, ap, sym, ◌∙◌, rules}
use Rattle.std.specs.List.{count_by}
use Rattle.px_array.specs.Inside.{inner_slot}
use Rattle.px_array.specs.Places.{Places}
use Rattle.px_array.proofs.NullLaws.{all_null, constant_null, none_null, same_list_present}
use Rattle.px_array.proofs.array.Array.null_count.Goals as goal

pub returns-then-is_none : goal.returns-then-is_none
returns-then-is_none c =
    let x = c.self.inside in
    let none : is_none c.in-Constant.slot ≡ true = search rules in
    let null = constant_null x.inner c.in-Constant.slot true c.in-Constant.is none in
    sym (all_null (inner_slot x.inner) x.first x.len null) ∙ ap (λ (s : Places). count_by is_none s.slots) c.self.view_is

pub returns-else-is_none : goal.returns-else-is_none
returns-else-is_none c =
    let x = c.self.inside in
    let some : is_none c.in-Constant.slot ≡ false = search rules in
    let present = constant_null x.inner c.in-Constant.slot false c.in-Constant.is some in
    sym (none_null (inner_slot x.inner) x.first x.len present) ∙ ap (λ (s : Places). count_by is_none s.slots) c.self.view_is

pub returns-in-SameList : goal.returns-in-SameList
returns-in-SameList c =
    let x = c.self.inside in
    sym (none_null (inner_slot x.inner) x.first x.len (same_list_present x.inner c.in-SameList.field-0 c.in-SameList.is)) ∙ ap (λ (s : Places). count_by is_none s.slots) c.self.view_is
