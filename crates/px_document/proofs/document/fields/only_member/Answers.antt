use Rattle.std.proofs.Common.{◌≡◌, length, sym, arith}
use Rattle.std.proofs.lemmas.Grind.{common_steps}
use Rattle.serde_json.specs.View.{view}
use Rattle.px_document.proofs.Views.{only_view}
use Rattle.px_document.proofs.document.fields.only_member.Goals as goal

pub returns : goal.returns
returns c =
    let entries = c.in_ok-members.members.now.entries in
    let one : length entries ≡ 1 = grind (arith, common_steps) in
    rw c.as_str.ensures.value (sym (only_view (view c.args.value.now) entries (c.in_ok-key.key.now, c.in_ok-key.inside.now) (sym c.in_ok-members.ensures) one c.in_ok-key.ensures.first))
