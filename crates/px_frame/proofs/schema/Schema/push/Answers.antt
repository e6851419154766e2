use Rattle.std.proofs.Common.{◌≡◌, ◌∙◌, ap, sym, Bool, true, false, Ok, Err, None, if◌then◌else◌}
use Rattle.std.specs.Map.{lookup}
use Rattle.indexmap.proofs.CallerLemmas.{insert_entry-new}
use Rattle.px_value.specs.declared.error.PxError.TheVariants.{Duplicate}
use Rattle.px_frame.specs.Frame.{name_eq}
use Rattle.px_frame.specs.Schema.{is_field_name}
use Rattle.px_frame.proofs.Fields.{stands, none_there, distinct_entries, entry_added}
use Rattle.px_frame.proofs.schema.Schema.push.Goals as goal

pub returns-then-contains_key-clause-answer : goal.returns-then-contains_key-clause-answer
returns-then-contains_key-clause-answer c =
    let there : is_field_name c.args.field.name c.args.self.now ≡ true =
    rw (← c.self.view_is) (stands c.args.field.name c.self.inside.fields.entries ∙ sym c.contains_key.ensures ∙ c.if-contains_key.true) in
    ap (λ (b : Bool). if b then Err (Duplicate c.args.field.name) else Ok tt) there

pub invariant_of-self-2 : goal.invariant_of-self-2
invariant_of-self-2 c = distinct_entries c.insert.new.self.entries c.insert.ensures.unique

pub returns-clause-answer : goal.returns-clause-answer
returns-clause-answer c =
    let absent : is_field_name c.args.field.name c.args.self.now ≡ false =
    rw (← c.self.view_is) (stands c.args.field.name c.self.inside.fields.entries ∙ sym c.contains_key.ensures ∙ c.if-contains_key.false) in
    ap (λ (b : Bool). if b then Err (Duplicate c.args.field.name) else Ok tt) absent

pub returns-clause-added : goal.returns-clause-added
returns-clause-added c =
    let none : lookup (name_eq c.args.field.name) c.self.inside.fields.entries ≡ None =
    none_there (lookup (name_eq c.args.field.name) c.self.inside.fields.entries) (sym c.contains_key.ensures ∙ c.if-contains_key.false) in
    rw (← c.self.view_is)
    (entry_added c.args.field.name c.args.field.dtype c.self.inside.fields.entries c.insert.new.self.entries
    (c.in_ok-insert.ensures.entries ∙ insert_entry-new name_eq c.self.inside.fields c.args.field.name c.args.field.dtype none))
