use Rattle.std.proofs.Common.{◌∙◌, ap, sym, arith}
use Rattle.px_window.specs.Cache.{Entries}
use Rattle.px_window.proofs.Entries.{put_new, ok_same}
use Rattle.px_window.proofs.window_cache.keep_groups.Goals as goal

pub returns-clause-kept : goal.returns-clause-kept
returns-clause-kept g c =
    (put_new c.args.key.now c.in_ok-try_clone.field-0 c.in_ok-groups.groups c.args.cache.now.groups c.insert_groups.new.self.groups c.get_groups.result c.get_groups.ensures.there (sym c.if-is_some.false ∙ c.is_some.ensures) (ok_same c.in_ok-try_clone.ensures) (ap (λ (e : Entries). e.groups) c.in_ok-insert_groups.ensures.added)).0

pub returns-clause-groups : goal.returns-clause-groups
returns-clause-groups g c =
    (put_new c.args.key.now c.in_ok-try_clone.field-0 c.in_ok-groups.groups c.args.cache.now.groups c.insert_groups.new.self.groups c.get_groups.result c.get_groups.ensures.there (sym c.if-is_some.false ∙ c.is_some.ensures) (ok_same c.in_ok-try_clone.ensures) (ap (λ (e : Entries). e.groups) c.in_ok-insert_groups.ensures.added)).1.0

pub returns-clause-counted : goal.returns-clause-counted
returns-clause-counted g c =
    let p = put_new c.args.key.now c.in_ok-try_clone.field-0 c.in_ok-groups.groups c.args.cache.now.groups c.insert_groups.new.self.groups c.get_groups.result c.get_groups.ensures.there (sym c.if-is_some.false ∙ c.is_some.ensures) (ok_same c.in_ok-try_clone.ensures) (ap (λ (e : Entries). e.groups) c.in_ok-insert_groups.ensures.added) in
    omega (arith, p.1.1, c.in_ok-groups.ensures.grouped_once)

pub returns-clause-most : goal.returns-clause-most
returns-clause-most g c =
    let p = put_new c.args.key.now c.in_ok-try_clone.field-0 c.in_ok-groups.groups c.args.cache.now.groups c.insert_groups.new.self.groups c.get_groups.result c.get_groups.ensures.there (sym c.if-is_some.false ∙ c.is_some.ensures) (ok_same c.in_ok-try_clone.ensures) (ap (λ (e : Entries). e.groups) c.in_ok-insert_groups.ensures.added) in
    omega (arith, p.1.1, c.in_ok-groups.ensures.grouped_once)
