use Rattle.std.proofs.Common.{◌∙◌, ap, sym}
use Rattle.px_window.specs.Cache.{Entries}
use Rattle.px_window.proofs.Entries.{put_new, ok_same}
use Rattle.px_window.proofs.window_cache.keep_map.Goals as goal

pub returns-clause-kept : goal.returns-clause-kept
returns-clause-kept c =
    (put_new c.args.key.now c.in_ok-try_clone.field-0 c.in_ok-map.map.items c.args.cache.now.maps c.insert_map.new.self.maps c.get_map.result c.get_map.ensures.there (sym c.if-is_some.false ∙ c.is_some.ensures) (ok_same c.in_ok-try_clone.ensures) (ap (λ (e : Entries). e.maps) c.in_ok-insert_map.ensures.added)).0

pub returns-clause-maps : goal.returns-clause-maps
returns-clause-maps c =
    (put_new c.args.key.now c.in_ok-try_clone.field-0 c.in_ok-map.map.items c.args.cache.now.maps c.insert_map.new.self.maps c.get_map.result c.get_map.ensures.there (sym c.if-is_some.false ∙ c.is_some.ensures) (ok_same c.in_ok-try_clone.ensures) (ap (λ (e : Entries). e.maps) c.in_ok-insert_map.ensures.added)).1.0
