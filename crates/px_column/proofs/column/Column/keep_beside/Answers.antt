use Rattle.std.specs.Iterator.Adapters.{zip_first, zip_second}
use Rattle.px_column.specs.Rows.{kept_rows}
use Rattle.px_column.proofs.Building.{built_whole}
use Rattle.px_column.proofs.Keeping.{kept_at_end}
use Rattle.px_column.proofs.column.Column.keep_beside.Goals as goal

pub returns : goal.returns
returns c =
    let ms = zip_first c.loop-keep.keep-iterator in
    let xs = zip_second c.loop-keep.keep-iterator in
    built_whole c.args.self.now.name c.args.self.now.kind (kept_rows c.args.mask.now.slots c.args.self.now.slots) (kept_rows ms xs) c.loop-keep.rows c.finish.result
    c.loop-keep.invariant.name c.loop-keep.invariant.kind c.loop-keep.invariant.built (kept_at_end ms xs c.in-None.ensures.steps) c.finish.ensures
