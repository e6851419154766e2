-- The documents that are read.
use Rattle.std.specs.Prelude.{Bool}
use Rattle.std.specs.List.{list_all}
use Rattle.px_tree.specs.Chunks.{is_unchunked}
use Rattle.px_document.specs.Document.{Doc}

-- no step of the document is a group step with chunks
abbrev pub is_readable_document : Doc → Bool
is_readable_document doc = list_all is_unchunked doc.steps
