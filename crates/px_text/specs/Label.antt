-- The line that tells of a fault.
use Rattle.std.specs.Prelude.{ℕ, List, [], ◌∷◌, ◌++◌, codes}
use Rattle.px_value.specs.declared.error.PxError.{PxError}
use Rattle.px_value.specs.declared.error.PxError.TheVariants.{ColumnNotFound, Duplicate, InvalidOperation, ComputeError, OutOfBounds, ShapeMismatch, SchemaMismatch, OutOfMemory}
use Rattle.px_value.specs.declared.error.InvalidWhy.{InvalidWhy}
use Rattle.px_value.specs.declared.error.InvalidWhy.TheVariants.{WindowOnGroups, AggAboveImplode, ScalarOnGroups, ListKey, RangeType, Types, CastLost}
use Rattle.px_value.specs.declared.error.ComputeWhy.{ComputeWhy}
use Rattle.px_value.specs.declared.error.ComputeWhy.TheVariants.{AggLiteral, AggScalar, SingleIndex, NoKey, NotPartitionSafe, SliceArgument, NullIndex, RangeBound, WindowLength, ChunkLengths, TooLong, DepthText, Interrupted}
use Rattle.px_text.specs.Text.{quoted}

-- why an operation is not there, by the variant's name
abbrev pub invalid_name : InvalidWhy → List ℕ
invalid_name WindowOnGroups = codes "WindowOnGroups"
invalid_name AggAboveImplode = codes "AggAboveImplode"
invalid_name ScalarOnGroups = codes "ScalarOnGroups"
invalid_name ListKey = codes "ListKey"
invalid_name RangeType = codes "RangeType"
invalid_name Types = codes "Types"
invalid_name CastLost = codes "CastLost"

-- why a computation has no result, by the variant's name
abbrev pub compute_name : ComputeWhy → List ℕ
compute_name AggLiteral = codes "AggLiteral"
compute_name AggScalar = codes "AggScalar"
compute_name SingleIndex = codes "SingleIndex"
compute_name NoKey = codes "NoKey"
compute_name NotPartitionSafe = codes "NotPartitionSafe"
compute_name SliceArgument = codes "SliceArgument"
compute_name NullIndex = codes "NullIndex"
compute_name RangeBound = codes "RangeBound"
compute_name WindowLength = codes "WindowLength"
compute_name ChunkLengths = codes "ChunkLengths"
compute_name TooLong = codes "TooLong"
compute_name DepthText = codes "DepthText"
compute_name Interrupted = codes "Interrupted"

-- a word and what it speaks of, in parentheses
abbrev pub labelled : List ℕ → List ℕ → List ℕ
labelled word detail = word ++ (40 ∷ (detail ++ 41 ∷ []))

-- the label of a fault
abbrev pub label_of : PxError → List ℕ
label_of (ColumnNotFound name) = labelled (codes "ColumnNotFound") (quoted name)
label_of (Duplicate name) = labelled (codes "Duplicate") (quoted name)
label_of (InvalidOperation why) = labelled (codes "InvalidOperation") (invalid_name why)
label_of (ComputeError why) = labelled (codes "ComputeError") (compute_name why)
label_of OutOfBounds = codes "OutOfBounds"
label_of ShapeMismatch = codes "ShapeMismatch"
label_of SchemaMismatch = codes "SchemaMismatch"
label_of OutOfMemory = codes "OutOfMemory"

-- a label as a line
abbrev pub error_text : List ℕ → List ℕ
error_text label = codes "error: " ++ (label ++ 10 ∷ [])

-- the line of a fault
abbrev pub line_of : PxError → List ℕ
line_of fault = error_text (label_of fault)

-- the line of an input that is no document
abbrev pub bad_document_line : List ℕ
bad_document_line = error_text (codes "BadDocument")
