-- The type that a `DataType` stands for.
use Rattle.px_value.specs.Kind.{Kind, booleans, int8s, int16s, int32s, int64s, uint8s, uint16s, uint32s, uint64s, strings, binaries, nulls, lists}
use Rattle.px_value.specs.declared.data_type.DataType.{DataType, Boolean, Int8, Int16, Int32, Int64, UInt8, UInt16, UInt32, UInt64, String, Binary, Null, List'}

-- the type that each `DataType` stands for
abbrev pub kind_of : DataType → Kind
kind_of Boolean = booleans
kind_of Int8 = int8s
kind_of Int16 = int16s
kind_of Int32 = int32s
kind_of Int64 = int64s
kind_of UInt8 = uint8s
kind_of UInt16 = uint16s
kind_of UInt32 = uint32s
kind_of UInt64 = uint64s
kind_of String = strings
kind_of Binary = binaries
kind_of Null = nulls
kind_of (List' p t) = lists (kind_of t)
