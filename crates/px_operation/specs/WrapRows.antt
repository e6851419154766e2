-- What is left of numbers in each integer type, at both ends.
use Rattle.std.specs.Prelude.{◌≡◌, pos, negsuc, true, false}
use Rattle.px_value.specs.Kind.{booleans, int8s, int16s, int32s, int64s, uint8s, uint16s, uint32s, uint64s}
use Rattle.px_operation.specs.Wrap.{wrapped_in, is_in_range}

-- numbers at both ends of each integer type, and past them
pub record WrapRows : Type 0 where
  pub int8_kept : wrapped_in int8s (pos 127) ≡ pos 127
  pub int8_past : wrapped_in int8s (pos 128) ≡ negsuc 127
  pub int8_least : wrapped_in int8s (negsuc 127) ≡ negsuc 127
  pub int8_before : wrapped_in int8s (negsuc 128) ≡ pos 127
  pub int8_twice : wrapped_in int8s (pos 300) ≡ pos 44
  pub int16_past : wrapped_in int16s (pos 32768) ≡ negsuc 32767
  pub int16_before : wrapped_in int16s (negsuc 32768) ≡ pos 32767
  pub int32_past : wrapped_in int32s (pos 2147483648) ≡ negsuc 2147483647
  pub int32_before : wrapped_in int32s (negsuc 2147483648) ≡ pos 2147483647
  pub int64_past : wrapped_in int64s (pos 9223372036854775808) ≡ negsuc 9223372036854775807
  pub int64_before : wrapped_in int64s (negsuc 9223372036854775808) ≡ pos 9223372036854775807
  pub uint8_kept : wrapped_in uint8s (pos 255) ≡ pos 255
  pub uint8_past : wrapped_in uint8s (pos 256) ≡ pos 0
  pub uint8_before : wrapped_in uint8s (negsuc 0) ≡ pos 255
  pub uint16_past : wrapped_in uint16s (pos 65537) ≡ pos 1
  pub uint16_before : wrapped_in uint16s (negsuc 1) ≡ pos 65534
  pub uint32_past : wrapped_in uint32s (pos 4294967296) ≡ pos 0
  pub uint32_before : wrapped_in uint32s (negsuc 0) ≡ pos 4294967295
  pub uint64_past : wrapped_in uint64s (pos 18446744073709551616) ≡ pos 0
  pub uint64_before : wrapped_in uint64s (negsuc 0) ≡ pos 18446744073709551615
  pub greatest_in : is_in_range int64s (pos 9223372036854775807) ≡ true
  pub past_greatest : is_in_range int64s (pos 9223372036854775808) ≡ false
  pub least_in : is_in_range int8s (negsuc 127) ≡ true
  pub before_least : is_in_range int8s (negsuc 128) ≡ false
  pub negative_unsigned : is_in_range uint64s (negsuc 0) ≡ false
  pub no_integer_type : is_in_range booleans (pos 0) ≡ false
