-- Sources and sinks over memory: what they hold, and exactly what a call of theirs does.
use Rattle.std.specs.Prelude.{ℕ, ◌+◌, ◌-◌, ◌^◌, ◌==◌, ◌&&◌, ◌||◌, if◌then◌else◌, not, min, Bool, List, ◌++◌, length, take, drop, Option, Some, None}
use Rattle.std.specs.List.{list_any}

-- one more, up to the greatest u64
abbrev pub counted : ℕ → ℕ
counted n = min (n + 1) (2 ^ 64 - 1)

-- whether the call after this many is listed, where calls are numbered from 1
abbrev pub is_listed : List ℕ → ℕ → Bool
is_listed fails calls = list_any (λ n. n == counted calls) fails

-- the bytes left, the most that a read gives, the reads that fail, and the counts of reads and of
-- those that failed
pub record Supply : Type 0 where
  pub rest : List ℕ
  pub piece : ℕ
  pub fails : List ℕ
  pub calls : ℕ
  pub faults : ℕ

-- how many bytes a read into this much room gives, or none where it fails
abbrev pub read_gives : Supply → ℕ → Option ℕ
read_gives s room =
    if is_listed s.fails s.calls then None else Some (min s.piece (min room (length s.rest)))

-- what a read with this answer leaves
abbrev pub read_leaves : Supply → Option ℕ → Supply
read_leaves s None = record s { calls = counted s.calls; faults = counted s.faults }
read_leaves s (Some n) = record s { calls = counted s.calls; rest = drop n s.rest }

-- the bytes taken, how many fit, the most that a write takes, the writes that fail, and the counts of
-- writes and of those that failed
pub record Store : Type 0 where
  pub bytes : List ℕ
  pub capacity : ℕ
  pub piece : ℕ
  pub fails : List ℕ
  pub calls : ℕ
  pub faults : ℕ

-- whether a write of this many bytes fails: there are some, and the call is listed or no room is left
abbrev pub write_fails : Store → ℕ → Bool
write_fails s len =
    not (len == 0) && (is_listed s.fails s.calls || (length s.bytes == s.capacity))

-- how many bytes a write of this many takes, or none where it fails
abbrev pub write_takes : Store → ℕ → Option ℕ
write_takes s len =
    if write_fails s len then None else Some (min s.piece (min len (s.capacity - length s.bytes)))

-- what a write of this piece with this answer leaves
abbrev pub write_leaves : Store → List ℕ → Option ℕ → Store
write_leaves s bytes None = record s { calls = counted s.calls; faults = counted s.faults }
write_leaves s bytes (Some n) = record s { calls = counted s.calls; bytes = s.bytes ++ take n bytes }
