-- What a read does to the bytes that a source has left, and a write to those that a sink has taken.
use Rattle.std.specs.Prelude.{◌≡◌, ℕ, ◌-◌, ◌^◌, ◌<◌, ◌≤◌, ◌⊎◌, List, [], ◌++◌, length, take, drop, Option, Some, None, option_map}
use Rattle.px_ends.specs.declared.transfer.ReadEnd.{ReadEnd}
use Rattle.px_ends.specs.declared.transfer.ReadEnd.TheVariants.{TooLong, Failed, OutOfMemory}

-- a count of faults rose, or stands at the greatest u64, where counts stop
abbrev pub Rose : ℕ → ℕ → Type 0
Rose before now = (before < now) ⊎ (now ≡ 2 ^ 64 - 1)

-- a read gave the first n of the bytes left, at the front of the buffer, and 0 only at the end or
-- with no room
abbrev pub Gives : ℕ → List ℕ → Option (List ℕ) → Option (List ℕ) → Type 0
Gives n buf None new = new ≡ None
Gives n buf (Some b) new =
    (new ≡ Some (drop n b)) × (take n buf ≡ take n b) × (n ≡ 0 → 0 < length buf → b ≡ [])

-- the first n bytes of the piece were taken, after those taken before
abbrev pub Takes : ℕ → List ℕ → Option (List ℕ) → Option (List ℕ) → Type 0
Takes n piece old new = new ≡ option_map (λ b. b ++ take n piece) old

-- all of the text was taken, after the bytes taken before
abbrev pub TakesAll : List ℕ → Option (List ℕ) → Option (List ℕ) → Type 0
TakesAll text old new = new ≡ option_map (λ b. b ++ text) old

-- some front of the text was taken, and not all of it
abbrev pub TakesPart : List ℕ → Option (List ℕ) → Option (List ℕ) → Type 0
TakesPart text old new = (n : ℕ) × (n < length text) × Takes n text old new

-- these were all of the bytes left, and none is left
abbrev pub IsAll : List ℕ → Option (List ℕ) → Option (List ℕ) → Type 0
IsAll bytes None new = new ≡ None
IsAll bytes (Some b) new = (bytes ≡ b) × (new ≡ Some [])

-- at least 2^26 bytes were left, and that many were read
abbrev pub IsTooLong : Option (List ℕ) → Option (List ℕ) → Type 0
IsTooLong None new = new ≡ None
IsTooLong (Some b) new = (2 ^ 26 ≤ length b) × (new ≡ Some (drop (2 ^ 26) b))

-- a front of at most 2^26 of the bytes left was given, and the rest is left
abbrev pub GivesFront : Option (List ℕ) → Option (List ℕ) → Type 0
GivesFront None new = new ≡ None
GivesFront (Some b) new = (n : ℕ) × (n ≤ 2 ^ 26) × (new ≡ Some (drop n b))

-- what each refusal says of the bytes left before and after, and of the count of faults: a failed read
-- raised it, and else it is as it was
abbrev pub Stops : ReadEnd → Option (List ℕ) → Option (List ℕ) → ℕ → ℕ → Type 0
Stops TooLong old new before now = IsTooLong old new × (now ≡ before)
Stops Failed old new before now = Rose before now
Stops OutOfMemory old new before now = now ≡ before
