-- How a run ends, and what it read and wrote.
use Rattle.std.specs.Prelude.{◌≡◌, ℕ, ◌-◌, ◌^◌, ◌<◌, ◌⊎◌, List, [], ◌∷◌, Option, Some, codes}
use Rattle.px_ends.specs.Ends.{IsTooLong, TakesAll, TakesPart}
use Rattle.px_steps.specs.Reply.{IsResult, IsRefusal, IsNoDocument}
use Rattle.px_steps.specs.declared.status.Status.{Status}
use Rattle.px_steps.specs.declared.status.Status.TheVariants.{Done, Refused, Usage, BadDocument, ReadFault, WriteFault, OutOfMemory}

-- the number that a process ends with
abbrev pub number_of : Status → ℕ
number_of Done = 0
number_of Refused = 1
number_of Usage = 2
number_of BadDocument = 3
number_of ReadFault = 4
number_of WriteFault = 5
number_of OutOfMemory = 6

-- the words are exactly the one word run
abbrev pub IsCommand : List (List ℕ) → Type 0
IsCommand words = words ≡ codes "run" ∷ []

-- the text is what is to be written for the bytes
abbrev pub IsReply : List ℕ → List ℕ → Type 0
IsReply bytes text = IsResult bytes text ⊎ (IsRefusal bytes text ⊎ IsNoDocument bytes text)

-- nothing is left of the bytes, or there were at least 2^26 of them, and that many were read
abbrev pub IsRead : List ℕ → Option (List ℕ) → Type 0
IsRead bytes left = (left ≡ Some []) ⊎ IsTooLong (Some bytes) left

-- all of a text of this kind for the bytes was written
abbrev pub WritesAll :
    (List ℕ → List ℕ → Type 0) → List ℕ → Option (List ℕ) → Option (List ℕ) → Type 0
WritesAll IsText bytes old new = (text : List ℕ) × (IsText bytes text × TakesAll text old new)

-- some front of a text of this kind for the bytes was written, and not all of it
abbrev pub WritesPart :
    (List ℕ → List ℕ → Type 0) → List ℕ → Option (List ℕ) → Option (List ℕ) → Type 0
WritesPart IsText bytes old new = (text : List ℕ) × (IsText bytes text × TakesPart text old new)

-- how a run ends, over the bytes that the source had: what it has left, and what the sink had taken
-- before and has taken now
abbrev pub Ends :
    Status → List ℕ → Option (List ℕ) → Option (List ℕ) → Option (List ℕ) → Type 0
Ends Done bytes left old new = (left ≡ Some []) × WritesAll IsResult bytes old new
Ends Refused bytes left old new = (left ≡ Some []) × WritesAll IsRefusal bytes old new
Ends BadDocument bytes left old new = IsRead bytes left × WritesAll IsNoDocument bytes old new
Ends WriteFault bytes left old new = IsRead bytes left × WritesPart IsReply bytes old new
Ends ReadFault bytes left old new = new ≡ old
Ends OutOfMemory bytes left old new = new ≡ old
Ends Usage bytes left old new = new ≡ old

-- nothing was written, where the status tells so
abbrev pub Silent : Status → Option (List ℕ) → Option (List ℕ) → Type 0
Silent Done old new = Unit {0}
Silent Refused old new = Unit {0}
Silent BadDocument old new = Unit {0}
Silent WriteFault old new = Unit {0}
Silent ReadFault old new = new ≡ old
Silent OutOfMemory old new = new ≡ old
Silent Usage old new = new ≡ old

-- a count of faults did not rise, and does not stand at the greatest u64, where counts stop
abbrev pub Calm : ℕ → ℕ → Type 0
Calm before now = (before ≡ now) × (now < 2 ^ 64 - 1)
