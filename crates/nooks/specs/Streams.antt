-- What a source or a sink shows of a call: its bytes, if it makes them known, and how often it failed.
use Rattle.std.specs.Prelude.{ℕ, ◌+◌, ◌≤◌, nat_le, if◌then◌else◌, List, length}
use Rattle.std.specs.Io.KnownBytes.{Appends, Keeps}
use Rattle.nook_io.specs.Causes.{AppendsPrefix, HoldsMore, ReadsAll, Rose, TakesAtMost}
use Rattle.nook_io.specs.Changes.{Change}

-- it failed: its error count rose, or is at the maximum of its type
abbrev pub HasFailed : Change → Type 0
HasFailed stream = Rose stream.before.errors stream.after.errors

-- a sink gained nothing
abbrev pub GainsNothing : Change → Type 0
GainsNothing sink = Keeps sink.before.contents sink.after.contents

-- a sink gained a text
abbrev pub Gains : Change → List ℕ → Type 0
Gains sink text = Appends sink.before.contents sink.after.contents text

-- a sink gained a prefix of a text
abbrev pub GainsFront : Change → List ℕ → Type 0
GainsFront sink text = AppendsPrefix sink.before.contents sink.after.contents text

-- ---- what is read

-- what was read of an input: all of it, or one byte more than is allowed
pub data Input : Type 0 where
  Whole : List ℕ → Input
  TooLong : Input

-- what is read of some bytes, if this many are allowed
abbrev pub input_of : ℕ → List ℕ → Input
input_of limit bytes = if nat_le (length bytes) limit then Whole bytes else TooLong

-- a source yielded this input, if this many bytes are allowed
abbrev pub Reads : Change → ℕ → Input → Type 0
Reads source limit (Whole bytes) = ReadsAll source.before.contents source.after.contents bytes × (length bytes ≤ limit)
Reads source limit TooLong =
    HoldsMore source.before.contents limit × TakesAtMost source.before.contents source.after.contents (limit + 1)
