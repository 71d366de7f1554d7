-- Sources and sinks in memory that fail at listed calls.
use Rattle.std.specs.Prelude.{◌≡◌, ℕ, ◌+◌, ◌-◌, ◌^◌, ◌==◌, ◌||◌, min, nat_le, Bool, true, false, List, length, Result}
use Rattle.std.specs.Prelude.{Ok, IsErr}
use Rattle.std.specs.List.{list_any}

-- a source: the bytes left, the most bytes that one read returns, the numbers of the calls that fail, and how many
-- calls and I/O errors there were so far
pub record ListedSource : Type 0 where
  pub left : List ℕ
  pub per_read : ℕ
  pub failing : List ℕ
  pub calls : ℕ
  pub faults : ℕ

-- a sink: its bytes, how many fit, the numbers of the calls that fail, whether a failing call returns `Ok(0)`, and how
-- many calls and I/O errors there were so far
pub record ListedSink : Type 0 where
  pub bytes : List ℕ
  pub room : ℕ
  pub failing : List ℕ
  pub nothing : Bool
  pub calls : ℕ
  pub faults : ℕ

-- one more, up to the greatest number of the counter
abbrev pub one_more : ℕ → ℕ
one_more n = min (n + 1) (2 ^ 64 - 1)

-- whether the number of a call is listed
abbrev pub is_listed : List ℕ → ℕ → Bool
is_listed failing call = list_any (λ listed. listed == call) failing

-- whether the next read fails
abbrev pub read_fails : ListedSource → Bool
read_fails s = is_listed s.failing (one_more s.calls)

-- how many bytes the next read into a buffer returns if it does not fail
abbrev pub given : ListedSource → List ℕ → ℕ
given s buf = min (min (length s.left) s.per_read) (length buf)

-- whether the next write fails
abbrev pub write_fails : ListedSink → Bool
write_fails s = nat_le s.room (length s.bytes) || is_listed s.failing (one_more s.calls)

-- how many bytes of a piece the next write takes if it does not fail
abbrev pub bytes_taken : ListedSink → List ℕ → ℕ
bytes_taken s piece = min (length piece) (s.room - length s.bytes)

-- a write failed: it returns `Ok(0)`, or an error
abbrev pub IsRefusal : {E : Type 0} → Bool → Result ℕ E → Type 0
IsRefusal true r = r ≡ Ok 0
IsRefusal false r = IsErr r
