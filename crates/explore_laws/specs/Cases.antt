-- A row for worked cases.
use Rattle.std.specs.Prelude.{ℕ}
use Rattle.nook_data.specs.Types.{MemberRow}

-- the numbers of a run with this status
abbrev pub row_with : ℕ → MemberRow
row_with status = record { status = status; events = 30; failures = 2; gone = 1; lost = 4 }
