use Rattle.std.specs.Prelude.{nat_lt, not, Bool, false, List}
use Rattle.machine_defs.specs.Pages.{may_write}
use Rattle.nook_data.specs.Types.{Entry, FaultKind}
use Rattle.nook_data.specs.declared.memory_map.TheConstants.{TEXT_WORDS}
use Rattle.nook_data.specs.declared.scenario.FaultKind.TheVariants as fault

-- whether a fault is refused: a poke if the driver may not write there, a code fault outside the text
abbrev pub is_refused : List Entry → FaultKind → Bool
is_refused entries (fault.Poke address value) = not (may_write entries address)
is_refused entries (fault.Code address value) = not (nat_lt address TEXT_WORDS)
is_refused entries _ = false
