use Rattle.std.specs.Prelude.{ℕ, ◌+◌, ◌&&◌, nat_le, if◌then◌else◌, Bool, true, Option, Some, None, List, slice_set}
use Rattle.std.specs.Prelude.{Result, Ok, Err}
use Rattle.nook_data.specs.declared.machine.BadParam.{BadParam}
use Rattle.nook_data.specs.declared.machine.Service.{Service}
use Rattle.nook_data.specs.declared.machine.Service.TheVariants as service
use Rattle.nook_data.specs.declared.limits.TheConstants.{MOST_FRAME_WORDS}
use Rattle.nook_data.specs.declared.memory_map.TheConstants.{BUFFER_WORDS, DATA_WORDS, LAST_OBJECT, MEMORY_WORDS}
use Rattle.part_defs.specs.Domain.{Arguments, Lent}
use Rattle.domain_pages.specs.Frames.{with_own}
use Rattle.nook_data.specs.Layout.{buffer_start}
use Rattle.param_wrappers.specs.declared.copy.Args.{Args}

-- the values of registers r1 to r3
abbrev pub arguments : Args → Arguments
arguments a = record { first = a.r1; second = a.r2; third = a.r3 }

-- the contexts whose buffers are lent for writing, after a buffer is lent
abbrev pub with_loan : ℕ → Option Lent → List Bool → List Bool
with_loan context None loans = loans
with_loan context (Some l) loans = if l.writable then slice_set loans context true else loans

-- the pages with their own copy after a buffer is lent; its two pages are among them
abbrev pub lent_own : ℕ → Option Lent → List Bool → List Bool
lent_own context None own = own
lent_own context (Some l) own = with_own (buffer_start context) BUFFER_WORDS own

-- whether a service can be done with its numbers
abbrev pub can_serve : Service → Bool
can_serve (service.Alloc n) = nat_le n DATA_WORDS
can_serve (service.Free address) = true
can_serve service.Register = true
can_serve (service.Borrow object) = nat_le object LAST_OBJECT
can_serve (service.GiveBack object) = nat_le object LAST_OBJECT
can_serve (service.NetRx start len) = nat_le len MOST_FRAME_WORDS && nat_le (start + len) MEMORY_WORDS
can_serve service.Log = true
can_serve service.Yield = true

-- the answer to the service of a number: the service, or the argument that fails
abbrev pub numbered : ℕ → Result Service ℕ → Result Service BadParam
numbered number (Ok s) = Ok s
numbered number (Err argument) = Err (record { service = number; argument = argument })
