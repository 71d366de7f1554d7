use Rattle.std.specs.Prelude.{◌≡◌, ◌≤◌, ◌<◌, ◌^◌, ℕ, true, false, IfSome, IsSome, length}
use Rattle.std.specs.List.{list_any}
use Rattle.nook_data.specs.declared.calls.CallEntry.{CallEntry}
use Rattle.nook_data.specs.declared.limits.TheConstants.{CONTEXTS}
use Rattle.nook_data.specs.declared.memory_map.TheConstants.{BUFFER_WORDS}
use Rattle.nook_data.specs.Classes.{is_of_class}
use Rattle.part_defs.specs.Domain.{buffer_of}
use Rattle.machine_defs.specs.Entries.{is_buffer_of}
use Rattle.part_defs.specs.Log.{call_of_thread}
use Rattle.part_defs.specs.State.{PartState}

-- a call of one of 16 threads whose operation is its class's and fits a buffer, whose attempts can still be counted,
-- and whose buffer is not lent
pub record IsEnterableCall (p : PartState) (c : CallEntry) : Type 0 where
  pub low : c.thread < CONTEXTS
  pub of_class : is_of_class p.spec.class c.op ≡ true
  pub few : IfSome (buffer_of c.op) (λ l. length l.words ≤ BUFFER_WORDS)
  pub attempts : c.attempts < 2 ^ 31
  pub free : list_any (is_buffer_of c.thread) p.domain.entries ≡ false

-- what an Enter of a thread may rely on
pub record IsEnterable (thread : ℕ) (p : PartState) : Type 0 where
  pub some : IsSome (call_of_thread thread p.log.pending)
  pub call : IfSome (call_of_thread thread p.log.pending) (IsEnterableCall p)
