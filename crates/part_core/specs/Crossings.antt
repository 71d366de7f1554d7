use Rattle.std.specs.Prelude.{◌≡◌, ℕ, ◌+◌, ◌^◌, ◌<◌, ◌≤◌, true, IfSome}
use Rattle.nook_data.specs.declared.calls.CallEntry.{CallEntry}
use Rattle.nook_data.specs.declared.classes.Class.{Class}
use Rattle.nook_data.specs.declared.calls.Op.{Op}
use Rattle.nook_data.specs.declared.calls.Op.TheVariants as op
use Rattle.nook_data.specs.declared.limits.TheConstants.{CONTEXTS}
use Rattle.nook_data.specs.Classes.{blocks_of_op, first_of_op, is_of_class}
use Rattle.part_defs.specs.Crossing.{Crossed}
use Rattle.part_defs.specs.Log.{call_of_thread}
use Rattle.part_defs.specs.State.{PartState}
use Rattle.part_core.specs.declared.crossing.Outcome.{Outcome}

-- How a method's result relates to the definition of its crossing.

abbrev pub crossed_to : PartState → Outcome → Crossed
crossed_to p o = record { state = p; end = o.end; answer = o.answer; failure = o.failure }

-- a Read covers at most 8 blocks, a Set has one of four keys
abbrev pub IsWithin : Op → Type 0
IsWithin (op.Read first count) = count ≤ 8
IsWithin (op.Set key value) = key ≤ 3
IsWithin _ = Unit {0}

-- a call of one of 16 threads; its operation is the class's, with blocks and numbers in their ranges
pub record IsAnswerable (class : Class) (c : CallEntry) : Type 0 where
  pub low : c.thread < CONTEXTS
  pub of_class : is_of_class class c.op ≡ true
  pub range : first_of_op c.op + blocks_of_op c.op ≤ 2 ^ 32
  pub within : IsWithin c.op

-- what a crossing of a context may rely on
pub record IsCrossable (context : ℕ) (p : PartState) : Type 0 where
  pub low : context < CONTEXTS
  pub failures : p.failures < 2 ^ 31
  pub call : IfSome (call_of_thread context p.log.pending) (IsAnswerable p.spec.class)
