use Rattle.std.specs.Prelude.{ℕ, suc, ◌+◌, ◌&&◌, Bool, true, false, [], ◌∷◌, nat_lt, if◌then◌else◌}
use Rattle.nook_data.specs.Classes.{covers}
use Rattle.part_defs.specs.Log.{is_held}
use Rattle.nook_data.specs.declared.calls.Op.{Op}
use Rattle.part_laws.specs.Views.{Core, Call}

-- What a step does to a call.

-- the core of a call changes
abbrev pub with_core : (Core → Core) → Call → Call
with_core f c = record c { core = f c.core }

-- a new call: open, or answered at once
abbrev pub new_core : ℕ → Op → Bool → Core
new_core thread o waits = record { thread = thread; op = o; waits = waits; inside = false; attempts = 0; stored = [] }

-- the same, with nothing done yet in its bursts
abbrev pub made_call : ℕ → Op → Bool → Call
made_call thread o waits = record { core = new_core thread o waits; sent = 0; played = 0; handed = false; failed = [] }

-- a call goes Inside, or is answered at its Enter
abbrev pub enter_core : Bool → Core → Core
enter_core inside c = record c { waits = inside; inside = inside; attempts = c.attempts + 1 }

-- the same, with a new attempt
abbrev pub enter_call : Bool → Call → Call
enter_call inside c = record c { core = enter_core inside c.core; handed = false; failed = [] }

-- a call is no longer open
abbrev pub close_core : Core → Core
close_core c = record c { waits = false; inside = false }

-- at Stop a call is answered, or held
abbrev pub stop_core : Core → Core
stop_core c = record c { waits = c.waits && is_held c.op; inside = false }

-- a block was stored
abbrev pub store_core : ℕ → Core → Core
store_core block c =
    record c { stored = if nat_lt 0 c.attempts && covers c.op block then block ∷ c.stored else c.stored }

-- a frame was sent
abbrev pub send_call : Call → Call
send_call c = record c { sent = suc c.sent }

-- a sample was played
abbrev pub play_call : Call → Call
play_call c = record c { played = suc c.played }

-- a frame was handed up
abbrev pub hand_call : Call → Call
hand_call c = record c { handed = true }

-- a command on a block failed
abbrev pub fail_call : ℕ → Call → Call
fail_call block c = record c { failed = block ∷ c.failed }
