-- Names that proofs give to single changes within the definitions.
use Rattle.std.specs.Prelude.{ℕ, suc, ◌+◌, ◌-◌, ◌==◌, count_by, fold, length, Bool, true, false, Option, Some, List, [], ◌∷◌, ◌&&◌, if◌then◌else◌}
use Rattle.nook_data.specs.declared.calls.Op.{Op}
use Rattle.nook_data.specs.Classes.{covers}
use Rattle.promise_defs.specs.Contract.{Deed, Known, OpenCall, after_deed}
use Rattle.nook_data.specs.Clauses.{clause_number}
use Rattle.promise_defs.specs.Losses.{CallEffects, is_played, is_sent}
use Rattle.nook_data.specs.declared.clause.Clause.{Clause}
use Rattle.nook_data.specs.declared.machine.Act.{Act}
use Rattle.nook_data.specs.declared.verdicts.Break.{Break}
use Rattle.nook_data.specs.declared.calls.Op.TheVariants.{Send, Play}
use Rattle.promise_defs.specs.Ideal.{Opened}
use Rattle.promise_defs.specs.Trace.{Track}

-- a frame was sent in a burst of the call
abbrev pub sent_more : OpenCall → OpenCall
sent_more c = record c { sent = suc c.sent }

-- a frame was handed up in the attempt
abbrev pub handed_frame : OpenCall → OpenCall
handed_frame c = record c { handed = true }

-- a command on the block failed in the attempt
abbrev pub failed_at : ℕ → OpenCall → OpenCall
failed_at block c = record c { failed = block ∷ c.failed }

-- a new attempt of a call begins: it is Inside
abbrev pub enter_call : OpenCall → OpenCall
enter_call c = record c { inside = true; handed = false; failed = [] }

-- the initial track of a call
abbrev pub first_track : Op → Track
first_track o = record { op = o; entered = false; stored = [] }

-- the track of a call after it was entered
abbrev pub enter_track : Track → Track
enter_track t = record t { entered = true }

-- the track of a call after a block was stored
abbrev pub store_track : ℕ → Track → Track
store_track block t = record t { stored = if t.entered && covers t.op block then block ∷ t.stored else t.stored }

-- a call that a thread makes: it waits for its answer, and nothing was sent or played for it
abbrev pub opens : ℕ → Op → Opened
opens thread o = record { thread = thread; op = o; waits = true; wired = false; played = 0 }

-- the call after its frame is sent
abbrev pub wired_once : Opened → Opened
wired_once o = record o { wired = true }

-- the call after one more of its samples is played
abbrev pub played_once : Opened → Opened
played_once o = record o { played = suc o.played }

-- the call after it is answered
abbrev pub stops_waiting : Opened → Opened
stops_waiting o = record o { waits = false }

-- what is known after all of the deeds, in order
abbrev pub after_deeds : ℕ → Known → List Deed → Known
after_deeds call k ds = fold (after_deed call) k ds

-- the break by an event if there is one, else the first later one
abbrev pub break_or : ℕ → List Clause → Option Break → Option Break
break_or number clauses later =
    elim clauses [ [] ↦ later | (clause ∷ more) ↦ Some (record { event = number; clause = clause_number clause }) ]

-- the call is of the thread and waits for its answer
abbrev pub waits_for : ℕ → Opened → Bool
waits_for thread o = o.waits && (o.thread == thread)

-- the call after the acts of one of its bursts
abbrev pub with_acts : List Act → CallEffects → CallEffects
with_acts acts t = record t { sent = t.sent + count_by is_sent acts; played = t.played + count_by is_played acts }

-- 1 for a Send in which no frame was sent, else 0
abbrev pub unsent : Op → ℕ → ℕ
unsent o sent = elim o [ (Send frame) ↦ if sent == 0 then 1 else 0 | _ ↦ 0 ]

-- the number of samples of a Play that were not played
abbrev pub unplayed : Op → ℕ → ℕ
unplayed o played = elim o [ (Play samples) ↦ length samples - played | _ ↦ 0 ]
