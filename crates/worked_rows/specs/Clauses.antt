use Rattle.std.specs.Prelude.{◌≡◌, ℕ, suc, true, false, List, [], ◌∷◌, ◌++◌, length, Some, None, replicate}
use Rattle.nook_data.specs.declared.machine.Act.{Act}
use Rattle.nook_data.specs.declared.machine.Act.TheVariants as act
use Rattle.nook_data.specs.declared.calls.Answer.{Answer}
use Rattle.nook_data.specs.declared.calls.Answer.TheVariants as answer
use Rattle.nook_data.specs.declared.classes.Class.{Class}
use Rattle.nook_data.specs.declared.classes.Class.TheVariants.{Block, Net, Sound}
use Rattle.nook_data.specs.declared.steps.End.TheVariants as end
use Rattle.nook_data.specs.declared.steps.Event.{Event}
use Rattle.nook_data.specs.declared.steps.Event.TheVariants as event
use Rattle.nook_data.specs.declared.verdicts.Losses.{Losses}
use Rattle.nook_data.specs.declared.calls.Op.{Op}
use Rattle.nook_data.specs.declared.calls.Op.TheVariants as op
use Rattle.nook_data.specs.declared.steps.Stage.{Stage}
use Rattle.nook_data.specs.declared.steps.Stage.TheVariants as stage
use Rattle.nook_data.specs.declared.clause.Clause.{Clause}
use Rattle.nook_data.specs.declared.clause.Clause.TheVariants.{UnaskedStore, OtherStore, UnstoredWrite, OtherRead}
use Rattle.nook_data.specs.declared.clause.Clause.TheVariants.{UnaskedFrame, SecondFrame, UnsentSend, OutOfOrder}
use Rattle.nook_data.specs.declared.clause.Clause.TheVariants.{LeftInRing, OtherSample, UnplayedPlay, UnaskedRegister}
use Rattle.nook_data.specs.declared.clause.Clause.TheVariants.{UnmadeSet, OtherGet, UnseenFailure}
use Rattle.promise_defs.specs.Contract.{first_break}
use Rattle.nook_data.specs.Clauses.{clause_number}

-- Worked cases of the contract: events that break a clause, and similar events that keep all of them.

-- ---- events

-- call 1 is invoked and enters the driver
abbrev pub begun : Op → List Event
begun o = event.Invoke 1 0 o None ∷ event.Enter 1 0 1 None ∷ []

-- a burst of call 1 that does not end it
abbrev pub goes_on : List Act → Event
goes_on done = event.Burst 0 1 1 1 end.Pause done None None

-- a burst of call 1 that hands up a frame
abbrev pub hands : List Act → List ℕ → Event
hands done frame = event.Burst 0 1 1 1 (end.Service 6 2048 1 (Some 1) frame) done None None

-- a burst of call 1 that answers it
abbrev pub ends : List Act → Answer → Event
ends done a = event.Burst 0 1 1 1 (end.Reply 0) done (Some a) None

-- call 2 is invoked, enters the driver and is answered
abbrev pub begun_next : Op → List Event
begun_next o = event.Invoke 2 0 o None ∷ event.Enter 2 0 1 None ∷ []

abbrev pub next_ends : Answer → Event
next_ends a = event.Burst 0 2 2 1 (end.Reply 0) [] (Some a) None

-- a burst that ends the shadow's call
abbrev pub shadow_ends : List Act → Event
shadow_ends done = event.Burst 16 0 1 1 (end.Reply 0) done None None

-- a stage that answers nothing
abbrev pub stage_of : Stage → Event
stage_of s = event.Stage s [] []

-- a block of sixteen equal words
abbrev pub block_of : ℕ → List ℕ
block_of word = replicate 16 word

abbrev pub plays : ℕ → Act
plays word = act.Played word 0 0

-- ---- the table

-- for a class with four blocks: events, one more that breaks a clause, and an alternative to that which breaks none
pub record Case : Type 0 where
  pub clause : Clause
  pub class : Class
  pub before : List Event
  pub bad : Event
  pub good : Event

abbrev pub row : Clause → Class → List Event → Event → Event → Case
row clause class before bad good = record { clause = clause; class = class; before = before; bad = bad; good = good }

-- the bad event breaks its clause first, and the good event breaks none
abbrev pub IsJudged : Case → Type 0
IsJudged c =
    (first_break c.class 4 (c.before ++ c.bad ∷ [])
    ≡ Some (record { event = suc (length c.before); clause = clause_number c.clause }))
    × (first_break c.class 4 (c.before ++ c.good ∷ []) ≡ None)

-- a case for each clause, in order; clause 13 covers two kinds of calls
abbrev pub clause_cases : List Case
clause_cases =
    row UnaskedStore Block (begun (op.Write 1 (block_of 7)))
    (goes_on (act.Store 2 (block_of 7) ∷ [])) (goes_on (act.Store 1 (block_of 7) ∷ []))
    ∷ row OtherStore Block (begun (op.Write 1 (block_of 7)))
    (goes_on (act.Store 1 (block_of 8) ∷ [])) (goes_on (act.Store 1 (block_of 7) ∷ []))
    ∷ row UnstoredWrite Block (begun (op.Write 1 (block_of 7)))
    (ends [] answer.Done) (ends (act.Store 1 (block_of 7) ∷ []) answer.Done)
    ∷ row OtherRead Block (begun (op.Read 1 1))
    (ends [] (answer.Blocks (block_of 7))) (ends [] (answer.Blocks (block_of 0)))
    ∷ row UnaskedFrame Net (begun (op.Send (5 ∷ [])))
    (goes_on (act.Sent (6 ∷ []) ∷ [])) (goes_on (act.Sent (5 ∷ []) ∷ []))
    ∷ row SecondFrame Net (begun (op.Send (5 ∷ [])))
    (goes_on (act.Sent (5 ∷ []) ∷ act.Sent (5 ∷ []) ∷ [])) (goes_on (act.Sent (5 ∷ []) ∷ []))
    ∷ row UnsentSend Net (begun (op.Send (5 ∷ [])))
    (ends [] answer.Done) (ends (act.Sent (5 ∷ []) ∷ []) answer.Done)
    ∷ row OutOfOrder Net (begun op.Recv)
    (hands (act.Popped (5 ∷ []) ∷ act.Popped (6 ∷ []) ∷ []) (6 ∷ []))
    (hands (act.Popped (5 ∷ []) ∷ act.Popped (6 ∷ []) ∷ []) (5 ∷ []))
    ∷ row LeftInRing Net (event.Arrive (5 ∷ []) true ∷ begun op.Recv)
    (ends [] answer.Empty) (ends (act.Popped (5 ∷ []) ∷ []) answer.Empty)
    ∷ row OtherSample Sound (begun (op.Play (5 ∷ 6 ∷ [])))
    (goes_on (plays 6 ∷ [])) (goes_on (plays 5 ∷ plays 6 ∷ []))
    ∷ row UnplayedPlay Sound (begun (op.Play (5 ∷ 6 ∷ [])))
    (ends (plays 5 ∷ []) answer.Done) (ends (plays 5 ∷ plays 6 ∷ []) answer.Done)
    ∷ row UnaskedRegister Block (begun (op.Set 1 9))
    (goes_on (act.Register 1 8 ∷ [])) (goes_on (act.Register 1 9 ∷ []))
    ∷ row UnmadeSet Block (begun (op.Set 1 9))
    (ends [] answer.Done) (ends (act.Register 1 9 ∷ []) answer.Done)
    ∷ row OtherGet Block (begun (op.Set 1 9) ++ ends (act.Register 1 9 ∷ []) answer.Done ∷ begun_next (op.Get 1))
    (next_ends (answer.Value 8)) (next_ends (answer.Value 9))
    ∷ row UnseenFailure Block (begun (op.Read 1 1))
    (ends [] (answer.IoError 1)) (ends (act.Failed 1 false ∷ []) (answer.IoError 1))
    ∷ []

-- more cases of these clauses, in other situations
abbrev pub further_cases : List Case
further_cases =
    -- a ReplaySet must write its register, as a Set must
    row UnmadeSet Block (stage_of (stage.ReplaySet 1 9) ∷ [])
    (shadow_ends []) (shadow_ends (act.Register 1 9 ∷ []))
    -- after Stop a Write is no longer in the driver
    ∷ row UnaskedStore Block (begun (op.Write 1 (block_of 7)) ++ stage_of stage.Stop ∷ stage_of (stage.ReplaySet 1 9)
    ∷ [])
    (shadow_ends (act.Register 1 9 ∷ act.Store 1 (block_of 7) ∷ [])) (shadow_ends (act.Register 1 9 ∷ []))
    -- if one burst breaks two clauses, the smaller one is reported
    ∷ row UnaskedFrame Net (begun (op.Send (5 ∷ [])))
    (goes_on (act.Sent (5 ∷ []) ∷ act.Sent (6 ∷ []) ∷ [])) (goes_on (act.Sent (5 ∷ []) ∷ []))
    -- if the attempt handed up a frame, frames may be left in the ring
    ∷ row LeftInRing Net (event.Arrive (5 ∷ []) true ∷ event.Arrive (6 ∷ []) true ∷ begun op.Recv)
    (ends (act.Popped (5 ∷ []) ∷ []) answer.Empty) (hands (act.Popped (5 ∷ []) ∷ []) (5 ∷ []))
    ∷ []

-- ---- losses

-- a Send that Stop answers unsent; a Play that ends after one of its samples; an answered Recv, and a second frame
-- handed up in it that the queue does not take. Of four frames that arrive one finds the ring full, one is cleared by
-- Reset, one is popped, and one stays.
abbrev pub lossy : List Event
lossy =
    begun (op.Send (5 ∷ []))
    ++ event.Stage stage.Stop ((1, answer.Done) ∷ []) []
    ∷ event.Arrive (7 ∷ []) true
    ∷ event.Arrive (8 ∷ []) false
    ∷ stage_of stage.Reset
    ∷ event.Invoke 2 0 (op.Play (5 ∷ 6 ∷ 7 ∷ [])) None
    ∷ event.Enter 2 0 1 None
    ∷ event.Burst 0 2 1 1 (end.Reply 0) (plays 5 ∷ []) (Some answer.Done) None
    ∷ event.Invoke 3 0 op.Open (Some (answer.Busy stage.Init))
    ∷ event.Arrive (9 ∷ []) true
    ∷ event.Invoke 4 0 op.Recv None
    ∷ event.Enter 4 0 1 None
    ∷ event.Burst 0 4 2 1 (end.Service 6 2048 1 (Some 1) (9 ∷ [])) (act.Popped (9 ∷ []) ∷ []) None None
    ∷ event.Burst 0 4 3 1 (end.Service 6 2048 1 (Some 0) (9 ∷ [])) [] None None
    ∷ event.Burst 0 4 4 1 (end.Reply 0) [] (Some (answer.Frame (9 ∷ []))) None
    ∷ event.Arrive (10 ∷ []) true
    ∷ []

abbrev pub lost_there : Losses
lost_there = record {
  sends = 1;
  samples = 2;
  busy = 1;
  arrived = 4;
  received = 1;
  queued = 0;
  ring = 1;
  driver = 0;
  reset = 1;
  full_ring = 1;
  full_queue = 1;
}
