use Rattle.std.specs.Prelude.{ℕ, zero, suc, true, false, List, [], ◌∷◌, map, ◌==◌, if◌then◌else◌}
use Rattle.promise_defs.specs.Contract.{OpenCall, change_call}
use Rattle.promise_defs.specs.Losses.{CallEffects}
use Rattle.contract_monitor.specs.declared.calls.Call.{Call}
use Rattle.contract_monitor.specs.declared.calls.Change.{Change}
use Rattle.contract_monitor.specs.declared.calls.Change.TheVariants as changed

-- what the contract knows of an open call
abbrev pub open_of : Call → OpenCall
open_of c = record {
  number = c.number;
  op = c.op;
  inside = c.inside;
  sent = c.sent;
  played = c.played;
  handed = c.handed;
  failed = c.failed.items;
}

-- what is counted of it for the losses
abbrev pub effects_of : Call → CallEffects
effects_of c = record { number = c.number; op = c.op; sent = c.sent; played = c.own_played }

-- a new attempt of a call begins: it is Inside
abbrev pub enter_call : OpenCall → OpenCall
enter_call c = record c { inside = true; handed = false; failed = [] }

-- a frame was sent in a burst of the call
abbrev pub sent_more : OpenCall → OpenCall
sent_more c = record c { sent = suc c.sent }

-- a frame was handed up in the attempt
abbrev pub handed_frame : OpenCall → OpenCall
handed_frame c = record c { handed = true }

-- a command on the block failed in the attempt
abbrev pub failed_at : ℕ → OpenCall → OpenCall
failed_at block c = record c { failed = block ∷ c.failed }

-- how the contract changes a call
abbrev pub open_change : Change → OpenCall → OpenCall
open_change changed.Entered c = enter_call c
open_change changed.Sent c = sent_more c
open_change changed.Handed c = handed_frame c
open_change (changed.Failed block) c = failed_at block c
open_change changed.OwnPlayed c = c

abbrev pub effects_sent : CallEffects → CallEffects
effects_sent t = record t { sent = suc t.sent }

abbrev pub effects_played : CallEffects → CallEffects
effects_played t = record t { played = suc t.played }

-- the same change in the counts of the losses
abbrev pub effects_change : Change → CallEffects → CallEffects
effects_change changed.Sent t = effects_sent t
effects_change changed.OwnPlayed t = effects_played t
effects_change change t = t

-- the same calls except the one with this number
abbrev pub change_effects : ℕ → (CallEffects → CallEffects) → List CallEffects → List CallEffects
change_effects number change ts = map (λ t. if t.number == number then change t else t) ts

-- the call with a number is changed, both as the contract and as the losses see it
abbrev pub open_calls : Change → ℕ → List OpenCall → List OpenCall
open_calls changed.Entered number calls = change_call number enter_call calls
open_calls changed.Sent number calls = change_call number sent_more calls
open_calls changed.Handed number calls = change_call number handed_frame calls
open_calls (changed.Failed block) number calls = change_call number (failed_at block) calls
open_calls changed.OwnPlayed number calls = calls

abbrev pub effects_calls : Change → ℕ → List CallEffects → List CallEffects
effects_calls changed.Sent number ts = change_effects number effects_sent ts
effects_calls changed.OwnPlayed number ts = change_effects number effects_played ts
effects_calls change number ts = ts

-- the first n items are changed
abbrev pub change_to : {X : Type 0} → ℕ → (X → X) → List X → List X
change_to zero f xs = xs
change_to (suc more) f [] = []
change_to (suc more) f (x ∷ xs) = f x ∷ change_to more f xs
