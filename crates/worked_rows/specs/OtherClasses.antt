use Rattle.std.specs.Prelude.{ℕ, List, [], ◌∷◌}
use Rattle.nook_data.specs.declared.calls.Answer.{Answer}
use Rattle.nook_data.specs.declared.calls.Op.TheVariants.{Send, Open, Play}
use Rattle.promise_defs.specs.Trace.{Visible, called, wire, sample, arrived, answer}

-- Traces that a device of one class shows and a device of another class never does.

-- a frame arrives
abbrev pub frame_arrives : List Visible
frame_arrives = arrived (1 ∷ []) ∷ []

-- a frame is sent, and the call gets this answer
abbrev pub frame_is_sent : Answer → List Visible
frame_is_sent a = called 1 0 (Send (5 ∷ [])) ∷ wire 1 (5 ∷ []) ∷ answer 1 a [] ∷ []

-- opening the stream gets this answer, and a sample is played at this rate and volume
abbrev pub sample_is_played : Answer → ℕ → ℕ → List Visible
sample_is_played a rate volume =
    called 1 0 Open ∷ answer 1 a [] ∷ called 2 0 (Play (7 ∷ [])) ∷ sample 7 rate volume ∷ []
