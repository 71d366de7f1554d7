use Rattle.std.specs.Prelude.{ℕ, zero, suc, ◌+◌, ◌*◌, ◌%◌, ◌==◌, List, [], ◌∷◌, ◌++◌, map, replicate, codes, decimal}
use Rattle.std.specs.Prelude.{if◌then◌else◌}
use Rattle.run_defs.specs.References.{block_image, net_image, sound_image}
use Rattle.nook_data.specs.Types.{Class, Image, Op, PartSpec}
use Rattle.nook_data.specs.Types.{Scenario, ThreadSpec}
use Rattle.nook_data.specs.declared.calls.Op.TheVariants as op
use Rattle.nook_data.specs.declared.classes.Class.TheVariants as class
use Rattle.nook_data.specs.declared.scenario.FaultKind.TheVariants as strikes
use Rattle.nook_data.specs.declared.scenario.ScheduleSpec.TheVariants as schedule

-- The scenario that `gen` generates for a number: a disk that fails eight times, a link and a sound stream, and four
-- threads.

-- a part without blocks, faults and arrivals, which may fail sixteen times
abbrev pub generated_part : List ℕ → Class → Image → PartSpec
generated_part name class image =
    record { name = name; class = class; blocks = 0; bad = []; limit = 16; image = image; faults = []; arrivals = [] }

-- a block part of 64 blocks, with a trap in every fifth burst up to the 40th, after 40 instructions
abbrev pub generated_disk : PartSpec
generated_disk = record (generated_part (codes "disk") class.Block block_image) {
  blocks = 64;
  faults = map (λ burst. record { burst = burst; after = 40; kind = strikes.Trap })
      (5 ∷ 10 ∷ 15 ∷ 20 ∷ 25 ∷ 30 ∷ 35 ∷ 40 ∷ []);
}

-- frames of one word each, 1 to n
abbrev pub frames_to : ℕ → List (List ℕ)
frames_to zero = []
frames_to (suc n) = frames_to n ++ (suc n ∷ []) ∷ []

-- a net part with n arrivals
abbrev pub generated_link : ℕ → PartSpec
generated_link n = record (generated_part (codes "link") class.Net net_image) { arrivals = frames_to n }

-- operation k of thread t; `which` selects one of six
abbrev pub generated_op : ℕ → ℕ → ℕ → ℕ × Op
generated_op t k which =
    if which == 0 then (0, op.Write ((16 * t + k) % 64) (replicate 16 (1000 * t + k)))
    else if which == 1 then (0, op.Read ((16 * t + k + 63) % 64) 1)
    else if which == 2 then (1, op.Send (t ∷ k ∷ []))
    else if which == 3 then (1, op.Recv)
    else if which == 4 then (2, op.Set 1 (k % 11))
    else (2, op.Get 1)

-- the first k operations of thread t
abbrev pub ops_to : ℕ → ℕ → List (ℕ × Op)
ops_to t zero = []
ops_to t (suc k) = ops_to t k ++ generated_op t k ((t + k) % 6) ∷ []

-- thread t with its first n operations
abbrev pub generated_thread : ℕ → ℕ → ThreadSpec
generated_thread n t = record { name = codes "t" ++ decimal t; ops = ops_to t n }

-- n operations for each thread, n arrivals, and the schedule drawn from n
unfoldable pub generated : ℕ → Scenario
generated n = record {
  schedule = schedule.Drawn n;
  parts = generated_disk ∷ generated_link n ∷ generated_part (codes "audio") class.Sound sound_image ∷ [];
  threads = generated_thread n 0 ∷ generated_thread n 1 ∷ generated_thread n 2 ∷ generated_thread n 3 ∷ [];
}
