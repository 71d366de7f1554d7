-- The threads while each of them takes note of an event.
use Rattle.std.proofs.Common.{◌≡◌, ℕ, ◌+◌, ◌<◌, ◌≤◌, List, [], ◌∷◌, ◌++◌, append-nil, append_assoc, length, map, take, drop, get_or, set, refl, arith}
use Rattle.std.proofs.lemmas.List.{drop-set-lt, drop_all, drop_more, take_all, take_more_set}
use Rattle.event_order.specs.Bare.{bare}
use Rattle.nook_data.specs.declared.steps.Event.{Event}
use Rattle.run_defs.specs.Simulation.{ThreadState, started, thread_after, threads_after}

-- the threads below an index have noted the event, the others have not
abbrev pub heard_below : ℕ → ℕ → Event → List ThreadState → List ThreadState
heard_below k part e threads = take k threads ++ map bare (threads_after k part e (drop k threads))

pub one_more : (k part : ℕ) (e : Event) (threads : List ThreadState) (d new : ThreadState) → k < length threads
    → new ≡ bare (thread_after part e (started k part e (get_or threads k d)))
    → heard_below (k + 1) part e (set threads k new) ≡ heard_below k part e threads
one_more k part e threads d new within h =
    let past : k < k + 1 = omega arith in
    rw (take_more_set threads k new within, drop-set-lt (k + 1) threads k new past, drop_more threads k d within, append_assoc, h) refl

pub all_below : (k part : ℕ) (e : Event) (threads : List ThreadState) → length threads ≤ k → heard_below k part e threads ≡ threads
all_below k part e threads over = rw (take_all k threads over, drop_all k threads over) (append-nil threads)
