-- An event that may be taken is its thread's own, as the simulation defines it.
use Rattle.std.proofs.Common.{◌≡◌, ℕ, ◌+◌, List, slice_get, ap, arith}
use Rattle.nook_data.specs.declared.steps.Event.{Event}
use Rattle.nook_data.specs.declared.steps.Event.TheVariants as event
use Rattle.part_defs.specs.Runs.{step_of}
use Rattle.run_defs.specs.Simulation.{ThreadState}
use Rattle.run_laws.proofs.Choices.{IsOwn}
use Rattle.audited_runs.proofs.Shares.{AllMay, all_may}
use Rattle.order_defs.specs.Taking.{IsTimely}

pub own_step : (threads : List ThreadState) (part : ℕ) (e : Event) → IsTimely threads part e → IsOwn threads part (step_of e)
own_step threads part (event.Invoke call thread o a) h = record { t = h.t; more = h.more; at = h.at; free = h.free; next = h.next }
own_step threads part (event.Enter call thread attempt a) h = tt
own_step threads part (event.Burst context call burst count end acts a failure) h = tt
own_step threads part (event.Stage stage answers released) h = tt
own_step threads part (event.Arrive frame kept) h = tt

pub timely_step : (threads : List ThreadState) (part : ℕ) (e : Event) → IsOwn threads part (step_of e) → IsTimely threads part e
timely_step threads part (event.Invoke call thread o a) h = record { t = h.t; more = h.more; at = h.at; free = h.free; next = h.next }
timely_step threads part (event.Enter call thread attempt a) h = tt
timely_step threads part (event.Burst context call burst count end acts a failure) h = tt
timely_step threads part (event.Stage stage answers released) h = tt
timely_step threads part (event.Arrive frame kept) h = tt

pub all_timely : (threads : List ThreadState) (part : ℕ) (e : Event) → IsTimely threads part e → AllMay 0 part e threads
all_timely threads part e h = all_may 0 part e threads threads (λ k. ap (slice_get threads) (plus k)) (own_step threads part e h)
  where
    plus : (k : ℕ) → k ≡ 0 + k
    plus k = omega arith
