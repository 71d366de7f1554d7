-- Which events may be taken does not depend on the threads' answers.
use Rattle.std.proofs.Common.{◌≡◌, ℕ, ◌+◌, ◌==◌, if◌then◌else◌, Option, Some, None, List, [], ◌∷◌, map, slice_get, slice_set, refl, sym, ap, ap₂, ◌∙◌, subst}
use Rattle.std.proofs.lemmas.Option.{slice_get-map}
use Rattle.std.specs.Option.{option_map}
use Rattle.event_order.specs.Bare.{bare, bare_taking}
use Rattle.nook_data.proofs.Options.{none_is_some, same_inside}
use Rattle.nook_data.specs.Answers.{answer_at}
use Rattle.nook_data.specs.declared.calls.Answer.{Answer}
use Rattle.nook_data.specs.declared.scenario.ThreadSpec.{ThreadSpec}
use Rattle.nook_data.specs.declared.steps.Event.{Event}
use Rattle.nook_data.specs.declared.steps.Event.TheVariants as event
use Rattle.order_defs.specs.Taking.{IsStuck, IsTimely, MayTake, Taking, after_taking, opening_taking}
use Rattle.run_defs.proofs.RunChanges.{settled, settled_by}
use Rattle.run_defs.specs.Simulation.{ThreadState, Waiting, opening_thread, started, thread_after, threads_after}

-- ---- one thread

started_bare : (i k : ℕ) (e : Event) (t : ThreadState) → started i k e (bare t) ≡ bare (started i k e t)
started_bare i k (event.Invoke call thread o a) t = refl
started_bare i k (event.Enter call thread attempt a) t = refl
started_bare i k (event.Burst context call burst count end acts a failure) t = refl
started_bare i k (event.Stage stage answers released) t = refl
started_bare i k (event.Arrive frame kept) t = refl

settled_bare : (k : ℕ) (e : Event) (t : ThreadState) (w : Option Waiting) → bare (settled k e (bare t) w) ≡ bare (settled k e t w)
settled_bare k e t None = refl
settled_bare k e t (Some w) = by_answer (if w.part == k then answer_at w.call e else None)
  where
    by_answer : (a : Option Answer) → bare (settled_by k (bare t) a) ≡ bare (settled_by k t a)
    by_answer None = refl
    by_answer (Some a) = refl

-- a thread after an event of a part
abbrev touched : ℕ → ℕ → Event → ThreadState → ThreadState
touched i k e t = thread_after k e (started i k e t)

touched_bare : (i k : ℕ) (e : Event) (t : ThreadState) → bare (touched i k e (bare t)) ≡ bare (touched i k e t)
touched_bare i k e t =
    ap (λ (x : ThreadState). bare (thread_after k e x)) (started_bare i k e t)
    ∙ settled_bare k e (started i k e t) (started i k e t).waiting

-- ---- all threads

threads_bare : (n k : ℕ) (e : Event) (threads : List ThreadState)
    → map bare (threads_after n k e (map bare threads)) ≡ map bare (threads_after n k e threads)
threads_bare n k e [] = refl
threads_bare n k e (t ∷ threads) = ap₂ (λ (x : ThreadState) xs. x ∷ xs) (touched_bare n k e t) (threads_bare (n + 1) k e threads)

openings_bare : (threads : List ThreadSpec) → map bare (map opening_thread threads) ≡ map opening_thread threads
openings_bare [] = refl
openings_bare (t ∷ threads) = ap (λ ts. opening_thread t ∷ ts) (openings_bare threads)

pub opening_bare : (threads : List ThreadSpec) (journals : List (List Event))
    → bare_taking (opening_taking threads journals) ≡ opening_taking threads journals
opening_bare threads journals = ap (λ ts. record { left = journals; threads = ts }) (openings_bare threads)

-- ---- what may be taken

record IsBare (o : Option ThreadState) (t : ThreadState) : Type 0 where
  own : ThreadState
  at : o ≡ Some own
  same : bare own ≡ t

from_bare : (o : Option ThreadState) (t : ThreadState) → option_map bare o ≡ Some t → IsBare o t
from_bare None t h = none_is_some h
from_bare (Some own) t h = record { own = own; at = refl; same = same_inside h }

pub timely_from_bare : (threads : List ThreadState) (k : ℕ) (e : Event) → IsTimely (map bare threads) k e → IsTimely threads k e
timely_from_bare threads k (event.Invoke call thread o a) h =
    let b : IsBare (slice_get threads thread) h.t =
    from_bare (slice_get threads thread) h.t (sym (slice_get-map bare threads thread) ∙ h.at) in
    record {
      t = b.own;
      more = h.more;
      at = b.at;
      free = ap (λ (x : ThreadState). x.waiting) b.same ∙ h.free;
      next = ap (λ (x : ThreadState). x.rest) b.same ∙ h.next;
    }
timely_from_bare threads k (event.Enter call thread attempt a) h = tt
timely_from_bare threads k (event.Burst context call burst count end acts a failure) h = tt
timely_from_bare threads k (event.Stage stage answers released) h = tt
timely_from_bare threads k (event.Arrive frame kept) h = tt

bare_timely : (threads : List ThreadState) (k : ℕ) (e : Event) → IsTimely threads k e → IsTimely (map bare threads) k e
bare_timely threads k (event.Invoke call thread o a) h = record {
  t = bare h.t;
  more = h.more;
  at = slice_get-map bare threads thread ∙ ap (option_map bare) h.at;
  free = h.free;
  next = h.next;
}
bare_timely threads k (event.Enter call thread attempt a) h = tt
bare_timely threads k (event.Burst context call burst count end acts a failure) h = tt
bare_timely threads k (event.Stage stage answers released) h = tt
bare_timely threads k (event.Arrive frame kept) h = tt

pub stuck_from_bare : (s : Taking) → IsStuck (bare_taking s) → IsStuck s
stuck_from_bare s h part may = h part (record {
  event = may.event;
  rest = may.rest;
  at = may.at;
  timely = bare_timely s.threads part may.event may.timely;
})

pub after_bare : (s : Taking) (k : ℕ) (e : Event) (rest : List Event)
    → bare_taking (after_taking (bare_taking s) k e rest) ≡ bare_taking (after_taking s k e rest)
after_bare s k e rest = ap (λ ts. record { left = slice_set s.left k rest; threads = ts }) (threads_bare 0 k e s.threads)
