use Rattle.std.specs.Prelude.{◌≡◌, ℕ, ◌+◌, ◌<◌, ◌≤◌, ◌==◌, ◌||◌, Bool, false, Option, Some, None, List, [], ◌∷◌, ◌++◌, length, slice_get}
use Rattle.nook_data.specs.declared.steps.Event.{Event}
use Rattle.nook_data.specs.declared.steps.Event.TheVariants as event
use Rattle.nook_data.specs.declared.calls.Op.{Op}
use Rattle.run_defs.specs.Simulation.{RunningPart, ThreadState, Waiting}
use Rattle.sim_run.specs.Actors.{has_step, named_if}

-- Which threads have a step, carried over from one step of the run to the next.

-- each flag says whether its thread has a step
pub record AreAble (parts : List RunningPart) (threads : List ThreadState) (able : List Bool) : Type 0 where
  pub count : length able ≡ length threads
  pub each : (thread : ℕ) (t : ThreadState) → slice_get threads thread ≡ Some t → slice_get able thread ≡ Some (has_step thread parts t)

-- the threads whose flags are true; the first flag is that of `thread`
unfoldable pub able_actors : ℕ → List Bool → List ℕ
able_actors thread [] = []
able_actors thread (flag ∷ able) = named_if flag thread ++ able_actors (thread + 1) able

-- Which threads an event of a part concerns: those whose next step depends on the part, and the one that invoked.

abbrev pub invokes_in : ℕ → List (ℕ × Op) → Bool
invokes_in part [] = false
invokes_in part ((p, o) ∷ rest) = p == part

abbrev pub looks_when : ℕ → ThreadState → Option Waiting → Bool
looks_when part t None = invokes_in part t.rest
looks_when part t (Some w) = w.part == part

abbrev pub looks_at : ℕ → ThreadState → Bool
looks_at part t = looks_when part t t.waiting

abbrev pub is_invocation : ℕ → Event → Bool
is_invocation thread (event.Invoke call t o answer) = t == thread
is_invocation thread e = false

abbrev pub concerns : ℕ → ℕ → Event → ThreadState → Bool
concerns thread part e t = looks_at part t || is_invocation thread e

-- the flags of the first threads are correct, and so is that of each later thread that the event does not concern
pub record AreAbleUpTo (first part : ℕ) (e : Event) (parts : List RunningPart) (threads : List ThreadState) (able : List Bool) : Type 0 where
  pub count : length able ≡ length threads
  pub heard : (thread : ℕ) (t : ThreadState) → thread < first → slice_get threads thread ≡ Some t
      → slice_get able thread ≡ Some (has_step thread parts t)
  pub later : (thread : ℕ) (t : ThreadState) → first ≤ thread → slice_get threads thread ≡ Some t → concerns thread part e t ≡ false
      → slice_get able thread ≡ Some (has_step thread parts t)
