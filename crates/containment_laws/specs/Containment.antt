use Rattle.std.specs.Prelude.{◌≡◌, ◌≢◌, ℕ, ◌==◌, not, Some, List, filter, map, slice_get}
use Rattle.nook_data.specs.Types.{Answer, PartSpec, Scenario}
use Rattle.explore_defs.specs.Orders.{Path, led}
use Rattle.run_defs.specs.Simulation.{Simulation, ThreadState, begins, journals_of}

-- What of a run can be seen from outside of one part.

-- two scenarios have the same scripts, and all parts are the same except one, which both have
pub record DifferIn (part : ℕ) (s u : Scenario) : Type 0 where
  pub threads : u.threads ≡ s.threads
  pub others : (k : ℕ) → k ≢ part → slice_get u.parts k ≡ slice_get s.parts k
  pub one : PartSpec
  pub other : PartSpec
  pub at_one : slice_get s.parts part ≡ Some one
  pub at_other : slice_get u.parts part ≡ Some other

-- the answers that a thread has from the other parts, each with its part
abbrev pub answers_elsewhere : ℕ → ThreadState → List (ℕ × Answer)
answers_elsewhere part t = filter (λ (a : ℕ × Answer). not (a.0 == part)) t.answers

-- each other part has the same journal, and each thread the same answers from the other parts
pub record LookAlike (part : ℕ) (x y : Simulation) : Type 0 where
  pub journals : (k : ℕ) → k ≢ part → slice_get (journals_of x) k ≡ slice_get (journals_of y) k
  pub answers : map (answers_elsewhere part) x.threads ≡ map (answers_elsewhere part) y.threads

-- a run in some order looks like this one
pub record HasRunLike (part : ℕ) (scenario : Scenario) (x : Simulation) : Type 0 where
  pub path : Path
  pub led : led (begins scenario) path.picks ≡ Some path.end
  pub alike : LookAlike part x path.end
