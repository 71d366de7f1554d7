use Rattle.std.proofs.Common.{◌≡◌, List, [], ◌∷◌, ◌++◌, refl, subst}
use Rattle.nook_data.specs.declared.steps.Event.{Event}
use Rattle.nook_data.specs.declared.scenario.PartSpec.{PartSpec}
use Rattle.part_defs.specs.Runs.{IsRun, IsRunFrom, state_after, state_from, state_of, step_of}
use Rattle.part_defs.specs.State.{PartState}
use Rattle.part_defs.specs.Steps.{opening}
use Rattle.part_laws.proofs.RunBound.{run_tied}
use Rattle.part_laws.proofs.StepsFit.{run_fit}
use Rattle.part_laws.specs.Fit.{IsFit, IsFitSpec}
use Rattle.part_laws.specs.Tied.{IsTied}

-- Prefixes of runs.

run_split : (p : PartState) (front back : List Event) → IsRunFrom p (front ++ back)
    → IsRunFrom p front × IsRunFrom (state_from p front) back
unfolding IsRunFrom state_from
run_split p [] back r = (tt, r)
run_split p (e ∷ front) back r =
    let more = run_split (state_after p (step_of e)) front back r.2 in
    ((r.0, r.1, more.0), more.1)

pub state_parts : (p : PartState) (front back : List Event)
    → state_from p (front ++ back) ≡ state_from (state_from p front) back
unfolding state_from
state_parts p [] back = refl
state_parts p (e ∷ front) back = state_parts (state_after p (step_of e)) front back

-- a prefix of a run is a run, the part after it has the invariants of parts, and the rest is a run from there
pub record IsFrontOf (spec : PartSpec) (front back : List Event) : Type 0 where
  pub run : IsRun spec front
  pub fit : IsFit (state_of spec front)
  pub tied : IsTied (state_of spec front)
  pub more : IsRunFrom (state_of spec front) back

pub front_of : (spec : PartSpec) (journal front back : List Event) → IsFitSpec spec → IsRun spec journal
    → journal ≡ front ++ back
    → IsFrontOf spec front back
front_of spec journal front back fits run parts =
    let r = run_split (opening spec) front back (subst (IsRun spec) parts run) in
    record {
      run = r.0;
      fit = run_fit spec front fits r.0;
      tied = run_tied spec front fits r.0;
      more = r.1;
    }
