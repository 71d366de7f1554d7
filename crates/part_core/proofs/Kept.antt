-- What the laws of runs say of a part, at first and after each step.
use Rattle.std.proofs.Common.{◌≡◌, ◌+◌, ◌≤◌, ◌<◌, true, List, [], ◌∷◌, ◌++◌, refl, sym, ap, ◌∙◌, ℕ, arith, Option, Some, None, IfNone, IfSome, is_some}
use Rattle.part_laws.proofs.StepLoans.{run_loans}
use Rattle.nook_data.specs.declared.classes.Class.{Class}
use Rattle.nook_data.specs.declared.classes.Class.TheVariants as class
use Rattle.nook_data.specs.declared.steps.Event.{Event}
use Rattle.nook_data.specs.declared.scenario.Fault.{Fault}
use Rattle.nook_data.specs.declared.scenario.PartSpec.{PartSpec}
use Rattle.nook_data.specs.declared.steps.Step.{Step}
use Rattle.part_defs.specs.Runs.{PartRun, IsRun, IsRunFrom, event_of, next_any, opening_run, run_after, state_after}
use Rattle.part_defs.specs.Runs.{state_from, state_of}
use Rattle.part_defs.specs.Views.CallLogs.{answered_at}
use Rattle.part_defs.specs.State.{PartState}
use Rattle.part_defs.specs.Steps.{enabled, opening, stepped}
use Rattle.nook_data.specs.Valid.{FitsClass, IsValidPart}
use Rattle.part_laws.proofs.DeviceStays.{opening_spec, run_spec, spec_after}
use Rattle.part_laws.proofs.Answered.{run_answered}
use Rattle.part_laws.proofs.RunBound.{run_tied}
use Rattle.part_laws.proofs.RunProgress.{progress}
use Rattle.part_laws.specs.Answered.{is_answered}
use Rattle.part_laws.specs.Progress.{HasProgress}
use Rattle.part_laws.proofs.RunSmall.{run_few_bursts}
use Rattle.part_laws.proofs.RunsDetermined.{run_more, state_more}
use Rattle.part_laws.proofs.StepsFit.{run_fit}
use Rattle.part_laws.proofs.ValidFits.{valid_fits}
use Rattle.part_core.specs.Kept.{AreSameFaults, IsKept, IsSound}
use Rattle.part_core.specs.Turning.{stepped_to}

-- a part that a run leads to

few_blocks : (c : Class) (spec : PartSpec) → FitsClass c spec → spec.blocks ≤ 256
few_blocks class.Block spec fits = fits.1
few_blocks class.Net spec fits = let none : spec.blocks ≡ 0 = fits.0 in omega arith
few_blocks class.Sound spec fits = let none : spec.blocks ≡ 0 = fits.0 in omega arith

run_sound : (spec : PartSpec) (journal : List Event) → IsValidPart spec → IsRun spec journal → IsSound (state_of spec journal)
run_sound spec journal valid run = record {
  fit = run_fit spec journal (valid_fits spec valid) run;
  tied = run_tied spec journal (valid_fits spec valid) run;
  loans = run_loans spec journal (valid_fits spec valid) run;
  limit = rw (run_spec spec journal run) valid.limit;
  blocks = rw (run_spec spec journal run) (few_blocks spec.class spec valid.fits);
  bursts = run_few_bursts spec journal (valid_fits spec valid) valid.limit run;
}

sound_at : (spec : PartSpec) (journal : List Event) (p : PartState) → IsValidPart spec → IsRun spec journal
    → p ≡ state_of spec journal → IsSound p
sound_at spec journal p valid run e = rw e (run_sound spec journal valid run)

pub sound : (r : PartRun) → IsKept r → IsSound r.state
sound r k = sound_at r.state.spec r.journal r.state k.valid k.run k.state

-- one more step

run_on : (spec : PartSpec) (journal : List Event) (p : PartState) (s : Step) → IsRun spec journal → p ≡ state_of spec journal
    → enabled p s ≡ true → IsRun spec (journal ++ event_of p s ∷ [])
run_on spec journal p s run e n = rw e (run_more (opening spec) journal s run (rw (← e) n))

state_on : (spec : PartSpec) (journal : List Event) (p : PartState) (s : Step) → p ≡ state_of spec journal
    → state_after p s ≡ state_of spec (journal ++ event_of p s ∷ [])
state_on spec journal p s e = rw e (sym (state_more (opening spec) journal s))

kept_with : (spec : PartSpec) (journal : List Event) (p q : PartState) → q.spec ≡ spec → IsValidPart spec → IsRun spec journal
    → q ≡ state_of spec journal → IsKept (record { state = q; journal = journal })
kept_with spec journal p q e valid run at = record { valid = rw e valid; run = rw e run; state = at ∙ ap (λ s. state_of s journal) (sym e) }

pub kept_after : (r : PartRun) (s : Step) → IsKept r → enabled r.state s ≡ true → IsKept (run_after r s)
kept_after r s k n = kept_with r.state.spec (r.journal ++ event_of r.state s ∷ []) r.state (state_after r.state s) (spec_after r.state s)
    k.valid (run_on r.state.spec r.journal r.state s k.run k.state n) (state_on r.state.spec r.journal r.state s k.state)

pub same_faults_after : (script : List Fault) (p : PartState) (s : Step) → AreSameFaults script p.spec.faults
    → AreSameFaults script (state_after p s).spec.faults
same_faults_after script p s same = rw (spec_after p s) same

-- the part at first

pub kept_at_first : (spec : PartSpec) → IsValidPart spec → IsKept (opening_run spec)
unfolding IsRunFrom state_from
kept_at_first spec valid = kept_with spec [] (opening spec) (opening spec) (opening_spec spec) valid tt refl

pub same_faults_at_first : (script : List Fault) (spec : PartSpec) → AreSameFaults script spec.faults → AreSameFaults script (opening spec).spec.faults
same_faults_at_first script spec same = rw (opening_spec spec) same

-- the step as the code takes it

pub kept_on : (p q : PartState) (journal more : List Event) (s : Step) (e : Event) (script : List Fault)
    → IsKept (record { state = p; journal = journal }) → enabled p s ≡ true → stepped p s ≡ stepped_to q e → more ≡ journal ++ e ∷ []
    → AreSameFaults script p.spec.faults → IsKept (record { state = q; journal = more }) × AreSameFaults script q.spec.faults
kept_on p q journal more s e script k n t m same =
    let state : q ≡ state_after p s = ap (λ x. x.state) (sym t) in
    let event : e ≡ event_of p s = ap (λ x. x.event) (sym t) in
    rw (m, state, event) (kept_after (record { state = p; journal = journal }) s k n, same_faults_after script p s same)

-- the next step

next_enabled : (p : PartState) (x : Option Step) → HasProgress p → x ≡ next_any p → IfSome x (λ s. enabled p s ≡ true)
next_enabled p None h e = tt
next_enabled p (Some s) h e = h.enabled s (sym e)

pub kept_next_enabled : (r : PartRun) (x : Option Step) → IsKept r → x ≡ next_any r.state → IfSome x (λ s. enabled r.state s ≡ true)
kept_next_enabled r x k e = next_enabled r.state x (progress r.state (sound r k).fit (sound r k).tied) e

none_open : (p : PartState) (x : Option Step) → HasProgress p → x ≡ next_any p → IfNone x (p.log.pending ≡ [])
none_open p None h e = (h.still (sym e)).calls
none_open p (Some s) h e = tt

pub kept_none_open : (r : PartRun) (x : Option Step) → IsKept r → x ≡ next_any r.state → IfNone x (r.state.log.pending ≡ [])
kept_none_open r x k e = none_open r.state x (progress r.state (sound r k).fit (sound r k).tied) e

-- an event has answered exactly those calls that were given a number and are no longer open
pub kept_answered : (r : PartRun) (call : ℕ) → IsKept r → is_some (answered_at r.journal call) ≡ is_answered r.state.log call
kept_answered r call k =
    run_answered r.state.spec r.journal (valid_fits r.state.spec k.valid) k.run call
    ∙ ap (λ (p : PartState). is_answered p.log call) (sym k.state)
