-- The steps of a run in which a fault does nothing, or does the same as another one.
use Rattle.std.proofs.Common.{◌≡◌, ◌⊎◌, ◌≤◌, inl, inr, ℕ, zero, suc, ◌+◌, ◌==◌, Bool, true, false, Option, Some, None, List, [], ◌∷◌, ◌++◌, slice_get, refl, sym, ap, subst, ◌∙◌, arith, append_assoc}
use Rattle.std.proofs.lemmas.Bool.{cases_eq, eqb-true}
use Rattle.nook_data.proofs.Options.{same_inside}
use Rattle.nook_data.specs.Types.{Event, Fault, PartSpec, Step}
use Rattle.nook_data.specs.declared.steps.Step.TheVariants as step
use Rattle.front_laws.proofs.Ordered.{other_burst, own_burst}
use Rattle.front_laws.proofs.Owned.{AreSameSteps, IsSameIn, IsSamePick, IsSameRest, choices_same, go_on, pick_of, taken_same}
use Rattle.front_laws.proofs.Same.{IsSameBurst}
use Rattle.front_laws.proofs.Unreached.{bursts_after}
use Rattle.front_laws.proofs.WholeRuns.{At, Follows, Grows, IsNextSeat, follows_next, grown, next_seat, own_burst_same, struck_here, struck_other}
use Rattle.front_laws.specs.Fronts.{put_after}
use Rattle.front_laws.specs.Owned.{owned, struck_at}
use Rattle.guard_defs.specs.Guard.{with_own}
use Rattle.machine_defs.proofs.BurstKeeps.{split}
use Rattle.machine_defs.specs.BurstFaults.{faults_of_burst}
use Rattle.part_defs.specs.Domain.{domain_burst}
use Rattle.part_defs.specs.Runs.{event_of, state_after, state_from, step_of}
use Rattle.part_defs.specs.State.{PartState}
use Rattle.part_laws.proofs.RunsDetermined.{step_named}
use Rattle.register_laws.specs.Alike.{AreAlikeFrom, IsAlike, swapped_at, with_one, without_last}
use Rattle.run_defs.specs.Simulation.{Choice, RunningPart, Simulation, choices_of, part_after, runs, taken}

-- ---- the steps of the journal

alike_back : (f : Fault) (o : Option Fault) (p : PartState) (before events : List Event) → AreAlikeFrom f o p (before ++ events)
    → AreAlikeFrom f o (state_from p before) events
unfolding AreAlikeFrom state_from
alike_back f o p [] events h = h
alike_back f o p (e ∷ before) events h = alike_back f o (state_after p (step_of e)) before events h.1

alike_first : (f : Fault) (o : Option Fault) (p : PartState) (e : Event) (events : List Event) → AreAlikeFrom f o p (e ∷ events)
    → IsAlike f o p (step_of e)
unfolding AreAlikeFrom
alike_first f o p e events h = h.0

module _ (f : Fault) (o : Option Fault) (index : ℕ) where
  abbrev pub IsAlikeIn : Option RunningPart → Step → Type 0
  IsAlikeIn None s = Unit {0}
  IsAlikeIn (Some seat) s = IsAlike f o seat.run.state s

  -- the picked choice is none of the part at the index, or its step is alike
  abbrev pub IsAlikePick : Simulation → Option Choice → Type 0
  IsAlikePick s None = Unit {0}
  IsAlikePick s (Some c) = c.part ≡ index → IsAlikeIn (slice_get s.parts c.part) c.step

  abbrev pub IsAlikeRest : ℕ → Simulation → List Choice → (Simulation → Type 0) → Type 0
  IsAlikeRest more s [] rest = Unit {0}
  IsAlikeRest more s (c ∷ choices) rest = IsAlikePick s (pick_of s (c ∷ choices)) × rest (taken s (c ∷ choices))

  -- the same for this number of steps
  unfoldable pub AreAlikeSteps : ℕ → Simulation → Type 0
  AreAlikeSteps zero s = Unit {0}
  AreAlikeSteps (suc more) s = IsAlikeRest more s (choices_of s) (AreAlikeSteps more)

  module _ (p : PartState) where
    alike_here : (seat later : RunningPart) (c : Choice) → Follows p seat → Grows (part_after c.step seat) later
        → AreAlikeFrom f o p later.run.journal → IsAlike f o seat.run.state c.step
    alike_here seat later c h (more, e) all =
        let ev : Event = event_of seat.run.state c.step in
        let whole : AreAlikeFrom f o p (seat.run.journal ++ (ev ∷ more)) =
        subst (AreAlikeFrom f o p) (e ∙ append_assoc seat.run.journal (ev ∷ []) more) all in
        let one : IsAlike f o (state_from p seat.run.journal) (step_of ev) =
        alike_first f o (state_from p seat.run.journal) ev more (alike_back f o p seat.run.journal (ev ∷ more) whole) in
        subst (λ (q : PartState). IsAlike f o q c.step) (sym h)
        (subst (IsAlike f o (state_from p seat.run.journal)) (step_named seat.run.state c.step) one)

    alike_pick : (s : Simulation) (seat next later : RunningPart) (x : Option Choice) → At s index seat → Follows p seat
        → IsNextSeat seat x index next → Grows next later → AreAlikeFrom f o p later.run.journal → IsAlikePick s x
    alike_pick s seat next later None at h e g all = tt
    alike_pick s seat next later (Some c) at h (inl e) g all = λ same. absurd (e.0 same)
    alike_pick s seat next later (Some c) at h (inr e) g all = λ same.
        subst (λ (x : Option RunningPart). IsAlikeIn x c.step) (sym (ap (slice_get s.parts) same ∙ at))
        (alike_here seat later c h (subst (λ (x : RunningPart). Grows x later) e.1 g) all)

    pub alike_steps : (n : ℕ) (s : Simulation) (seat later : RunningPart) → At s index seat → Follows p seat → At (runs n s) index later
        → AreAlikeFrom f o p later.run.journal → AreAlikeSteps n s
    unfolding AreAlikeSteps runs
    alike_steps zero s seat later at h end all = tt
    alike_steps (suc more) s seat later at h end all = by_choices (choices_of s) end
        (λ x next there follows last. alike_steps more x next later there follows last all)
      where
        by_choices : (choices : List Choice) → At (go_on more s choices) index later
            → ((x : Simulation) (next : RunningPart) → At x index next → Follows p next → At (runs more x) index later → AreAlikeSteps more x)
            → IsAlikeRest more s choices (AreAlikeSteps more)
        by_choices [] end' again = tt
        by_choices (c ∷ choices) end' again =
            let next = next_seat s index seat (c ∷ choices) at in
            let last = grown more (taken s (c ∷ choices)) index next.0 next.1 in
            let one : last.0 ≡ later = same_inside (sym last.1 ∙ end') in
            let grows : Grows next.0 later = subst (Grows next.0) one last.2 in (
              alike_pick s seat next.0 later (pick_of s (c ∷ choices)) at h next.2 grows all,
              again (taken s (c ∷ choices)) next.0 next.1 (follows_next p seat next.0 (pick_of s (c ∷ choices)) index h next.2) end',
            )

  -- after the run has ended there are no more steps
  alike_ended : (n : ℕ) (s : Simulation) → choices_of s ≡ [] → AreAlikeSteps n s
  unfolding AreAlikeSteps
  alike_ended zero s e = tt
  alike_ended (suc n) s e = subst (λ (xs : List Choice). IsAlikeRest n s xs (AreAlikeSteps n)) (sym e) tt

  pub alike_on : (n k : ℕ) (s : Simulation) → AreAlikeSteps k s → choices_of (runs k s) ≡ [] → AreAlikeSteps n s
  unfolding AreAlikeSteps runs
  alike_on n zero s h e = alike_ended n s e
  alike_on zero (suc k) s h e = tt
  alike_on (suc n) (suc k) s h e = by_choices (choices_of s) h e (λ x h' e'. alike_on n k x h' e')
    where
      by_choices : (choices : List Choice) → IsAlikeRest k s choices (AreAlikeSteps k) → choices_of (go_on k s choices) ≡ []
          → ((x : Simulation) → AreAlikeSteps k x → choices_of (runs k x) ≡ [] → AreAlikeSteps n x)
          → IsAlikeRest n s choices (AreAlikeSteps n)
      by_choices [] h' e' again = tt
      by_choices (c ∷ choices) h' e' again = (h'.0, again (taken s (c ∷ choices)) h'.1 e')

-- ---- another part's step is the same

pub other_same : (change : ℕ → List Fault → List Fault) (c : Choice) (x : Option RunningPart)
    → ((own : List Fault) → change c.part own ≡ own) → IsSameIn change c.part c.step x
other_same change c None n = tt
other_same change c (Some seat) n =
    subst (λ (faults : List Fault). IsSameBurst faults seat.run.state c.step) (sym (n seat.run.state.spec.faults)) (own_burst_same seat.run.state c.step)

-- ---- a fault that does nothing

pub none_same : (f : Fault) (p : PartState) (s : Step) → IsAlike f None p s → IsSameBurst (p.spec.faults ++ f ∷ []) p s
none_same f p (step.Invoke thread o) h = tt
none_same f p (step.Enter thread) h = tt
none_same f p step.Stage h = tt
none_same f p (step.Arrive frame) h = tt
none_same f p (step.Burst context) h = split (f.burst == (p.bursts + 1))
    (λ own. ap (λ (faults : List Fault). domain_burst context faults p.domain) (own_burst (p.bursts + 1) p.spec.faults f own)
    ∙ h (sym (eqb-true f.burst (p.bursts + 1) own)))
    (λ other. ap (λ (faults : List Fault). domain_burst context faults p.domain) (other_burst (p.bursts + 1) p.spec.faults f other))

module _ (f : Fault) (index : ℕ) where
  none_in : (c : Choice) (x : Option RunningPart) → c.part ≡ index → IsAlikeIn f None index x c.step → IsSameIn (struck_at index f) c.part c.step x
  none_in c None same h = tt
  none_in c (Some seat) same h = subst (λ (faults : List Fault). IsSameBurst faults seat.run.state c.step)
      (sym (ap (λ (i : ℕ). struck_at index f i seat.run.state.spec.faults) same ∙ struck_here index f seat.run.state.spec.faults))
      (none_same f seat.run.state c.step h)

  none_pick : (s : Simulation) (x : Option Choice) → IsAlikePick f None index s x → IsSamePick (struck_at index f) s x
  none_pick s None h = tt
  none_pick s (Some c) h = elim (cases_eq c.part index) as (λ w. IsSamePick (struck_at index f) s (Some c)) [
    | inl same ↦ none_in c (slice_get s.parts c.part) same (h same)
    | inr apart ↦ other_same (struck_at index f) c (slice_get s.parts c.part) (λ own. struck_other index f c.part own apart)
  ]

  pub none_steps : (n : ℕ) (s : Simulation) → AreAlikeSteps f None index n s → AreSameSteps (struck_at index f) n s
  unfolding AreAlikeSteps AreSameSteps
  none_steps zero s h = tt
  none_steps (suc more) s h = by_choices (choices_of s) h (none_steps more)
    where
      by_choices : (choices : List Choice) → IsAlikeRest f None index more s choices (AreAlikeSteps f None index more)
          → ((x : Simulation) → AreAlikeSteps f None index more x → AreSameSteps (struck_at index f) more x)
          → IsSameRest (struck_at index f) more s choices (AreSameSteps (struck_at index f) more)
      by_choices [] h' again = tt
      by_choices (c ∷ choices) h' again = (none_pick s (pick_of s (c ∷ choices)) h'.0, again (taken s (c ∷ choices)) h'.1)
