-- A run with one of two faults that do the same, and the run with the other.
use Rattle.std.proofs.Common.{◌≡◌, ◌⊎◌, ◌≤◌, inl, inr, ℕ, zero, suc, ◌+◌, ◌==◌, cond, Bool, true, false, Option, Some, None, List, [], ◌∷◌, ◌++◌, option_map, slice_get, refl, sym, ap, subst, ◌∙◌, arith}
use Rattle.std.proofs.lemmas.Bool.{cases_eq, eq-eqb, eqb-true, ne_eqb}
use Rattle.nook_data.specs.Types.{Fault, PartSpec, Step}
use Rattle.nook_data.specs.declared.steps.Step.TheVariants as step
use Rattle.front_laws.proofs.Ordered.{other_burst, own_burst}
use Rattle.front_laws.proofs.Owned.{AreSameSteps, IsSameIn, IsSamePick, IsSameRest, choices_same, get_owning, pick_of, seat_at, taken_same}
use Rattle.front_laws.proofs.Same.{IsSameBurst}
use Rattle.front_laws.proofs.Unreached.{bursts_after, is_burst_step}
use Rattle.front_laws.proofs.WholeRuns.{At, IsNextSeat, next_seat, struck_here, struck_other}
use Rattle.front_laws.specs.Fronts.{put_after}
use Rattle.front_laws.specs.Owned.{owned, owning, seat_with, struck_at}
use Rattle.guard_defs.specs.Guard.{with_own}
use Rattle.machine_defs.proofs.BurstKeeps.{split}
use Rattle.machine_defs.specs.BurstFaults.{faults_of_burst}
use Rattle.part_defs.specs.Domain.{domain_burst}
use Rattle.part_defs.specs.Runs.{state_after}
use Rattle.part_defs.specs.State.{PartState}
use Rattle.part_laws.proofs.DeviceStays.{spec_after}
use Rattle.register_laws.proofs.AlikeSteps.{AreAlikeSteps, IsAlikeIn, IsAlikePick, IsAlikeRest, none_same, other_same}
use Rattle.register_laws.specs.Alike.{IsAlike, swapped_at, without_last}
use Rattle.run_defs.specs.Simulation.{Choice, RunningPart, Simulation, choices_of, part_after, taken}

-- ---- another last fault

pub last_dropped : (xs : List Fault) (f : Fault) → without_last (xs ++ f ∷ []) ≡ xs
last_dropped [] f = refl
last_dropped (x ∷ []) f = refl
last_dropped (x ∷ y ∷ xs) f = ap (λ (zs : List Fault). x ∷ zs) (last_dropped (y ∷ xs) f)

pub swapped_here : (index : ℕ) (g : Fault) (faults : List Fault) → swapped_at index g index faults ≡ without_last faults ++ g ∷ []
swapped_here zero g faults = refl
swapped_here (suc index) g faults = swapped_here index g faults

swapped_other : (index : ℕ) (g : Fault) (n : ℕ) (faults : List Fault) → (n ≡ index → ⊥) → swapped_at index g n faults ≡ faults
swapped_other zero g zero faults h = absurd (h refl)
swapped_other zero g (suc n) faults h = refl
swapped_other (suc index) g zero faults h = refl
swapped_other (suc index) g (suc n) faults h = swapped_other index g n faults (λ e. h (ap suc e))

swapped_struck : (index : ℕ) (f g : Fault) (n : ℕ) (own : List Fault) → swapped_at index g n (struck_at index f n own) ≡ struck_at index g n own
swapped_struck zero f g zero own = ap (λ (xs : List Fault). xs ++ g ∷ []) (last_dropped own f)
swapped_struck zero f g (suc n) own = refl
swapped_struck (suc index) f g zero own = refl
swapped_struck (suc index) f g (suc n) own = swapped_struck index f g n own

owning_twice : (index : ℕ) (f g : Fault) (n : ℕ) (parts : List RunningPart)
    → owning (swapped_at index g) n (owning (struck_at index f) n parts) ≡ owning (struck_at index g) n parts
owning_twice index f g n [] = refl
owning_twice index f g n (seat ∷ parts) =
    ap (λ (xs : List RunningPart). seat_with (swapped_at index g n (struck_at index f n seat.run.state.spec.faults)) seat ∷ xs)
    (owning_twice index f g (n + 1) parts)
    ∙ ap (λ (xs : List Fault). seat_with xs seat ∷ owning (struck_at index g) (n + 1) parts) (swapped_struck index f g n seat.run.state.spec.faults)

pub owned_twice : (index : ℕ) (f g : Fault) (s : Simulation) → owned (swapped_at index g) (owned (struck_at index f) s) ≡ owned (struck_at index g) s
owned_twice index f g s = ap (λ (parts : List RunningPart). record s { parts = parts }) (owning_twice index f g 0 s.parts)

-- ---- one burst

-- the step changes nothing that comes before the fault's burst, or it is that burst
reaches : (f : Fault) (p : PartState) (s : Step)
    → IsSameBurst (p.spec.faults ++ f ∷ []) p s ⊎ (f.burst ≡ p.bursts + cond (is_burst_step s) 1 0)
reaches f p (step.Invoke thread o) = inl tt
reaches f p (step.Enter thread) = inl tt
reaches f p step.Stage = inl tt
reaches f p (step.Arrive frame) = inl tt
reaches f p (step.Burst context) = split (f.burst == (p.bursts + 1))
    (λ own. inr (eqb-true f.burst (p.bursts + 1) own))
    (λ other. inl (ap (λ (faults : List Fault). domain_burst context faults p.domain) (other_burst (p.bursts + 1) p.spec.faults f other)))

module _ (f g : Fault) (same_number : g.burst ≡ f.burst) where
  both_same : (p : PartState) (s : Step) → IsAlike f (Some g) p s
      → IsSameBurst (p.spec.faults ++ g ∷ []) (with_own (p.spec.faults ++ f ∷ []) p) s
  both_same p (step.Invoke thread o) h = tt
  both_same p (step.Enter thread) h = tt
  both_same p step.Stage h = tt
  both_same p (step.Arrive frame) h = tt
  both_same p (step.Burst context) h = split (f.burst == (p.bursts + 1))
      (λ own. let is : f.burst ≡ p.bursts + 1 = eqb-true f.burst (p.bursts + 1) own in
      ap (λ (faults : List Fault). domain_burst context faults p.domain)
      (own_burst (p.bursts + 1) p.spec.faults g (eq-eqb g.burst (p.bursts + 1) (same_number ∙ is)))
      ∙ sym (h (sym is))
      ∙ sym (ap (λ (faults : List Fault). domain_burst context faults p.domain) (own_burst (p.bursts + 1) p.spec.faults f own)))
      (λ other. ap (λ (faults : List Fault). domain_burst context faults p.domain)
      (other_burst (p.bursts + 1) p.spec.faults g (ap (λ (n : ℕ). n == (p.bursts + 1)) same_number ∙ other)
      ∙ sym (other_burst (p.bursts + 1) p.spec.faults f other)))

  -- a burst after that of the faults
  past_same : (p : PartState) (s : Step) (own : List Fault) → p.spec.faults ≡ own ++ f ∷ [] → f.burst ≤ p.bursts
      → IsSameBurst (own ++ g ∷ []) p s
  past_same p (step.Invoke thread o) own e h = tt
  past_same p (step.Enter thread) own e h = tt
  past_same p step.Stage own e h = tt
  past_same p (step.Arrive frame) own e h = tt
  past_same p (step.Burst context) own e h =
      let not_f : (f.burst == (p.bursts + 1)) ≡ false = ne_eqb f.burst (p.bursts + 1) (λ same. omega arith) in
      ap (λ (faults : List Fault). domain_burst context faults p.domain)
      (other_burst (p.bursts + 1) own g (ap (λ (n : ℕ). n == (p.bursts + 1)) same_number ∙ not_f)
      ∙ sym (other_burst (p.bursts + 1) own f not_f)
      ∙ ap (faults_of_burst (p.bursts + 1)) (sym e))

  module _ (index : ℕ) where
    abbrev swap : ℕ → List Fault → List Fault
    swap = swapped_at index g

    abbrev strike : ℕ → List Fault → List Fault
    strike = struck_at index f

    -- ---- after the burst of the faults

    past_in : (c : Choice) (seat : RunningPart) (own : List Fault) → c.part ≡ index → seat.run.state.spec.faults ≡ own ++ f ∷ []
        → f.burst ≤ seat.run.state.bursts → IsSameIn swap c.part c.step (Some seat)
    past_in c seat own same e h =
        subst (λ (faults : List Fault). IsSameBurst faults seat.run.state c.step)
        (sym (ap (λ (i : ℕ). swap i seat.run.state.spec.faults) same ∙ swapped_here index g seat.run.state.spec.faults
        ∙ ap (λ (xs : List Fault). without_last xs ++ g ∷ []) e ∙ ap (λ (xs : List Fault). xs ++ g ∷ []) (last_dropped own f)))
        (past_same seat.run.state c.step own e h)

    past_pick : (t : Simulation) (seat : RunningPart) (own : List Fault) (x : Option Choice) → At t index seat
        → seat.run.state.spec.faults ≡ own ++ f ∷ [] → f.burst ≤ seat.run.state.bursts → IsSamePick swap t x
    past_pick t seat own None at e h = tt
    past_pick t seat own (Some c) at e h = elim (cases_eq c.part index) as (λ w. IsSamePick swap t (Some c)) [
      | inl same ↦ subst (IsSameIn swap c.part c.step) (sym (ap (slice_get t.parts) same ∙ at)) (past_in c seat own same e h)
      | inr apart ↦ other_same swap c (slice_get t.parts c.part) (λ faults. swapped_other index g c.part faults apart)
    ]

    abbrev IsPastSeat : List Fault → RunningPart → Type 0
    IsPastSeat own seat = (seat.run.state.spec.faults ≡ own ++ f ∷ []) × (f.burst ≤ seat.run.state.bursts)

    after_faults : (own : List Fault) (p : PartState) (s : Step) → p.spec.faults ≡ own ++ f ∷ [] → (state_after p s).spec.faults ≡ own ++ f ∷ []
    after_faults own p s e = ap (λ (spec : PartSpec). spec.faults) (spec_after p s) ∙ e

    past_next : (own : List Fault) (seat next : RunningPart) (x : Option Choice) → IsNextSeat seat x index next → IsPastSeat own seat → IsPastSeat own next
    past_next own seat next None e h = subst (IsPastSeat own) (sym e) h
    past_next own seat next (Some c) (inl e) h = subst (IsPastSeat own) (sym e.1) h
    past_next own seat next (Some c) (inr e) h =
        let more : (state_after seat.run.state c.step).bursts ≡ seat.run.state.bursts + cond (is_burst_step c.step) 1 0 =
        bursts_after seat.run.state c.step in
        let low : f.burst ≤ seat.run.state.bursts = h.1 in
        subst (IsPastSeat own) (sym e.1) (after_faults own seat.run.state c.step h.0, omega arith)

    past_steps : (own : List Fault) (n : ℕ) (t : Simulation) (seat : RunningPart) → At t index seat → IsPastSeat own seat → AreSameSteps swap n t
    unfolding AreSameSteps
    past_steps own zero t seat at h = tt
    past_steps own (suc more) t seat at h = by_choices (choices_of t) (λ x next there past. past_steps own more x next there past)
      where
        by_choices : (choices : List Choice)
            → ((x : Simulation) (next : RunningPart) → At x index next → IsPastSeat own next → AreSameSteps swap more x)
            → IsSameRest swap more t choices (AreSameSteps swap more)
        by_choices [] again = tt
        by_choices (c ∷ choices) again =
            let next = next_seat t index seat (c ∷ choices) at in (
              past_pick t seat own (pick_of t (c ∷ choices)) at h.0 h.1,
              again (taken t (c ∷ choices)) next.0 next.1 (past_next own seat next.0 (pick_of t (c ∷ choices)) next.2 h),
            )

    -- ---- up to the burst of the faults

    struck_seat : (seat : RunningPart) → seat_at strike index seat ≡ seat_with (seat.run.state.spec.faults ++ f ∷ []) seat
    struck_seat seat = ap (λ (xs : List Fault). seat_with xs seat) (struck_here index f seat.run.state.spec.faults)

    at_struck : (s : Simulation) (seat : RunningPart) → At s index seat
        → At (owned strike s) index (seat_with (seat.run.state.spec.faults ++ f ∷ []) seat)
    at_struck s seat at = get_owning strike 0 index index s.parts (omega arith) ∙ ap (option_map (seat_at strike index)) at
        ∙ ap Some (struck_seat seat)

    both_in : (c : Choice) (seat : RunningPart) → c.part ≡ index → IsAlike f (Some g) seat.run.state c.step
        → IsSameIn swap c.part c.step (Some (seat_with (seat.run.state.spec.faults ++ f ∷ []) seat))
    both_in c seat same h =
        let own : List Fault = seat.run.state.spec.faults in
        subst (λ (faults : List Fault). IsSameBurst faults (with_own (own ++ f ∷ []) seat.run.state) c.step)
        (sym (ap (λ (i : ℕ). swap i (own ++ f ∷ [])) same ∙ swapped_here index g (own ++ f ∷ [])
        ∙ ap (λ (xs : List Fault). xs ++ g ∷ []) (last_dropped own f)))
        (both_same seat.run.state c.step h)

    both_pick : (s : Simulation) (seat : RunningPart) (x : Option Choice) → At s index seat → IsAlikePick f (Some g) index s x
        → IsSamePick swap (owned strike s) x
    both_pick s seat None at h = tt
    both_pick s seat (Some c) at h = elim (cases_eq c.part index) as (λ w. IsSamePick swap (owned strike s) (Some c)) [
      | inl same ↦ subst (IsSameIn swap c.part c.step) (sym (ap (slice_get (owned strike s).parts) same ∙ at_struck s seat at))
          (both_in c seat same (subst (λ (o : Option RunningPart). IsAlikeIn f (Some g) index o c.step) (ap (slice_get s.parts) same ∙ at) (h same)))
      | inr apart ↦ other_same swap c (slice_get (owned strike s).parts c.part) (λ faults. swapped_other index g c.part faults apart)
    ]

    -- the step is the same with the fault, or the part after it is past the burst of the faults
    either : {G : Type 0} (s : Simulation) (seat next : RunningPart) (x : Option Choice) → At s index seat
        → IsNextSeat (seat_with (seat.run.state.spec.faults ++ f ∷ []) seat) x index next
        → (IsSamePick strike s x → G) → (IsPastSeat seat.run.state.spec.faults next → G) → G
    either s seat next None at e same past = same tt
    either s seat next (Some c) at (inl e) same past =
        same (other_same strike c (slice_get s.parts c.part) (λ own. struck_other index f c.part own e.0))
    either s seat next (Some c) at (inr e) same past = elim (reaches f seat.run.state c.step) [
      | inl one ↦ same (subst (IsSameIn strike c.part c.step) (sym (ap (slice_get s.parts) e.0 ∙ at))
          (subst (λ (faults : List Fault). IsSameBurst faults seat.run.state c.step)
          (sym (ap (λ (i : ℕ). strike i seat.run.state.spec.faults) e.0 ∙ struck_here index f seat.run.state.spec.faults)) one))
      | inr now ↦
          let own : List Fault = seat.run.state.spec.faults in
          let p : PartState = with_own (own ++ f ∷ []) seat.run.state in
          let more : (state_after p c.step).bursts ≡ seat.run.state.bursts + cond (is_burst_step c.step) 1 0 = bursts_after p c.step in
          past (subst (IsPastSeat own) (sym e.1) (after_faults own p c.step refl, omega arith))
    ]

    pub both_steps : (n : ℕ) (s : Simulation) (seat : RunningPart) → At s index seat → AreAlikeSteps f (Some g) index n s
        → AreSameSteps swap n (owned strike s)
    unfolding AreAlikeSteps AreSameSteps
    both_steps zero s seat at h = tt
    both_steps (suc more) s seat at h =
        subst (λ (xs : List Choice). IsSameRest swap more (owned strike s) xs (AreSameSteps swap more)) (sym (choices_same strike s))
        (by_choices (choices_of s) h (λ x next there h'. both_steps more x next there h'))
      where
        by_choices : (choices : List Choice) → IsAlikeRest f (Some g) index more s choices (AreAlikeSteps f (Some g) index more)
            → ((x : Simulation) (next : RunningPart) → At x index next → AreAlikeSteps f (Some g) index more x → AreSameSteps swap more (owned strike x))
            → IsSameRest swap more (owned strike s) choices (AreSameSteps swap more)
        by_choices [] h' again = tt
        by_choices (c ∷ choices) h' again =
            let t : Simulation = owned strike s in
            let seat' : RunningPart = seat_with (seat.run.state.spec.faults ++ f ∷ []) seat in
            let next = next_seat s index seat (c ∷ choices) at in
            let next' = next_seat t index seat' (c ∷ choices) (at_struck s seat at) in (
              both_pick s seat (pick_of s (c ∷ choices)) at h'.0,
              either s seat next'.0 (pick_of s (c ∷ choices)) at next'.2
                  (λ same. subst (AreSameSteps swap more) (sym (taken_same strike s (c ∷ choices) same))
                  (again (taken s (c ∷ choices)) next.0 next.1 h'.1))
                  (λ past. past_steps seat.run.state.spec.faults more (taken t (c ∷ choices)) next'.0 next'.1 past),
            )
