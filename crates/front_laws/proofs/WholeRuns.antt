-- A fault that a part's journal does not reach does not change the whole run.
use Rattle.std.proofs.lemmas.Bool.{cases_eq}
use Rattle.std.proofs.Common.{◌≡◌, ◌⊎◌, ◌≤◌, inl, inr, ℕ, zero, suc, ◌+◌, Option, Some, None, List, [], ◌∷◌, ◌++◌, map, slice_get, slice_set, refl, sym, ap, subst, ◌∙◌, arith, append_assoc, append-nil}
use Rattle.nook_data.proofs.Options.{none_is_some, same_inside}
use Rattle.nook_data.specs.Members.{struck, struck_parts, with_struck}
use Rattle.nook_data.specs.declared.scenario.Fault.{Fault}
use Rattle.nook_data.specs.declared.scenario.PartSpec.{PartSpec}
use Rattle.nook_data.specs.declared.scenario.Scenario.{Scenario}
use Rattle.nook_data.specs.declared.steps.Event.{Event}
use Rattle.nook_data.specs.declared.steps.Step.{Step}
use Rattle.nook_data.specs.declared.steps.Step.TheVariants as step
use Rattle.part_defs.specs.Runs.{event_of, state_after, state_from, step_of}
use Rattle.part_defs.specs.State.{PartState}
use Rattle.part_defs.specs.Steps.{opening}
use Rattle.part_laws.proofs.Indices.{get_set_other, get_set_same}
use Rattle.part_laws.proofs.RunsDetermined.{state_more, step_named}
use Rattle.run_defs.proofs.RunChanges.{taken_by}
use Rattle.run_defs.specs.Simulation.{Choice, IsScheduledRun, RunningPart, Simulation, begins, choices_of, journal_of, journals_of, opening_part}
use Rattle.run_defs.specs.Simulation.{part_after, runs, stepped_by, taken}
use Rattle.front_laws.specs.Fronts.{IsPast, IsPastFrom, IsUnreached}
use Rattle.front_laws.specs.Owned.{owned, owning, seat_with, struck_at}
use Rattle.front_laws.proofs.Unreached.{opening_faults, past_same}
use Rattle.front_laws.proofs.Owned.{AreSameSteps, IsSameIn, IsSamePick, IsSameRest, choices_same, go_on, opens_with, order_of, pick_of, runs_same, seat_same}
use Rattle.front_laws.proofs.Same.{IsSameBurst}

-- the index of the struck part

pub struck_here : (index : ℕ) (f : Fault) (own : List Fault) → struck_at index f index own ≡ own ++ f ∷ []
struck_here zero f own = refl
struck_here (suc index) f own = struck_here index f own

pub struck_other : (index : ℕ) (f : Fault) (n : ℕ) (own : List Fault) → (n ≡ index → ⊥) → struck_at index f n own ≡ own
struck_other zero f zero own h = absurd (h refl)
struck_other zero f (suc n) own h = refl
struck_other (suc index) f zero own h = refl
struck_other (suc index) f (suc n) own h = struck_other index f n own (λ e. h (ap suc e))

-- ---- a journal grows at its end

past_back : (f : Fault) (p : PartState) (before events : List Event) → IsPastFrom f p (before ++ events) → IsPastFrom f (state_from p before) events
unfolding IsPastFrom state_from
past_back f p [] events h = h
past_back f p (e ∷ before) events h = past_back f (state_after p (step_of e)) before events h.1

past_first : (f : Fault) (p : PartState) (e : Event) (events : List Event) → IsPastFrom f p (e ∷ events) → IsPast f p (step_of e)
unfolding IsPastFrom
past_first f p e events h = h.0

-- the part at an index
abbrev pub At : Simulation → ℕ → RunningPart → Type 0
At s index seat = slice_get s.parts index ≡ Some seat

-- the part after a choice: another part's step does not change it, its own adds an event
abbrev pub IsNextSeat : RunningPart → Option Choice → ℕ → RunningPart → Type 0
IsNextSeat seat None index next = next ≡ seat
IsNextSeat seat (Some c) index next = ((c.part ≡ index → ⊥) × (next ≡ seat)) ⊎ ((c.part ≡ index) × (next ≡ part_after c.step seat))

abbrev HasNext : Simulation → RunningPart → Option Choice → ℕ → Type 0
HasNext t seat o index = (next : RunningPart) × At t index next × IsNextSeat seat o index next

next_by : (s : Simulation) (index : ℕ) (seat : RunningPart) (o : Option Choice) (choices : List Choice) → At s index seat
    → HasNext (taken_by s (order_of s choices) o) seat o index
next_by s index seat None choices at = (seat, at, refl)
next_by s index seat (Some c) choices at = by_part (slice_get s.parts c.part) refl
  where
    by_part : (x : Option RunningPart) → slice_get s.parts c.part ≡ x → HasNext (stepped_by s (order_of s choices) c x) seat (Some c) index
    by_part None e = (seat, at, inl (λ same. none_is_some (sym e ∙ ap (slice_get s.parts) same ∙ at), refl))
    by_part (Some other) e = elim (cases_eq c.part index) as (λ w. HasNext (stepped_by s (order_of s choices) c (Some other)) seat (Some c) index) [
      | inl same ↦
          let one : other ≡ seat = same_inside (sym e ∙ ap (slice_get s.parts) same ∙ at) in
          let here : slice_get (slice_set s.parts c.part (part_after c.step other)) c.part ≡ Some (part_after c.step other) =
          get_set_same s.parts c.part other (part_after c.step other) e in (
            part_after c.step other,
            ap (slice_get (slice_set s.parts c.part (part_after c.step other))) (sym same) ∙ here,
            inr (same, ap (part_after c.step) one),
          )
      | inr apart ↦ (
        seat,
        get_set_other s.parts index c.part (part_after c.step other) (λ h. apart (sym h)) ∙ at,
        inl (apart, refl),
      )
    ]

pub next_seat : (s : Simulation) (index : ℕ) (seat : RunningPart) (choices : List Choice) → At s index seat
    → HasNext (taken s choices) seat (pick_of s choices) index
unfolding taken
next_seat s index seat choices at = next_by s index seat (pick_of s choices) choices at

-- the journal at the end begins with the earlier one
abbrev pub Grows : RunningPart → RunningPart → Type 0
Grows seat later = (more : List Event) × (later.run.journal ≡ seat.run.journal ++ more)

grows_by : (seat next : RunningPart) (o : Option Choice) (index : ℕ) → IsNextSeat seat o index next → Grows seat next
grows_by seat next None index e = ([], ap (λ (x : RunningPart). x.run.journal) e ∙ sym (append-nil seat.run.journal))
grows_by seat next (Some c) index (inl e) = ([], ap (λ (x : RunningPart). x.run.journal) e.1 ∙ sym (append-nil seat.run.journal))
grows_by seat next (Some c) index (inr e) = (event_of seat.run.state c.step ∷ [], ap (λ (x : RunningPart). x.run.journal) e.1)

grows_on : (a b c : RunningPart) → Grows a b → Grows b c → Grows a c
grows_on a b c (x, ex) (y, ey) = (x ++ y, ey ∙ ap (λ (l : List Event). l ++ y) ex ∙ append_assoc a.run.journal x y)

abbrev pub HasLater : Simulation → ℕ → RunningPart → Type 0
HasLater t index seat = (later : RunningPart) × At t index later × Grows seat later

pub grown : (n : ℕ) (s : Simulation) (index : ℕ) (seat : RunningPart) → At s index seat → HasLater (runs n s) index seat
unfolding runs
grown zero s index seat at = (seat, at, ([], sym (append-nil seat.run.journal)))
grown (suc more) s index seat at = by_choices (choices_of s) (λ x next there. grown more x index next there)
  where
    by_choices : (choices : List Choice)
        → ((x : Simulation) (next : RunningPart) → At x index next → HasLater (runs more x) index next) → HasLater (go_on more s choices) index seat
    by_choices [] again = (seat, at, ([], sym (append-nil seat.run.journal)))
    by_choices (c ∷ choices) again =
        let next = next_seat s index seat (c ∷ choices) at in
        let later = again (taken s (c ∷ choices)) next.0 next.1 in
        (later.0, later.1, grows_on seat next.0 later.0 (grows_by seat next.0 (pick_of s (c ∷ choices)) index next.2) later.2)

-- ---- each step of the run is the same with the fault

pub own_burst_same : (p : PartState) (s : Step) → IsSameBurst p.spec.faults p s
own_burst_same p (step.Invoke thread o) = tt
own_burst_same p (step.Enter thread) = tt
own_burst_same p step.Stage = tt
own_burst_same p (step.Arrive frame) = tt
own_burst_same p (step.Burst context) = refl

-- what is known of the part at the index: its state is the one after its journal
abbrev pub Follows : PartState → RunningPart → Type 0
Follows p seat = seat.run.state ≡ state_from p seat.run.journal

pub follows_next : (p : PartState) (seat next : RunningPart) (o : Option Choice) (index : ℕ) → Follows p seat → IsNextSeat seat o index next → Follows p next
follows_next p seat next None index h e = subst (Follows p) (sym e) h
follows_next p seat next (Some c) index h (inl e) = subst (Follows p) (sym e.1) h
follows_next p seat next (Some c) index h (inr e) =
    subst (Follows p) (sym e.1)
    (subst (λ (q : PartState). state_after q c.step ≡ state_from p (seat.run.journal ++ event_of q c.step ∷ [])) (sym h)
    (sym (state_more p seat.run.journal c.step)))

module _ (f : Fault) (index : ℕ) (p : PartState) where
  same_here : (seat later : RunningPart) (c : Choice) → Follows p seat → Grows (part_after c.step seat) later → IsPastFrom f p later.run.journal
      → IsSameIn (struck_at index f) index c.step (Some seat)
  same_here seat later c h (more, e) past =
      let ev : Event = event_of seat.run.state c.step in
      let whole : IsPastFrom f p (seat.run.journal ++ (ev ∷ more)) =
      subst (IsPastFrom f p) (e ∙ append_assoc seat.run.journal (ev ∷ []) more) past in
      let one : IsPast f (state_from p seat.run.journal) (step_of ev) =
      past_first f (state_from p seat.run.journal) ev more (past_back f p seat.run.journal (ev ∷ more) whole) in
      let here : IsPast f seat.run.state c.step =
      subst (λ (q : PartState). IsPast f q c.step) (sym h)
      (subst (IsPast f (state_from p seat.run.journal)) (step_named seat.run.state c.step) one) in
      subst (λ (faults : List Fault). IsSameBurst faults seat.run.state c.step) (sym (struck_here index f seat.run.state.spec.faults))
      (past_same f seat.run.state c.step here)

  stays : (other : RunningPart) (c : Choice) → (c.part ≡ index → ⊥) → IsSameIn (struck_at index f) c.part c.step (Some other)
  stays other c n = subst (λ (faults : List Fault). IsSameBurst faults other.run.state c.step)
      (sym (struck_other index f c.part other.run.state.spec.faults n)) (own_burst_same other.run.state c.step)

  stays_in : (c : Choice) (o : Option RunningPart) → (c.part ≡ index → ⊥) → IsSameIn (struck_at index f) c.part c.step o
  stays_in c None n = tt
  stays_in c (Some other) n = stays other c n

  same_pick : (s : Simulation) (seat next later : RunningPart) (o : Option Choice) → At s index seat → Follows p seat
      → IsNextSeat seat o index next → Grows next later → IsPastFrom f p later.run.journal → IsSamePick (struck_at index f) s o
  same_pick s seat next later None at h e g past = tt
  same_pick s seat next later (Some c) at h (inl e) g past = stays_in c (slice_get s.parts c.part) e.0
  same_pick s seat next later (Some c) at h (inr e) g past =
      subst (IsSameIn (struck_at index f) c.part c.step) (sym (ap (slice_get s.parts) e.0 ∙ at))
      (subst (λ (i : ℕ). IsSameIn (struck_at index f) i c.step (Some seat)) (sym e.0)
      (same_here seat later c h (subst (λ (x : RunningPart). Grows x later) e.1 g) past))

  same_steps : (n : ℕ) (s : Simulation) (seat later : RunningPart) → At s index seat → Follows p seat → At (runs n s) index later
      → IsPastFrom f p later.run.journal → AreSameSteps (struck_at index f) n s
  unfolding AreSameSteps runs
  same_steps zero s seat later at h end past = tt
  same_steps (suc more) s seat later at h end past = by_choices (choices_of s) end
      (λ x next there follows last. same_steps more x next later there follows last past)
    where
      by_choices : (choices : List Choice) → At (go_on more s choices) index later
          → ((x : Simulation) (next : RunningPart) → At x index next → Follows p next → At (runs more x) index later
          → AreSameSteps (struck_at index f) more x)
          → IsSameRest (struck_at index f) more s choices (AreSameSteps (struck_at index f) more)
      by_choices [] end' again = tt
      by_choices (c ∷ choices) end' again =
          let next = next_seat s index seat (c ∷ choices) at in
          let last = grown more (taken s (c ∷ choices)) index next.0 next.1 in
          let one : last.0 ≡ later = same_inside (sym last.1 ∙ end') in
          let grows : Grows next.0 later = subst (Grows next.0) one last.2 in (
            same_pick s seat next.0 later (pick_of s (c ∷ choices)) at h next.2 grows past,
            again (taken s (c ∷ choices)) next.0 next.1 (follows_next p seat next.0 (pick_of s (c ∷ choices)) index h next.2) end',
          )

-- ---- the whole scenario

pub owning_none : (c : ℕ → List Fault → List Fault) (n : ℕ) (parts : List RunningPart)
    → ((i : ℕ) (own : List Fault) → n ≤ i → c i own ≡ own) → owning c n parts ≡ parts
owning_none c n [] h = refl
owning_none c n (seat ∷ parts) h =
    ap (λ (xs : List RunningPart). seat_with (c n seat.run.state.spec.faults) seat ∷ xs) (owning_none c (n + 1) parts (λ i own l. h i own (omega arith)))
    ∙ ap (λ (x : RunningPart). x ∷ parts) (seat_same seat (c n seat.run.state.spec.faults) (h n seat.run.state.spec.faults (omega arith)))

with_later : (f : Fault) (spec : PartSpec) (specs : List PartSpec) (k : ℕ) (o : Option PartSpec)
    → map opening_part (with_struck (spec ∷ specs) (suc k) f o) ≡ opening_part spec ∷ map opening_part (with_struck specs k f o)
with_later f spec specs k None = refl
with_later f spec specs k (Some part) = refl

struck_seats : (c : ℕ → List Fault → List Fault) (f : Fault) (index n j : ℕ) (specs : List PartSpec) → j ≡ n + index
    → ((own : List Fault) → c j own ≡ own ++ f ∷ []) → ((i : ℕ) (own : List Fault) → (i ≡ j → ⊥) → c i own ≡ own)
    → map opening_part (struck_parts specs index f) ≡ owning c n (map opening_part specs)
struck_seats c f index n j [] h here other = refl
struck_seats c f zero n j (spec ∷ specs) h here other =
    let at : j ≡ n = omega arith in
    let faults : c n (opening spec).spec.faults ≡ spec.faults ++ f ∷ [] =
    ap (c n) (opening_faults spec) ∙ ap (λ (k : ℕ). c k spec.faults) (sym at) ∙ here spec.faults in
    ap (λ (x : RunningPart). x ∷ map opening_part specs)
    (opens_with (spec.faults ++ f ∷ []) spec ∙ ap (λ (xs : List Fault). seat_with xs (opening_part spec)) (sym faults))
    ∙ ap (λ (xs : List RunningPart). seat_with (c n (opening spec).spec.faults) (opening_part spec) ∷ xs)
    (sym (owning_none c (n + 1) (map opening_part specs) (λ i own l. other i own (λ e. far i l (e ∙ at)))))
  where
    far : (i : ℕ) → n + 1 ≤ i → i ≡ n → ⊥
    far i l e = omega arith
struck_seats c f (suc k) n j (spec ∷ specs) h here other =
    with_later f spec specs k (slice_get specs k)
    ∙ ap (λ (xs : List RunningPart). opening_part spec ∷ xs) (struck_seats c f k (n + 1) j specs (omega arith) here other)
    ∙ ap (λ (x : RunningPart). x ∷ owning c (n + 1) (map opening_part specs))
    (sym (seat_same (opening_part spec) (c n (opening spec).spec.faults) (other n (opening spec).spec.faults (near j h))))
  where
    near : (j : ℕ) → j ≡ n + suc k → n ≡ j → ⊥
    near j e i = omega arith

pub begins_struck : (scenario : Scenario) (index : ℕ) (f : Fault) → begins (struck scenario index f) ≡ owned (struck_at index f) (begins scenario)
unfolding begins
begins_struck scenario index f =
    ap (λ (parts : List RunningPart). record (begins scenario) { parts = parts })
    (struck_seats (struck_at index f) f index 0 index scenario.parts (omega arith) (struck_here index f) (struck_other index f))

pub opening_follows : (spec : PartSpec) → Follows (opening spec) (opening_part spec)
unfolding state_from
opening_follows spec = refl

opens_at : (specs : List PartSpec) (index : ℕ) (spec : PartSpec) → slice_get specs index ≡ Some spec
    → slice_get (map opening_part specs) index ≡ Some (opening_part spec)
opens_at [] index spec h = none_is_some h
opens_at (x ∷ specs) zero spec h = ap (λ (y : PartSpec). Some (opening_part y)) (same_inside h)
opens_at (x ∷ specs) (suc index) spec h = opens_at specs index spec h

pub begins_at : (scenario : Scenario) (index : ℕ) (spec : PartSpec) → slice_get scenario.parts index ≡ Some spec
    → At (begins scenario) index (opening_part spec)
unfolding begins
begins_at scenario index spec h = opens_at scenario.parts index spec h

pub whole_same : (scenario : Scenario) (index : ℕ) (f : Fault) (steps : ℕ) (spec : PartSpec) (seat : RunningPart)
    → slice_get scenario.parts index ≡ Some spec → slice_get (runs steps (begins scenario)).parts index ≡ Some seat
    → IsUnreached f spec seat.run.journal
    → runs steps (begins (struck scenario index f)) ≡ owned (struck_at index f) (runs steps (begins scenario))
whole_same scenario index f steps spec seat at end past =
    ap (runs steps) (begins_struck scenario index f)
    ∙ runs_same (struck_at index f) steps (begins scenario)
    (same_steps f index (opening spec) steps (begins scenario) (opening_part spec) seat (begins_at scenario index spec at) (opening_follows spec) end past)

pub scheduled_same : (scenario : Scenario) (index : ℕ) (f : Fault) (s : Simulation) (spec : PartSpec) (seat : RunningPart)
    → IsScheduledRun scenario s → slice_get scenario.parts index ≡ Some spec → slice_get s.parts index ≡ Some seat
    → IsUnreached f spec seat.run.journal → IsScheduledRun (struck scenario index f) (owned (struck_at index f) s)
scheduled_same scenario index f s spec seat run at end past = record {
  steps = run.steps;
  reached = whole_same scenario index f run.steps spec seat at (ap (λ (x : Simulation). slice_get x.parts index) run.reached ∙ end) past
      ∙ ap (owned (struck_at index f)) run.reached;
  ended = choices_same (struck_at index f) s ∙ run.ended;
}

journals_owned : (c : ℕ → List Fault → List Fault) (n : ℕ) (parts : List RunningPart) → map journal_of (owning c n parts) ≡ map journal_of parts
journals_owned c n [] = refl
journals_owned c n (seat ∷ parts) = ap (λ (xs : List (List Event)). seat.run.journal ∷ xs) (journals_owned c (n + 1) parts)

pub owned_journals : (c : ℕ → List Fault → List Fault) (s : Simulation) → journals_of (owned c s) ≡ journals_of s
owned_journals c s = journals_owned c 0 s.parts
