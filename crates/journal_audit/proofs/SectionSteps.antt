-- What a line of an event does to a section, step by step.
use Rattle.std.proofs.Common.{map, subst, Result, Ok, Err, OnOk, ◌≡◌, ℕ, suc, ◌+◌, ◌-◌, ◌<◌, Bool, true, false, Some, None, Option, List, [], ◌∷◌, ◌++◌, add-one, length, slice_get, bytes_eq, refl, sym, ap, ◌∙◌, arith}
use Rattle.std.proofs.lemmas.List.{length-append}
use Rattle.run_laws.specs.Audit.{Section, after_event, after_step, is_line_of, section_after, step_named}
use Rattle.report_defs.specs.ReportLines.{event_line}
use Rattle.part_defs.specs.Runs.{PartRun, event_of, opening_run, run_after}
use Rattle.run_defs.specs.Simulation.{ThreadState, threads_after}
use Rattle.part_defs.specs.Steps.{enabled}
use Rattle.nook_data.specs.declared.steps.Event.{Event}
use Rattle.nook_data.specs.declared.scenario.PartSpec.{PartSpec}
use Rattle.nook_data.specs.declared.steps.Step.{Step}
use Rattle.nook_data.specs.declared.memory.NoMemory.{NoMemory}
use Rattle.part_laws.proofs.DeviceStays.{opening_spec, spec_after}
use Rattle.part_laws.proofs.Indices.{get_mid, some_same}
use Rattle.journal_audit.specs.Sections.{AreOn, IsTaken, OnPart, state_in, newest_in, with_threads}

-- the newest event of a journal is the one added last
newest_added : (events : List Event) (e : Event) → newest_in (events ++ e ∷ []) ≡ Some e
newest_added events e =
    let size : length (events ++ e ∷ []) - 1 ≡ length events = less (length (events ++ e ∷ [])) (length events) (length-append events (e ∷ [])) in
    ap (slice_get (events ++ e ∷ [])) size ∙ get_mid events [] e
  where
    less : (n m : ℕ) → n ≡ m + 1 → n - 1 ≡ m
    less n m e = omega arith

-- the line names no step
pub none_named : (s : Section) (line : List ℕ) → None ≡ step_named s line → after_event s line ≡ None
unfolding after_event
none_named s line h = ap (after_step s line) (sym h)

-- a step was taken if the test says so
pub is_taken : (s t : Section) (step : Step) (taken : Bool) → taken ≡ true → IsTaken taken s step t → IsTaken true s step t
is_taken s t step taken e h = let P : Bool → Type 0 = λ b. IsTaken b s step t in subst P e h

-- the step may not be taken
pub not_taken : (s t : Section) (line : List ℕ) (step : Step) (taken : Bool) → Some step ≡ step_named s line → taken ≡ false
    → IsTaken taken s step t → after_event s line ≡ None
unfolding after_event
not_taken s t line step taken h e n =
    let P : Bool → Type 0 = λ b. IsTaken b s step t in
    let off : enabled s.seat.run.state step ≡ false = subst P e n in
    ap (after_step s line) (sym h) ∙ rw off refl

-- whether the line is that of the newest event of a section
abbrev pub IsSame : Bool → List ℕ → Section → Type 0
IsSame same line t = (event : Event) → newest_in t.seat.run.journal ≡ Some event → same ≡ bytes_eq line (event_line (length t.seat.run.journal) event)

taken_newest : (s t : Section) (step : Step) → IsTaken true s step t → newest_in t.seat.run.journal ≡ Some (event_of s.seat.run.state step)
taken_newest s t step taken =
    ap (λ (x : Section). newest_in x.seat.run.journal) taken.1 ∙ newest_added s.seat.run.journal (event_of s.seat.run.state step)

taken_size : (s t : Section) (step : Step) → IsTaken true s step t → length t.seat.run.journal ≡ suc (length s.seat.run.journal)
taken_size s t step taken =
    ap (λ (x : Section). length x.seat.run.journal) taken.1
    ∙ length-append s.seat.run.journal (event_of s.seat.run.state step ∷ []) ∙ add-one (length s.seat.run.journal)

-- after a step there is an event
pub some_event : (s t : Section) (step : Step) → IsTaken true s step t → 0 < length t.seat.run.journal
some_event s t step taken = let size = taken_size s t step taken in omega arith

same_line : (s t : Section) (line : List ℕ) (step : Step) (same : Bool) → IsTaken true s step t → IsSame same line t
    → is_line_of s step line ≡ same
same_line s t line step same taken h =
    let e = event_of s.seat.run.state step in
    let here : same ≡ bytes_eq line (event_line (length t.seat.run.journal) e) = h e (taken_newest s t step taken) in
    let counted : same ≡ bytes_eq line (event_line (suc (length s.seat.run.journal)) e) =
    here ∙ ap (λ (n : ℕ). bytes_eq line (event_line n e)) (taken_size s t step taken) in
    rw taken.0 (sym counted)

-- the line is not that of the step's event
pub other_line : (s t : Section) (line : List ℕ) (step : Step) (same : Bool) → Some step ≡ step_named s line → IsTaken true s step t
    → same ≡ false → IsSame same line t → after_event s line ≡ None
unfolding after_event
other_line s t line step same h taken e other =
    ap (after_step s line) (sym h) ∙ rw (same_line s t line step same taken other, e) refl

-- the threads of a section note its newest event
abbrev pub HaveHeard : Section → Section → Type 0
HaveHeard t u = (event : Event) → newest_in t.seat.run.journal ≡ Some event → u ≡ with_threads t (threads_after 0 t.index event t.threads)

all_taken : (s t u : Section) (step : Step) → IsTaken true s step t → HaveHeard t u → section_after s step ≡ u
unfolding section_after
all_taken s t u step taken heard =
    let e = event_of s.seat.run.state step in
    let all : u ≡ with_threads t (threads_after 0 t.index e t.threads) = heard e (taken_newest s t step taken) in
    sym (all ∙ ap (λ (x : Section). with_threads x (threads_after 0 x.index e x.threads)) taken.1)

-- the line is that of the step's event
pub line_fits : (s t u : Section) (line : List ℕ) (step : Step) (same : Bool) → Some step ≡ step_named s line → IsTaken true s step t
    → same ≡ true → IsSame same line t → HaveHeard t u → after_event s line ≡ Some u
unfolding after_event
line_fits s t u line step same h taken e fits heard =
    ap (after_step s line) (sym h)
    ∙ rw (same_line s t line step same taken fits, e) (ap {B = Option Section} (λ (x : Section). Some x) (all_taken s t u step taken heard))

-- a part keeps what it is made from
pub spec_stays : (r q : PartRun) (spec : PartSpec) (step : Step) → q ≡ run_after r step → r.state.spec ≡ spec → q.state.spec ≡ spec
spec_stays r q spec step e h = ap (λ (x : PartRun). x.state.spec) e ∙ spec_after r.state step ∙ h

pub spec_at_first : (q : PartRun) (made spec : PartSpec) → q ≡ opening_run made → made ≡ spec → q.state.spec ≡ spec
spec_at_first q made spec e h = ap (λ (x : PartRun). x.state.spec) e ∙ opening_spec made ∙ h

-- the threads note the newest event
pub note_newest : (r : Result (Unit {0}) NoMemory) (s t : Section) (threads : List ThreadState) (e : Event) → newest_in s.seat.run.journal ≡ Some e
    → t ≡ with_threads s threads → OnOk r (threads ≡ threads_after 0 s.index e s.threads) → OnOk r (HaveHeard s t)
note_newest (Err x) s t threads e h same n = tt
note_newest (Ok x) s t threads e h same n =
    λ event g. same ∙ ap (with_threads s) (n ∙ ap (λ (x : Event). threads_after 0 s.index x s.threads) (some_same e event (sym h ∙ g)))

pub threads_noted : (r : Result (Unit {0}) NoMemory) (index : ℕ) (e : Event) (old given new : List OnPart) → given ≡ old → AreOn index old
    → ((part : ℕ) → AreOn part given → OnOk r (map state_in new ≡ threads_after 0 part e (map state_in given)))
    → OnOk r (map state_in new ≡ threads_after 0 index e (map state_in old))
threads_noted r index e old given new same on noted = rw (← same) (noted index (rw same on))

pub parts_noted : (index : ℕ) (old given new : List OnPart) → given ≡ old → AreOn index old
    → ((part : ℕ) → AreOn part given → AreOn part new) → AreOn index new
parts_noted index old given new same on noted = noted index (rw same on)
