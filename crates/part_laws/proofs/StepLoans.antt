use Rattle.std.proofs.Common.{◌≡◌, ℕ, ◌+◌, ◌==◌, not, is_some, true, false, Option, Some, None, Result, Ok, Err, List, [], ◌∷◌, length, map, inl, inr, refl, sym, ap, ◌∙◌, subst, true≢false, eqb-true}
use Rattle.std.specs.List.{list_any}
use Rattle.std.proofs.lemmas.Bool.{and_parts, not-true}
use Rattle.part_laws.proofs.InsideCalls.{StaysInside, push_stays, removed_stays, entered_stays, entered_inside}
use Rattle.part_laws.proofs.LentEntries.{NoMore, without_more, filter_no_more, left_other, collected_none, any_with_entry, served_no_more}
use Rattle.part_laws.specs.Loans.{IsWithoutLoans, AreForInside, is_unsettled, AreLoansIn, HasLoans}
use Rattle.nook_data.specs.declared.classes.Accept.{Accept}
use Rattle.nook_data.specs.declared.classes.Accept.TheVariants as accepts
use Rattle.nook_data.specs.declared.classes.Admit.{Admit}
use Rattle.nook_data.specs.declared.classes.Admit.TheVariants as admits
use Rattle.nook_data.specs.declared.calls.Answer.{Answer}
use Rattle.nook_data.specs.declared.calls.CallEntry.{CallEntry}
use Rattle.nook_data.specs.declared.entries.Entry.{Entry}
use Rattle.nook_data.specs.declared.entries.Entry.TheVariants as entry
use Rattle.nook_data.specs.declared.steps.Event.{Event}
use Rattle.nook_data.specs.declared.steps.Mode.{Mode}
use Rattle.nook_data.specs.declared.steps.Mode.TheVariants as mode
use Rattle.nook_data.specs.declared.calls.Op.{Op}
use Rattle.nook_data.specs.declared.calls.Op.TheVariants as op
use Rattle.nook_data.specs.declared.scenario.PartSpec.{PartSpec}
use Rattle.nook_data.specs.declared.steps.Stage.{Stage}
use Rattle.nook_data.specs.declared.steps.Stage.TheVariants as stage
use Rattle.nook_data.specs.declared.steps.Step.{Step}
use Rattle.nook_data.specs.declared.steps.Step.TheVariants as step
use Rattle.nook_data.specs.declared.machine.BadParam.{BadParam}
use Rattle.nook_data.specs.declared.machine.BurstEnd.{BurstEnd}
use Rattle.nook_data.specs.declared.machine.BurstEnd.TheVariants as ends
use Rattle.nook_data.specs.declared.machine.Context.{Context}
use Rattle.nook_data.specs.declared.machine.Service.{Service}
use Rattle.part_defs.specs.Calls.{after_invoke, invoked_with, answer_in, queue_in, after_enter, after_admit}
use Rattle.nook_data.specs.Classes.{static_check, admit, accept}
use Rattle.part_defs.specs.Crossing.{fails, heap_start, next_stage, next_mode, is_accepted, shadow_replied, noted_set}
use Rattle.part_defs.specs.Crossing.{closes_call, call_replied, after_crossing, is_last}
use Rattle.part_defs.specs.Domain.{DomainBurst, Lent, buffer_of, lent_entries, entered_domain, plainly_entered}
use Rattle.part_defs.specs.Domain.{context_of, domain_burst, result_set, left_domain, collected_domain, loaded_domain}
use Rattle.part_defs.specs.Domain.{noted, opening_domain, first_argument, second_argument}
use Rattle.machine_defs.specs.Entries.{is_buffer_of, without_buffer}
use Rattle.part_defs.specs.Log.{with_call, with_answered_call, call_of_thread, after_entering, after_answering}
use Rattle.part_defs.specs.Log.{after_acknowledging, is_blocked}
use Rattle.part_defs.proofs.PartCases.{change_entry, entered_by, entered_call, invoked_by, new_entry, reply_by}
use Rattle.part_defs.proofs.PartCases.{serve_by, stage_by, with_burst}
use Rattle.part_defs.specs.Runs.{state_of, step_of, state_after, state_from, IsRunFrom, IsRun}
use Rattle.machine_defs.specs.Services.{checked}
use Rattle.part_defs.specs.Stages.{stage_due, is_given_up, stops, gives_up_part, collects, resets, loads_image, inits}
use Rattle.part_defs.specs.Stages.{replays_set, replays_open, resumes, stage_done, stage_stepped, with_stage}
use Rattle.part_defs.specs.State.{DomainState, PartState}
use Rattle.part_defs.specs.Steps.{opening, enabled, is_running, is_ready, is_inside, can_enter, can_burst}
use Rattle.part_defs.specs.Steps.{burst_stepped, after_arrival, stepped}
use Rattle.machine_defs.specs.BurstFaults.{faults_of_burst}
use Rattle.machine_defs.proofs.BurstKeeps.{split}
use Rattle.part_laws.proofs.DomainFit.{burst_kept}
use Rattle.part_laws.proofs.RunBound.{opening_tied}
use Rattle.part_laws.proofs.RunsDetermined.{found_thread}
use Rattle.part_laws.proofs.StepsFit.{fit_after, opening_fit}
use Rattle.part_laws.proofs.TiedBursts.{tied_after}
use Rattle.part_laws.proofs.TiedCalls.{without_call}
use Rattle.part_laws.proofs.TiedCrossing.{mode_after_drive}
use Rattle.part_laws.proofs.TiedSteps.{running_is}
use Rattle.part_laws.specs.Fit.{IsFitSpec, IsFit}
use Rattle.part_laws.specs.Tied.{IsRising, is_driving_stage, is_driving, IsDriven, IsTied}

-- Each step keeps the rule on loans, and so does every run.

-- what a mode requires

all_stay : (pending : List CallEntry) → StaysInside pending pending
all_stay pending thread h = h

no_more : (entries : List Entry) → NoMore entries entries
no_more entries context h = h

-- the same calls Inside and no more loans
loans_moved : (m : Mode) (before after : List CallEntry) (held kept : List Entry) → StaysInside before after → NoMore held kept
    → AreLoansIn m before held → AreLoansIn m after kept
loans_moved (mode.Boot s) before after held kept inside more loans = without_more held kept more loans
loans_moved mode.Running before after held kept inside more loans = λ context h. inside context (loans context (more context h))
loans_moved (mode.Recovering s) before after held kept inside more loans = λ settled. without_more held kept more (loans settled)
loans_moved (mode.Dead collected) before after held kept inside more loans = tt

without_any : (m : Mode) (pending : List CallEntry) (entries : List Entry) → IsWithoutLoans entries → AreLoansIn m pending entries
without_any (mode.Boot s) pending entries none = none
without_any mode.Running pending entries none = λ context h. absurd (true≢false (sym h ∙ none context))
without_any (mode.Recovering s) pending entries none = λ settled. none
without_any (mode.Dead collected) pending entries none = tt

for_running : (m : Mode) (pending : List CallEntry) (entries : List Entry) → m ≡ mode.Running → AreForInside pending entries → AreLoansIn m pending entries
for_running m pending entries running loans = subst (λ x. AreLoansIn x pending entries) (sym running) loans

of_running : (m : Mode) (pending : List CallEntry) (entries : List Entry) → m ≡ mode.Running → AreLoansIn m pending entries → AreForInside pending entries
of_running m pending entries running loans = subst (λ x. AreLoansIn x pending entries) running loans

-- Invoke

logged_loans : (p : PartState) (thread : ℕ) (o : Op) (a : Option Answer) (queue : List (List ℕ)) → HasLoans p
    → HasLoans (invoked_with p thread o a queue).state
unfolding with_call with_answered_call
logged_loans p thread o None queue loans =
    loans_moved p.mode p.log.pending _ p.domain.entries p.domain.entries (push_stays p.log.pending (new_entry (p.log.count + 1) thread o))
    (no_more p.domain.entries) loans
logged_loans p thread o (Some a) queue loans = loans

invoked_loans_by : (p : PartState) (thread : ℕ) (o : Op) (r : Option Answer) → HasLoans p → HasLoans (invoked_by p thread o r).state
invoked_loans_by p thread o None loans = logged_loans p thread o (answer_in p.mode thread o p) (queue_in p.mode o p.queue) loans
invoked_loans_by p thread o (Some a) loans = logged_loans p thread o (Some a) p.queue loans

invoked_loans : (p : PartState) (thread : ℕ) (o : Op) → HasLoans p → HasLoans (after_invoke thread o p).state
unfolding after_invoke
invoked_loans p thread o loans = invoked_loans_by p thread o (static_check p.spec.class p.spec.blocks o) loans

-- Enter

-- a thread whose call is Held has no buffer
held_free : (p : PartState) (thread : ℕ) (c : CallEntry) → p.mode ≡ mode.Running → HasLoans p
    → call_of_thread thread p.log.pending ≡ Some c → c.inside ≡ false → list_any (is_buffer_of thread) p.domain.entries ≡ false
held_free p thread c running loans found held = split (list_any (is_buffer_of thread) p.domain.entries)
    (λ lent.
    let inside : is_inside (call_of_thread thread p.log.pending) ≡ true =
    of_running p.mode p.log.pending p.domain.entries running loans thread lent in
    absurd (true≢false (sym inside ∙ ap is_inside found ∙ held)))
    (λ free. free)

-- the loans of the others remain when a thread's call is answered
others_hold : (thread low count : ℕ) (pending : List CallEntry) (c : CallEntry) (held kept : List Entry) → IsRising low count pending
    → call_of_thread thread pending ≡ Some c → AreForInside pending held → NoMore held kept
    → ((context : ℕ) → list_any (is_buffer_of context) kept ≡ true → (context == thread) ≡ false)
    → AreForInside (without_call c.call pending) kept
others_hold thread low count pending c held kept rising found loans more other context h =
    removed_stays thread low count pending c context rising found (other context h) (loans context (more context h))

answered_loans : (p : PartState) (thread : ℕ) (c : CallEntry) → IsTied p → p.mode ≡ mode.Running → HasLoans p
    → call_of_thread thread p.log.pending ≡ Some c → c.inside ≡ false
    → AreLoansIn p.mode (after_answering c.call p.log).pending p.domain.entries
unfolding after_answering
answered_loans p thread c tied running loans found held =
    for_running p.mode _ p.domain.entries running
    (others_hold thread 0 p.log.count p.log.pending c p.domain.entries p.domain.entries tied.rising found
    (of_running p.mode p.log.pending p.domain.entries running loans) (no_more p.domain.entries) other)
  where
    other : (context : ℕ) → list_any (is_buffer_of context) p.domain.entries ≡ true → (context == thread) ≡ false
    other context h = split (context == thread)
        (λ same.
        let e : context ≡ thread = eqb-true context thread same in
        absurd (true≢false (sym h ∙ ap (λ (k : ℕ). list_any (is_buffer_of k) p.domain.entries) e ∙ held_free p thread c running loans found held)))
        (λ apart. apart)

lent_inside : (thread : ℕ) (pending : List CallEntry) (c : CallEntry) (o : Option Lent) (entries : List Entry)
    → call_of_thread thread pending ≡ Some c → AreForInside pending entries
    → AreForInside (map (change_entry c.call entered_call) pending) (lent_entries thread o entries)
lent_inside thread pending c None entries found loans context h = entered_stays c.call pending context (loans context h)
lent_inside thread pending c (Some l) entries found loans context h =
    elim (any_with_entry context (entry.Buffer thread l.writable) entries h) [
      | inl own ↦ subst (λ (k : ℕ). is_inside (call_of_thread k (map (change_entry c.call entered_call) pending)) ≡ true)
          (eqb-true thread context own) (entered_inside thread pending c found)
      | inr other ↦ entered_stays c.call pending context (loans context other)
    ]

admitted_loans : (p : PartState) (thread : ℕ) (c : CallEntry) (a : Admit) → IsTied p → p.mode ≡ mode.Running → HasLoans p
    → call_of_thread thread p.log.pending ≡ Some c → c.inside ≡ false → HasLoans (after_admit p c a).state
unfolding entered_domain after_entering
admitted_loans p thread c (admits.Reply a) tied running loans found held = answered_loans p thread c tied running loans found held
admitted_loans p thread c admits.TakeFrame tied running loans found held = answered_loans p thread c tied running loans found held
admitted_loans p thread c (admits.Enter index) tied running loans found held =
    for_running p.mode _ (lent_entries c.thread (buffer_of c.op) p.domain.entries) running
    (subst (λ (k : ℕ). AreForInside (map (change_entry c.call entered_call) p.log.pending) (lent_entries k (buffer_of c.op) p.domain.entries))
    (sym (found_thread thread p.log.pending c found))
    (lent_inside thread p.log.pending c (buffer_of c.op) p.domain.entries found (of_running p.mode p.log.pending p.domain.entries running loans)))

held_of : (p : PartState) (c : CallEntry) → is_ready p (Some c) ≡ true → c.inside ≡ false
held_of p c ready = not-true c.inside (and_parts (not c.inside) (not (is_blocked p.spec.class c p.log.pending)) ready).0

entered_loans_by : (p : PartState) (thread : ℕ) (o : Option CallEntry) → IsTied p → p.mode ≡ mode.Running → HasLoans p
    → call_of_thread thread p.log.pending ≡ o → is_ready p o ≡ true → HasLoans (entered_by p thread o).state
entered_loans_by p thread None tied running loans found ready = absurd (true≢false (sym ready))
entered_loans_by p thread (Some c) tied running loans found ready =
    admitted_loans p thread c (admit p.spec.class thread c.op p.log.holder (length p.queue)) tied running loans found (held_of p c ready)

entered_loans : (p : PartState) (thread : ℕ) → IsTied p → HasLoans p → can_enter p thread ≡ true → HasLoans (after_enter thread p).state
unfolding after_enter
entered_loans p thread tied loans e =
    let parts = and_parts (is_running p.mode) (is_ready p (call_of_thread thread p.log.pending)) e in
    entered_loans_by p thread (call_of_thread thread p.log.pending) tied (running_is p.mode parts.0) loans refl parts.1

-- Burst

failed_loans : (p : PartState) → HasLoans (fails p)
unfolding fails
failed_loans p = λ settled. absurd (true≢false settled)

served_loans : (number context : ℕ) (p : PartState) (r : Result Service BadParam) → HasLoans p → HasLoans (serve_by number context p r).state
unfolding result_set
served_loans number context p (Err bad) loans = failed_loans p
served_loans number context p (Ok s) loans =
    loans_moved p.mode p.log.pending p.log.pending p.domain.entries _ (all_stay p.log.pending)
    (served_no_more (heap_start p) s p.domain.memory p.domain.entries p.queue) loans

driving_settled : (s : Stage) → is_driving_stage s ≡ true → is_unsettled s ≡ false
driving_settled stage.Stop h = absurd (true≢false (sym h))
driving_settled stage.Collect h = absurd (true≢false (sym h))
driving_settled _ h = refl

next_loans_by : (m : Mode) (p : PartState) (pending : List CallEntry) (held kept : List Entry) → is_driving m ≡ true → NoMore held kept
    → AreLoansIn m pending held → AreLoansIn (next_mode m p) pending kept
next_loans_by (mode.Boot s) p pending held kept driving more loans = without_more held kept more loans
next_loans_by (mode.Recovering s) p pending held kept driving more loans =
    subst (λ m. AreLoansIn m pending kept) (sym (mode_after_drive s p.log driving))
    (λ settled. without_more held kept more (loans (driving_settled s driving)))
next_loans_by mode.Running p pending held kept driving more loans = absurd (true≢false (sym driving))
next_loans_by (mode.Dead collected) p pending held kept driving more loans = absurd (true≢false (sym driving))

next_loans : (p : PartState) → is_driving p.mode ≡ true → HasLoans p → HasLoans (next_stage p)
unfolding next_stage left_domain
next_loans p driving loans =
    next_loans_by p.mode p p.log.pending p.domain.entries (without_buffer 16 p.domain.entries) driving (filter_no_more _ p.domain.entries) loans

shadow_loans : (status : ℕ) (p : PartState) → is_driving p.mode ≡ true → HasLoans p → HasLoans (shadow_replied status p).state
shadow_loans status p driving loans = split (is_accepted status p)
    (λ yes'. rw yes' (next_loans p driving loans))
    (λ no'. rw no' (failed_loans p))

noted_same : (o : Op) (d : DomainState) → (noted_set o d).entries ≡ d.entries
unfolding noted
noted_same (op.Set key value) d = refl
noted_same _ d = refl

closed_loans : (p : PartState) (thread : ℕ) (c : CallEntry) → IsRising 0 p.log.count p.log.pending → p.mode ≡ mode.Running → HasLoans p
    → call_of_thread thread p.log.pending ≡ Some c → HasLoans (closes_call c p)
unfolding closes_call left_domain after_answering after_acknowledging
closed_loans p thread c rising running loans found =
    for_running p.mode _ _ running
    (subst (λ (entries : List Entry). AreForInside (without_call c.call p.log.pending) entries) (sym (noted_same c.op (left_domain c.thread p.domain)))
    (subst (λ (k : ℕ). AreForInside (without_call c.call p.log.pending) (without_buffer k p.domain.entries)) (sym (found_thread thread p.log.pending c found))
    (others_hold thread 0 p.log.count p.log.pending c p.domain.entries (without_buffer thread p.domain.entries) rising found
    (of_running p.mode p.log.pending p.domain.entries running loans) (filter_no_more _ p.domain.entries)
    (λ context h. left_other thread context p.domain.entries h))))

replied_loans_by : (p : PartState) (thread status : ℕ) (c : CallEntry) (r : Accept) → IsRising 0 p.log.count p.log.pending → p.mode ≡ mode.Running
    → HasLoans p → call_of_thread thread p.log.pending ≡ Some c → HasLoans (reply_by c status p r).state
replied_loans_by p thread status c accepts.Take rising running loans found = closed_loans p thread c rising running loans found
replied_loans_by p thread status c (accepts.IoError block) rising running loans found = closed_loans p thread c rising running loans found
replied_loans_by p thread status c (accepts.Fail cause) rising running loans found = failed_loans p

replied_loans : (p : PartState) (thread status : ℕ) (o : Option CallEntry) → IsRising 0 p.log.count p.log.pending → p.mode ≡ mode.Running
    → HasLoans p → call_of_thread thread p.log.pending ≡ o → HasLoans (call_replied status p o).state
replied_loans p thread status None rising running loans found = loans
replied_loans p thread status (Some c) rising running loans found = replied_loans_by p thread status c (accept c.op status) rising running loans found

-- a part in which a context crosses: the shadow's while its call runs, a thread's while the driver runs
record IsCrossing (context : ℕ) (p : PartState) : Type 0 where
  rising : IsRising 0 p.log.count p.log.pending
  own : (context == 16) ≡ true → is_driving p.mode ≡ true
  other : (context == 16) ≡ false → p.mode ≡ mode.Running

crossed_loans : (context : ℕ) (e : BurstEnd) (p : PartState) → IsCrossing context p → HasLoans p → HasLoans (after_crossing context e p).state
unfolding after_crossing
crossed_loans context (ends.Trap cause) p x loans = failed_loans p
crossed_loans context (ends.Kcall number) p x loans = split (is_last context p)
    (λ last. rw last (failed_loans p))
    (λ early. rw early (served_loans number context p
    (checked number (first_argument context p.domain) (second_argument context p.domain) p.spec.class p.domain.entries) loans))
crossed_loans context ends.Pause p x loans = split (is_last context p)
    (λ last. rw last (failed_loans p))
    (λ early. rw early loans)
crossed_loans context (ends.Reply status) p x loans = split (context == 16)
    (λ own. rw own (shadow_loans status p (x.own own) loans))
    (λ other. rw other (replied_loans p context status (call_of_thread context p.log.pending) x.rising (x.other other) loans refl))

driven_driving : (m : Mode) (o : Option Context) → IsDriven m o → is_some o ≡ true → is_driving m ≡ true
driven_driving m None driven some = absurd (true≢false (sym some))
driven_driving m (Some x) driven some = driven.1

burst_loans : (context : ℕ) (p : PartState) → IsFit p → IsTied p → HasLoans p → can_burst p context ≡ true → HasLoans (burst_stepped context p).state
unfolding burst_stepped
burst_loans context p fit tied loans e =
    let b : DomainBurst = domain_burst context (faults_of_burst (p.bursts + 1) p.spec.faults) p.domain in
    let same : b.domain.entries ≡ p.domain.entries =
    (burst_kept (heap_start p) context (faults_of_burst (p.bursts + 1) p.spec.faults) p.domain fit.domain).entries in
    let loans' : HasLoans (with_burst b.domain p) = subst (λ (entries : List Entry). AreLoansIn p.mode p.log.pending entries) (sym same) loans in
    crossed_loans context b.ending (with_burst b.domain p) (record {
      rising = tied.rising;
      own = λ own. driven_driving p.mode (context_of 16 p.domain.contexts) tied.driven (rw own at e);
      other = λ other. running_is p.mode (and_parts (is_running p.mode) (is_inside (call_of_thread context p.log.pending)) (rw other at e)).0;
    }) loans'

-- Stages

due_without : (m : Mode) (s : Stage) (pending : List CallEntry) (entries : List Entry) → stage_due m ≡ Some s → is_unsettled s ≡ false
    → AreLoansIn m pending entries → IsWithoutLoans entries
due_without (mode.Boot x) s pending entries due settled loans = loans
due_without mode.Running s pending entries due settled loans = cc
due_without (mode.Recovering x) s pending entries due settled loans =
    let same : x ≡ s = cc in loans (ap is_unsettled same ∙ settled)
due_without (mode.Dead false) s pending entries due settled loans =
    let same : stage.Collect ≡ s = cc in absurd (true≢false (ap is_unsettled same ∙ settled))
due_without (mode.Dead true) s pending entries due settled loans = cc

stopped_loans : (p : PartState) → HasLoans (stops p).state
unfolding stops
stopped_loans p = λ settled. absurd (true≢false settled)

given_up_loans : (p : PartState) → HasLoans (gives_up_part p).state
unfolding gives_up_part
given_up_loans p = tt

stage_done_loans : (p : PartState) (s : Stage) → HasLoans p → stage_due p.mode ≡ Some s → HasLoans (stage_done s p).state
unfolding collects collected_domain resets loads_image loaded_domain inits plainly_entered replays_set entered_domain replays_open resumes
stage_done_loans p stage.Stop loans due = split (is_given_up p)
    (λ yes'. rw yes' (given_up_loans p))
    (λ no'. rw no' (stopped_loans p))
stage_done_loans p stage.Collect loans due = without_any (with_stage stage.Reset p.mode) p.log.pending _ (collected_none p.domain.entries)
stage_done_loans p stage.Reset loans due =
    without_any (with_stage stage.Load p.mode) p.log.pending p.domain.entries (due_without p.mode stage.Reset p.log.pending p.domain.entries due refl loans)
stage_done_loans p stage.Load loans due =
    without_any (with_stage stage.Init p.mode) p.log.pending p.domain.entries (due_without p.mode stage.Load p.log.pending p.domain.entries due refl loans)
stage_done_loans p stage.Init loans due = loans
stage_done_loans p (stage.ReplaySet key value) loans due = loans
stage_done_loans p stage.ReplayOpen loans due = loans
stage_done_loans p stage.Resume loans due =
    without_any mode.Running p.log.pending p.domain.entries (due_without p.mode stage.Resume p.log.pending p.domain.entries due refl loans)

stage_loans_by : (p : PartState) (o : Option Stage) → HasLoans p → stage_due p.mode ≡ o → HasLoans (stage_by p o).state
stage_loans_by p None loans due = loans
stage_loans_by p (Some s) loans due = stage_done_loans p s loans due

stage_loans : (p : PartState) → HasLoans p → HasLoans (stage_stepped p).state
unfolding stage_stepped
stage_loans p loans = stage_loans_by p (stage_due p.mode) loans refl

-- Arrive

arrived_loans : (p : PartState) (frame : List ℕ) → HasLoans p → HasLoans (after_arrival frame p).state
unfolding after_arrival
arrived_loans p frame loans = loans

-- every step

pub loans_after : (p : PartState) (s : Step) → IsFit p → IsTied p → HasLoans p → enabled p s ≡ true → HasLoans (stepped p s).state
unfolding enabled stepped
loans_after p (step.Invoke thread o) fit tied loans e = invoked_loans p thread o loans
loans_after p (step.Enter thread) fit tied loans e = entered_loans p thread tied loans e
loans_after p (step.Burst context) fit tied loans e = burst_loans context p fit tied loans e
loans_after p step.Stage fit tied loans e = stage_loans p loans
loans_after p (step.Arrive frame) fit tied loans e = arrived_loans p frame loans

-- every run

pub opening_loans : (spec : PartSpec) → HasLoans (opening spec)
unfolding opening opening_domain
opening_loans spec = λ context. refl

pub loans_from : (p : PartState) (events : List Event) → IsFit p → IsTied p → HasLoans p → IsRunFrom p events → HasLoans (state_from p events)
unfolding IsRunFrom state_from
loans_from p [] fit tied loans r = loans
loans_from p (e ∷ events) fit tied loans r =
    loans_from (state_after p (step_of e)) events (fit_after p (step_of e) fit r.0) (tied_after p (step_of e) fit tied r.0)
    (loans_after p (step_of e) fit tied loans r.0) r.2

pub run_loans : (spec : PartSpec) (journal : List Event) → IsFitSpec spec → IsRun spec journal → HasLoans (state_of spec journal)
run_loans spec journal s r = loans_from (opening spec) journal (opening_fit spec s) (opening_tied spec) (opening_loans spec) r

-- a call that enters has no buffer

free_by : (p : PartState) (thread : ℕ) (o : Option CallEntry) → p.mode ≡ mode.Running → HasLoans p → call_of_thread thread p.log.pending ≡ o
    → is_ready p o ≡ true → list_any (is_buffer_of thread) p.domain.entries ≡ false
free_by p thread None running loans found ready = absurd (true≢false (sym ready))
free_by p thread (Some c) running loans found ready = held_free p thread c running loans found (held_of p c ready)

-- a thread whose call enters
pub enter_free : (p : PartState) (thread : ℕ) → IsFit p → IsTied p → HasLoans p → enabled p (step.Enter thread) ≡ true
    → list_any (is_buffer_of thread) p.domain.entries ≡ false
unfolding enabled
enter_free p thread fit tied loans e =
    let parts = and_parts (is_running p.mode) (is_ready p (call_of_thread thread p.log.pending)) e in
    free_by p thread (call_of_thread thread p.log.pending) (running_is p.mode parts.0) loans refl parts.1

-- the shadow and every thread, at each stage after Collect
pub due_free : (p : PartState) (s : Stage) (context : ℕ) → HasLoans p → stage_due p.mode ≡ Some s → is_unsettled s ≡ false
    → list_any (is_buffer_of context) p.domain.entries ≡ false
due_free p s context loans due settled = due_without p.mode s p.log.pending p.domain.entries due settled loans context

-- the shadow, when a stage begins its call
pub stage_free : (p : PartState) (s : Stage) → HasLoans p → enabled p step.Stage ≡ true → stage_due p.mode ≡ Some s → is_driving_stage s ≡ true
    → list_any (is_buffer_of 16) p.domain.entries ≡ false
stage_free p s loans e due driving = due_free p s 16 loans due (driving_settled s driving)
