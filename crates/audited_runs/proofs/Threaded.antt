-- Journals that fit, and are one run, are what a run by threads leaves.
use Rattle.std.proofs.Common.{◌≡◌, ℕ, suc, ◌+◌, is_none, Bool, true, Option, Some, None, List, [], ◌∷◌, length, slice_get, refl, sym, ap, ◌∙◌, subst, arith, true≢false}
use Rattle.std.proofs.lemmas.Bool.{and_parts}
use Rattle.std.proofs.lemmas.List.Elements.{recursion_from_All}
use Rattle.std.specs.List.{AllByRecursion}
use Rattle.desk_like.specs.Desks.{IsRisingFrom}
use Rattle.part_defs.specs.Runs.{next_any, state_of, step_of}
use Rattle.run_defs.specs.Simulation.{coming_after}
use Rattle.nook_data.specs.Valid.{IsValidPart, IsValidScenario, IsValidThread}
use Rattle.nook_data.specs.Views.Limits.{IsValidStep}
use Rattle.nook_data.specs.declared.steps.Event.{Event}
use Rattle.nook_data.specs.declared.steps.Event.TheVariants as event
use Rattle.nook_data.specs.declared.scenario.PartSpec.{PartSpec}
use Rattle.nook_data.specs.declared.scenario.Scenario.{Scenario}
use Rattle.nook_data.specs.declared.steps.Step.TheVariants as step
use Rattle.nook_data.specs.declared.scenario.ThreadSpec.{ThreadSpec}
use Rattle.order_defs.specs.OneClock.{AreOneRun}
use Rattle.threaded_run.specs.Threaded.{AreServed, AreSettled, ArriveAt, HasArrivals, HaveArrivals, IsThreaded}
use Rattle.run_laws.proofs.Leading.{section_led}
use Rattle.nook_data.proofs.Options.{none_is_some}
use Rattle.run_laws.specs.Audit.{Section, answers_in_order, are_through, arrival_of, has_nothing, is_complete, opening_section, section_after}
use Rattle.run_laws.specs.Fitting.{AllFit, FitsFrom, IsNext, section_from, sections_of}
use Rattle.audited_runs.proofs.Apart.{low_ops}
use Rattle.audited_runs.proofs.Merged.{thread_served}
use Rattle.audited_runs.proofs.NoOthers.{have_no_others}
use Rattle.audited_runs.proofs.Serves.{rising_before}

-- ---- settled

whole_complete : (s : Section) (events : List Event) → FitsFrom s events → is_complete (section_from s events) ≡ true
unfolding FitsFrom
whole_complete s [] h = h
whole_complete s (e ∷ events) h = whole_complete (section_after s (step_of e)) events h.3

is_none_so : {X : Type 0} (o : Option X) → is_none o ≡ true → o ≡ None
is_none_so None h = refl
is_none_so (Some x) h = absurd (true≢false (sym h))

end_parts : (s : Section) → is_complete s ≡ true → (has_nothing s.seat.coming ≡ true) × (next_any s.seat.run.state ≡ None)
unfolding is_complete
end_parts s h =
    let rest_after = and_parts (has_nothing s.seat.coming) (is_none (next_any s.seat.run.state)) (and_parts (are_through s.threads) _ h).1 in
    (rest_after.0, is_none_so (next_any s.seat.run.state) rest_after.1)

part_settled : (threads : List ThreadSpec) (index : ℕ) (spec : PartSpec) (journal : List Event) → FitsFrom (opening_section threads index spec) journal
    → next_any (state_of spec journal) ≡ None
part_settled threads index spec journal h =
    let end : Section = section_from (opening_section threads index spec) journal in
    ap next_any (sym (section_led (opening_section threads index spec) journal h).state)
    ∙ (end_parts end (whole_complete (opening_section threads index spec) journal h)).1

all_settled : (threads : List ThreadSpec) (index : ℕ) (parts : List PartSpec) (journals : List (List Event)) → AllFit threads index parts journals → AreSettled parts journals
unfolding AllFit
all_settled threads index [] [] h = tt
all_settled threads index [] (journal ∷ journals) h = absurd h
all_settled threads index (spec ∷ parts) [] h = absurd h
all_settled threads index (spec ∷ parts) (journal ∷ journals) h =
    (part_settled threads index spec journal h.0, all_settled threads (suc index) parts journals h.1)

-- ---- arrivals

-- the frames arrive in the journal after its first n events
record ArriveAfter (journal : List Event) (n : ℕ) (frames : List (List ℕ)) : Type 0 where
  numbers : List ℕ
  rising : IsRisingFrom n numbers
  arrive : ArriveAt journal frames numbers

arrive_before : (journal : List Event) (n : ℕ) (frames : List (List ℕ)) → ArriveAfter journal (suc n) frames → ArriveAfter journal n frames
arrive_before journal n frames h = record { numbers = h.numbers; rising = rising_before n h.numbers h.rising; arrive = h.arrive }

none_after : (journal : List Event) (n : ℕ) (frames : List (List ℕ)) → has_nothing frames ≡ true → ArriveAfter journal n frames
none_after journal n [] h = record { numbers = []; rising = tt; arrive = tt }
none_after journal n (frame ∷ frames) h = absurd (true≢false (sym h))

frame_before : (journal : List Event) (n : ℕ) (frame : List ℕ) (kept : Bool) (coming : List (List ℕ)) → slice_get journal n ≡ Some (event.Arrive frame kept)
    → arrival_of coming ≡ Some (step.Arrive frame) → ArriveAfter journal (suc n) (coming_after (step.Arrive frame) coming) → ArriveAfter journal n coming
frame_before journal n frame kept [] at next h = none_is_some next
frame_before journal n frame kept (first ∷ coming) at next h =
    let same : frame ≡ first = cc in
    record {
      numbers = suc n ∷ h.numbers;
      rising = (omega arith, h.rising);
      arrive = ((kept, record { event = event.Arrive frame kept; there = at; is = (same, refl) }), h.arrive);
    }

event_before : (journal : List Event) (n : ℕ) (s : Section) (e : Event) → slice_get journal n ≡ Some e → IsNext s (step_of e)
    → ArriveAfter journal (suc n) (coming_after (step_of e) s.seat.coming) → ArriveAfter journal n s.seat.coming
event_before journal n s (event.Invoke call thread o a) at next h = arrive_before journal n s.seat.coming h
event_before journal n s (event.Enter call thread attempt a) at next h = arrive_before journal n s.seat.coming h
event_before journal n s (event.Burst context call burst count end acts a failure) at next h = arrive_before journal n s.seat.coming h
event_before journal n s (event.Stage stage answers released) at next h = arrive_before journal n s.seat.coming h
event_before journal n s (event.Arrive frame kept) at next h = frame_before journal n frame kept s.seat.coming at next h

arrive_from : (journal : List Event) (n : ℕ) (s : Section) (events : List Event) → FitsFrom s events → ((k : ℕ) → slice_get events k ≡ slice_get journal (n + k))
    → ArriveAfter journal n s.seat.coming
unfolding FitsFrom section_after
arrive_from journal n s [] h are = none_after journal n s.seat.coming (end_parts s h).0
arrive_from journal n s (e ∷ events) h are =
    event_before journal n s e (ap (slice_get journal) (plus n) ∙ sym (are 0)) h.2
    (arrive_from journal (suc n) (section_after s (step_of e)) events h.3 (λ k. are (suc k) ∙ ap (slice_get journal) (next n k)))
  where
    plus : (n : ℕ) → n ≡ n + 0
    plus n = omega arith

    next : (n k : ℕ) → n + suc k ≡ suc n + k
    next n k = omega arith

part_arrivals : (threads : List ThreadSpec) (index : ℕ) (spec : PartSpec) (journal : List Event) → FitsFrom (opening_section threads index spec) journal
    → HasArrivals journal spec.arrivals
part_arrivals threads index spec journal h =
    let a : ArriveAfter journal 0 spec.arrivals = arrive_from journal 0 (opening_section threads index spec) journal h (λ k. ap (slice_get journal) (none k)) in
    record { numbers = a.numbers; rising = a.rising; arrive = a.arrive }
  where
    none : (n : ℕ) → n ≡ 0 + n
    none n = omega arith

all_arrivals : (threads : List ThreadSpec) (index : ℕ) (parts : List PartSpec) (journals : List (List Event)) → AllFit threads index parts journals → HaveArrivals parts journals
unfolding AllFit
all_arrivals threads index [] journals h = tt
all_arrivals threads index (spec ∷ parts) [] h = absurd h
all_arrivals threads index (spec ∷ parts) (journal ∷ journals) h =
    (part_arrivals threads index spec journal h.0, all_arrivals threads (suc index) parts journals h.1)

-- ---- threads

pub same_count : (threads : List ThreadSpec) (index : ℕ) (parts : List PartSpec) (journals : List (List Event)) → AllFit threads index parts journals → length journals ≡ length parts
unfolding AllFit
same_count threads index [] [] h = refl
same_count threads index [] (journal ∷ journals) h = absurd h
same_count threads index (spec ∷ parts) [] h = absurd h
same_count threads index (spec ∷ parts) (journal ∷ journals) h = ap suc (same_count threads (suc index) parts journals h.1)

all_served : (n : ℕ) (whole threads : List ThreadSpec) (parts : List PartSpec) (journals : List (List Event)) → ((k : ℕ) → slice_get threads k ≡ slice_get whole (n + k))
    → AllByRecursion IsValidPart parts → AllByRecursion (IsValidThread (length journals)) threads → AllFit whole 0 parts journals
    → AreServed journals n threads (answers_in_order n threads (sections_of whole 0 parts journals))
all_served n whole [] parts journals same v valid h = tt
all_served n whole (t ∷ threads) parts journals same v valid h = (
  thread_served whole parts journals n t (ap (slice_get whole) (first n) ∙ sym (same 0)) v h
      (low_ops (length journals) t.ops (recursion_from_All (IsValidStep (length journals)) t.ops valid.0.ops)),
  all_served (suc n) whole threads parts journals (λ k. same (suc k) ∙ ap (slice_get whole) (next n k)) v valid.1 h,
)
  where
    first : (n : ℕ) → n ≡ n + 0
    first n = omega arith

    next : (n k : ℕ) → n + suc k ≡ suc n + k
    next n k = omega arith

pub fitting_is_threaded : (scenario : Scenario) (journals : List (List Event)) → IsValidScenario scenario → AllFit scenario.threads 0 scenario.parts journals
    → AreOneRun scenario.threads journals → IsThreaded scenario journals (answers_in_order 0 scenario.threads (sections_of scenario.threads 0 scenario.parts journals))
fitting_is_threaded scenario journals v h one =
    let parts : AllByRecursion IsValidPart scenario.parts = recursion_from_All IsValidPart scenario.parts v.parts in
    let threads : AllByRecursion (IsValidThread (length journals)) scenario.threads =
    subst (λ (n : ℕ). AllByRecursion (IsValidThread n) scenario.threads) (sym (same_count scenario.threads 0 scenario.parts journals h))
    (recursion_from_All (IsValidThread (length scenario.parts)) scenario.threads v.threads) in
    record {
      settled = all_settled scenario.threads 0 scenario.parts journals h;
      served = all_served 0 scenario.threads scenario.threads scenario.parts journals (λ k. ap (slice_get scenario.threads) (none k)) parts threads h;
      arrived = all_arrivals scenario.threads 0 scenario.parts journals h;
      no_others = have_no_others scenario.threads 0 scenario.parts journals h;
      one_run = one;
    }
  where
    none : (n : ℕ) → n ≡ 0 + n
    none n = omega arith
