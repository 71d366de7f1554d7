-- A desk of a valid scenario refuses a thread only if memory runs out.
use Rattle.std.proofs.Common.{◌≡◌, ℕ, zero, suc, ◌+◌, ◌*◌, ◌<◌, ◌≤◌, ◌==◌, is_some, Bool, true, false, Some, Err, List, [], ◌∷◌, ◌++◌, filter, length, length-append, slice_get, slice_index_or, refl, sym, ap, ◌∙◌, subst, arith, eqb-true}
use Rattle.std.specs.Prelude.{All}
use Rattle.std.specs.List.{AllByRecursion, list_any}
use Rattle.std.proofs.lemmas.Bool.{and_parts}
use Rattle.std.proofs.lemmas.List.Elements.{filter-append, recursion_from_All}
use Rattle.std.proofs.lemmas.List.Sums.{length-filter}
use Rattle.std.proofs.lemmas.Option.{get_or_from_slice_get}
use mathlib.Core.List.{IsPrefix}
use Rattle.app_threads.specs.declared.stop.WorkerStop.{WorkerStop}
use Rattle.app_threads.specs.declared.stop.WorkerStop.TheVariants as stop
use Rattle.app_threads.specs.declared.work.Work.TheVariants as work
use Rattle.app_threads.specs.Ends.{AtMost, IsPartRefused, IsThreadRefused, WorkersEnd, count_on_all}
use Rattle.app_threads.specs.Workers.{AreArrivals, AreRuns, AreScripts, IsNoInvoke, KeepAccounts, NameDesks, StayAlone, count_on, frame_of, frames_at, invokes_at, is_invoke}
use Rattle.app_threads.specs.Works.{all_works, arrival_works, script_works}
use Rattle.desk_like.specs.Desks.{DeskView, HasOpen, IsAt}
use Rattle.nook_data.specs.declared.desks.DeskRefused.{DeskRefused}
use Rattle.nook_data.specs.declared.desks.DeskRefused.TheVariants as refused
use Rattle.nook_data.specs.declared.steps.Event.{Event}
use Rattle.nook_data.specs.declared.steps.Event.TheVariants as event
use Rattle.nook_data.specs.declared.calls.Op.{Op}
use Rattle.nook_data.specs.declared.scenario.PartSpec.{PartSpec}
use Rattle.nook_data.specs.declared.scenario.ThreadSpec.{ThreadSpec}
use Rattle.nook_data.specs.Numbered.{at_number}
use Rattle.part_defs.specs.Runs.{IsRun, IsRunFrom, state_after, state_of, step_of}
use Rattle.part_defs.specs.State.{PartState}
use Rattle.part_defs.specs.Steps.{opening}
use Rattle.nook_data.specs.Valid.{IsValidPart}
use Rattle.part_laws.proofs.Counts.{run_measured}
use Rattle.part_laws.proofs.Indices.{some_same, split}
use Rattle.part_laws.proofs.ValidFits.{valid_fits}
use Rattle.part_laws.specs.Bound.{IsMeasured, is_arrival, is_invoke as invokes}
use Rattle.part_server.proofs.Opens.{was_invoked}
use Rattle.part_server.specs.Answers.{is_invocation}
use Rattle.threaded_run.proofs.Counted.{AddedAll, added_all, counted_within, frames_counted, position_there}
use Rattle.threaded_run.proofs.Growing.{is_at_grown}
use Rattle.threaded_run.proofs.Numbered.{Has, filter_short, has_held}
use Rattle.threaded_run.proofs.Working.{DidAll, did_all, new_at, valid_at}
use Rattle.threaded_run.specs.Leaving.{AreNew}
use Rattle.threaded_run.specs.Unheard.{IsForMemory}

-- ---- prefixes of runs

run_front : (p : PartState) (xs ys : List Event) → IsRunFrom p (xs ++ ys) → IsRunFrom p xs
unfolding IsRunFrom
run_front p [] ys r = tt
run_front p (e ∷ xs) ys r = (r.0, r.1, run_front (state_after p (step_of e)) xs ys r.2)

run_before : (spec : PartSpec) (between whole : List Event) → IsPrefix between whole → IsRun spec whole → IsRun spec between
run_before spec between whole p run = run_front (opening spec) between p.0 (subst (IsRun spec) (sym p.1) run)

fewer_before : (test : Event → Bool) (between whole : List Event) → IsPrefix between whole → length (filter test between) ≤ length (filter test whole)
fewer_before test between whole p =
    let size : length (filter test whole) ≡ length (filter test between) + length (filter test p.0) =
    ap (λ (xs : List Event). length (filter test xs)) (sym p.1) ∙ ap length (filter-append test between p.0) ∙ length-append (filter test between) (filter test p.0) in
    omega arith

-- ---- how much there is to do

few_on : (part : ℕ) (scripts : List ThreadSpec) → AllByRecursion (λ (script : ThreadSpec). length script.ops ≤ 256) scripts → count_on_all part scripts ≤ length scripts * 256
few_on part [] h = omega arith
few_on part (script ∷ scripts) h =
    let here : count_on part script.ops ≤ length script.ops = filter_short (λ (o : ℕ × Op). o.0 == part) script.ops in
    let size : length script.ops ≤ 256 = h.0 in
    let more : count_on_all part scripts ≤ length scripts * 256 = few_on part scripts h.1 in
    omega arith

short_scripts : (count : ℕ) (scripts : List ThreadSpec) → All (λ (script : ThreadSpec). (length script.ops ≤ 256) × NameDesks count script.ops) scripts
    → AllByRecursion (λ (script : ThreadSpec). length script.ops ≤ 256) scripts
short_scripts count scripts h = recursion_from_All (λ (script : ThreadSpec). length script.ops ≤ 256) scripts (λ k d within. (h k d within).0)

few_in_all : (count part : ℕ) (scripts : List ThreadSpec) → AreScripts count scripts → count_on_all part scripts ≤ 4096
few_in_all count part scripts h =
    let few : length scripts ≤ 16 = h.0 in
    let each : count_on_all part scripts ≤ length scripts * 256 = few_on part scripts (short_scripts count scripts h.1) in
    omega arith

some_script : (scripts : List ThreadSpec) (arrivals : List (List (List ℕ))) (k : ℕ) (s : ThreadSpec) → slice_get scripts k ≡ Some s → 0 < length (all_works scripts arrivals)
some_script [] arrivals k s h = absurd cc
some_script (x ∷ scripts) arrivals k s h = omega arith

some_frames : (n : ℕ) (arrivals : List (List (List ℕ))) (k : ℕ) (frames : List (List ℕ)) → slice_get arrivals k ≡ Some frames → 0 < length frames → 0 < length (arrival_works n arrivals)
some_frames n [] k frames h some = absurd cc
some_frames n ((frame ∷ more) ∷ arrivals) k frames h some = omega arith
some_frames n ([] ∷ arrivals) zero frames h some =
    absurd (let none : 0 ≡ length frames = ap length (some_same [] frames h) in omega arith)
some_frames n ([] ∷ arrivals) (suc k) frames h some = some_frames (n + 1) arrivals k frames h some

some_arrival : (scripts : List ThreadSpec) (arrivals : List (List (List ℕ))) (k : ℕ) (frames : List (List ℕ)) → slice_get arrivals k ≡ Some frames → 0 < length frames
    → 0 < length (all_works scripts arrivals)
some_arrival scripts arrivals k frames h some =
    let more : 0 < length (arrival_works 0 arrivals) = some_frames 0 arrivals k frames h some in
    let size : length (all_works scripts arrivals) ≡ length (script_works 0 scripts) + length (arrival_works 0 arrivals) =
    length-append (script_works 0 scripts) (arrival_works 0 arrivals) in
    omega arith

-- ---- one event

false_is : {G : Type 0} → false ≡ true → G
false_is h = cc

invoke_found : (e : Event) → invokes e ≡ true → is_invoke (Some e) ≡ true
invoke_found (event.Invoke c t o a) h = refl
invoke_found (event.Enter c t attempt a) h = false_is h
invoke_found (event.Burst context c burst count end acts a failure) h = false_is h
invoke_found (event.Stage stage answers released) h = false_is h
invoke_found (event.Arrive frame kept) h = false_is h

arrive_found : (e : Event) → is_arrival e ≡ true → is_some (frame_of (Some e)) ≡ true
arrive_found (event.Invoke c t o a) h = false_is h
arrive_found (event.Enter c t attempt a) h = false_is h
arrive_found (event.Burst context c burst count end acts a failure) h = false_is h
arrive_found (event.Stage stage answers released) h = false_is h
arrive_found (event.Arrive frame kept) h = refl

not_both : (call thread : ℕ) (e : Event) → is_invocation call thread e ≡ true → IsNoInvoke call e → ⊥
not_both call thread (event.Invoke c t o a) h other = other (eqb-true c call (and_parts (c == call) (t == thread) h).0)
not_both call thread (event.Enter c t attempt a) h other = false_is h
not_both call thread (event.Burst context c burst count end acts a failure) h other = false_is h
not_both call thread (event.Stage stage answers released) h other = false_is h
not_both call thread (event.Arrive frame kept) h other = false_is h

-- an event passes the test
record IsThere (test : Event → Bool) (events : List Event) : Type 0 where
  number : ℕ
  at : IsAt events (suc number) (λ e. test e ≡ true)

any_there : (test : Event → Bool) (events : List Event) → list_any test events ≡ true → IsThere test events
any_there test [] h = false_is h
any_there test (e ∷ events) h = split (test e)
    (λ t. record { number = 0; at = record { event = e; there = refl; is = t } })
    (λ f.
    let more : IsThere test events = any_there test events (rw f at h) in
    record { number = suc more.number; at = record { event = more.at.event; there = more.at.there; is = more.at.is } })

-- ---- what is impossible

module _ (spec : PartSpec) (view : DeskView) (numbers : List ℕ) (whole : AddedAll view numbers) (between : List Event) (to : IsPrefix between view.seen)
    (valid : IsValidPart spec) (run : IsRun spec view.seen) where
  measured : IsMeasured spec between
  measured = run_measured spec between (valid_fits spec valid) (run_before spec between view.seen to run)

  few_calls : (n : ℕ) → length (invokes_at view.seen numbers) ≤ n → n < 100000 → (state_of spec between).log.count ≡ 100000 → ⊥
  few_calls n most small many =
      let all : length (filter invokes view.seen) ≤ length (invokes_at view.seen numbers) =
      counted_within view numbers invokes (λ p. is_invoke (at_number p view.seen)) whole
      (λ e number at passes. subst (λ o. is_invoke o ≡ true) (sym at) (invoke_found e passes)) in
      let before : length (filter invokes between) ≤ length (filter invokes view.seen) = fewer_before invokes between view.seen to in
      let count : (state_of spec between).log.count ≡ length (filter invokes between) = measured.calls ∙ sym (length-filter invokes between) in
      omega arith

  few_arrivals : (n : ℕ) → length (frames_at view.seen numbers) ≤ n → n < 100000 → (state_of spec between).arrived ≡ 100000 → ⊥
  few_arrivals n most small many =
      let all : length (filter is_arrival view.seen) ≤ length (filter (λ p. is_some (frame_of (at_number p view.seen))) numbers) =
      counted_within view numbers is_arrival (λ p. is_some (frame_of (at_number p view.seen))) whole
      (λ e number at passes. subst (λ o. is_some (frame_of o) ≡ true) (sym at) (arrive_found e passes)) in
      let same : length (filter (λ p. is_some (frame_of (at_number p view.seen))) numbers) ≡ length (frames_at view.seen numbers) = frames_counted view.seen numbers in
      let before : length (filter is_arrival between) ≤ length (filter is_arrival view.seen) = fewer_before is_arrival between view.seen to in
      let count : (state_of spec between).arrived ≡ length (filter is_arrival between) = measured.arrivals ∙ sym (length-filter is_arrival between) in
      omega arith

  not_open : (thread call : ℕ) → HasOpen (state_of spec between) thread call → All (λ number. IsAt view.seen number (IsNoInvoke call)) numbers → ⊥
  not_open thread call open_one foreign =
      let some : IsThere (is_invocation call thread) between =
      any_there (is_invocation call thread) between (was_invoked spec between thread call valid (run_before spec between view.seen to run) open_one) in
      let number : ℕ = suc some.number in
      let here : IsAt view.seen number (λ e. is_invocation call thread e ≡ true) = is_at_grown between view.seen number _ to some.at in
      let among : Has number numbers = whole number (omega arith) (position_there view.seen number here.event here.there) in
      let other : IsAt view.seen number (IsNoInvoke call) =
      has_held (λ q. IsAt view.seen q (IsNoInvoke call)) number numbers (recursion_from_All (λ q. IsAt view.seen q (IsNoInvoke call)) numbers foreign) among in
      not_both call thread here.event here.is (subst (IsNoInvoke call) (some_same other.event here.event (sym other.there ∙ here.there)) other.is)

-- ---- what workers report

module _ (specs : List PartSpec) (scripts : List ThreadSpec) (arrivals : List (List (List ℕ))) (olds news : List DeskView) (count : ℕ)
    (valid : All IsValidPart specs) (few : AreScripts count scripts) (fit : AreArrivals specs arrivals)
    (new : AreNew olds) (keep : KeepAccounts olds news) (stay : StayAlone olds news)
    (most : (d : ℕ) (v w : DeskView) → slice_get olds d ≡ Some v → slice_get news d ≡ Some w → AtMost scripts (slice_index_or arrivals d []) d v w) where
  -- the seat added all that it has seen since it was new
  all_of : (d : ℕ) (v w : DeskView) (numbers : List ℕ) → slice_get olds d ≡ Some v → slice_get news d ≡ Some w → w.made ≡ v.made ++ numbers → AddedAll w numbers
  all_of d v w numbers at_old at_new made =
      let did : DidAll w = did_all olds news new keep stay d w at_new in
      added_all v w numbers (ap (λ (x : DeskView). x.made) (new_at olds d v new at_old)) made did.accounts did.alone

  thread_refused : (thread number part : ℕ) (why : DeskRefused) → AreRuns specs news → IsThreadRefused specs scripts arrivals olds news thread number part why
      → IsForMemory (stop.Refused (work.Script thread) number part why)
  thread_refused thread number part (refused.NoMemory call) runs h = tt
  thread_refused thread number part refused.TooManyCalls runs h =
      let r = h.refusal_is.cause in
      let m = most part r.old r.new r.old_there r.new_there in
      few_calls r.spec r.new m.numbers (all_of part r.old r.new m.numbers r.old_there r.new_there m.grows.made) r.between r.to
      (valid_at specs part r.spec valid r.spec_there) (runs part r.spec r.new r.spec_there r.new_there) 4096
      (let a = m.invoked_in_all in let b = few_in_all count part scripts few in omega arith) (omega arith) r.cause.1
  thread_refused thread number part (refused.OpenCall call) runs h =
      let r = h.refusal_is.cause in
      let f = h.foreign call r.old r.new refl r.old_there r.new_there in
      not_open r.spec r.new f.0 (all_of part r.old r.new f.0 r.old_there r.new_there f.1) r.between r.to
      (valid_at specs part r.spec valid r.spec_there) (runs part r.spec r.new r.spec_there r.new_there) thread call r.cause f.2
  thread_refused thread number part refused.NoOpenCall runs h = h.refusal_is.cause.cause
  thread_refused thread number part refused.TooManyArrivals runs h = h.refusal_is.cause.cause

  part_refused : (p number part : ℕ) (why : DeskRefused) → AreRuns specs news → IsPartRefused specs scripts arrivals olds news number part why
      → IsForMemory (stop.Refused (work.Arrivals p) number part why)
  part_refused p number part (refused.NoMemory call) runs h = tt
  part_refused p number part refused.TooManyCalls runs h = h.refusal_is.cause.cause
  part_refused p number part (refused.OpenCall call) runs h = h.refusal_is.cause.cause
  part_refused p number part refused.NoOpenCall runs h = h.refusal_is.cause.cause
  part_refused p number part refused.TooManyArrivals runs h =
      let r = h.refusal_is.cause in
      let m = most part r.old r.new r.old_there r.new_there in
      let frames : slice_index_or arrivals part [] ≡ h.frames = get_or_from_slice_get arrivals part h.frames [] h.there in
      let size : length (slice_index_or arrivals part []) ≡ length h.frames = ap length frames in
      let small : length h.frames ≤ 256 = (fit.1 part h.frames h.there).0 in
      few_arrivals r.spec r.new m.numbers (all_of part r.old r.new m.numbers r.old_there r.new_there m.grows.made) r.between r.to
      (valid_at specs part r.spec valid r.spec_there) (runs part r.spec r.new r.spec_there r.new_there) 256
      (let a = m.arrived in omega arith) (omega arith) r.cause

pub only_for_memory : (specs : List PartSpec) (scripts : List ThreadSpec) (arrivals : List (List (List ℕ))) (olds news : List DeskView) (count : ℕ) (why : WorkerStop)
    → All IsValidPart specs → AreScripts count scripts → AreArrivals specs arrivals → AreNew olds → KeepAccounts olds news
    → WorkersEnd specs scripts arrivals olds news (Err why) → IsForMemory why
only_for_memory specs scripts arrivals olds news count stop.NoMemory valid few fit new keep h = tt
only_for_memory specs scripts arrivals olds news count (stop.Refused (work.Script thread) number part why) valid few fit new keep h =
    let a = h.1 in
    thread_refused specs scripts arrivals olds news count valid few fit new keep h.3 h.0.1 thread number part why
    (h.2 (some_script scripts arrivals thread a.script a.there)) a
only_for_memory specs scripts arrivals olds news count (stop.Refused (work.Arrivals p) number part why) valid few fit new keep h =
    let b = h.1.1 in
    part_refused specs scripts arrivals olds news count valid few fit new keep h.3 h.0.1 p number part why
    (h.2 (some_arrival scripts arrivals part b.frames b.there (let within : number < length b.frames = b.refusal_is.frame in omega arith))) b
