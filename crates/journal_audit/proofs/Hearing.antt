-- The threads of a section while each of them notes an event.
use Rattle.std.proofs.Common.{◌≡◌, ℕ, suc, ◌+◌, ◌<◌, ◌≤◌, ◌&&◌, List, [], ◌∷◌, ◌++◌, append-nil, append_assoc, length, map, take, drop, get_or, set, refl, sym, ap, ◌∙◌, arith}
use Rattle.std.proofs.lemmas.List.{drop-set-lt, drop_all, drop_more, take_all, take_more_set}
use Rattle.std.proofs.lemmas.List.Elements.{All-get_or, All-set}
use Rattle.std.specs.List.{list_all}
use Rattle.run_laws.specs.Audit.{are_through, is_through, thread_on}
use Rattle.run_defs.specs.Simulation.{started, threads_after, thread_after}
use Rattle.nook_data.specs.declared.steps.Event.{Event}
use Rattle.nook_data.specs.declared.scenario.ThreadSpec.{ThreadSpec}
use Rattle.part_laws.proofs.Indices.{length_map}
use Rattle.journal_audit.specs.Sections.{AreOn, OnPart, state_in, with_state}

abbrev pub heard_by : ℕ → Event → OnPart → OnPart
heard_by thread e t = with_state t (thread_after t.part e (started thread t.part e t.state))

abbrev pub all_heard : ℕ → Event → List OnPart → List OnPart
all_heard thread e [] = []
all_heard thread e (t ∷ threads) = heard_by thread e t ∷ all_heard (thread + 1) e threads

-- a thread has noted the event
pub is_heard : (thread : ℕ) (e : Event) (old new : OnPart) → new.part ≡ old.part
    → new.state ≡ thread_after old.part e (started thread old.part e old.state) → new ≡ heard_by thread e old
is_heard thread e old new part state =
    ap (λ (p : ℕ). record { part = p; state = new.state }) part ∙ ap (with_state old) state

-- the threads below an index have noted the event, the others have not
abbrev pub heard_below : ℕ → Event → List OnPart → List OnPart
heard_below k e threads = take k threads ++ all_heard k e (drop k threads)

pub one_more : (k : ℕ) (e : Event) (threads : List OnPart) (d new : OnPart) → k < length threads → new ≡ heard_by k e (get_or threads k d)
    → heard_below (k + 1) e (set threads k new) ≡ heard_below k e threads
one_more k e threads d new within h =
    let past : k < k + 1 = omega arith in
    rw (take_more_set threads k new within, drop-set-lt (k + 1) threads k new past, drop_more threads k d within, append_assoc, h) refl

pub all_below : (k : ℕ) (e : Event) (threads : List OnPart) → length threads ≤ k → heard_below k e threads ≡ threads
all_below k e threads over = rw (take_all k threads over, drop_all k threads over) (append-nil threads)

-- if all threads are on one part, each thread's state is as the run has it
pub states_heard : (thread part : ℕ) (e : Event) (threads : List OnPart) → AreOn part threads
    → map state_in (all_heard thread e threads) ≡ threads_after thread part e (map state_in threads)
states_heard thread part e [] on = refl
states_heard thread part e (t ∷ threads) on =
    let here : t.part ≡ part = on 0 t (omega arith) in
    let later : AreOn part threads = λ k d h. on (suc k) d (omega arith) in
    rw (here, states_heard (thread + 1) part e threads later) refl

-- a thread replaces another one on its part
pub on_set : (part k : ℕ) (threads : List OnPart) (d new : OnPart) → k < length threads → new.part ≡ (get_or threads k d).part
    → AreOn part threads → AreOn part (set threads k new)
on_set part k threads d new within same on =
    All-set (λ (t : OnPart). t.part ≡ part) threads k new (same ∙ All-get_or (λ (t : OnPart). t.part ≡ part) threads k d within on) on

-- all threads are through if each is
pub all_through : (threads : List OnPart) → list_all (λ t. is_through t.state) threads ≡ are_through (map state_in threads)
all_through [] = refl
all_through (t ∷ threads) = ap (λ b. is_through t.state && b) (all_through threads)

pub as_many : (part : ℕ) (specs : List ThreadSpec) (threads : List OnPart) → map state_in threads ≡ map (thread_on part) specs
    → length threads ≡ length specs
as_many part specs threads e = sym (length_map state_in threads) ∙ ap length e ∙ length_map (thread_on part) specs

-- as many new items replace all items of a list
pub put_back : (n : ℕ) (new old : List OnPart) → n ≡ length old → length new ≡ length old → take n (new ++ drop (length new) old) ≡ new
put_back n new old many same =
    let over : length old ≤ length new = omega arith in
    let all : length new ≤ n = omega arith in
    rw (drop_all (length new) old over, append-nil new) (take_all n new all)
