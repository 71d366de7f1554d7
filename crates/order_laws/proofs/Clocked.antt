-- Journals that can be taken event by event have one clock: the stamp of an event is the number of events up to it.
use Rattle.std.proofs.Common.{drop, ◌≡◌, ℕ, zero, suc, ◌+◌, ◌<◌, ◌≤◌, ◌==◌, if◌then◌else◌, Bool, true, false, Option, Some, None, List, [], ◌∷◌, ◌++◌, length, map, slice_get, slice_index_or, slice_set, refl, sym, ap, ◌∙◌, subst, arith, append_assoc, append-nil, eqb-true, eq-eqb, ne_eqb}
use Rattle.std.proofs.lemmas.Bool.{eqb-false}
use Rattle.std.proofs.lemmas.List.{get_or-set_other, get_or-set_same}
use Rattle.std.specs.List.{AllByRecursion}
use Rattle.desk_like.specs.Desks.{IsAt, IsInvoke, IsReceipt, IsRisingFrom}
use Rattle.nook_data.specs.Answers.{answer_at}
use Rattle.nook_data.specs.Numbered.{at_number}
use Rattle.nook_data.specs.declared.calls.Answer.{Answer}
use Rattle.nook_data.specs.declared.calls.Op.{Op}
use Rattle.nook_data.specs.declared.desks.Receipt.{Receipt}
use Rattle.nook_data.specs.declared.scenario.ThreadSpec.{ThreadSpec}
use Rattle.nook_data.specs.declared.steps.Event.{Event}
use Rattle.nook_data.specs.declared.steps.Event.TheVariants as event
use Rattle.nook_data.proofs.Options.{none_is_some, same_inside}
use Rattle.part_laws.proofs.Indices.{split}
use Rattle.run_defs.specs.Simulation.{ThreadState, Waiting, answers_of_thread, opening_thread, started, thread_after, threads_after}
use Rattle.run_defs.proofs.RunChanges.{settled, settled_by}
use Rattle.threaded_run.specs.Threaded.{answers_by}
use Rattle.threaded_run.proofs.Counted.{if_false, if_true}
use Rattle.threaded_run.proofs.Numbered.{ComeAfter, all_after, first_after, rest_after}
use Rattle.audited_runs.proofs.Shares.{AllMay, MayStart}
use Rattle.desk_like.specs.Stamps.{stamp_at, stamps_on}
use Rattle.order_defs.specs.OneClock.{AreInOrder, AreOneRun, AreStamped, Follow, journal_on}
use Rattle.order_defs.specs.Taking.{IsAllTaken, IsThrough, Leads, MayTake, Taking, after_taking, opening_taking}
use Rattle.order_laws.proofs.Ahead.{one_more, one_more_here, one_more_there}
use Rattle.order_laws.proofs.Own.{all_timely}
use Rattle.order_laws.proofs.Ordered.{left_is}

-- ---- the stamps of an order

-- the stamps of a part's events in an order, after this many events
abbrev pub stamps_from : ℕ → ℕ → List ℕ → List ℕ
stamps_from part m [] = []
stamps_from part m (k ∷ order) = if k == part then suc m ∷ stamps_from part (suc m) order else stamps_from part (suc m) order

-- the stamps of all parts' events, from part `first` on
abbrev pub stamps_of : ℕ → List (List Event) → List ℕ → List (List ℕ)
stamps_of first [] order = []
stamps_of first (journal ∷ journals) order = stamps_from first 0 order ∷ stamps_of (suc first) journals order

stamps_are : (first : ℕ) (journals : List (List Event)) (order : List ℕ) (k : ℕ) → k < length journals
    → slice_index_or (stamps_of first journals order) k [] ≡ stamps_from (first + k) 0 order
stamps_are first [] order k l = absurd (omega arith)
stamps_are first (journal ∷ journals) order zero l = ap (λ (p : ℕ). stamps_from p 0 order) (plus first)
  where
    plus : (n : ℕ) → n ≡ n + 0
    plus n = omega arith
stamps_are first (journal ∷ journals) order (suc k) l =
    stamps_are (suc first) journals order k (omega arith) ∙ ap (λ (p : ℕ). stamps_from p 0 order) (next first k)
  where
    next : (n k : ℕ) → suc n + k ≡ n + suc k
    next n k = omega arith

stamps_from_here : (part m k : ℕ) (order : List ℕ) → (k == part) ≡ true → stamps_from part m (k ∷ order) ≡ suc m ∷ stamps_from part (suc m) order
stamps_from_here part m k order h = if_true (k == part) (suc m ∷ stamps_from part (suc m) order) (stamps_from part (suc m) order) h

stamps_from_there : (part m k : ℕ) (order : List ℕ) → (k == part) ≡ false → stamps_from part m (k ∷ order) ≡ stamps_from part (suc m) order
stamps_from_there part m k order h = if_false (k == part) (suc m ∷ stamps_from part (suc m) order) (stamps_from part (suc m) order) h

from_rises : (part low m : ℕ) (order : List ℕ) → low ≤ m → IsRisingFrom low (stamps_from part m order)
from_rises part low m [] l = tt
from_rises part low m (k ∷ order) l = split (k == part)
    (λ here. subst (IsRisingFrom low) (sym (stamps_from_here part m k order here)) (above low m l, from_rises part (suc m) (suc m) order (same (suc m))))
    (λ there. subst (IsRisingFrom low) (sym (stamps_from_there part m k order there)) (from_rises part low (suc m) order (omega arith)))
  where
    above : (a b : ℕ) → a ≤ b → a < suc b
    above a b l = omega arith

    same : (n : ℕ) → n ≤ n
    same n = omega arith

-- an order in which everything is taken has a stamp for each event
from_counts : (part m : ℕ) (order : List ℕ) (s end : Taking) → Leads s order end → slice_index_or end.left part [] ≡ []
    → length (stamps_from part m order) ≡ length (slice_index_or s.left part [])
from_counts part m [] s end leads none = sym (ap length (ap (λ (x : Taking). slice_index_or x.left part []) leads ∙ none))
from_counts part m (k ∷ order) s end leads none =
    let may : MayTake s k = leads.0 in
    let is = left_is s.left k (may.event ∷ may.rest) may.at in
    let more : length (stamps_from part (suc m) order) ≡ length (slice_index_or (slice_set s.left k may.rest) part []) =
    from_counts part (suc m) order (after_taking s k may.event may.rest) end leads.1 none in
    split (k == part)
    (λ here.
    let same : k ≡ part = eqb-true k part here in
    ap length (stamps_from_here part m k order here)
    ∙ ap suc (more ∙ ap (λ (p : ℕ). length (slice_index_or (slice_set s.left k may.rest) p [])) (sym same) ∙ ap length (get_or-set_same s.left k may.rest [] is.1))
    ∙ sym (ap length is.0) ∙ ap (λ (p : ℕ). length (slice_index_or s.left p [])) same)
    (λ there.
    ap length (stamps_from_there part m k order there) ∙ more
    ∙ ap length (get_or-set_other s.left k part may.rest [] (λ e. eqb-false k part there (sym e))))

stamped_of : (order : List ℕ) (first : ℕ) (journals : List (List Event)) → ((k : ℕ) → length (stamps_from (first + k) 0 order) ≡ length (slice_index_or journals k []))
    → AreStamped journals (stamps_of first journals order)
stamped_of order first [] count = tt
stamped_of order first (journal ∷ journals) count = (
  record {
    count = ap (λ (p : ℕ). length (stamps_from p 0 order)) (plus first) ∙ count 0;
    rising = from_rises first 0 0 order (omega arith);
  },
  stamped_of order (suc first) journals (λ k. ap (λ (p : ℕ). length (stamps_from p 0 order)) (next first k) ∙ count (suc k)),
)
  where
    plus : (n : ℕ) → n ≡ n + 0
    plus n = omega arith

    next : (n k : ℕ) → suc n + k ≡ n + suc k
    next n k = omega arith

-- ---- what a thread has done

module _ (journals : List (List Event)) (stamps : List (List ℕ)) where
  -- the stamp of the last answer
  abbrev pub last_stamp : ℕ → List (ℕ × Op) → List Receipt → ℕ
  last_stamp last [] receipts = last
  last_stamp last (o ∷ ops) [] = last
  last_stamp last ((part, op) ∷ ops) (r ∷ receipts) = last_stamp (stamp_at stamps part r.at_reply) ops receipts

  module _ (i part : ℕ) (op : Op) (r : Receipt) (is : IsReceipt (journal_on journals part) i op r) where
    follow_more : (last : ℕ) (ops : List (ℕ × Op)) (receipts : List Receipt) → Follow journals stamps i last ops receipts
        → last_stamp last ops receipts < stamp_at stamps part r.at_invoke → Follow journals stamps i last (ops ++ (part, op) ∷ []) (receipts ++ r ∷ [])
    follow_more last [] [] f l = (is, l, tt)
    follow_more last [] (x ∷ receipts) f l = absurd f
    follow_more last (o ∷ ops) [] f l = absurd f
    follow_more last ((p, o) ∷ ops) (x ∷ receipts) f l = (f.0, f.1, follow_more (stamp_at stamps p x.at_reply) ops receipts f.2 l)

    last_more : (last : ℕ) (ops : List (ℕ × Op)) (receipts : List Receipt) → Follow journals stamps i last ops receipts
        → last_stamp last (ops ++ (part, op) ∷ []) (receipts ++ r ∷ []) ≡ stamp_at stamps part r.at_reply
    last_more last [] [] f = refl
    last_more last [] (x ∷ receipts) f = absurd f
    last_more last (o ∷ ops) [] f = absurd f
    last_more last ((p, o) ∷ ops) (x ∷ receipts) f = last_more (stamp_at stamps p x.at_reply) ops receipts f.2

    answers_more : (last : ℕ) (ops : List (ℕ × Op)) (receipts : List Receipt) → Follow journals stamps i last ops receipts
        → answers_by (ops ++ (part, op) ∷ []) (receipts ++ r ∷ []) ≡ answers_by ops receipts ++ (part, r.answer) ∷ []
    answers_more last [] [] f = refl
    answers_more last [] (x ∷ receipts) f = absurd f
    answers_more last (o ∷ ops) [] f = absurd f
    answers_more last ((p, o) ∷ ops) (x ∷ receipts) f =
        ap {B = List (ℕ × Answer)} (λ xs. (p, x.answer) ∷ xs) (answers_more (stamp_at stamps p x.at_reply) ops receipts f.2)

  -- a call was invoked after the last answer, for the next operation of the script
  record IsOpenCall (i : ℕ) (n : ℕ → ℕ) (last : ℕ) (whole done rest : List (ℕ × Op)) (part call : ℕ) : Type 0 where
    op : Op
    number : ℕ
    order : whole ≡ done ++ (part, op) ∷ rest
    invoked : IsAt (journal_on journals part) number (IsInvoke call i op)
    later : last < stamp_at stamps part number
    taken : number ≤ n part

  abbrev IsWorkedOff : ℕ → (ℕ → ℕ) → ℕ → List (ℕ × Op) → List (ℕ × Op) → List (ℕ × Op) → Option Waiting → Type 0
  IsWorkedOff i n last whole done rest None = whole ≡ done ++ rest
  IsWorkedOff i n last whole done rest (Some w) = IsOpenCall i n last whole done rest w.part w.call

  -- a thread's answered operations with their receipts, after m events, this many of each part
  record IsPast (i m : ℕ) (n : ℕ → ℕ) (whole rest : List (ℕ × Op)) (waiting : Option Waiting) (answers : List (ℕ × Answer)) : Type 0 where
    done : List (ℕ × Op)
    receipts : List Receipt
    follow : Follow journals stamps i 0 done receipts
    low : last_stamp 0 done receipts ≤ m
    worked_off : IsWorkedOff i n (last_stamp 0 done receipts) whole done rest waiting
    same : answers ≡ answers_by done receipts

  by_own : (P : List (ℕ × Op) → Option Waiting → Type 0) (b : Bool) (rest : List (ℕ × Op)) (w new : Option Waiting) → (b ≡ true → P (drop 1 rest) new)
      → (b ≡ false → P rest w) → P (if b then drop 1 rest else rest) (if b then new else w)
  by_own P true rest w new holds fails = holds refl
  by_own P false rest w new holds fails = fails refl

  module _ (m : ℕ) (n : ℕ → ℕ) (k : ℕ) (e : Event) (here : at_number (suc (n k)) (journal_on journals k) ≡ Some e)
      (stamp : stamp_at stamps k (suc (n k)) ≡ suc m) where
    at_least : (part number : ℕ) → number ≤ n part → number ≤ one_more n k part
    at_least part number l = split (part == k)
        (λ is.
        let same : n part ≡ n k = ap n (eqb-true part k is) in
        subst (λ (c : ℕ). number ≤ c) (sym (ap (one_more n k) (eqb-true part k is) ∙ one_more_here n k)) (omega arith))
        (λ not. subst (λ (c : ℕ). number ≤ c) (sym (one_more_there n k part not)) l)

    still_open : (i last : ℕ) (whole done rest : List (ℕ × Op)) (w : Option Waiting) → IsWorkedOff i n last whole done rest w
        → IsWorkedOff i (one_more n k) last whole done rest w
    still_open i last whole done rest None h = h
    still_open i last whole done rest (Some w) h =
        record { op = h.op; number = h.number; order = h.order; invoked = h.invoked; later = h.later; taken = at_least w.part h.number h.taken }

    not_begun : (i : ℕ) (whole rest : List (ℕ × Op)) (w : Option Waiting) (answers : List (ℕ × Answer)) → IsPast i m n whole rest w answers
        → IsPast i m (one_more n k) whole rest w answers
    not_begun i whole rest w answers h = record {
      done = h.done;
      receipts = h.receipts;
      follow = h.follow;
      low = h.low;
      worked_off = still_open i (last_stamp 0 h.done h.receipts) whole h.done rest w h.worked_off;
      same = h.same;
    }

    begun_own : (i call : ℕ) (o : Op) (whole rest more : List (ℕ × Op)) (w : Option Waiting) (answers : List (ℕ × Answer)) → IsInvoke call i o e
        → w ≡ None → rest ≡ (k, o) ∷ more → IsPast i m n whole rest w answers
        → IsPast i m (one_more n k) whole (drop 1 rest) (Some (record { part = k; call = call })) answers
    begun_own i call o whole rest more w answers inv free next h =
        let whole_is : whole ≡ h.done ++ rest =
        subst (λ (x : Option Waiting). IsWorkedOff i n (last_stamp 0 h.done h.receipts) whole h.done rest x) free h.worked_off in
        record {
          done = h.done;
          receipts = h.receipts;
          follow = h.follow;
          low = h.low;
          worked_off = record {
            op = o;
            number = suc (n k);
            order = whole_is ∙ ap (λ xs. h.done ++ xs) next ∙ ap {B = List (ℕ × Op)} (λ xs. h.done ++ (k, o) ∷ drop 1 xs) (sym next);
            invoked = record { event = e; there = here; is = inv };
            later = above (last_stamp 0 h.done h.receipts) m (stamp_at stamps k (suc (n k))) h.low stamp;
            taken = same_number (suc (n k)) (one_more n k k) (sym (one_more_here n k));
          };
          same = h.same;
        }
      where
        above : (a b c : ℕ) → a ≤ b → c ≡ suc b → a < c
        above a b c l s = omega arith

        same_number : (a b : ℕ) → a ≡ b → a ≤ b
        same_number a b s = omega arith

    -- the thread after the event, except for its answer
    begun : (i : ℕ) (whole : List (ℕ × Op)) (t : ThreadState) → MayStart i k e t → IsPast i m n whole t.rest t.waiting t.answers
        → (x : Event) → e ≡ x → IsPast i m (one_more n k) whole (started i k x t).rest (started i k x t).waiting (started i k x t).answers
    begun i whole t may h (event.Invoke call thread o a) is =
        let may' : MayStart i k (event.Invoke call thread o a) t = subst (λ (y : Event). MayStart i k y t) is may in
        by_own (λ rest w. IsPast i m (one_more n k) whole rest w t.answers) (thread == i) t.rest t.waiting (Some (record { part = k; call = call }))
        (λ holds.
        let mine : thread ≡ i = eqb-true thread i holds in
        let own = may' mine in
        begun_own i call o whole t.rest own.1.0 t.waiting t.answers (subst (IsInvoke call i o) (sym is) (refl, mine, refl)) own.0 own.1.1 h)
        (λ fails. not_begun i whole t.rest t.waiting t.answers h)
    begun i whole t may h (event.Enter call thread attempt a) is = not_begun i whole t.rest t.waiting t.answers h
    begun i whole t may h (event.Burst context call burst count end acts a failure) is = not_begun i whole t.rest t.waiting t.answers h
    begun i whole t may h (event.Stage stage answers released) is = not_begun i whole t.rest t.waiting t.answers h
    begun i whole t may h (event.Arrive frame kept) is = not_begun i whole t.rest t.waiting t.answers h

    unanswered : (i : ℕ) (whole rest : List (ℕ × Op)) (w : Option Waiting) (answers : List (ℕ × Answer)) → IsPast i m (one_more n k) whole rest w answers
        → IsPast i (suc m) (one_more n k) whole rest w answers
    unanswered i whole rest w answers h = record {
      done = h.done;
      receipts = h.receipts;
      follow = h.follow;
      low = (let low : last_stamp 0 h.done h.receipts ≤ m = h.low in omega arith);
      worked_off = h.worked_off;
      same = h.same;
    }

    answered : (i : ℕ) (whole rest : List (ℕ × Op)) (call : ℕ) (answers : List (ℕ × Answer)) (a : Answer) (done : List (ℕ × Op)) (receipts : List Receipt)
        → Follow journals stamps i 0 done receipts → IsOpenCall i (one_more n k) (last_stamp 0 done receipts) whole done rest k call → answers ≡ answers_by done receipts
        → answer_at call e ≡ Some a → IsPast i (suc m) (one_more n k) whole rest None (answers ++ (k, a) ∷ [])
    answered i whole rest call answers a done receipts f h same reported =
        let r : Receipt = record { call = call; at_invoke = h.number; at_reply = suc (n k); answer = a } in
        let is : IsReceipt (journal_on journals k) i h.op (record { call = call; at_invoke = h.number; at_reply = suc (n k); answer = a }) = record {
          invoked = h.invoked;
          answered = record { event = e; there = here; is = reported };
          ordered = subst (λ (c : ℕ). h.number ≤ c) (one_more_here n k) h.taken;
        } in
        record {
          done = done ++ (k, h.op) ∷ [];
          receipts = receipts ++ r ∷ [];
          follow = follow_more i k h.op r is 0 done receipts f h.later;
          low = same_number (last_stamp 0 (done ++ (k, h.op) ∷ []) (receipts ++ r ∷ [])) (suc m) (last_more i k h.op r is 0 done receipts f ∙ stamp);
          worked_off = h.order ∙ sym (append_assoc done ((k, h.op) ∷ []) rest);
          same = ap (λ xs. xs ++ (k, a) ∷ []) same ∙ sym (answers_more i k h.op r is 0 done receipts f);
        }
      where
        same_number : (a b : ℕ) → a ≡ b → a ≤ b
        same_number a b s = omega arith

    settle : (i : ℕ) (whole : List (ℕ × Op)) (t : ThreadState) (w : Option Waiting) → t.waiting ≡ w → IsPast i m (one_more n k) whole t.rest w t.answers
        → IsPast i (suc m) (one_more n k) whole (settled k e t w).rest (settled k e t w).waiting (settled k e t w).answers
    settle i whole t None is h =
        subst (λ (o : Option Waiting). IsPast i (suc m) (one_more n k) whole t.rest o t.answers) (sym is) (unanswered i whole t.rest None t.answers h)
    settle i whole t (Some w) is h = by_answer (if w.part == k then answer_at w.call e else None) refl
      where
        by_answer : (a : Option Answer) → (if w.part == k then answer_at w.call e else None) ≡ a
            → IsPast i (suc m) (one_more n k) whole (settled_by k t a).rest (settled_by k t a).waiting (settled_by k t a).answers
        by_answer None silent =
            subst (λ (o : Option Waiting). IsPast i (suc m) (one_more n k) whole t.rest o t.answers) (sym is) (unanswered i whole t.rest (Some w) t.answers h)
        by_answer (Some a) reported = split (w.part == k)
            (λ mine. answered i whole t.rest w.call t.answers a h.done h.receipts h.follow
            (subst (λ (p : ℕ). IsOpenCall i (one_more n k) (last_stamp 0 h.done h.receipts) whole h.done t.rest p w.call) (eqb-true w.part k mine) h.worked_off) h.same
            (sym (if_true (w.part == k) (answer_at w.call e) None mine) ∙ reported))
            (λ other. none_is_some (sym (if_false (w.part == k) (answer_at w.call e) None other) ∙ reported))

    past_after : (i : ℕ) (whole : List (ℕ × Op)) (t : ThreadState) → MayStart i k e t → IsPast i m n whole t.rest t.waiting t.answers
        → IsPast i (suc m) (one_more n k) whole (thread_after k e (started i k e t)).rest (thread_after k e (started i k e t)).waiting (thread_after k e (started i k e t)).answers
    past_after i whole t may h =
        let s : ThreadState = started i k e t in
        settle i whole s s.waiting refl (begun i whole t may h e refl)

  -- ---- each thread

  abbrev ArePast : ℕ → (ℕ → ℕ) → ℕ → List ThreadSpec → List ThreadState → Type 0
  ArePast m n i [] [] = Unit {0}
  ArePast m n i [] (t ∷ threads) = ⊥
  ArePast m n i (spec ∷ specs) [] = ⊥
  ArePast m n i (spec ∷ specs) (t ∷ threads) = IsPast i m n spec.ops t.rest t.waiting t.answers × ArePast m n (i + 1) specs threads

  all_past_after : (m : ℕ) (n : ℕ → ℕ) (k : ℕ) (e : Event) → at_number (suc (n k)) (journal_on journals k) ≡ Some e → stamp_at stamps k (suc (n k)) ≡ suc m
      → (i : ℕ) (specs : List ThreadSpec) (threads : List ThreadState) → AllMay i k e threads → ArePast m n i specs threads
      → ArePast (suc m) (one_more n k) i specs (threads_after i k e threads)
  all_past_after m n k e here stamp i [] [] may h = tt
  all_past_after m n k e here stamp i [] (t ∷ threads) may h = absurd h
  all_past_after m n k e here stamp i (spec ∷ specs) [] may h = absurd h
  all_past_after m n k e here stamp i (spec ∷ specs) (t ∷ threads) may h =
      (past_after m n k e here stamp i spec.ops t may.0 h.0, all_past_after m n k e here stamp (i + 1) specs threads may.1 h.1)

  -- ---- an order

  -- after m events, this many of each part, and before those of an order
  record IsWalked (specs : List ThreadSpec) (s : Taking) (m : ℕ) (n : ℕ → ℕ) (order : List ℕ) : Type 0 where
    size : length s.left ≡ length journals
    left : (part : ℕ) → ComeAfter (journal_on journals part) (n part) (slice_index_or s.left part [])
    stamped : (part : ℕ) → part < length journals → (j : ℕ) → slice_get (stamps_from part m order) j ≡ slice_get (stamps_on stamps part) (n part + j)
    past : ArePast m n 0 specs s.threads

  get_is : (xs : List ℕ) (j x : ℕ) → slice_get xs j ≡ Some x → slice_index_or xs j 0 ≡ x
  get_is [] j x h = none_is_some h
  get_is (y ∷ xs) zero x h = same_inside h
  get_is (y ∷ xs) (suc j) x h = get_is xs j x h

  module _ (specs : List ThreadSpec) (s : Taking) (m : ℕ) (n : ℕ → ℕ) (k : ℕ) (order : List ℕ) (h : IsWalked specs s m n (k ∷ order)) (may : MayTake s k) where
    is : (slice_index_or s.left k [] ≡ may.event ∷ may.rest) × (k < length s.left)
    is = left_is s.left k (may.event ∷ may.rest) may.at

    left_here : ComeAfter (journal_on journals k) (n k) (may.event ∷ may.rest)
    left_here = subst (ComeAfter (journal_on journals k) (n k)) is.0 (h.left k)

    stamp_is : stamp_at stamps k (suc (n k)) ≡ suc m
    stamp_is =
        let low : k < length journals = subst (λ (c : ℕ). k < c) h.size is.1 in
        get_is (stamps_on stamps k) (n k) (suc m)
        (ap (slice_get (stamps_on stamps k)) (plus (n k)) ∙ sym (h.stamped k low 0) ∙ ap (λ xs. slice_get xs 0) (stamps_from_here k m k order (eq-eqb k k refl)))
      where
        plus : (c : ℕ) → c ≡ c + 0
        plus c = omega arith

    walked_after : IsWalked specs (after_taking s k may.event may.rest) (suc m) (one_more n k) order
    walked_after = record {
      size = length_set s.left k may.rest ∙ h.size;
      left = λ part. split (part == k)
          (λ here.
          let same : part ≡ k = eqb-true part k here in
          subst (λ (q : ℕ). ComeAfter (journal_on journals q) (one_more n k q) (slice_index_or (slice_set s.left k may.rest) q [])) (sym same) own)
          (λ there.
          subst (ComeAfter (journal_on journals part) (one_more n k part)) (sym (get_or-set_other s.left k part may.rest [] (λ e. eqb-false part k there e)))
          (subst (λ (c : ℕ). ComeAfter (journal_on journals part) c (slice_index_or s.left part [])) (sym (one_more_there n k part there)) (h.left part)));
      stamped = λ part low j. split (part == k)
          (λ here.
          let same : part ≡ k = eqb-true part k here in
          subst (λ (q : ℕ). slice_get (stamps_from q (suc m) order) j ≡ slice_get (stamps_on stamps q) (one_more n k q + j)) (sym same)
          (ap (λ xs. slice_get xs (suc j)) (sym (stamps_from_here k m k order (eq-eqb k k refl)))
          ∙ h.stamped k (subst (λ (q : ℕ). q < length journals) same low) (suc j)
          ∙ ap (slice_get (stamps_on stamps k)) (next (n k) j (one_more n k k) (one_more_here n k))))
          (λ there.
          ap (λ xs. slice_get xs j) (sym (stamps_from_there part m k order (other k part there)))
          ∙ h.stamped part low j
          ∙ ap (λ (c : ℕ). slice_get (stamps_on stamps part) (c + j)) (sym (one_more_there n k part there)));
      past = all_past_after m n k may.event (first_after (journal_on journals k) (n k) may.event may.rest left_here) stamp_is 0 specs s.threads
          (all_timely s.threads k may.event may.timely) h.past;
    }
      where
        own : ComeAfter (journal_on journals k) (one_more n k k) (slice_index_or (slice_set s.left k may.rest) k [])
        own = subst (λ (c : ℕ). ComeAfter (journal_on journals k) c (slice_index_or (slice_set s.left k may.rest) k [])) (sym (one_more_here n k))
            (subst (ComeAfter (journal_on journals k) (suc (n k))) (sym (get_or-set_same s.left k may.rest [] is.1))
            (rest_after (journal_on journals k) (n k) may.event may.rest left_here))

        next : (c j d : ℕ) → d ≡ suc c → c + suc j ≡ d + j
        next c j d e = omega arith

        other : (a b : ℕ) → (b == a) ≡ false → (a == b) ≡ false
        other a b e = ne_eqb a b (λ s. eqb-false b a e (sym s))

        length_set : {X : Type 0} (xs : List X) (i : ℕ) (x : X) → length (slice_set xs i x) ≡ length xs
        length_set [] i x = refl
        length_set (y ∷ xs) zero x = refl
        length_set (y ∷ xs) (suc i) x = ap suc (length_set xs i x)

  record IsWalkedThrough (specs : List ThreadSpec) (end : Taking) : Type 0 where
    m : ℕ
    n : ℕ → ℕ
    past : ArePast m n 0 specs end.threads

  walks : (specs : List ThreadSpec) (order : List ℕ) (s end : Taking) (m : ℕ) (n : ℕ → ℕ) → Leads s order end → IsWalked specs s m n order → IsWalkedThrough specs end
  walks specs [] s end m n leads h =
      record { m = m; n = n; past = subst (λ (x : Taking). ArePast m n 0 specs x.threads) leads h.past }
  walks specs (k ∷ order) s end m n leads h =
      walks specs order (after_taking s k leads.0.event leads.0.rest) end (suc m) (one_more n k) leads.1 (walked_after specs s m n k order h leads.0)

  past_opening : (n : ℕ → ℕ) (i : ℕ) (specs : List ThreadSpec) → ArePast 0 n i specs (map opening_thread specs)
  past_opening n i [] = tt
  past_opening n i (spec ∷ specs) =
      (record { done = []; receipts = []; follow = tt; low = omega arith; worked_off = refl; same = refl }, past_opening n (i + 1) specs)

  -- ---- scripts that were carried out

  -- a thread's script has receipts that follow one another, with these answers
  pub record IsWorked (i : ℕ) (ops : List (ℕ × Op)) (answers : List (ℕ × Answer)) : Type 0 where
    pub receipts : List Receipt
    pub follow : Follow journals stamps i 0 ops receipts
    pub same : answers ≡ answers_by ops receipts

  abbrev pub AreWorked : ℕ → List ThreadSpec → List (List (ℕ × Answer)) → Type 0
  AreWorked i [] [] = Unit {0}
  AreWorked i [] (answers ∷ table) = ⊥
  AreWorked i (spec ∷ specs) [] = ⊥
  AreWorked i (spec ∷ specs) (answers ∷ table) = IsWorked i spec.ops answers × AreWorked (suc i) specs table

  worked : (i m : ℕ) (n : ℕ → ℕ) (whole rest : List (ℕ × Op)) (w : Option Waiting) (answers : List (ℕ × Answer)) → rest ≡ [] → w ≡ None
      → IsPast i m n whole rest w answers → IsWorked i whole answers
  worked i m n whole rest w answers r f h =
      let whole_is : whole ≡ h.done ++ rest =
      subst (λ (x : Option Waiting). IsWorkedOff i n (last_stamp 0 h.done h.receipts) whole h.done rest x) f h.worked_off in
      let done_is : h.done ≡ whole = sym (append-nil h.done) ∙ ap (λ xs. h.done ++ xs) (sym r) ∙ sym whole_is in
      record {
        receipts = h.receipts;
        follow = subst (λ ops. Follow journals stamps i 0 ops h.receipts) done_is h.follow;
        same = h.same ∙ ap (λ ops. answers_by ops h.receipts) done_is;
      }

  all_worked : (m : ℕ) (n : ℕ → ℕ) (i : ℕ) (specs : List ThreadSpec) (threads : List ThreadState) → ArePast m n i specs threads → AllByRecursion IsThrough threads
      → AreWorked i specs (map answers_of_thread threads)
  all_worked m n i [] [] h through = tt
  all_worked m n i [] (t ∷ threads) h through = absurd h
  all_worked m n i (spec ∷ specs) [] h through = absurd h
  all_worked m n i (spec ∷ specs) (t ∷ threads) h through = (
    worked i m n spec.ops t.rest t.waiting t.answers through.0.0 through.0.1 h.0,
    subst (λ (c : ℕ). AreWorked c specs (map answers_of_thread threads)) (next i) (all_worked m n (i + 1) specs threads h.1 through.1),
  )
    where
      next : (c : ℕ) → c + 1 ≡ suc c
      next c = omega arith

  worked_in_order : (i : ℕ) (specs : List ThreadSpec) (table : List (List (ℕ × Answer))) → AreWorked i specs table → AreInOrder journals stamps i specs
  worked_in_order i [] [] h = tt
  worked_in_order i [] (answers ∷ table) h = absurd h
  worked_in_order i (spec ∷ specs) [] h = absurd h
  worked_in_order i (spec ∷ specs) (answers ∷ table) h =
      (record { receipts = h.0.receipts; follow = h.0.follow }, worked_in_order (suc i) specs table h.1)

-- what is taken in an order: its stamps, and each thread's receipts with the answers that the thread has at the end
pub record IsClocked (specs : List ThreadSpec) (journals : List (List Event)) (table : List (List (ℕ × Answer))) : Type 0 where
  pub stamps : List (List ℕ)
  pub stamped : AreStamped journals stamps
  pub worked : AreWorked journals stamps 0 specs table

pub order_clocked : (specs : List ThreadSpec) (journals : List (List Event)) (order : List ℕ) (end : Taking) → Leads (opening_taking specs journals) order end → IsAllTaken end
    → IsClocked specs journals (map answers_of_thread end.threads)
order_clocked specs journals order end leads all =
    let stamps : List (List ℕ) = stamps_of 0 journals order in
    let through : IsWalkedThrough journals stamps specs end =
    walks journals stamps specs order (opening_taking specs journals) end 0 (λ part. 0) leads (record {
      size = refl;
      left = λ part. all_after (journal_on journals part);
      stamped = λ part low j. ap (λ xs. slice_get xs j) (sym (stamps_are 0 journals order part low ∙ ap (λ (p : ℕ). stamps_from p 0 order) (none part)))
          ∙ ap (slice_get (stamps_on stamps part)) (plus j);
      past = past_opening journals stamps (λ part. 0) 0 specs;
    }) in
    record {
      stamps = stamps;
      stamped = stamped_of order 0 journals (λ k. ap (λ (p : ℕ). length (stamps_from p 0 order)) (none k) ∙ from_counts k 0 order (opening_taking specs journals) end leads (all.none_left k));
      worked = all_worked journals stamps through.m through.n 0 specs end.threads through.past all.through;
    }
  where
    none : (p : ℕ) → 0 + p ≡ p
    none p = omega arith

    plus : (j : ℕ) → j ≡ 0 + j
    plus j = omega arith

-- journals that can be taken event by event are one run
pub ordered_one_run : (specs : List ThreadSpec) (journals : List (List Event)) (order : List ℕ) (end : Taking) → Leads (opening_taking specs journals) order end → IsAllTaken end
    → AreOneRun specs journals
ordered_one_run specs journals order end leads all =
    let c : IsClocked specs journals (map answers_of_thread end.threads) = order_clocked specs journals order end leads all in
    record { stamps = c.stamps; stamped = c.stamped; in_order = worked_in_order journals c.stamps 0 specs (map answers_of_thread end.threads) c.worked }
