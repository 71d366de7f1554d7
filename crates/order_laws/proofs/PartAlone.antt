-- If journals fit, an invocation on the part of its thread's next operation is that operation.
use Rattle.std.proofs.Common.{◌≡◌, ℕ, zero, suc, ◌+◌, ◌<◌, ◌==◌, false, Option, Some, None, List, [], ◌∷◌, filter, length, map, slice_get, slice_index_or, slice_set, refl, sym, ap, ◌∙◌, subst, arith, eqb-true, eq-eqb}
use Rattle.std.proofs.lemmas.Bool.{eqb-false}
use Rattle.std.proofs.lemmas.List.{get_or-set_other, get_or-set_same}
use Rattle.std.proofs.lemmas.Option.{slice_get-map}
use Rattle.std.specs.Option.{option_map}
use Rattle.nook_data.specs.declared.calls.Answer.{Answer}
use Rattle.nook_data.specs.declared.calls.Op.{Op}
use Rattle.nook_data.specs.declared.scenario.PartSpec.{PartSpec}
use Rattle.nook_data.specs.declared.scenario.ThreadSpec.{ThreadSpec}
use Rattle.nook_data.specs.declared.steps.Event.{Event}
use Rattle.nook_data.specs.declared.steps.Event.TheVariants as event
use Rattle.nook_data.specs.declared.steps.Step.{Step}
use Rattle.nook_data.specs.declared.steps.Step.TheVariants as step
use Rattle.nook_data.proofs.Options.{same_inside}
use Rattle.part_defs.specs.Runs.{step_of}
use Rattle.part_laws.proofs.Indices.{split}
use Rattle.run_defs.specs.Simulation.{RunningPart, ThreadState, opening_part, opening_thread, part_after, threads_after}
use Rattle.run_laws.specs.Audit.{Section, invocation_by, is_on, section_after, thread_on}
use Rattle.run_laws.specs.Fitting.{AllFit, FitsFrom}
use Rattle.audited_runs.proofs.Shares.{AllMay, all_other, all_own, filter_same, share_of}
use Rattle.order_defs.specs.Taking.{IsTimely, Leads, MayTake, Taking, after_taking, opening_taking}
use Rattle.order_laws.proofs.Ordered.{left_is}
use Rattle.order_laws.proofs.Own.{all_timely}

-- a part's section, with its share of the threads
abbrev pub section_at : ℕ → PartSpec → RunningPart → List ThreadState → Section
section_at k spec seat threads = record { index = k; spec = spec; seat = seat; threads = threads }

-- a part's remaining events fit the part and the threads' remaining operations
pub record FitsLeft (k : ℕ) (left : List Event) (threads : List ThreadState) : Type 0 where
  pub spec : PartSpec
  pub seat : RunningPart
  pub fits : FitsFrom (section_at k spec seat (map (share_of k) threads)) left

-- ---- one event

own_left : (k : ℕ) (e : Event) (rest : List Event) (threads : List ThreadState) → AllMay 0 k e threads → FitsLeft k (e ∷ rest) threads
    → FitsLeft k rest (threads_after 0 k e threads)
unfolding FitsFrom section_after
own_left k e rest threads may h = record {
  spec = h.spec;
  seat = part_after (step_of e) h.seat;
  fits = subst (λ ts. FitsFrom (section_at k h.spec (part_after (step_of e) h.seat) ts) rest)
      (ap (λ (x : Event). threads_after 0 k x (map (share_of k) threads)) h.fits.1 ∙ all_own 0 k e threads may) h.fits.3;
}

other_left : (k j : ℕ) (e : Event) (left : List Event) (threads : List ThreadState) → (k == j) ≡ false → AllMay 0 k e threads → FitsLeft j left threads
    → FitsLeft j left (threads_after 0 k e threads)
other_left k j e left threads apart may h = record {
  spec = h.spec;
  seat = h.seat;
  fits = subst (λ ts. FitsFrom (section_at j h.spec h.seat ts) left) (sym (all_other 0 k j e threads apart may)) h.fits;
}

-- ---- an order

-- the remaining events of each part fit
abbrev pub AllFitLeft : ℕ → Taking → Type 0
AllFitLeft n s = (j : ℕ) → j < n → FitsLeft j (slice_index_or s.left j []) s.threads

pub fit_after : (n : ℕ) (s : Taking) (k : ℕ) (may : MayTake s k) → AllFitLeft n s → AllFitLeft n (after_taking s k may.event may.rest)
fit_after n s k may h j low =
    let is = left_is s.left k (may.event ∷ may.rest) may.at in
    let all : AllMay 0 k may.event s.threads = all_timely s.threads k may.event may.timely in
    split (k == j)
    (λ same.
    let here : k ≡ j = eqb-true k j same in
    subst (λ (x : ℕ). FitsLeft x (slice_index_or (slice_set s.left k may.rest) x []) (threads_after 0 k may.event s.threads)) here
    (subst (λ l. FitsLeft k l (threads_after 0 k may.event s.threads)) (sym (get_or-set_same s.left k may.rest [] is.1))
    (own_left k may.event may.rest s.threads all (subst (λ l. FitsLeft k l s.threads) is.0 (h k (subst (λ (x : ℕ). x < n) (sym here) low))))))
    (λ apart.
    subst (λ l. FitsLeft j l (threads_after 0 k may.event s.threads)) (sym (get_or-set_other s.left k j may.rest [] (λ e. eqb-false k j apart (sym e))))
    (other_left k j may.event (slice_index_or s.left j []) s.threads apart all (h j low)))

fit_along : (n : ℕ) (order : List ℕ) (s end : Taking) → Leads s order end → AllFitLeft n s → AllFitLeft n end
fit_along n [] s end leads h = subst (AllFitLeft n) leads h
fit_along n (k ∷ order) s end leads h =
    fit_along n order (after_taking s k leads.0.event leads.0.rest) end leads.1 (fit_after n s k leads.0 h)

-- ---- the beginning

shares_first : (index : ℕ) (threads : List ThreadSpec) → map (thread_on index) threads ≡ map (share_of index) (map opening_thread threads)
shares_first index [] = refl
shares_first index (t ∷ threads) = ap {B = List ThreadState} (λ ts. thread_on index t ∷ ts) (shares_first index threads)

fit_first : (threads : List ThreadSpec) (first : ℕ) (parts : List PartSpec) (journals : List (List Event)) → AllFit threads first parts journals → (k : ℕ)
    → k < length journals → FitsLeft (first + k) (slice_index_or journals k []) (map opening_thread threads)
unfolding AllFit
fit_first threads first [] [] h k low = absurd (omega arith)
fit_first threads first [] (j ∷ journals) h k low = absurd h
fit_first threads first (spec ∷ parts) [] h k low = absurd h
fit_first threads first (spec ∷ parts) (j ∷ journals) h zero low =
    subst (λ (n : ℕ). FitsLeft n j (map opening_thread threads)) (plus first) (record {
      spec = spec;
      seat = opening_part spec;
      fits = subst (λ ts. FitsFrom (section_at first spec (opening_part spec) ts) j) (shares_first first threads) h.0;
    })
  where
    plus : (n : ℕ) → n ≡ n + 0
    plus n = omega arith
fit_first threads first (spec ∷ parts) (j ∷ journals) h (suc k) low =
    subst (λ (n : ℕ). FitsLeft n (slice_index_or journals k []) (map opening_thread threads)) (next first k) (fit_first threads (suc first) parts journals h.1 k (omega arith))
  where
    next : (n k : ℕ) → suc n + k ≡ n + suc k
    next n k = omega arith

-- the remaining events of journals that fit still fit
pub all_fit_left : (threads : List ThreadSpec) (parts : List PartSpec) (journals : List (List Event)) (order : List ℕ) (s : Taking) → AllFit threads 0 parts journals
    → Leads (opening_taking threads journals) order s → AllFitLeft (length journals) s
all_fit_left threads parts journals order s fits leads =
    let first : AllFitLeft (length journals) (opening_taking threads journals) = λ j l.
    subst (λ (n : ℕ). FitsLeft n (slice_index_or journals j []) (map opening_thread threads)) (none j) (fit_first threads 0 parts journals fits j l) in
    fit_along (length journals) order (opening_taking threads journals) s leads first
  where
    none : (n : ℕ) → 0 + n ≡ n
    none n = omega arith

-- ---- the next operation on a part

invoked_by : (thread k : ℕ) (op : Op) (more : List (ℕ × Op)) (t : ThreadState) → t.rest ≡ (k, op) ∷ more → invocation_by thread (Some t) ≡ Some (step.Invoke thread op)
invoked_by thread k op more t h = rw h refl

same_op : (thread : ℕ) (o op : Op) → Some (step.Invoke thread op) ≡ Some (step.Invoke thread o) → op ≡ o
same_op thread o op h = ap (op_of op) (same_inside h)
  where
    op_of : Op → Step → Op
    op_of d (step.Invoke t x) = x
    op_of d (step.Enter t) = d
    op_of d (step.Burst c) = d
    op_of d step.Stage = d
    op_of d (step.Arrive f) = d

pub next_op : (k call thread : ℕ) (o op : Op) (a : Option Answer) (rest : List Event) (threads : List ThreadState) (t : ThreadState) (more : List (ℕ × Op))
    → FitsLeft k (event.Invoke call thread o a ∷ rest) threads → slice_get threads thread ≡ Some t → t.rest ≡ (k, op) ∷ more → op ≡ o
unfolding FitsFrom
next_op k call thread o op a rest threads t more h at next =
    let share : filter (is_on k) t.rest ≡ (k, op) ∷ filter (is_on k) more =
    ap (filter (is_on k)) next ∙ filter_same (is_on k) (k, op) more (eq-eqb k k refl) in
    same_op thread o op
    (sym (ap (invocation_by thread) (slice_get-map (share_of k) threads thread ∙ ap (option_map (share_of k)) at)
    ∙ invoked_by thread k op (filter (is_on k) more) (share_of k t) share)
    ∙ h.fits.2)

pub part_decides : (threads : List ThreadSpec) (parts : List PartSpec) (journals : List (List Event)) (order : List ℕ) (s : Taking) (part call thread : ℕ) (o op : Op)
    (a : Option Answer) (rest : List Event) (t : ThreadState) (more : List (ℕ × Op)) → AllFit threads 0 parts journals → Leads (opening_taking threads journals) order s
    → part < length journals → slice_get s.left part ≡ Some (event.Invoke call thread o a ∷ rest) → slice_get s.threads thread ≡ Some t → t.waiting ≡ None
    → t.rest ≡ (part, op) ∷ more → IsTimely s.threads part (event.Invoke call thread o a)
part_decides threads parts journals order s part call thread o op a rest t more fits leads low head at free next =
    let h : FitsLeft part (slice_index_or s.left part []) s.threads = all_fit_left threads parts journals order s fits leads part low in
    let same : op ≡ o = next_op part call thread o op a rest s.threads t more
    (subst (λ l. FitsLeft part l s.threads) (left_is s.left part (event.Invoke call thread o a ∷ rest) head).0 h) at next in
    record { t = t; more = more; at = at; free = free; next = next ∙ ap {B = List (ℕ × Op)} (λ (x : Op). (part, x) ∷ more) same }
