-- The answers of a script, split by their parts, merge again in the script's order.
use Rattle.std.proofs.Common.{◌≡◌, ℕ, zero, suc, ◌+◌, ◌<◌, Some, List, [], ◌∷◌, length, map, filter, slice_get, slice_index_or, slice_set, refl, sym, ap, ap₂, ◌∙◌, arith, eq-eqb, ne_eqb}
use Rattle.std.specs.List.{AllByRecursion}
use Rattle.std.proofs.lemmas.List.Elements.{recursion_from_All}
use Rattle.run_defs.specs.Simulation.{RunningPart, ThreadState, answers_of_thread}
use Rattle.nook_data.specs.Valid.{IsValidThread}
use Rattle.nook_data.specs.Views.Limits.{IsValidStep}
use Rattle.nook_data.specs.declared.calls.Answer.{Answer}
use Rattle.nook_data.specs.declared.calls.Op.{Op}
use Rattle.nook_data.specs.declared.scenario.ThreadSpec.{ThreadSpec}
use Rattle.nook_data.proofs.Options.{none_is_some, same_inside}
use Rattle.run_laws.specs.Audit.{Done, answers_in_order, answers_to, in_script_order}
use Rattle.audited_runs.proofs.Shares.{filter_none, filter_same, is_from, share_of}

-- the answers of this many parts, from part `index` on
abbrev pub apart : ℕ → ℕ → List (ℕ × Answer) → List (List (ℕ × Answer))
apart index zero answers = []
apart index (suc more) answers = filter (is_from index) answers ∷ apart (suc index) more answers

apart_at : (index n p : ℕ) (answers : List (ℕ × Answer)) → p < n → slice_index_or (apart index n answers) p [] ≡ filter (is_from (index + p)) answers
apart_at index zero p answers l = absurd (omega arith)
apart_at index (suc n) zero answers l = ap (λ (k : ℕ). filter (is_from k) answers) (first index)
  where
    first : (k : ℕ) → k ≡ k + 0
    first k = omega arith
apart_at index (suc n) (suc p) answers l =
    apart_at (suc index) n p answers (omega arith) ∙ ap (λ (k : ℕ). filter (is_from k) answers) (next index p)
  where
    next : (k p : ℕ) → suc k + p ≡ k + suc p
    next k p = omega arith

-- an answer of an earlier part
apart_skip : (index n : ℕ) (a : ℕ × Answer) (answers : List (ℕ × Answer)) → a.0 < index → apart index n (a ∷ answers) ≡ apart index n answers
apart_skip index zero a answers l = refl
apart_skip index (suc n) a answers l =
    ap₂ (λ (x : List (ℕ × Answer)) xs. x ∷ xs) (filter_none (is_from index) a answers (ne_eqb a.0 index (λ e. omega arith)))
    (apart_skip (suc index) n a answers (omega arith))

-- the part's first answer is taken
apart_set : (index n p : ℕ) (a : ℕ × Answer) (answers : List (ℕ × Answer)) → p < n → a.0 ≡ index + p
    → slice_set (apart index n (a ∷ answers)) p (filter (is_from (index + p)) answers) ≡ apart index n answers
apart_set index zero p a answers l e = absurd (omega arith)
apart_set index (suc n) zero a answers l e =
    ap₂ (λ (x : List (ℕ × Answer)) xs. x ∷ xs) (ap (λ (k : ℕ). filter (is_from k) answers) (first index)) (apart_skip (suc index) n a answers (omega arith))
  where
    first : (k : ℕ) → k + 0 ≡ k
    first k = omega arith
apart_set index (suc n) (suc p) a answers l e =
    ap₂ (λ (x : List (ℕ × Answer)) xs. x ∷ xs) (filter_none (is_from index) a answers (ne_eqb a.0 index (λ same. omega arith)))
    (ap (λ (k : ℕ). slice_set (apart (suc index) n (a ∷ answers)) p (filter (is_from k) answers)) (next index p)
    ∙ apart_set (suc index) n p a answers (omega arith) (omega arith))
  where
    next : (k p : ℕ) → k + suc p ≡ suc k + p
    next k p = omega arith

-- ---- in the script's order

abbrev pub taken_from : List (ℕ × Op) → List (List (ℕ × Answer)) → ℕ → List (ℕ × Answer) → List (ℕ × Answer)
taken_from ops given part own = elim own as (λ x. List (ℕ × Answer)) [
  | [] ↦ []
  | (a ∷ more) ↦ a ∷ in_script_order ops (slice_set given part more)
]

pub in_order_again : (n : ℕ) (ops : List (ℕ × Op)) (answers : List (ℕ × Answer)) → map (λ a. a.0) answers ≡ map (λ o. o.0) ops
    → AllByRecursion (λ o. o.0 < n) ops → in_script_order ops (apart 0 n answers) ≡ answers
unfolding in_script_order
in_order_again n [] [] same low = refl
in_order_again n [] (a ∷ answers) same low = cc
in_order_again n (o ∷ ops) [] same low = cc
in_order_again n (o ∷ ops) (a ∷ answers) same low =
    let here : a.0 ≡ o.0 = cc in
    let others : map (λ x. x.0) answers ≡ map (λ x. x.0) ops = cc in
    let own : slice_index_or (apart 0 n (a ∷ answers)) o.0 [] ≡ a ∷ filter (is_from o.0) answers =
    apart_at 0 n o.0 (a ∷ answers) low.0 ∙ ap (λ (k : ℕ). filter (is_from k) (a ∷ answers)) (none o.0) ∙ filter_same (is_from o.0) a answers (eq-eqb a.0 o.0 here) in
    let left : slice_set (apart 0 n (a ∷ answers)) o.0 (filter (is_from o.0) answers) ≡ apart 0 n answers =
    ap (λ (k : ℕ). slice_set (apart 0 n (a ∷ answers)) o.0 (filter (is_from k) answers)) (sym (none o.0))
    ∙ apart_set 0 n o.0 a answers low.0 (here ∙ sym (none o.0)) in
    ap (taken_from ops (apart 0 n (a ∷ answers)) o.0) own
    ∙ ap {B = List (ℕ × Answer)} (λ xs. a ∷ xs) (ap (in_script_order ops) left ∙ in_order_again n ops answers others low.1)
  where
    none : (k : ℕ) → 0 + k ≡ k
    none k = omega arith

-- ---- each thread's

-- what the sections leave, by their running parts and their shares of the threads
abbrev pub left_by : ℕ → List RunningPart → List ThreadState → List Done
left_by index [] threads = []
left_by index (seat ∷ seats) threads =
    record { journal = seat.run.journal; answers = map answers_of_thread (map (share_of index) threads) } ∷ left_by (suc index) seats threads

answers_shared : (index i : ℕ) (threads : List ThreadState) (t : ThreadState) → slice_get threads i ≡ Some t
    → slice_index_or (map answers_of_thread (map (share_of index) threads)) i [] ≡ filter (is_from index) t.answers
answers_shared index i [] t h = none_is_some h
answers_shared index zero (x ∷ threads) t h = ap (λ (y : ThreadState). filter (is_from index) y.answers) (same_inside h)
answers_shared index (suc i) (x ∷ threads) t h = answers_shared index i threads t h

left_apart : (index i : ℕ) (seats : List RunningPart) (threads : List ThreadState) (t : ThreadState) → slice_get threads i ≡ Some t
    → map (answers_to i) (left_by index seats threads) ≡ apart index (length seats) t.answers
left_apart index i [] threads t h = refl
left_apart index i (seat ∷ seats) threads t h =
    ap₂ (λ (x : List (ℕ × Answer)) xs. x ∷ xs) (answers_shared index i threads t h) (left_apart (suc index) i seats threads t h)

pub low_ops : (n : ℕ) (ops : List (ℕ × Op)) → AllByRecursion (IsValidStep n) ops → AllByRecursion (λ o. o.0 < n) ops
low_ops n [] h = tt
low_ops n (o ∷ ops) h = (h.0.0, low_ops n ops h.1)

pub answers_again : (n : ℕ) (seats : List RunningPart) (whole : List ThreadState) (specs : List ThreadSpec) (threads : List ThreadState)
    → ((k : ℕ) → slice_get threads k ≡ slice_get whole (n + k)) → AllByRecursion (IsValidThread (length seats)) specs
    → map (λ own. map (λ a. a.0) own) (map answers_of_thread threads) ≡ map (λ (t : ThreadSpec). map (λ o. o.0) t.ops) specs
    → answers_in_order n specs (left_by 0 seats whole) ≡ map answers_of_thread threads
answers_again n seats whole [] [] same valid parts = refl
answers_again n seats whole [] (t ∷ threads) same valid parts = cc
answers_again n seats whole (spec ∷ specs) [] same valid parts = cc
answers_again n seats whole (spec ∷ specs) (t ∷ threads) same valid parts =
    let here : map (λ a. a.0) t.answers ≡ map (λ o. o.0) spec.ops = cc in
    let others : map (λ own. map (λ a. a.0) own) (map answers_of_thread threads) ≡ map (λ (x : ThreadSpec). map (λ o. o.0) x.ops) specs = cc in
    let at : slice_get whole n ≡ Some t = ap (slice_get whole) (first n) ∙ sym (same 0) in
    ap₂ (λ (x : List (ℕ × Answer)) xs. x ∷ xs)
    (ap (in_script_order spec.ops) (left_apart 0 n seats whole t at)
    ∙ in_order_again (length seats) spec.ops t.answers here
    (low_ops (length seats) spec.ops (recursion_from_All (IsValidStep (length seats)) spec.ops valid.0.ops)))
    (answers_again (suc n) seats whole specs threads (λ k. same (suc k) ∙ ap (slice_get whole) (next n k)) valid.1 others)
  where
    first : (n : ℕ) → n ≡ n + 0
    first n = omega arith

    next : (n k : ℕ) → n + suc k ≡ suc n + k
    next n k = omega arith
