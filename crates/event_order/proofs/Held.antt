-- Parts with no event that may be taken, and the first part with an event left.
use Rattle.std.proofs.Common.{◌≡◌, ℕ, suc, ◌+◌, ◌<◌, ◌≤◌, ◌==◌, Bool, true, false, true≢false, eqb-true, Some, List, [], ◌∷◌, length, map, get_or, slice_get, slice_index_or, below_more, refl, sym, ap, ◌∙◌, arith}
use Rattle.std.proofs.lemmas.Option.{get_or_from_slice_get, slice_get-map, slice_get_read, slice_get_within}
use Rattle.std.specs.Borrow.{Bor}
use Rattle.std.specs.Option.{option_map}
use Rattle.event_order.specs.Lefts.{IsFirst}
use Rattle.event_order.specs.Ways.{IsHeld, lists_in}
use Rattle.nook_data.proofs.Options.{same_inside}
use Rattle.nook_data.specs.declared.steps.Event.{Event}
use Rattle.order_defs.specs.Taking.{IsStuck, IsTimely, Taking}

-- ---- lists that references point to

abbrev now : Bor (List Event) → List Event
now l = l.now

pub list_at : (left : List (Bor (List Event))) (k : ℕ) (x : Bor (List Event)) → k < length left → x ≡ get_or left k x
    → slice_get (lists_in left) k ≡ Some x.now
list_at left k x less is = slice_get-map now left k ∙ ap (option_map now) (slice_get_read left (length left) k x refl less is)

pub list_is : (left : List (Bor (List Event))) (k : ℕ) (x : Bor (List Event)) → k < length left → x ≡ get_or left k x
    → slice_index_or (lists_in left) k [] ≡ x.now
list_is left k x less is = get_or_from_slice_get (lists_in left) k x.now [] (list_at left k x less is)

-- ---- no event may be taken

-- no part below an index has an event that may be taken
abbrev pub AreHeld : ℕ → Taking → Type 0
AreHeld n s = (part : ℕ) → part < n → (event : Event) (rest : List Event) → slice_get s.left part ≡ Some (event ∷ rest)
    → IsTimely s.threads part event → ⊥

pub held_more : (n : ℕ) (s : Taking) (events : List Event) → slice_get s.left n ≡ Some events → AreHeld n s → IsHeld s.threads n events
    → AreHeld (n + 1) s
held_more n s events at below here =
    below_more (λ (part : ℕ). (event : Event) (rest : List Event) → slice_get s.left part ≡ Some (event ∷ rest) → IsTimely s.threads part event → ⊥) n below
    (λ event rest there timely. here event rest (same_inside (sym at ∙ there)) timely)

pub all_held : (n : ℕ) (s : Taking) → length s.left ≤ n → AreHeld n s → IsStuck s
all_held n s many held part may =
    let within : part < length s.left = slice_get_within s.left part (may.event ∷ may.rest) may.at in
    let less : part < n = omega arith in
    held part less may.event may.rest may.at may.timely

-- ---- an event is left

-- no part below an index has an event left
abbrev pub AreTaken : ℕ → List (List Event) → Type 0
AreTaken n left = (part : ℕ) → part < n → slice_index_or left part [] ≡ []

pub first_found : (left : List (List Event)) (part : ℕ) (events : List Event) (empty : Bool) → slice_get left part ≡ Some events → empty ≡ false
    → empty ≡ (length events == 0) → AreTaken part left → IsFirst left (record { part = part; count = length events })
first_found left part [] empty at fails is before = absurd (true≢false (sym is ∙ fails))
first_found left part (event ∷ rest) empty at fails is before =
    record { event = event; rest = rest; here = at; count = refl; before = before }

none_there : (events : List Event) (empty : Bool) → empty ≡ true → empty ≡ (length events == 0) → events ≡ []
none_there [] empty holds is = refl
none_there (event ∷ rest) empty holds is =
    absurd (let none : suc (length rest) ≡ 0 = eqb-true (suc (length rest)) 0 (sym is ∙ holds) in omega arith)

pub taken_more : (n : ℕ) (left : List (List Event)) (events : List Event) (empty : Bool) → slice_index_or left n [] ≡ events → empty ≡ true
    → empty ≡ (length events == 0) → AreTaken n left → AreTaken (n + 1) left
taken_more n left events empty at holds is below =
    below_more (λ (part : ℕ). slice_index_or left part [] ≡ []) n below (at ∙ none_there events empty holds is)
