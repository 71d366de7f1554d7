-- The rest of each journal is no longer than the journal.
use Rattle.std.proofs.Common.{◌≡◌, ◌≤◌, ℕ, zero, suc, Some, List, [], ◌∷◌, length, slice_get, slice_index_or, slice_set, refl, sym, ap, ◌∙◌, subst, arith}
use Rattle.nook_data.proofs.Options.{none_is_some, same_inside}
use Rattle.nook_data.specs.declared.steps.Event.{Event}
use Rattle.order_defs.specs.Taking.{Leads, Taking, after_taking}

as_many : {X : Type 0} (xs : List X) (k : ℕ) (x : X) → length (slice_set xs k x) ≡ length xs
as_many [] k x = refl
as_many (y ∷ xs) zero x = refl
as_many (y ∷ xs) (suc k) x = ap suc (as_many xs k x)

-- the number of parts stays the same
pub as_many_left : (s end : Taking) (order : List ℕ) → Leads s order end → length end.left ≡ length s.left
as_many_left s end [] leads = ap (λ (x : Taking). length x.left) (sym leads)
as_many_left s end (k ∷ order) leads =
    as_many_left (after_taking s k leads.0.event leads.0.rest) end order leads.1 ∙ as_many s.left k leads.0.rest

-- each list has as many items or fewer
abbrev pub AreShorter : List (List Event) → List (List Event) → Type 0
AreShorter [] others = Unit {0}
AreShorter (events ∷ left) [] = ⊥
AreShorter (events ∷ left) (other ∷ others) = (length events ≤ length other) × AreShorter left others

same_shorter : (left : List (List Event)) → AreShorter left left
same_shorter [] = tt
same_shorter (events ∷ left) = (omega arith, same_shorter left)

one_shorter : (left others : List (List Event)) (k : ℕ) (e : Event) (rest : List Event) → slice_get left k ≡ Some (e ∷ rest)
    → AreShorter left others → AreShorter (slice_set left k rest) others
one_shorter [] others k e rest at h = none_is_some at
one_shorter (events ∷ left) [] k e rest at h = absurd h
one_shorter (events ∷ left) (other ∷ others) zero e rest at h =
    let many : length events ≡ suc (length rest) = ap length (same_inside at) in
    let few : length events ≤ length other = h.0 in
    (omega arith, h.1)
one_shorter (events ∷ left) (other ∷ others) (suc k) e rest at h = (h.0, one_shorter left others k e rest at h.1)

shorter_on : (s end : Taking) (order : List ℕ) (others : List (List Event)) → Leads s order end → AreShorter s.left others
    → AreShorter end.left others
shorter_on s end [] others leads h = subst (λ (x : Taking). AreShorter x.left others) leads h
shorter_on s end (k ∷ order) others leads h =
    shorter_on (after_taking s k leads.0.event leads.0.rest) end order others leads.1
    (one_shorter s.left others k leads.0.event leads.0.rest leads.0.at h)

pub shorter_left : (s end : Taking) (order : List ℕ) → Leads s order end → AreShorter end.left s.left
shorter_left s end order leads = shorter_on s end order s.left leads (same_shorter s.left)
