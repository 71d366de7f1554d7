-- Seats in lists, and their steps as steps of the list of views.
use Rattle.std.proofs.Common.{◌≡◌, ◌⊎◌, ℕ, zero, suc, ◌+◌, ◌<◌, ◌≤◌, Some, List, [], ◌∷◌, ◌++◌, map, take, length, get_or, slice_get, subst, sym, refl, ap, ◌∙◌, inl, inr, arith, length-set}
use Rattle.std.specs.Prelude.{slice_set}
use Rattle.std.specs.Option.{option_map}
use Rattle.std.proofs.lemmas.List.{map-set, get_or_append_left, get_or_push, length_push, take-take, take_at}
use Rattle.std.proofs.lemmas.Option.{slice_get_read, slice_get-map}
use Rattle.nook_data.specs.declared.scenario.PartSpec.{PartSpec}
use Rattle.desk_like.specs.Desks.{DeskView}
use Rattle.app_threads.specs.Steps.{IsStepAt, TakesInOne}
use Rattle.app_threads.specs.Workers.{IsSeatAt}
use Rattle.app_threads.proofs.Listed.{get_set_other, get_set_same, same_at, same_or_other, take_get}

pub step_at : {D S : Type 0} (spec : D → PartSpec) (view : S → DeskView) (ds : List D) (ss : List S) (i : ℕ) (d : D) (s t : S) (Ends : PartSpec → DeskView → DeskView → Type 0)
    → i < length ds → length ss ≡ length ds → d ≡ get_or ds i d → s ≡ get_or ss i s → Ends (spec d) (view (get_or ss i s)) (view t)
    → IsStepAt (map spec ds) (map view ss) (map view (slice_set ss i t)) i Ends
step_at spec view ds ss i d s t Ends l n a b e = record {
  spec = spec d;
  old = view (get_or ss i s);
  new = view t;
  spec_there = slice_get-map spec ds i ∙ ap (option_map spec) (slice_get_read ds (length ds) i d refl l a);
  old_there = slice_get-map view ss i ∙ ap (option_map view) (slice_get_read ss (length ds) i s (sym n) l b) ∙ ap (λ x. Some (view x)) b;
  news_are = map-set view ss i t;
  ends = e;
}

-- the same for a desk that is read from the list
pub step_there : {D S : Type 0} (spec : D → PartSpec) (view : S → DeskView) (ds : List D) (ss : List S) (i : ℕ) (d : D) (s t : S) (Ends : PartSpec → DeskView → DeskView → Type 0)
    → i < length ds → length ss ≡ length ds → d ≡ get_or ds i d → s ≡ get_or ss i s → Ends (spec (get_or ds i d)) (view (get_or ss i s)) (view t)
    → IsStepAt (map spec ds) (map view ss) (map view (slice_set ss i t)) i Ends
step_there spec view ds ss i d s t Ends l n a b e = step_at spec view ds ss i (get_or ds i d) s t Ends l n (ap (get_or ds i) a) b e

-- ---- seats that are made one by one

-- this many of the first desks have their seats
abbrev pub AreSeatsSoFar : {D S : Type 0} → (D → S → Type 0) → List D → List S → ℕ → Type 0
AreSeatsSoFar {D} {S} is_seat desks seats count =
    (length seats ≡ count)
    × ((i : ℕ) (d : D) (s : S) → i < count → d ≡ get_or desks i d → s ≡ get_or seats i s → is_seat d s)

pub seats_pushed : {D S : Type 0} (is_seat : D → S → Type 0) (desks : List D) (seats : List S) (count : ℕ) (seat : S)
    → AreSeatsSoFar is_seat desks seats count → IsSeatAt is_seat desks count seat → AreSeatsSoFar is_seat desks (seats ++ seat ∷ []) (count + 1)
seats_pushed {D} {S} is_seat desks seats count seat h k = (let n = h.0 in omega (arith, length_push seats seat), λ i d s l a b. by_position i d s l a b (same_or_other i count))
  where
    by_position : (i : ℕ) (d : D) (s : S) → i < count + 1 → d ≡ get_or desks i d → s ≡ get_or (seats ++ seat ∷ []) i s → (i ≡ count) ⊎ (i ≡ count → ⊥) → is_seat d s
    by_position i d s l a b (inl e) =
        let is : s ≡ seat = b ∙ get_or_push seats seat s i (h.0 ∙ sym e) in
        subst (is_seat d) (sym is) (k d (subst (λ j. d ≡ get_or desks j d) e a))
    by_position i d s l a b (inr n) = h.1 i d s (omega arith) a (b ∙ get_or_append_left seats (seat ∷ []) s i (let m = h.0 in omega arith))

pub seats_popped : {D S : Type 0} (is_seat : D → S → Type 0) (desks : List D) (seats : List S) (count : ℕ) (seat : S)
    → AreSeatsSoFar is_seat desks (seats ++ seat ∷ []) (count + 1) → AreSeatsSoFar is_seat desks seats count × IsSeatAt is_seat desks count seat
seats_popped is_seat desks seats count seat h =
    let n : length seats ≡ count = (let m = h.0 in omega (arith, length_push seats seat)) in (
      (n, λ i d s l a b. h.1 i d s (omega arith) a (b ∙ sym (get_or_append_left seats (seat ∷ []) s i (omega arith)))),
      λ d a. h.1 count d seat (omega arith) a (sym (get_or_push seats seat seat count n)),
    )

-- ---- seats that are joined, from the last to the first

-- from this index on, another seat was joined into each seat; the other seats did not change
abbrev pub TakenFrom : ℕ → List PartSpec → List DeskView → List DeskView → List DeskView → Type 0
TakenFrom from specs olds others news =
    (length news ≡ length olds)
    × ((d : ℕ) → d < from → slice_get news d ≡ slice_get olds d)
    × ((d : ℕ) (spec : PartSpec) (v o w : DeskView) → from ≤ d → slice_get specs d ≡ Some spec → slice_get olds d ≡ Some v → slice_get others d ≡ Some o → slice_get news d ≡ Some w → TakesInOne spec v o w)

pub taken_more : (at : ℕ) (specs : List PartSpec) (olds others mids news : List DeskView) (o : DeskView) → slice_get others at ≡ Some o
    → IsStepAt specs mids news at (λ spec v w. TakesInOne spec v o w) → TakenFrom (at + 1) specs olds others mids → TakenFrom at specs olds others news
taken_more at specs olds others mids news o is s h = (
  ap length s.news_are ∙ (length-set mids at s.new ∙ h.0),
  (λ d l. unchanged d (omega arith) ∙ h.1 d (omega arith)),
  λ d spec v p w l a b c e. by_position d spec v p w l a b c e (same_or_other d at),
)
  where
    unchanged : (d : ℕ) → (d ≡ at → ⊥) → slice_get news d ≡ slice_get mids d
    unchanged d n = ap (λ (l : List DeskView). slice_get l d) s.news_are ∙ get_set_other mids d at s.new n

    by_position : (d : ℕ) (spec : PartSpec) (v p w : DeskView) → at ≤ d → slice_get specs d ≡ Some spec → slice_get olds d ≡ Some v → slice_get others d ≡ Some p → slice_get news d ≡ Some w → (d ≡ at) ⊎ (d ≡ at → ⊥) → TakesInOne spec v p w
    by_position d spec v p w l a b c e (inl q) =
        let here : slice_get news at ≡ Some s.new = ap (λ (l : List DeskView). slice_get l at) s.news_are ∙ get_set_same mids at s.old s.new s.old_there in
        let spec_is : s.spec ≡ spec = same_at specs at s.spec spec s.spec_there (subst (λ k. slice_get specs k ≡ Some spec) q a) in
        let old_is : s.old ≡ v = same_at mids at s.old v s.old_there (h.1 at (omega arith) ∙ subst (λ k. slice_get olds k ≡ Some v) q b) in
        let other_is : o ≡ p = same_at others at o p is (subst (λ k. slice_get others k ≡ Some p) q c) in
        let new_is : s.new ≡ w = same_at news at s.new w here (subst (λ k. slice_get news k ≡ Some w) q e) in
        subst (λ x. TakesInOne x v p w) spec_is (subst (λ x. TakesInOne s.spec x p w) old_is (subst (λ x. TakesInOne s.spec s.old x w) other_is (subst (λ x. TakesInOne s.spec s.old o x) new_is s.ends)))
    by_position d spec v p w l a b c e (inr n) = h.2 d spec v p w (omega arith) a b c (sym (unchanged d n) ∙ e)

-- the last item of a prefix
pub views_popped : (xs all : List DeskView) (x : DeskView) (count : ℕ) → length xs ≡ count → xs ++ x ∷ [] ≡ take (count + 1) all → (xs ≡ take count all) × (slice_get all count ≡ Some x)
views_popped xs all x count n e = (
  sym (take_at xs (x ∷ []) count n) ∙ (ap (take count) e ∙ take-take count (count + 1) all (omega arith)),
  take_get all count (count + 1) x (ap (λ (l : List DeskView). slice_get l count) (sym e) ∙ last xs count n),
)
  where
    last : (ys : List DeskView) (k : ℕ) → length ys ≡ k → slice_get (ys ++ x ∷ []) k ≡ Some x
    last [] zero m = refl
    last [] (suc k) m = absurd (omega arith)
    last (y ∷ ys) zero m = absurd (omega arith)
    last (y ∷ ys) (suc k) m = last ys k (omega arith)
