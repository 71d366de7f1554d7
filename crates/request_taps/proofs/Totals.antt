-- What a bus reports at the end is what the definition of the totals says.
use Rattle.std.proofs.Common.{◌≡◌, ◌∙◌, ap, sym, refl, ℕ, ◌+◌, ◌<◌, ◌≤◌, min, Bool, true, false, nat_lt, nat_le, if◌then◌else◌, List, [], ◌∷◌, map, inl, inr, arith}
use Rattle.std.proofs.lemmas.Bool.{lt-ltb, le-ltb, le-leb, lt-leb, cases_lt}
use Rattle.std.proofs.lemmas.List.{map-id}
use Rattle.request_taps.proofs.Taps.{fused}
use Rattle.std.proofs.lemmas.Simd.{map-map}
use Rattle.nook_io.specs.Listening.{Listening, heard, hears, count_if}
use Rattle.nook_io.specs.Listening.{heard_events, tap_total, tap_result}
use Rattle.nook_data.specs.declared.steps.Event.{Event}
use Rattle.request_taps.specs.Bus.{result_of, settled, heard_below, after_hearing, after_hearing_all}
use Rattle.request_taps.specs.declared.tap.Tap.{Tap}
use Rattle.request_taps.specs.declared.tap.Tap.TheVariants as tap

-- one tap after events
after_hearing_each : List (ℕ × Event) → Tap Listening → Tap Listening
after_hearing_each [] t = t
after_hearing_each (e ∷ published) t = after_hearing_each published (after_hearing e.0 e.1 t)

heard_all_each : (published : List (ℕ × Event)) (taps : List (Tap Listening)) → after_hearing_all published taps ≡ map (after_hearing_each published) taps
unfolding after_hearing_all after_hearing_each
heard_all_each [] taps = sym (map-id taps)
heard_all_each (e ∷ published) taps =
    heard_all_each published (map (after_hearing e.0 e.1) taps) ∙ map-map (after_hearing_each published) (after_hearing e.0 e.1) taps

-- a dropped listener hears nothing more
heard_dropped : (published : List (ℕ × Event)) (total : ℕ) → after_hearing_each published (tap.Dropped total) ≡ tap.Dropped total
unfolding after_hearing_each
heard_dropped [] total = refl
heard_dropped (e ∷ published) total = heard_dropped published total

-- what a listener hears does not depend on its total
heard_events_same : (l : Listening) (total : ℕ) (published : List (ℕ × Event)) → heard_events (record l { total = total }) published ≡ heard_events l published
unfolding heard_events
heard_events_same l total [] = refl
heard_events_same l total (e ∷ published) = ap (λ n. count_if (hears l e.0 e.1) n) (heard_events_same l total published)

settled_below : (l : Listening) → l.total < l.limit → settled l ≡ tap.Present l
settled_below l below = rw (lt-ltb l.total l.limit below) refl

settled_at : (l : Listening) → l.limit ≤ l.total → settled l ≡ tap.Dropped l.total
settled_at l at = rw (le-ltb l.total l.limit at) refl

heard_is : (part : ℕ) (event : Event) (l : Listening) → l.total < l.limit → heard_below part event l ≡ heard part event l
heard_is part event l below = rw (lt-ltb l.total l.limit below) refl

-- a total that is at most its limit needs no separate case
reached : (limit n more : ℕ) → n ≤ limit → (if nat_le limit n then n else min limit (n + more)) ≡ min limit (n + more)
reached limit n more h = elim (cases_lt n limit) [
  | inr at ↦ rw (le-leb limit n at) (omega arith)
  | inl below ↦ rw (lt-leb limit n below) refl
]

counted : (limit n more : ℕ) (hit : Bool) → n < limit
    → (if nat_le limit (count_if hit n) then count_if hit n else min limit (count_if hit n + more)) ≡ min limit (n + count_if hit more)
counted limit n more true h = reached limit (n + 1) more (omega arith) ∙ omega arith
counted limit n more false h = reached limit n more (omega arith)

total_below : (l : Listening) (published : List (ℕ × Event)) → l.total < l.limit → tap_total l published ≡ min l.limit (l.total + heard_events l published)
total_below l published below = reached l.limit l.total (heard_events l published) (omega arith)

total_at : (l : Listening) (published : List (ℕ × Event)) → l.limit ≤ l.total → tap_total l published ≡ l.total
total_at l published at = rw (le-leb l.limit l.total at) refl

result_at : (l : Listening) (published : List (ℕ × Event)) → l.limit ≤ l.total → tap_result l published ≡ (l.total, false)
result_at l published at = rw (total_at l published at, le-ltb l.total l.limit at) refl

-- one event is counted
heard_total : (part : ℕ) (event : Event) (l : Listening) (published : List (ℕ × Event)) → l.total < l.limit
    → tap_total (heard part event l) published ≡ tap_total l ((part, event) ∷ published)
unfolding heard_events
heard_total part event l published below =
    rw (heard_events_same l (count_if (hears l part event) l.total) published)
    (counted l.limit l.total (heard_events l published) (hears l part event) below)
    ∙ sym (total_below l ((part, event) ∷ published) below)

first_total : (l : Listening) → result_of (after_hearing_each [] (settled l)) ≡ tap_result l []
unfolding after_hearing_each heard_events
first_total l = elim (cases_lt l.total l.limit) [
  | inr at ↦ rw (settled_at l at) (sym (result_at l [] at))
  | inl below ↦
      let total : tap_total l [] ≡ l.total = total_below l [] below ∙ omega arith in
      rw (settled_below l below, total, lt-ltb l.total l.limit below) refl
]

next_total : (part : ℕ) (event : Event) (published : List (ℕ × Event))
    → ((l : Listening) → result_of (after_hearing_each published (settled l)) ≡ tap_result l published)
    → (l : Listening) → result_of (after_hearing_each ((part, event) ∷ published) (settled l)) ≡ tap_result l ((part, event) ∷ published)
unfolding after_hearing_each
next_total part event published each l = elim (cases_lt l.total l.limit) [
  | inr at ↦ rw (settled_at l at, heard_dropped published l.total) (sym (result_at l ((part, event) ∷ published) at))
  | inl below ↦
      rw (settled_below l below, heard_is part event l below)
      (each (heard part event l) ∙ ap (λ (n : ℕ). (n, nat_lt n l.limit)) (heard_total part event l published below))
]

one_total : (published : List (ℕ × Event)) (l : Listening) → result_of (after_hearing_each published (settled l)) ≡ tap_result l published
one_total [] l = first_total l
one_total (e ∷ published) l = next_total e.0 e.1 published (one_total published) l

pub all_totals : (listeners : List Listening) (published : List (ℕ × Event))
    → map result_of (after_hearing_all published (map settled listeners)) ≡ map (λ l. tap_result l published) listeners
all_totals listeners published =
    ap (λ z. map result_of z) (heard_all_each published (map settled listeners))
    ∙ fused settled (after_hearing_each published) result_of (λ l. tap_result l published) (one_total published) listeners
