-- Whether an operation is a thread's next.
use Rattle.std.proofs.Common.{◌≡◌, ℕ, Bool, true, false, is_some, Option, Some, None, List, [], ◌∷◌, drop, slice_get, refl, sym, ap, ap₂, ◌∙◌}
use Rattle.std.specs.Bool.{Decides}
use Rattle.event_order.specs.Bare.{IsNextHere, waiting_for}
use Rattle.event_order.specs.declared.callers.OpenCall.{OpenCall}
use Rattle.nook_data.proofs.Options.{none_is_some, same_inside}
use Rattle.nook_data.specs.declared.calls.Op.{Op}
use Rattle.run_defs.specs.Simulation.{ThreadState}

abbrev pub caller_of : List (ℕ × Op) → Option OpenCall → ThreadState
caller_of rest w = record { rest = rest; waiting = waiting_for w; answers = [] }

free : (w : Option OpenCall) → is_some w ≡ false → waiting_for w ≡ None
free None h = refl
free (Some w) h = absurd (cc)

first_is : (rest : List (ℕ × Op)) (o : ℕ × Op) → slice_get rest 0 ≡ Some o → rest ≡ o ∷ drop 1 rest
first_is [] o at = none_is_some at
first_is (x ∷ rest) o at = ap {B = List (ℕ × Op)} (λ (y : ℕ × Op). y ∷ rest) (same_inside at)

pair_is : (o : ℕ × Op) (part : ℕ) (op : Op) → o.0 ≡ part → o.1 ≡ op → o ≡ (part, op)
pair_is o part op p q = ap₂ {C = ℕ × Op} (λ (a : ℕ) (b : Op). (a, b)) p q

-- a thread with no open call whose next operation is on the part: it is this one if the operations are the same
pub decided : (rest : List (ℕ × Op)) (w : Option OpenCall) (t : ThreadState) (part : ℕ) (op : Op) (o : ℕ × Op) (same : Bool)
    → caller_of rest w ≡ t → is_some w ≡ false → slice_get rest 0 ≡ Some o → o.0 ≡ part → Decides same (o.1 ≡ op)
    → Decides same (IsNextHere t part op)
decided rest w t part op o same is none at on d = (
  λ h. record {
    free = sym (ap (λ (x : ThreadState). x.waiting) is) ∙ free w none;
    more = drop 1 rest;
    next = sym (ap (λ (x : ThreadState). x.rest) is)
        ∙ (first_is rest o at ∙ ap {B = List (ℕ × Op)} (λ (y : ℕ × Op). y ∷ drop 1 rest) (pair_is o part op on (d.0 h)));
  },
  λ n. d.1 (ap (λ (y : ℕ × Op). y.1) (same_inside (sym at
      ∙ ap (λ (r : List (ℕ × Op)). slice_get r 0) (ap (λ (x : ThreadState). x.rest) is ∙ n.next)))),
)
