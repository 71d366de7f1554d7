-- The step that a line names is the next of its kind.
use Rattle.std.proofs.Common.{◌≡◌, ℕ, None, Some, Option, List, [], ◌∷◌, refl, sym, ap, ◌∙◌, subst, bytes_eq, codes, slice_get, if◌then◌else◌}
use Rattle.run_defs.specs.Simulation.{ThreadState}
use Rattle.nook_data.specs.declared.calls.Op.{Op}
use Rattle.nook_data.specs.declared.steps.Step.{Step}
use Rattle.nook_data.specs.declared.steps.Step.TheVariants as step
use Rattle.part_laws.proofs.Indices.{split}
use Rattle.run_laws.proofs.Naming.{named_by, named_by_words}
use Rattle.run_laws.specs.Audit.{Section, arrival_of, context_in, if_burst, if_entered, if_invoked, invocation_by, step_named, word_at}
use Rattle.run_laws.specs.Fitting.{IsNext}
use Rattle.nook_data.proofs.Options.{none_is_some, same_inside}

-- an invocation by a thread has that thread's number
is_invocation : (thread : ℕ) (q : Option ThreadState) (s : Step) → invocation_by thread q ≡ Some s → (o : Op) × (s ≡ step.Invoke thread o)
is_invocation thread None s h = none_is_some h
is_invocation thread (Some t) s h = by_rest t.rest h
  where
    by_rest : (rest : List (ℕ × Op)) → elim rest as (λ x. Option Step) [ [] ↦ None | (o ∷ more) ↦ Some (step.Invoke thread o.1) ] ≡ Some s
        → (o : Op) × (s ≡ step.Invoke thread o)
    by_rest [] e = none_is_some e
    by_rest (o ∷ more) e = (o.1, sym (same_inside e))

invoked_next : (s : Section) (context : Option ℕ) (taken : Step) → if_invoked s.threads context ≡ Some taken → IsNext s taken
invoked_next s None taken h = none_is_some h
invoked_next s (Some thread) taken h =
    let is = is_invocation thread (slice_get s.threads thread) taken h in
    subst (IsNext s) (sym is.1) (h ∙ ap {B = Option Step} (λ (x : Step). Some x) is.1)

entered_next : (s : Section) (context : Option ℕ) (taken : Step) → if_entered context ≡ Some taken → IsNext s taken
entered_next s None taken h = none_is_some h
entered_next s (Some context) taken h = subst (IsNext s) (same_inside h) tt

burst_next : (s : Section) (context : Option ℕ) (taken : Step) → if_burst context ≡ Some taken → IsNext s taken
burst_next s None taken h = none_is_some h
burst_next s (Some context) taken h = subst (IsNext s) (same_inside h) tt

arrived_next : (s : Section) (taken : Step) → arrival_of s.seat.coming ≡ Some taken → IsNext s taken
arrived_next s taken h = by_coming s.seat.coming refl
  where
    by_coming : (coming : List (List ℕ)) → s.seat.coming ≡ coming → IsNext s taken
    by_coming [] e = none_is_some (sym (ap arrival_of e) ∙ h)
    by_coming (frame ∷ coming) e =
        let is : step.Arrive frame ≡ taken = same_inside (sym (ap arrival_of e) ∙ h) in
        subst (IsNext s) is (ap arrival_of e)

words_next : (s : Section) (second third fourth : List ℕ) (taken : Step) → named_by s second third fourth ≡ Some taken → IsNext s taken
words_next s second third fourth taken h = split (bytes_eq second (codes "invoke"))
    (λ e. invoked_next s (context_in (codes "t") fourth) taken (rw e at h))
    (λ e. not_invoke (rw e at h))
  where
    not_stage : (if bytes_eq second (codes "arrive") then arrival_of s.seat.coming else None) ≡ Some taken → IsNext s taken
    not_stage k = split (bytes_eq second (codes "arrive"))
        (λ e. arrived_next s taken (rw e at k))
        (λ e. none_is_some (rw e at k))

    not_burst : (if bytes_eq second (codes "stage") then Some step.Stage else if bytes_eq second (codes "arrive") then arrival_of s.seat.coming else None) ≡ Some taken
        → IsNext s taken
    not_burst k = split (bytes_eq second (codes "stage"))
        (λ e. subst (IsNext s) (same_inside (rw e at k)) tt)
        (λ e. not_stage (rw e at k))

    not_enter : (if bytes_eq second (codes "burst") then if_burst (context_in (codes "x") third)
        else if bytes_eq second (codes "stage") then Some step.Stage else if bytes_eq second (codes "arrive") then arrival_of s.seat.coming else None) ≡ Some taken
        → IsNext s taken
    not_enter k = split (bytes_eq second (codes "burst"))
        (λ e. burst_next s (context_in (codes "x") third) taken (rw e at k))
        (λ e. not_burst (rw e at k))

    not_invoke : (if bytes_eq second (codes "enter") then if_entered (context_in (codes "x") fourth)
        else if bytes_eq second (codes "burst") then if_burst (context_in (codes "x") third)
        else if bytes_eq second (codes "stage") then Some step.Stage else if bytes_eq second (codes "arrive") then arrival_of s.seat.coming else None) ≡ Some taken
        → IsNext s taken
    not_invoke k = split (bytes_eq second (codes "enter"))
        (λ e. entered_next s (context_in (codes "x") fourth) taken (rw e at k))
        (λ e. not_enter (rw e at k))

pub named_next : (s : Section) (line : List ℕ) (taken : Step) → step_named s line ≡ Some taken → IsNext s taken
named_next s line taken h = words_next s (word_at 1 line) (word_at 2 line) (word_at 3 line) taken (sym (named_by_words s line) ∙ h)
