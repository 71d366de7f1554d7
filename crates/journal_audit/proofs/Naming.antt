-- The step that a line names by its second word.
use Rattle.std.proofs.Common.{◌≡◌, ℕ, Bool, true, false, Some, None, Option, List, Result, Ok, Err, IfOk, bytes_eq, codes, refl, sym, ap, ◌∙◌}
use Rattle.run_laws.specs.Audit.{Section, arrival_of, context_in, if_burst, if_entered, if_invoked, step_named, word_at}
use Rattle.nook_data.specs.declared.steps.Step.{Step}
use Rattle.nook_data.specs.declared.steps.Step.TheVariants as step
use Rattle.nook_data.specs.declared.memory.NoMemory.{NoMemory}

pub same_words : {says : Bool} {a b x y : List ℕ} → says ≡ bytes_eq a b → a ≡ x → b ≡ y → says ≡ bytes_eq x y
same_words {b = b} {x = x} h e f = h ∙ ap (λ (w : List ℕ). bytes_eq w b) e ∙ ap (λ (w : List ℕ). bytes_eq x w) f

pub named_invocation : (s : Section) (line : List ℕ) → true ≡ bytes_eq (word_at 1 line) (codes "invoke")
    → step_named s line ≡ if_invoked s.threads (context_in (codes "t") (word_at 3 line))
unfolding step_named
named_invocation s line a = rw (← a) refl

pub named_entry : (s : Section) (line : List ℕ) → false ≡ bytes_eq (word_at 1 line) (codes "invoke")
    → true ≡ bytes_eq (word_at 1 line) (codes "enter") → step_named s line ≡ if_entered (context_in (codes "x") (word_at 3 line))
unfolding step_named
named_entry s line a b = rw (← a, ← b) refl

pub named_burst : (s : Section) (line : List ℕ) → false ≡ bytes_eq (word_at 1 line) (codes "invoke")
    → false ≡ bytes_eq (word_at 1 line) (codes "enter") → true ≡ bytes_eq (word_at 1 line) (codes "burst")
    → step_named s line ≡ if_burst (context_in (codes "x") (word_at 2 line))
unfolding step_named
named_burst s line a b c = rw (← a, ← b, ← c) refl

pub named_stage : (s : Section) (line : List ℕ) → false ≡ bytes_eq (word_at 1 line) (codes "invoke")
    → false ≡ bytes_eq (word_at 1 line) (codes "enter") → false ≡ bytes_eq (word_at 1 line) (codes "burst")
    → true ≡ bytes_eq (word_at 1 line) (codes "stage") → step_named s line ≡ Some step.Stage
unfolding step_named
named_stage s line a b c d = rw (← a, ← b, ← c, ← d) refl

pub named_arrival : (s : Section) (line : List ℕ) → false ≡ bytes_eq (word_at 1 line) (codes "invoke")
    → false ≡ bytes_eq (word_at 1 line) (codes "enter") → false ≡ bytes_eq (word_at 1 line) (codes "burst")
    → false ≡ bytes_eq (word_at 1 line) (codes "stage") → true ≡ bytes_eq (word_at 1 line) (codes "arrive")
    → step_named s line ≡ arrival_of s.seat.coming
unfolding step_named
named_arrival s line a b c d e = rw (← a, ← b, ← c, ← d, ← e) refl

pub named_nothing : (s : Section) (line : List ℕ) → false ≡ bytes_eq (word_at 1 line) (codes "invoke")
    → false ≡ bytes_eq (word_at 1 line) (codes "enter") → false ≡ bytes_eq (word_at 1 line) (codes "burst")
    → false ≡ bytes_eq (word_at 1 line) (codes "stage") → false ≡ bytes_eq (word_at 1 line) (codes "arrive")
    → step_named s line ≡ None
unfolding step_named
named_nothing s line a b c d e = rw (← a, ← b, ← c, ← d, ← e) refl

-- the step that is found is the one that the line names
pub found_named : (r : Result (Option Step) NoMemory) (found named : Option Step) → IfOk r (λ step. step ≡ found) → named ≡ found
    → IfOk r (λ step. step ≡ named)
found_named (Ok step) found named h e = h ∙ sym e
found_named (Err x) found named h e = tt
