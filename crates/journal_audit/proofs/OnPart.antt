-- The operations of a script on one part.
use Rattle.std.proofs.Common.{◌≡◌, ℕ, true, Some, List, [], ◌∷◌, slice_get, refl, ap, filter, eqb-true}
use Rattle.run_laws.specs.Audit.{is_on}
use Rattle.nook_data.specs.declared.calls.Op.{Op}
use Rattle.part_laws.proofs.Indices.{some_same}
use Rattle.journal_audit.specs.Sections.{is_at}

-- the first operation, if it is on the part
pub next_on : (part : ℕ) (ops : List (ℕ × Op)) (o : ℕ × Op) → is_at part ops ≡ true → slice_get ops 0 ≡ Some o
    → (more : List (ℕ × Op)) × (filter (is_on part) ops ≡ (part, o.1) ∷ more)
next_on part [] o h g = absurd cc
next_on part (first ∷ ops) o h g =
    let same : first ≡ o = some_same first o g in
    let on : first.0 ≡ part = eqb-true first.0 part h in
    (filter (is_on part) ops, rw h (ap {B = List (ℕ × Op)} (λ (x : ℕ × Op). x ∷ filter (is_on part) ops) (rw (← same, ← on) refl)))
