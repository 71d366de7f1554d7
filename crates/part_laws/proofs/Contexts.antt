use Rattle.std.proofs.Common.{◌≡◌, ◌⊎◌, ℕ, false, Option, Some, None, is_some, List, length, get_or, slice_get, slice_set, sym, refl, ap, ◌∙◌, inl, inr, arith}
use Rattle.std.proofs.lemmas.Bool.{cases_eq}
use Rattle.std.proofs.lemmas.Option.{slice_get-get_or}
use Rattle.nook_data.specs.declared.machine.Context.{Context}
use Rattle.part_defs.specs.Domain.{context_of}
use Rattle.part_defs.proofs.PartCases.{no_context, with_result}
use Rattle.part_laws.specs.Facts.{At}
use Rattle.part_laws.proofs.Indices.{get_set_same, get_set_other}

-- Whether the shadow's own context is Inside.

pub context_at : (cs : List (Option Context)) (k : ℕ) (x : Option Context) → At cs k x → context_of k cs ≡ x
context_at cs k x h = rw h refl

pub context_same : (cs ds : List (Option Context)) (k : ℕ) → slice_get cs k ≡ slice_get ds k → context_of k cs ≡ context_of k ds
context_same cs ds k h = rw h refl

pub shadow_at : (cs : List (Option Context)) → length cs ≡ 17 → At cs 16 (get_or cs 16 no_context)
shadow_at cs l = slice_get-get_or cs 16 no_context (omega (arith, l))

-- the shadow's context is set
pub shadow_set : (cs : List (Option Context)) (x : Option Context) → length cs ≡ 17 → context_of 16 (slice_set cs 16 x) ≡ x
shadow_set cs x l = context_at (slice_set cs 16 x) 16 x (get_set_same cs 16 (get_or cs 16 no_context) x (shadow_at cs l))

pub undriven : (cs : List (Option Context)) → length cs ≡ 17 → is_some (context_of 16 (slice_set cs 16 no_context)) ≡ false
undriven cs l = ap is_some (shadow_set cs no_context l)

-- another context is set
pub other_set : (cs : List (Option Context)) (k : ℕ) (x : Option Context) → (16 ≡ k → ⊥) → is_some (context_of 16 (slice_set cs k x)) ≡ is_some (context_of 16 cs)
other_set cs k x n = ap is_some (context_same (slice_set cs k x) cs 16 (get_set_other cs 16 k x n))

-- a context is set, and stays free or Inside
pub driven_set : (cs : List (Option Context)) (k : ℕ) (x : Option Context) → length cs ≡ 17 → is_some x ≡ is_some (context_of k cs)
    → is_some (context_of 16 (slice_set cs k x)) ≡ is_some (context_of 16 cs)
driven_set cs k x l s = by_position (cases_eq 16 k)
  where
    by_position : (16 ≡ k) ⊎ (16 ≡ k → ⊥) → is_some (context_of 16 (slice_set cs k x)) ≡ is_some (context_of 16 cs)
    by_position (inl e) = ap (λ j. is_some (context_of 16 (slice_set cs j x))) (sym e) ∙ ap is_some (shadow_set cs x l) ∙ s ∙ ap (λ j. is_some (context_of j cs)) (sym e)
    by_position (inr n) = other_set cs k x n

pub result_some : (word : ℕ) (o : Option Context) → is_some (with_result word o) ≡ is_some o
result_some word None = refl
result_some word (Some x) = refl
