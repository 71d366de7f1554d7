-- The contexts of a domain, and the service that a context requests.
use Rattle.std.proofs.Common.{◌≡◌, ◌∙◌, ℕ, zero, suc, List, [], ◌∷◌, Option, None, Some, Result, refl, slice_index_or}
use Rattle.nook_data.specs.declared.classes.Class.{Class}
use Rattle.nook_data.specs.declared.entries.Entry.{Entry}
use Rattle.nook_data.specs.declared.machine.BadParam.{BadParam}
use Rattle.nook_data.specs.declared.machine.Context.{Context}
use Rattle.nook_data.specs.declared.machine.Service.{Service}
use Rattle.part_defs.specs.Domain.{context_of}
use Rattle.machine_defs.specs.Services.{checked}

-- the entry at a context's index
pub context_at : (contexts : List (Option Context)) (context : ℕ) → slice_index_or contexts context None ≡ context_of context contexts
context_at [] zero = refl
context_at [] (suc context) = refl
context_at (x ∷ contexts) zero = refl
context_at (x ∷ contexts) (suc context) = context_at contexts context

-- of an equal class and equal entries the same service is requested
pub checked_same : (reported : Result Service BadParam) (number first second : ℕ) (c k : Class) (es fs : List Entry) → reported ≡ checked number first second c es → c ≡ k → es ≡ fs → reported ≡ checked number first second k fs
checked_same reported number first second c k es fs is class entries = rw (← class, ← entries) is
