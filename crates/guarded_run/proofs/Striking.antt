-- A scenario in which one part was given a fault.
use Rattle.std.proofs.Common.{◌≡◌, refl, sym, ap, ℕ, List, Some}
use Rattle.std.specs.Prelude.{slice_get, slice_set}
use Rattle.nook_data.specs.Members.{struck, struck_parts, with_fault}
use Rattle.nook_data.specs.declared.scenario.Fault.{Fault}
use Rattle.nook_data.specs.declared.scenario.PartSpec.{PartSpec}
use Rattle.nook_data.specs.declared.scenario.Scenario.{Scenario}

struck_is : (parts : List PartSpec) (index : ℕ) (fault : Fault) (part : PartSpec) → slice_get parts index ≡ Some part
    → struck_parts parts index fault ≡ slice_set parts index (with_fault fault part)
struck_is parts index fault part e = rw e refl

pub struck_by : (scenario : Scenario) (index : ℕ) (fault : Fault) (part : PartSpec) → slice_get scenario.parts index ≡ Some part
    → record scenario { parts = slice_set scenario.parts index (with_fault fault part) } ≡ struck scenario index fault
struck_by scenario index fault part e =
    ap (λ (parts : List PartSpec). record scenario { parts = parts }) (sym (struck_is scenario.parts index fault part e))
