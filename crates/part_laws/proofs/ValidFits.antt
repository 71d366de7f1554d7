use Rattle.nook_data.specs.Valid.{IsValidPart}
use Rattle.nook_data.specs.declared.scenario.PartSpec.{PartSpec}
use Rattle.part_laws.specs.Fit.{IsFitSpec}

-- the image of a valid part fits its memory
pub valid_fits : (spec : PartSpec) → IsValidPart spec → IsFitSpec spec
valid_fits spec v = record { text = v.image.text.0; initial = v.image.initial.0 }
