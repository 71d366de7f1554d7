use Rattle.std.proofs.Common.{ap, ◌∙◌}
use Rattle.serde_json.proofs.Views.{view-Array}
use Rattle.serde_json.specs.Data.{array}
use Rattle.serde_json.specs.View.{items_of}
use Rattle.driver_asm.proofs.WordItems.{items_are}
use Rattle.driver_asm.proofs.json.words_value.Goals as goal

pub returns : goal.returns
returns c =
    view-Array c.in_ok-hex_values.field-0
    ∙ ap (λ ds. array (items_of ds)) c.in_ok-hex_values.ensures
    ∙ ap array (items_are c.args.words.now)
