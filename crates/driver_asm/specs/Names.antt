use Rattle.std.specs.Prelude.{ℕ}
use Rattle.serde_json.specs.Data.{Data, string}
use Rattle.asm_defs.specs.ImageText.{hex_text}

-- a word as a text of eight digits
abbrev pub hex_data : ℕ → Data
hex_data word = string (hex_text 8 word)
