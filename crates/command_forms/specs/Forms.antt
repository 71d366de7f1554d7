-- The subcommands, including `--help` and `--version`.
use Rattle.std.specs.Prelude.{◌≡◌, ℕ, ◌≤◌, ◌==◌, ◌&&◌, nat_le, not, if◌then◌else◌, Bool, true, false, Option, Some}
use Rattle.std.specs.Prelude.{None, List, [], ◌∷◌, codes, decimal}
use Rattle.command_forms.specs.declared.words.Form.{Form}
use Rattle.command_forms.specs.declared.words.Form.TheVariants as form
use Rattle.command_forms.specs.declared.words.WaitingForm.{WaitingForm}
use Rattle.command_forms.specs.declared.words.WaitingForm.TheVariants as waiting

-- the arguments are this subcommand; numbers are decimal, without a sign or a leading zero
abbrev pub IsForm : List (List ℕ) → Form → Type 0
IsForm words form.Run = words ≡ codes "run" ∷ []
IsForm words form.RunThreads = words ≡ codes "run" ∷ codes "threads" ∷ []
IsForm words form.Asm = words ≡ codes "asm" ∷ []
IsForm words form.Dis = words ≡ codes "dis" ∷ []
IsForm words (form.Gen n) = (words ≡ codes "gen" ∷ decimal n ∷ []) × (1 ≤ n) × (n ≤ 256)
IsForm words (form.GenScenario n) = (words ≡ codes "gen" ∷ decimal n ∷ codes "scenario" ∷ []) × (1 ≤ n) × (n ≤ 256)
IsForm words form.Audit = words ≡ codes "audit" ∷ []
IsForm words form.Campaign = words ≡ codes "campaign" ∷ []
IsForm words form.Mirror = words ≡ codes "mirror" ∷ []
IsForm words form.List = words ≡ codes "list" ∷ []
IsForm words (form.Trace part burst) =
    (words ≡ codes "trace" ∷ decimal part ∷ decimal burst ∷ []) × (part ≤ 7) × (1 ≤ burst) × (burst ≤ 4294967295)
IsForm words form.Guard = words ≡ codes "guard" ∷ []
IsForm words form.GuardScenario = words ≡ codes "guard" ∷ codes "scenario" ∷ []
IsForm words form.Explore = words ≡ codes "explore" ∷ []
IsForm words form.Help = words ≡ codes "--help" ∷ []
IsForm words form.Version = words ≡ codes "--version" ∷ []

-- the arguments are no subcommand that the program knows
abbrev pub IsNoForm : List (List ℕ) → Type 0
IsNoForm words = (form : Form) → IsForm words form → ⊥

-- the subcommand that the arguments name, if any
abbrev pub Asks : List (List ℕ) → Option Form → Type 0
Asks words None = IsNoForm words
Asks words (Some form) = IsForm words form

-- the subcommand reads the source
abbrev pub is_reading : Form → Bool
is_reading form.Run = true
is_reading form.RunThreads = true
is_reading form.Asm = true
is_reading form.Dis = true
is_reading (form.Gen n) = false
is_reading (form.GenScenario n) = false
is_reading form.Audit = true
is_reading form.Campaign = true
is_reading form.Mirror = true
is_reading form.List = true
is_reading (form.Trace part burst) = true
is_reading form.Guard = true
is_reading form.GuardScenario = true
is_reading form.Explore = true
is_reading form.Help = false
is_reading form.Version = false

-- the most bytes that an input may have
abbrev pub limit_of : Form → ℕ
limit_of form.Audit = 16777216
limit_of asked = 1048576

-- nothing is read for these arguments
abbrev pub AskUnread : List (List ℕ) → Type 0
AskUnread words = (form : Form) → IsForm words form → is_reading form ≡ false

-- it never waits; only threads and mirrors wait, for their turns at a part
abbrev pub is_alone : Form → Bool
is_alone form.RunThreads = false
is_alone form.Mirror = false
is_alone asked = true

-- what these arguments ask for never waits
abbrev pub AskAlone : List (List ℕ) → Type 0
AskAlone words = (form : Form) → IsForm words form → is_alone form ≡ true

-- it has only one possible answer: threads and mirrors take their turns at a part in many orders, and the program may
-- choose how many states `explore` counts
abbrev pub has_one_answer : Form → Bool
has_one_answer form.RunThreads = false
has_one_answer form.Mirror = false
has_one_answer form.Explore = false
has_one_answer asked = true

-- what these arguments ask for has only one possible answer
abbrev pub AskOneAnswer : List (List ℕ) → Type 0
AskOneAnswer words = (form : Form) → IsForm words form → has_one_answer form ≡ true

-- the subcommand of a waiting one
abbrev pub form_for : WaitingForm → Form
form_for waiting.RunThreads = form.RunThreads
form_for waiting.Mirror = form.Mirror

-- the text begins with neither a sign nor a zero
abbrev pub is_plain : List ℕ → Bool
is_plain [] = false
is_plain (byte ∷ rest) = not (byte == 43) && not (byte == 48)

-- a number from 1 to `most` whose text is plain
abbrev pub within : ℕ → ℕ → Bool → Option ℕ
within most number plain = if nat_le 1 number && nat_le number most && plain then Some number else None
