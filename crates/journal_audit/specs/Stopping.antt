-- Why an audit stops.
use Rattle.std.specs.Prelude.{◌≡◌, ℕ, Option, Some, Result, Ok, Err}
use Rattle.journal_audit.specs.declared.stop.Stop.{Stop}
use Rattle.journal_audit.specs.declared.stop.Stop.TheVariants as stop

-- if the audit stops at a line, this holds of its number
abbrev pub OnUnfit : {T : Type 0} → Result T Stop → (ℕ → Type 0) → Type 0
OnUnfit (Ok value) holds = Unit {0}
OnUnfit (Err (stop.Unfit line)) holds = holds line
OnUnfit (Err stop.NoMemory) holds = Unit {0}

-- a check that was to find something from here on: if it continues, this holds; if it stops at a line, that is the line
-- to be found
abbrev pub Leads : {T : Type 0} → Result T Stop → Option ℕ → Type 0 → Type 0
Leads (Ok value) found holds = holds
Leads (Err (stop.Unfit line)) found holds = found ≡ Some line
Leads (Err stop.NoMemory) found holds = Unit {0}

-- a check continues, and what is to be found is the same; or it stops at a line, which is the one to be found
abbrev pub Checks : {T : Type 0} → Result T Stop → Option ℕ → Option ℕ → Type 0
Checks result before after = Leads result before (before ≡ after)
