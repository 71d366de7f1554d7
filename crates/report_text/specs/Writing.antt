-- How writing a text changes a sink.
use Rattle.std.specs.Prelude.{◌≡◌, ℕ, suc, ◌<◌, ◌≤◌, List, [], ◌∷◌, ◌++◌, Result, OnOk, OnErr, IsErrOf, IsOk, length}
use Rattle.std.specs.Io.KnownBytes.{Appends}
use Rattle.nook_io.specs.Causes.{AppendsPrefix, Rose}
use Rattle.nook_io.specs.Changes.{Change}
use Rattle.report_text.specs.declared.write.WriteStop.{WriteStop}
use Rattle.report_text.specs.declared.write.WriteStop.TheVariants.{Fault, NoMemory}

-- a text was written completely, or only a prefix of it; it ends at the sink's first error, which raises the sink's
-- count of I/O errors by one; nothing else changes the count
pub record Wrote {T : Type 0} (sink : Change) (result : Result T WriteStop) (text : List ℕ) : Type 0 where
  pub ok : OnOk result (Appends sink.before.contents sink.after.contents text)
  pub err : OnErr result (AppendsPrefix sink.before.contents sink.after.contents text)
  pub later : sink.before.errors ≤ sink.after.errors
  pub fault : IsErrOf result Fault → Rose sink.before.errors sink.after.errors
  pub kept : OnOk result (sink.after.errors ≡ sink.before.errors)
  pub no_memory : IsErrOf result NoMemory → sink.after.errors ≡ sink.before.errors

-- a prefix of a text was written, and `left` remains
pub record Left (sink : Change) (text left : List ℕ) : Type 0 where
  pub front : List ℕ
  pub gained : Appends sink.before.contents sink.after.contents front
  pub whole : front ++ left ≡ text

-- nothing is written, and the buffer stays as it was
pub record Waits {T : Type 0} (sink : Change) (result : Result T WriteStop) (text left : List ℕ) : Type 0 where
  pub ok : IsOk result
  pub held : sink.after.contents ≡ sink.before.contents
  pub count : sink.after.errors ≡ sink.before.errors
  pub same : left ≡ text

-- a buffer of 16,384 bytes or more is written and emptied, and a shorter one waits; one that was not written completely
-- stays as it was; an I/O error raises the sink's count of them by one, and nothing else changes the count
pub record Spilled {T : Type 0} (sink : Change) (result : Result T WriteStop) (text left : List ℕ) : Type 0 where
  pub many : 16384 ≤ length text → OnOk result (left ≡ [])
  pub few : length text < 16384 → Waits sink result text left
  pub ok : OnOk result (Left sink text left)
  pub err : OnErr result (AppendsPrefix sink.before.contents sink.after.contents text)
  pub same : OnErr result (left ≡ text)
  pub later : sink.before.errors ≤ sink.after.errors
  pub fault : IsErrOf result Fault → Rose sink.before.errors sink.after.errors
  pub kept : OnOk result (sink.after.errors ≡ sink.before.errors)
  pub no_memory : IsErrOf result NoMemory → sink.after.errors ≡ sink.before.errors

-- the texts of items one after another, numbered from `number` on
abbrev pub each_text : {T : Type 0} → (ℕ → T → List ℕ) → ℕ → List T → List ℕ
each_text text number [] = []
each_text text number (item ∷ items) = text number item ++ each_text text (suc number) items
