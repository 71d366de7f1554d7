-- The call over bytes in memory, if neither side fails.
use Rattle.std.proofs.Common.{◌≡◌, ℕ, ◌<◌, ◌≤◌, nat_le, Bool, true, false, List, ◌⊎◌, inl, inr, length, Option, Some, None, refl, sym, subst, arith}
use Rattle.std.proofs.lemmas.Bool.{le-leb, leb-true}
use Rattle.nook_io.specs.Causes.{ReadsAll, Rose}
use Rattle.nook_io.specs.Listening.{Listening}
use Rattle.nooks.specs.Answers.{Answers, AnswersBy}
use Rattle.nooks.specs.Endings.{AnswersBytes, AnswersWords, IsAnswerStatus, IsWritten, ReadsFor, input_for}
use Rattle.command_forms.specs.Forms.{is_reading, limit_of}
use Rattle.nook_io.specs.Changes.{Change}
use Rattle.nooks.specs.Streams.{Input, Reads, TooLong, Whole, input_of}
use Rattle.nooks.specs.declared.program.Status.{Status}
use Rattle.nooks.specs.declared.program.Status.TheVariants as ended
use Rattle.command_forms.specs.declared.words.Form.{Form}

-- a count that is always 0 never rises
pub never_rose : Rose 0 0 → ⊥
never_rose rose = omega arith

-- what was read is what the source had
bytes_reported : (printed : List ℕ) (rest : Option (List ℕ)) (bytes : List ℕ) → ReadsAll (Some printed) rest bytes → bytes ≡ printed
bytes_reported printed None bytes read = absurd read
bytes_reported printed (Some rest) bytes read = read.0

short_input : (limit : ℕ) (bytes : List ℕ) → length bytes ≤ limit → Whole bytes ≡ input_of limit bytes
short_input limit bytes short = let e : nat_le (length bytes) limit ≡ true = le-leb (length bytes) limit short in rw e refl

is_long : (limit n : ℕ) (b : Bool) → nat_le n limit ≡ b → limit < n → b ≡ false
is_long limit n true e more = let le : n ≤ limit = leb-true n limit e in absurd (omega arith)
is_long limit n false e more = refl

long_input : (limit : ℕ) (bytes : List ℕ) → limit < length bytes → TooLong ≡ input_of limit bytes
long_input limit bytes more = let e : nat_le (length bytes) limit ≡ false = is_long limit (length bytes) _ refl more in rw e refl

read_input : (printed : List ℕ) (rest : Option (List ℕ)) (faults after limit : ℕ) (input : Input)
    → Reads (record { before = record { contents = Some printed; errors = faults }; after = record { contents = rest; errors = after } }) limit input
    → input ≡ input_of limit printed
read_input printed rest faults after limit (Whole bytes) reads =
    let e = bytes_reported printed rest bytes reads.0 in
    subst (λ b. Whole b ≡ input_of limit printed) (sym e) (short_input limit printed (subst (λ b. length b ≤ limit) e reads.1))
read_input printed rest faults after limit TooLong reads = long_input limit printed reads.0

-- what arguments that ask for no input are answered with does not depend on an input
any_input : (asked : Form) (a b : Input) (hearing : List Listening) (text : List ℕ) (status : Status) → is_reading asked ≡ false
    → Answers (Some asked) a hearing text status → Answers (Some asked) b hearing text status
any_input asked a b hearing text status e answer =
    let unread = subst (λ reads. AnswersBy reads asked a hearing text status) e answer in
    subst (λ reads. AnswersBy reads asked b hearing text status) (sym e) unread

by_reading : (asked : Form) (reading : Bool) (printed : List ℕ) (rest : Option (List ℕ)) (faults after : ℕ) (input : Input)
    (hearing : List Listening) (text : List ℕ) (status : Status) → is_reading asked ≡ reading
    → ReadsFor (Some asked) (record { before = record { contents = Some printed; errors = faults }; after = record { contents = rest; errors = after } }) input
    → Answers (Some asked) input hearing text status → Answers (Some asked) (input_for (Some asked) printed) hearing text status
by_reading asked true printed rest faults after input hearing text status e reads answer =
    subst (λ i. Answers (Some asked) i hearing text status) (read_input printed rest faults after (limit_of asked) input (reads e)) answer
by_reading asked false printed rest faults after input hearing text status e reads answer =
    any_input asked input (input_for (Some asked) printed) hearing text status e answer

of_asked : (asked : Option Form) (printed : List ℕ) (rest : Option (List ℕ)) (faults after : ℕ) (input : Input) (hearing : List Listening)
    (text : List ℕ) (status : Status)
    → ReadsFor asked (record { before = record { contents = Some printed; errors = faults }; after = record { contents = rest; errors = after } }) input
    → Answers asked input hearing text status → Answers asked (input_for asked printed) hearing text status
of_asked None printed rest faults after input hearing text status reads answer = answer
of_asked (Some asked) printed rest faults after input hearing text status reads answer =
    by_reading asked (is_reading asked) printed rest faults after input hearing text status refl reads answer

answered_bytes : (words : List (List ℕ)) (hearing : List Listening) (printed : List ℕ) (rest : Option (List ℕ)) (faults after : ℕ) (text : List ℕ)
    (status : Status)
    → AnswersWords words hearing (record { before = record { contents = Some printed; errors = faults }; after = record { contents = rest; errors = after } }) text status
    → AnswersBytes words hearing printed text status
answered_bytes words hearing printed rest faults after text status answer = record {
  asked = answer.asked;
  asks = answer.asks;
  answer = of_asked answer.asked printed rest faults after answer.answer.input hearing text status answer.answer.read answer.answer.answer;
}

-- how a call ends if neither side failed
pub plain_ends : (words : List (List ℕ)) (hearing : List Listening) (printed : List ℕ) (rest : Option (List ℕ)) (faults after : ℕ) (sink : Change)
    (status : Status)
    → (IsAnswerStatus status
    → IsWritten (AnswersWords words hearing (record { before = record { contents = Some printed; errors = faults }; after = record { contents = rest; errors = after } })) sink status)
    → IsAnswerStatus status ⊎ (status ≡ ended.NoMemory)
    → (status ≡ ended.NoMemory) ⊎ ((text : List ℕ) × AnswersBytes words hearing printed text status)
plain_ends words hearing printed rest faults after sink status written (inl is) =
    let w = written is in inr (w.text, answered_bytes words hearing printed rest faults after w.text status w.answer)
plain_ends words hearing printed rest faults after sink status written (inr no_memory) = inl no_memory
