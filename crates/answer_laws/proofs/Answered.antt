-- Answers of any kind: that there is one, and only one.
use Rattle.std.proofs.Common.{◌≡◌, ℕ, List, ◌⊎◌, inl, inr, Result, Ok, Err, refl, sym, ap, ◌∙◌}
use Rattle.input_defs.specs.Faults.{fault_line}
use Rattle.input_defs.specs.declared.input.Refusal.{Refusal}
use Rattle.nooks.specs.Answers.{IsRefusalLine, Says}
use Rattle.nooks.specs.declared.program.Status.{Status}
use Rattle.nooks.specs.declared.program.Status.TheVariants as ended

-- a text and a status are an answer
abbrev pub HasAnswer : (List ℕ → Status → Type 0) → Type 0
HasAnswer Answer = (text : List ℕ) × ((status : Status) × Answer text status)

-- two answers have the same text and the same status
abbrev pub HasOneAnswer : (List ℕ → Status → Type 0) → Type 0
HasOneAnswer Answer =
    (text other : List ℕ) (status end : Status) → Answer text status → Answer other end
    → (text ≡ other) × (status ≡ end)

-- the line of an input error, or what a subcommand does
abbrev pub IsFaultOr : (List ℕ → Type 0) → (List ℕ → Status → Type 0) → List ℕ → Status → Type 0
IsFaultOr Faulty Doing text status = (Faulty text × (status ≡ ended.BadInput)) ⊎ Doing text status

-- a text that ends as done
abbrev pub IsDone : (List ℕ → Type 0) → List ℕ → Status → Type 0
IsDone Does text status = Does text × (status ≡ ended.Done)

-- ---- readings

pub ok_once : {T E : Type 0} (r : Result T E) (a b : T) → r ≡ Ok a → r ≡ Ok b → a ≡ b
ok_once r a b e f = cc

err_once : {T E : Type 0} (r : Result T E) (a b : E) → r ≡ Err a → r ≡ Err b → a ≡ b
err_once r a b e f = cc

pub not_both : {P : Type 0} {T E : Type 0} (r : Result T E) (a : T) (b : E) → r ≡ Ok a → r ≡ Err b → P
not_both r a b e f = absurd (cc)

pub refusal_once : {T : Type 0} (r : Result T Refusal) (text other : List ℕ) → IsRefusalLine r text
    → IsRefusalLine r other → text ≡ other
refusal_once r text other a b = a.text_is ∙ (ap fault_line (err_once r a.refusal b.refusal a.is b.is) ∙ sym b.text_is)

-- ---- there is an answer

pub answer_by : (A B : List ℕ → Status → Type 0) → ((text : List ℕ) (status : Status) → A text status → B text status)
    → HasAnswer A → HasAnswer B
answer_by A B more a = (a.0, (a.1.0, more a.0 a.1.0 a.1.1))

pub said_exists : (line : List ℕ) (end : Status) → HasAnswer (Says line end)
said_exists line end = (line, (end, (refl, refl)))

-- an input that is refused, or read and answered
pub either_exists : {T : Type 0} (r : Result T Refusal) (Faulty : List ℕ → Type 0) (Doing : List ℕ → Status → Type 0)
    → ((text : List ℕ) → IsRefusalLine r text → Faulty text)
    → ((read : T) → r ≡ Ok read → HasAnswer (IsFaultOr Faulty Doing)) → HasAnswer (IsFaultOr Faulty Doing)
either_exists {T} r Faulty Doing refuses answers = by_reading r refl
  where
    by_reading : (x : Result T Refusal) → r ≡ x → HasAnswer (IsFaultOr Faulty Doing)
    by_reading (Ok read) is = answers read is
    by_reading (Err refusal) is = (
      fault_line refusal,
      (
        ended.BadInput,
        inl (refuses (fault_line refusal) (record { refusal = refusal; is = is; text_is = refl }), refl),
      ),
    )

-- the same if there is no other input error
pub read_exists : {T : Type 0} (r : Result T Refusal) (Doing : List ℕ → Status → Type 0)
    → ((read : T) → r ≡ Ok read → HasAnswer Doing) → HasAnswer (IsFaultOr (IsRefusalLine r) Doing)
read_exists r Doing does =
    either_exists r (IsRefusalLine r) Doing (λ text line. line)
    (λ read is. answer_by Doing (IsFaultOr (IsRefusalLine r) Doing) (λ text status done. inr done) (does read is))

-- ---- there is only one

pub said_once : (line : List ℕ) (said : Status) → HasOneAnswer (Says line said)
said_once line said text other status end a b = (a.0 ∙ sym b.0, a.1 ∙ sym b.1)

pub done_once : (Does : List ℕ → Type 0) → ((text other : List ℕ) → Does text → Does other → text ≡ other)
    → HasOneAnswer (IsDone Does)
done_once Does does text other status end a b = (does text other a.0 b.0, a.1 ∙ sym b.1)

-- an input is refused, or read and answered
pub either_once : (Faulty : List ℕ → Type 0) (Doing : List ℕ → Status → Type 0)
    → ((text other : List ℕ) → Faulty text → Faulty other → text ≡ other) → HasOneAnswer Doing
    → ((text other : List ℕ) (status : Status) → Doing text status → Faulty other → ⊥)
    → HasOneAnswer (IsFaultOr Faulty Doing)
either_once Faulty Doing faults does apart text other status end (inl a) (inl b) =
    (faults text other a.0 b.0, a.1 ∙ sym b.1)
either_once Faulty Doing faults does apart text other status end (inl a) (inr b) =
    absurd (apart other text end b a.0)
either_once Faulty Doing faults does apart text other status end (inr a) (inl b) =
    absurd (apart text other status a b.0)
either_once Faulty Doing faults does apart text other status end (inr a) (inr b) =
    does text other status end a b

-- the same if there is no other input error
pub read_once : {T : Type 0} (r : Result T Refusal) (Doing : List ℕ → Status → Type 0) → HasOneAnswer Doing
    → ((text : List ℕ) (status : Status) → Doing text status → (read : T) × (r ≡ Ok read))
    → HasOneAnswer (IsFaultOr (IsRefusalLine r) Doing)
read_once r Doing does reads =
    either_once (IsRefusalLine r) Doing (refusal_once r) does
    (λ text other status is line. let of = reads text status is in not_both r of.0 line.refusal of.1 line.is)
