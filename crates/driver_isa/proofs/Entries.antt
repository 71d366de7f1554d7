-- The entries of the decoded text, and the instructions at a counter.
use Rattle.std.proofs.Common.{◌≡◌, ◌<◌, ◌≤◌, inl, inr, nat_lt, if◌then◌else◌, ℕ, zero, suc, Bool, true, false, List, [], ◌∷◌, Option, Some, None, IfSome, length, get_or, map, refl, sym, subst, ◌∙◌, arith}
use Rattle.std.proofs.lemmas.Bool.{cases_lt}
use Rattle.std.specs.Option.{unwrap_or}
use Rattle.driver_isa.specs.Decoding.{instr_of}
use Rattle.driver_isa.specs.Entries.{IsDecodedText, IsEntryAt, entry_of, executed_entry, in_text, stays_in_text}
use Rattle.driver_isa.specs.Fields.{has_registers}
use Rattle.driver_isa.specs.Turns.{IsExecuted}
use Rattle.driver_isa.specs.declared.instructions.Decoded.{Decoded}
use Rattle.driver_isa.proofs.Decoding.{decoded_registers}
use Rattle.machine_defs.specs.Execution.{Machine, executed, trapped, turn}
use Rattle.machine_defs.specs.Machine.{decode_of}
use Rattle.machine_defs.specs.Pages.{fetch_word, read_word}
use Rattle.nook_data.specs.declared.entries.Entry.{Entry}
use Rattle.nook_data.specs.declared.machine.Act.{Act}
use Rattle.nook_data.specs.declared.machine.BurstEnd.{BurstEnd}
use Rattle.nook_data.specs.declared.machine.BurstEnd.TheVariants as ends
use Rattle.nook_data.specs.declared.machine.Instr.{Instr}
use Rattle.nook_data.specs.declared.machine.TrapCause.TheVariants as trap

pub instr_at : (ds : List Decoded) (k : ℕ) (d : Decoded) → k < length ds → get_or (map instr_of ds) k None ≡ instr_of (get_or ds k d)
instr_at [] k d low = absurd (omega (arith, low))
instr_at (x ∷ ds) zero d low = refl
instr_at (x ∷ ds) (suc k) d low = instr_at ds k d (omega (arith, low))

-- the entry of a word of the text
pub entry_in : (ds : List Decoded) (words : List ℕ) (k : ℕ) (d : Decoded) → IsDecodedText ds words → k < 2048 → instr_of (get_or ds k d) ≡ entry_of (get_or words k 0)
entry_in ds words k d is low = sym (instr_at ds k d (omega (arith, low, is.size))) ∙ is.same k low

-- an entry that is an instruction is that of its word
stays : (o : Option Instr) (i : Instr) → in_text o ≡ Some i → o ≡ Some i
stays None i e = e
stays (Some j) i e = by_case (stays_in_text j) refl
  where
    by_case : (t : Bool) → stays_in_text j ≡ t → Some j ≡ Some i
    by_case true h = rw h at e
    by_case false h = absurd (let none : None ≡ Some i = rw h at e in cc)

pub instr_in : (w : ℕ) (o : Option Instr) (i : Instr) → o ≡ in_text (decode_of w) → o ≡ Some i → o ≡ decode_of w
instr_in w o i e is = is ∙ sym (stays (decode_of w) i (sym e ∙ is))

-- the word at an address of the text
pub word_read : (words : List ℕ) (address : ℕ) → address < 2048 → unwrap_or (read_word words address) 0 ≡ get_or words address 0
word_read words address low = let inside : nat_lt address 8192 ≡ true = grind arith in rw inside refl

-- the registers of an entry
pub same_registers : (w : ℕ) (o : Option Instr) → o ≡ decode_of w → IfSome o (λ i. has_registers i ≡ true)
same_registers w o e = subst (λ (o : Option Instr). IfSome o (λ i. has_registers i ≡ true)) (sym e) (decoded_registers w)

-- the instruction at a counter in the text
pub turn_at : (entries : List Entry) (m : Machine) (o : Option Instr) → m.cpu.counter < 2048 → o ≡ decode_of (get_or m.memory m.cpu.counter 0)
    → turn entries m ≡ executed_entry entries m o
unfolding turn
turn_at entries m o low e =
    let fetched : fetch_word m.memory m.cpu.counter ≡ Some (get_or m.memory m.cpu.counter 0) =
    let inside : nat_lt m.cpu.counter 2048 ≡ true = grind arith in rw inside refl in
    rw (turn, fetched, e) (by_word (decode_of (get_or m.memory m.cpu.counter 0)))
  where
    by_word : (o : Option Instr) → elim o [ None ↦ trapped m trap.BadOpcode | Some i ↦ executed entries m i ] ≡ executed_entry entries m o
    by_word None = refl
    by_word (Some i) = refl

-- the entry at an address
pub entry_at : (ds : List Decoded) (words : List ℕ) (k : ℕ) (d : Decoded) → IsDecodedText ds words → k ≤ 2048 → IsEntryAt (instr_of (get_or ds k d)) words k
entry_at ds words k d is low = record {
  inside = λ under. entry_in ds words k d is under;
  past = λ high. let end : k ≡ 2048 = omega (arith, low, high) in sym (instr_at ds k d (omega (arith, low, is.size))) ∙ rw end is.last;
}

-- an entry that is executed without a crossing is that of the instruction at the counter
pub record IsTurn (entries : List Entry) (m left : Machine) (before after : List Act) : Type 0 where
  pub inside : m.cpu.counter < 2048
  pub turned : IsExecuted (turn entries m) left before after None

no_crossing : (o : Option BurstEnd) (ending : BurstEnd) → o ≡ None → o ≡ Some ending → ⊥
no_crossing None ending n e = absurd cc
no_crossing (Some other) ending n e = absurd cc

pub entry_turn : (entries : List Entry) (m left : Machine) (o : Option Instr) (before after : List Act)
    → IsEntryAt o m.memory m.cpu.counter
    → IsExecuted (executed_entry entries m o) left before after None
    → IsTurn entries m left before after
entry_turn entries m left None before after is done =
    absurd (no_crossing (Some (ends.Trap trap.BadOpcode)) (ends.Trap trap.BadOpcode) done.crossing refl)
entry_turn entries m left (Some i) before after is done = elim (cases_lt m.cpu.counter 2048) [
  | inl inside ↦ record {
    inside = inside;
    turned = rw (turn_at entries m (Some i) inside (instr_in (get_or m.memory m.cpu.counter 0) (Some i) i (is.inside inside) refl)) done;
  }
  | inr past ↦ absurd (let none : Some i ≡ None = is.past past in cc)
]

-- what holds of the instruction of each entry
pub record IsEntry (o : Option Instr) : Type 0 where
  pub registers : IfSome o (λ i. has_registers i ≡ true)
  pub stays : IfSome o (λ i. stays_in_text i ≡ true)

fits_in : (o : Option Instr) → IfSome o (λ i. has_registers i ≡ true) → IsEntry (in_text o)
fits_in None h = record { registers = tt; stays = tt }
fits_in (Some i) h = by_case (stays_in_text i) refl
  where
    by_case : (t : Bool) → stays_in_text i ≡ t → IsEntry (if t then Some i else None)
    by_case true e = record { registers = h; stays = e }
    by_case false e = record { registers = tt; stays = tt }

pub entry_fits : (o : Option Instr) (words : List ℕ) (k : ℕ) → IsEntryAt o words k → IsEntry o
entry_fits o words k is = elim (cases_lt k 2048) [
  | inl inside ↦ subst IsEntry (sym (is.inside inside)) (fits_in (decode_of (get_or words k 0)) (decoded_registers (get_or words k 0)))
  | inr past ↦ subst IsEntry (sym (is.past past)) (record { registers = tt; stays = tt })
]
