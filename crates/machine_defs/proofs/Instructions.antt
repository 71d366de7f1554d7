-- What holds of every row of the instruction table, for the crates that encode, decode, assemble and list instructions.
-- Only this file goes through all instructions.
use Rattle.std.specs.Prelude.{◌≡◌, refl, ℕ, zero, suc, ◌+◌, ◌-◌, ◌*◌, ◌%◌, ◌^◌, ◌==◌, ◌&&◌, ◌<◌, ◌≤◌, nat_le, Bool, true, false, if◌then◌else◌}
use Rattle.std.specs.Prelude.{List, [], ◌∷◌, Option, Some, None, IfSome, option_map}
use Rattle.std.specs.List.{find, list_all}
use native.Mathlib.Omega.{arith}
use mathlib.Core.Path.{ap, subst, sym, ◌∙◌}
use Rattle.std.proofs.lemmas.Bool.{and_parts, false≢true}
use Rattle.std.proofs.lemmas.Option.{none-some, same_Some}
use Rattle.std.proofs.Common.{not, bit_and, bit_or, bit_xor, ◌/◌, nat_lt}
use Rattle.machine_defs.proofs.Setting.{both_not, got, input_over, input_same, jump_same, load_over, load_same, one_not, output_same}
use Rattle.machine_defs.proofs.Setting.{put, put_again, put_over, put_same, store_same, two_same}
use Rattle.machine_defs.specs.Devices.{input_of, output_of}
use Rattle.machine_defs.specs.Execution.{Machine, crosses, executed, goes, past_output, r}
use Rattle.machine_defs.specs.Machine.{a_field, b_field, decode_of, encode_of, has_no_other, imm_field, is_of_row}
use Rattle.machine_defs.specs.Machine.{op_field, word_of}
use Rattle.machine_defs.specs.Mnemonics.{Fields, fields, fields_of, form_of, instr_with, instruction_row, mnemonics}
use Rattle.machine_defs.specs.Registers.{reads, set_registers, sets, setting, setting_after}
use Rattle.nook_data.specs.declared.entries.Entry.{Entry}
use Rattle.nook_data.specs.declared.machine.BurstEnd.TheVariants as ends
use Rattle.nook_data.specs.declared.machine.Form.{Form}
use Rattle.nook_data.specs.declared.machine.Form.TheVariants as form
use Rattle.nook_data.specs.declared.machine.Instr.{Instr}
use Rattle.nook_data.specs.declared.machine.Instr.TheVariants as instr
use Rattle.nook_data.specs.declared.machine.Mnemonic.{Mnemonic}
use Rattle.nook_data.specs.declared.machine.Mnemonic.TheVariants as mnemonic

-- the operands that a form has, and 0 for the others
abbrev pub fields_in : Mnemonic → Form → ℕ → ℕ → ℕ → Fields
fields_in m form.Bare a b imm = fields m 0 0 0
fields_in m form.A a b imm = fields m a 0 0
fields_in m form.Imm a b imm = fields m 0 0 imm
fields_in m form.AB a b imm = fields m a b 0
fields_in m form.AImm a b imm = fields m a 0 imm
fields_in m form.ABImm a b imm = fields m a b imm

-- an instruction has the operands of its form
pub fields_back : (m : Mnemonic) (a b imm : ℕ) → fields_of (instr_with m a b imm) ≡ fields_in m (form_of m) a b imm
fields_back mnemonic.Li a b imm = refl
fields_back mnemonic.Lui a b imm = refl
fields_back mnemonic.Mov a b imm = refl
fields_back mnemonic.Add a b imm = refl
fields_back mnemonic.Sub a b imm = refl
fields_back mnemonic.And a b imm = refl
fields_back mnemonic.Or a b imm = refl
fields_back mnemonic.Xor a b imm = refl
fields_back mnemonic.Shl a b imm = refl
fields_back mnemonic.Shr a b imm = refl
fields_back mnemonic.Addi a b imm = refl
fields_back mnemonic.Ld a b imm = refl
fields_back mnemonic.St a b imm = refl
fields_back mnemonic.Jmp a b imm = refl
fields_back mnemonic.Beq a b imm = refl
fields_back mnemonic.Bne a b imm = refl
fields_back mnemonic.Blt a b imm = refl
fields_back mnemonic.Jal a b imm = refl
fields_back mnemonic.Jr a b imm = refl
fields_back mnemonic.In a b imm = refl
fields_back mnemonic.Out a b imm = refl
fields_back mnemonic.Kcall a b imm = refl
fields_back mnemonic.Ret a b imm = refl
fields_back mnemonic.Fault a b imm = refl

-- the fields of an instruction are those that it is made from
pub instr_of_fields : (i : Instr) → instr_with (fields_of i).mnemonic (fields_of i).a (fields_of i).b (fields_of i).imm ≡ i
instr_of_fields (instr.Li a imm) = refl
instr_of_fields (instr.Lui a imm) = refl
instr_of_fields (instr.Mov a b) = refl
instr_of_fields (instr.Add a b) = refl
instr_of_fields (instr.Sub a b) = refl
instr_of_fields (instr.And a b) = refl
instr_of_fields (instr.Or a b) = refl
instr_of_fields (instr.Xor a b) = refl
instr_of_fields (instr.Shl a b) = refl
instr_of_fields (instr.Shr a b) = refl
instr_of_fields (instr.Addi a b imm) = refl
instr_of_fields (instr.Ld a b imm) = refl
instr_of_fields (instr.St a b imm) = refl
instr_of_fields (instr.Jmp imm) = refl
instr_of_fields (instr.Beq a b imm) = refl
instr_of_fields (instr.Bne a b imm) = refl
instr_of_fields (instr.Blt a b imm) = refl
instr_of_fields (instr.Jal a imm) = refl
instr_of_fields (instr.Jr a) = refl
instr_of_fields (instr.In a imm) = refl
instr_of_fields (instr.Out a imm) = refl
instr_of_fields (instr.Kcall imm) = refl
instr_of_fields (instr.Ret a) = refl
instr_of_fields instr.Fault = refl

-- the mnemonic at an index of a list
at : ℕ → List Mnemonic → Option Mnemonic
at index [] = None
at zero (first ∷ more) = Some first
at (suc index) (first ∷ more) = at index more

-- each mnemonic is in the table, at the index that its number gives
listed : (m : Mnemonic) → at ((instruction_row m).number - 1) mnemonics ≡ Some m
unfolding at
listed mnemonic.Li = refl
listed mnemonic.Lui = refl
listed mnemonic.Mov = refl
listed mnemonic.Add = refl
listed mnemonic.Sub = refl
listed mnemonic.And = refl
listed mnemonic.Or = refl
listed mnemonic.Xor = refl
listed mnemonic.Shl = refl
listed mnemonic.Shr = refl
listed mnemonic.Addi = refl
listed mnemonic.Ld = refl
listed mnemonic.St = refl
listed mnemonic.Jmp = refl
listed mnemonic.Beq = refl
listed mnemonic.Bne = refl
listed mnemonic.Blt = refl
listed mnemonic.Jal = refl
listed mnemonic.Jr = refl
listed mnemonic.In = refl
listed mnemonic.Out = refl
listed mnemonic.Kcall = refl
listed mnemonic.Ret = refl
listed mnemonic.Fault = refl

passes_at : (p : Mnemonic → Bool) (ms : List Mnemonic) (n : ℕ) (m : Mnemonic) → list_all p ms ≡ true → at n ms ≡ Some m
    → p m ≡ true
unfolding at
passes_at p [] n m all here = absurd (none-some m here)
passes_at p (x ∷ xs) zero m all here = subst (λ y. p y ≡ true) (same_Some x m here) (and_parts (p x) (list_all p xs) all).0
passes_at p (x ∷ xs) (suc n) m all here = passes_at p xs n m (and_parts (p x) (list_all p xs) all).1 here

-- a test that all mnemonics of the table pass is passed by each
pub each : (p : Mnemonic → Bool) → list_all p mnemonics ≡ true → (m : Mnemonic) → p m ≡ true
each p all m = passes_at p mnemonics ((instruction_row m).number - 1) m all (listed m)

-- two mnemonics with one number are the same
pub same_number : (m n : Mnemonic) → (instruction_row m).number ≡ (instruction_row n).number → m ≡ n
same_number m n e = same_Some m n (sym (listed m) ∙ (ap (λ k. at (k - 1) mnemonics) e ∙ listed n))

-- ---- the row of a word

-- what `find` returns passes the test
pub found_passes : (p : Mnemonic → Bool) (ms : List Mnemonic) (o : Option Mnemonic) → find p ms ≡ o → IfSome o (λ m. p m ≡ true)
found_passes p [] o e = subst (λ o. IfSome o (λ m. p m ≡ true)) e tt
found_passes p (x ∷ xs) o e = by_test (p x) refl e (found_passes p xs o)
  where
    by_test : (t : Bool) → p x ≡ t → (if t then Some x else find p xs) ≡ o
        → (find p xs ≡ o → IfSome o (λ m. p m ≡ true)) → IfSome o (λ m. p m ≡ true)
    by_test true is e later = subst (λ o. IfSome o (λ m. p m ≡ true)) e is
    by_test false is e later = later e

-- if a mnemonic of the list passes the test, one is found
some_found : (p : Mnemonic → Bool) (ms : List Mnemonic) (n : ℕ) (m : Mnemonic) → at n ms ≡ Some m → p m ≡ true → find p ms ≡ None → ⊥
unfolding at
some_found p [] n m here is none = none-some m here
some_found p (x ∷ xs) n m here is none = by_test (p x) refl n here none (λ k later. some_found p xs k m later is)
  where
    by_test : (t : Bool) → p x ≡ t → (n : ℕ) → at n (x ∷ xs) ≡ Some m → (if t then Some x else find p xs) ≡ None
        → ((k : ℕ) → at k xs ≡ Some m → find p xs ≡ None → ⊥) → ⊥
    by_test true e n here none later = none-some x (sym none)
    by_test false e zero here none later = false≢true (sym e ∙ (ap p (same_Some x m here) ∙ is))
    by_test false e (suc k) here none later = later k here none

-- a test that only one mnemonic passes finds that one
pub find_only : (p : Mnemonic → Bool) (m : Mnemonic) → p m ≡ true → ((x : Mnemonic) → p x ≡ true → x ≡ m)
    → find p mnemonics ≡ Some m
find_only p m is only = by_found (find p mnemonics) refl
  where
    by_found : (o : Option Mnemonic) → find p mnemonics ≡ o → find p mnemonics ≡ Some m
    by_found None e = absurd (some_found p mnemonics ((instruction_row m).number - 1) m (listed m) is e)
    by_found (Some x) e = e ∙ ap Some (only x (found_passes p mnemonics (Some x) e))

-- a test that no mnemonic passes finds none
pub find_none : (p : Mnemonic → Bool) → ((x : Mnemonic) → p x ≡ true → ⊥) → find p mnemonics ≡ None
find_none p none = by_found (find p mnemonics) refl
  where
    by_found : (o : Option Mnemonic) → find p mnemonics ≡ o → find p mnemonics ≡ None
    by_found None e = e
    by_found (Some x) e = absurd (none x (found_passes p mnemonics (Some x) e))

-- if none is found, no mnemonic passes the test
pub none_passes : (p : Mnemonic → Bool) → find p mnemonics ≡ None → (m : Mnemonic) → p m ≡ true → ⊥
none_passes p none m is = some_found p mnemonics ((instruction_row m).number - 1) m (listed m) is none

-- ---- a register that an instruction does not use

module _ (k v : ℕ) where
  -- an instruction that neither reads nor sets the register
  pub executed_same : (entries : List Entry) (m : Machine) (i : Instr) → reads i k ≡ false → sets i k ≡ false
      → executed entries (setting k v m) i ≡ setting_after k v (executed entries m i)
  executed_same entries m (instr.Li a imm) n o = put_same k v m a imm imm o refl
  executed_same entries m (instr.Lui a imm) n o =
      put_same k v m a _ _ o (ap (λ (x : ℕ). imm * 2 ^ 16 + x % 2 ^ 16) (got m.cpu.registers a k v n))
  executed_same entries m (instr.Mov a b) n o = put_same k v m a _ _ o (got m.cpu.registers b k v n)
  executed_same entries m (instr.Add a b) n o = two_same k v m a b (λ x y. (x + y) % 2 ^ 32) n o
  executed_same entries m (instr.Sub a b) n o = two_same k v m a b (λ x y. (x + (2 ^ 32 - y)) % 2 ^ 32) n o
  executed_same entries m (instr.And a b) n o = two_same k v m a b (λ x y. bit_and x y) n o
  executed_same entries m (instr.Or a b) n o = two_same k v m a b (λ x y. bit_or x y) n o
  executed_same entries m (instr.Xor a b) n o = two_same k v m a b (λ x y. bit_xor x y) n o
  executed_same entries m (instr.Shl a b) n o = two_same k v m a b (λ x y. x * 2 ^ (y % 32) % 2 ^ 32) n o
  executed_same entries m (instr.Shr a b) n o = two_same k v m a b (λ x y. x / 2 ^ (y % 32)) n o
  executed_same entries m (instr.Addi a b imm) n o =
      put_same k v m a _ _ o (ap (λ (x : ℕ). (x + imm) % 2 ^ 32) (got m.cpu.registers b k v n))
  executed_same entries m (instr.Ld a b imm) n o =
      load_same k v m a _ _ o (ap (λ (x : ℕ). (x + imm) % 2 ^ 32) (got m.cpu.registers b k v n))
  executed_same entries m (instr.St a b imm) n o = store_same k v entries m a b imm n
  executed_same entries m (instr.Jmp imm) n o = refl
  executed_same entries m (instr.Beq a b imm) n o = jump_same k v m a b imm (λ x y. x == y) n
  executed_same entries m (instr.Bne a b imm) n o = jump_same k v m a b imm (λ x y. not (x == y)) n
  executed_same entries m (instr.Blt a b imm) n o = jump_same k v m a b imm (λ x y. nat_lt x y) n
  executed_same entries m (instr.Jal a imm) n o =
      ap (λ (xs : List ℕ). goes (record m { cpu = record { counter = imm; registers = xs } }))
      (put m.cpu.registers a k ((m.cpu.counter + 1) % 2 ^ 32) v o)
  executed_same entries m (instr.Jr a) n o =
      ap (λ (x : ℕ). goes (record m { cpu = record { counter = x; registers = set_registers k v m.cpu.registers } })) (got m.cpu.registers a k v n)
  executed_same entries m (instr.In a imm) n o = input_same k v m a imm (input_of imm m.device) o
  executed_same entries m (instr.Out a imm) n o =
      ap (λ (x : ℕ). past_output (setting k v m) imm (output_of imm x m.device)) (got m.cpu.registers a k v n)
      ∙ output_same k v m imm (output_of imm (r m a) m.device)
  executed_same entries m (instr.Kcall imm) n o = refl
  executed_same entries m (instr.Ret a) n o =
      ap (λ (x : ℕ). crosses (setting k v m) (ends.Reply x)) (got m.cpu.registers a k v n)
  executed_same entries m instr.Fault n o = refl

  -- an instruction that sets the register without reading it, and does not trap
  pub executed_over : (entries : List Entry) (m : Machine) (i : Instr) → reads i k ≡ false → sets i k ≡ true
      → (executed entries m i).crossing ≡ None → executed entries (setting k v m) i ≡ executed entries m i
  executed_over entries m (instr.Li a imm) n o c = put_over k v m a imm imm o refl
  executed_over entries m (instr.Lui a imm) n o c = absurd (one_not k v a n o)
  executed_over entries m (instr.Mov a b) n o c = put_over k v m a _ _ o (got m.cpu.registers b k v n)
  executed_over entries m (instr.Add a b) n o c = absurd (both_not k v a b n o)
  executed_over entries m (instr.Sub a b) n o c = absurd (both_not k v a b n o)
  executed_over entries m (instr.And a b) n o c = absurd (both_not k v a b n o)
  executed_over entries m (instr.Or a b) n o c = absurd (both_not k v a b n o)
  executed_over entries m (instr.Xor a b) n o c = absurd (both_not k v a b n o)
  executed_over entries m (instr.Shl a b) n o c = absurd (both_not k v a b n o)
  executed_over entries m (instr.Shr a b) n o c = absurd (both_not k v a b n o)
  executed_over entries m (instr.Addi a b imm) n o c =
      put_over k v m a _ _ o (ap (λ (x : ℕ). (x + imm) % 2 ^ 32) (got m.cpu.registers b k v n))
  executed_over entries m (instr.Ld a b imm) n o c =
      load_over k v m a _ _ o (ap (λ (x : ℕ). (x + imm) % 2 ^ 32) (got m.cpu.registers b k v n)) c
  executed_over entries m (instr.Jal a imm) n o c =
      ap (λ (xs : List ℕ). goes (record m { cpu = record { counter = imm; registers = xs } }))
      (put_again m.cpu.registers a k ((m.cpu.counter + 1) % 2 ^ 32) v o)
  executed_over entries m (instr.In a imm) n o c = input_over k v m a imm (input_of imm m.device) o c
  executed_over entries m (instr.St a b imm) n o c = absurd cc
  executed_over entries m (instr.Jmp imm) n o c = absurd cc
  executed_over entries m (instr.Beq a b imm) n o c = absurd cc
  executed_over entries m (instr.Bne a b imm) n o c = absurd cc
  executed_over entries m (instr.Blt a b imm) n o c = absurd cc
  executed_over entries m (instr.Jr a) n o c = absurd cc
  executed_over entries m (instr.Out a imm) n o c = absurd cc
  executed_over entries m (instr.Kcall imm) n o c = absurd cc
  executed_over entries m (instr.Ret a) n o c = absurd cc
  executed_over entries m instr.Fault n o c = absurd cc
