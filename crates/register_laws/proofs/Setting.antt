-- An instruction that does not use a register does the same if that register is set to another word.
use Rattle.std.proofs.Common.{◌≡◌, ℕ, true, false, List, Option, Some, None, sym, ap, ◌∙◌, subst}
use Rattle.nook_data.specs.Types.{Entry, Instr}
use Rattle.machine_defs.proofs.Instructions.{executed_over, executed_same}
use Rattle.machine_defs.proofs.MachineCases.{past_decode, past_fetch}
use Rattle.machine_defs.specs.Execution.{Machine, turn}
use Rattle.machine_defs.specs.Machine.{decode_of}
use Rattle.machine_defs.specs.Pages.{fetch_word}
use Rattle.machine_defs.specs.Registers.{reads, sets, setting, setting_after}
use Rattle.register_laws.specs.Uses.{instr_at, instr_in}

module _ (k v : ℕ) where
  -- the word at the counter is the same

  -- the instruction at a machine's counter is this one, and it neither reads nor sets the register
  pub turn_same : (entries : List Entry) (m : Machine) (i : Instr) → instr_at m ≡ Some i → reads i k ≡ false → sets i k ≡ false
      → turn entries (setting k v m) ≡ setting_after k v (turn entries m)
  unfolding turn
  turn_same entries m i at n o = by_fetch (fetch_word m.memory m.cpu.counter) at
    where
      by_decode : (d : Option Instr) → d ≡ Some i → past_decode entries (setting k v m) d ≡ setting_after k v (past_decode entries m d)
      by_decode d e = ap (past_decode entries (setting k v m)) e ∙ executed_same k v entries m i n o
          ∙ ap (λ (x : Option Instr). setting_after k v (past_decode entries m x)) (sym e)

      by_fetch : (o : Option ℕ) → instr_in o ≡ Some i → past_fetch entries (setting k v m) o ≡ setting_after k v (past_fetch entries m o)
      by_fetch None e = absurd cc
      by_fetch (Some word) e = by_decode (decode_of word) e

  -- it sets the register without reading it, and does not trap
  pub turn_over : (entries : List Entry) (m : Machine) (i : Instr) → instr_at m ≡ Some i → reads i k ≡ false → sets i k ≡ true
      → (turn entries m).crossing ≡ None → turn entries (setting k v m) ≡ turn entries m
  unfolding turn
  turn_over entries m i at n o c = by_fetch (fetch_word m.memory m.cpu.counter) at c
    where
      by_decode : (d : Option Instr) → d ≡ Some i → (past_decode entries m d).crossing ≡ None
          → past_decode entries (setting k v m) d ≡ past_decode entries m d
      by_decode d e c = ap (past_decode entries (setting k v m)) e
          ∙ executed_over k v entries m i n o (subst (λ (x : Option Instr). (past_decode entries m x).crossing ≡ None) e c)
          ∙ ap (past_decode entries m) (sym e)

      by_fetch : (o : Option ℕ) → instr_in o ≡ Some i → (past_fetch entries m o).crossing ≡ None
          → past_fetch entries (setting k v m) o ≡ past_fetch entries m o
      by_fetch None e c = absurd cc
      by_fetch (Some word) e c = by_decode (decode_of word) e c
