-- What the lines of a trace show makes the registers and the memory that the burst leaves.
use Rattle.std.proofs.Common.{◌≡◌, ◌+◌, ◌-◌, ◌%◌, ◌^◌, ◌==◌, ℕ, zero, suc, nat_le, nat_lt, Bool, true, false, Option, Some, None, List, [], ◌∷◌, ◌++◌, length, map, slice_index, slice_set, refl, sym, ◌∙◌, ap}
use Rattle.machine_defs.proofs.MachineCases.{past_decode, past_fetch, past_read, past_trap}
use Rattle.machine_defs.specs.Burst.{Burst, Struck, acts_of, burst, strikes_at, struck_machine, trap_of}
use Rattle.machine_defs.specs.Devices.{Given, Taken, input_of, output_of}
use Rattle.machine_defs.specs.Execution.{Executed, Machine, executed, past_input, past_output, puts, r, stores, turn}
use Rattle.machine_defs.specs.Machine.{decode_of}
use Rattle.machine_defs.specs.Pages.{fetch_word, may_write, read_word}
use Rattle.nook_data.specs.declared.entries.Entry.{Entry}
use Rattle.nook_data.specs.declared.limits.TheConstants.{MOST_ACTS}
use Rattle.nook_data.specs.declared.machine.BurstEnd.{BurstEnd}
use Rattle.nook_data.specs.declared.machine.Instr.{Instr}
use Rattle.nook_data.specs.declared.machine.Instr.TheVariants as instr
use Rattle.nook_data.specs.declared.machine.TrapCause.{TrapCause}
use Rattle.nook_data.specs.declared.scenario.Fault.{Fault}
use Rattle.nook_data.specs.declared.scenario.FaultKind.{FaultKind}
use Rattle.nook_data.specs.declared.scenario.FaultKind.TheVariants as fault
use Rattle.turn_trace.proofs.Recorded.{retold}
use Rattle.turn_trace.specs.Bursts.{TracedBurst, TracedStep, after_acts, after_stop, burst_trace, finished, following_crossing, following_turn, rest_after, strike, struck_at, taken, trace_from, up_to_trap}
use Rattle.turn_trace.specs.Effects.{Words, after_fault, after_line, after_step, after_steps, with_fault, with_shown, words_of}
use Rattle.turn_trace.specs.Turns.{instr_in, set_by, stored_by, traced, unless_crossed}

split : {G : Type 0} → (b : Bool) → (b ≡ true → G) → (b ≡ false → G) → G
split true there not_there = there refl
split false there not_there = not_there refl

-- ---- one instruction

-- the word that a register gets is the one that it has afterwards
set_is : (xs : List ℕ) (a v : ℕ) → slice_set xs a v ≡ slice_set xs a (slice_index (slice_set xs a v) a)
set_is [] a v = refl
set_is (x ∷ xs) zero v = refl
set_is (x ∷ xs) (suc a) v = ap (λ (ys : List ℕ). x ∷ ys) (set_is xs a v)

-- what an instruction shows makes its registers and its memory
record Shows (m : Machine) (i : Option Instr) (t : Executed) : Type 0 where
  registers : t.machine.cpu.registers ≡ with_shown (unless_crossed t.crossing (set_by t.machine.cpu i)) m.cpu.registers
  memory : t.machine.memory ≡ with_shown (unless_crossed t.crossing (stored_by m.cpu i)) m.memory

module _ (entries : List Entry) (m : Machine) where
  put_shows : (i : Instr) (a v : ℕ) → set_by (puts m a v).machine.cpu (Some i) ≡ Some (a, slice_index (slice_set m.cpu.registers a v) a)
      → stored_by m.cpu (Some i) ≡ None → Shows m (Some i) (puts m a v)
  put_shows i a v set stored = record {
    registers = set_is m.cpu.registers a v ∙ sym (ap (λ (s : Option (ℕ × ℕ)). with_shown s m.cpu.registers) set);
    memory = sym (ap (λ (s : Option (ℕ × ℕ)). with_shown s m.memory) stored);
  }

  load_shows : (a b imm address : ℕ) (o : Option ℕ) → Shows m (Some (instr.Ld a b imm)) (past_read m a address o)
  load_shows a b imm address None = record { registers = refl; memory = refl }
  load_shows a b imm address (Some word) = put_shows (instr.Ld a b imm) a word refl refl

  store_shows : (a b imm : ℕ) → Shows m (Some (instr.St a b imm)) (stores entries m a ((r m b + imm) % 2 ^ 32))
  store_shows a b imm = split (may_write entries ((r m b + imm) % 2 ^ 32))
      (λ e. rw e (record { registers = refl; memory = refl }))
      (λ e. rw e (record { registers = refl; memory = refl }))

  input_shows : (a imm : ℕ) (o : Option Given) → Shows m (Some (instr.In a imm)) (past_input m a imm o)
  input_shows a imm None = record { registers = refl; memory = refl }
  input_shows a imm (Some given) = record { registers = set_is m.cpu.registers a given.word; memory = refl }

  output_shows : (a imm : ℕ) (o : Option Taken) → Shows m (Some (instr.Out a imm)) (past_output m imm o)
  output_shows a imm None = record { registers = refl; memory = refl }
  output_shows a imm (Some given) = record { registers = refl; memory = refl }

  executed_shows : (i : Instr) → Shows m (Some i) (executed entries m i)
  executed_shows (instr.Li a imm) = put_shows (instr.Li a imm) a _ refl refl
  executed_shows (instr.Lui a imm) = put_shows (instr.Lui a imm) a _ refl refl
  executed_shows (instr.Mov a b) = put_shows (instr.Mov a b) a _ refl refl
  executed_shows (instr.Add a b) = put_shows (instr.Add a b) a _ refl refl
  executed_shows (instr.Sub a b) = put_shows (instr.Sub a b) a _ refl refl
  executed_shows (instr.And a b) = put_shows (instr.And a b) a _ refl refl
  executed_shows (instr.Or a b) = put_shows (instr.Or a b) a _ refl refl
  executed_shows (instr.Xor a b) = put_shows (instr.Xor a b) a _ refl refl
  executed_shows (instr.Shl a b) = put_shows (instr.Shl a b) a _ refl refl
  executed_shows (instr.Shr a b) = put_shows (instr.Shr a b) a _ refl refl
  executed_shows (instr.Addi a b imm) = put_shows (instr.Addi a b imm) a _ refl refl
  executed_shows (instr.Ld a b imm) = load_shows a b imm ((r m b + imm) % 2 ^ 32) (read_word m.memory ((r m b + imm) % 2 ^ 32))
  executed_shows (instr.St a b imm) = store_shows a b imm
  executed_shows (instr.Jmp imm) = record { registers = refl; memory = refl }
  executed_shows (instr.Beq a b imm) = record { registers = refl; memory = refl }
  executed_shows (instr.Bne a b imm) = record { registers = refl; memory = refl }
  executed_shows (instr.Blt a b imm) = record { registers = refl; memory = refl }
  executed_shows (instr.Jal a imm) = record { registers = set_is m.cpu.registers a ((m.cpu.counter + 1) % 2 ^ 32); memory = refl }
  executed_shows (instr.Jr a) = record { registers = refl; memory = refl }
  executed_shows (instr.In a imm) = input_shows a imm (input_of imm m.device)
  executed_shows (instr.Out a imm) = output_shows a imm (output_of imm (r m a) m.device)
  executed_shows (instr.Kcall imm) = record { registers = refl; memory = refl }
  executed_shows (instr.Ret a) = record { registers = refl; memory = refl }
  executed_shows instr.Fault = record { registers = refl; memory = refl }

  decode_shows : (o : Option Instr) → Shows m o (past_decode entries m o)
  decode_shows None = record { registers = refl; memory = refl }
  decode_shows (Some i) = executed_shows i

  fetch_shows : (o : Option ℕ) → Shows m (instr_in o) (past_fetch entries m o)
  fetch_shows None = record { registers = refl; memory = refl }
  fetch_shows (Some word) = decode_shows (decode_of word)

  turn_shows : Shows m (instr_in (fetch_word m.memory m.cpu.counter)) (turn entries m)
  unfolding turn
  turn_shows = fetch_shows (fetch_word m.memory m.cpu.counter)

  abbrev words_by : List ℕ → List ℕ → Words
  words_by registers memory = record { registers = registers; memory = memory }

  line_makes : (number : ℕ) → after_line (traced number m (turn entries m)) (words_of m) ≡ words_of (turn entries m).machine
  line_makes number =
      let t : Executed = turn entries m in
      let shows : Shows m (instr_in (fetch_word m.memory m.cpu.counter)) t = turn_shows in
      ap (λ (xs : List ℕ). words_by xs (with_shown (traced number m t).stored m.memory)) (sym shows.registers)
      ∙ ap (words_by t.machine.cpu.registers) (sym shows.memory)

-- ---- the faults before an instruction

module _ (entries : List Entry) where
  fault_makes : (kind : FaultKind) (m : Machine) → after_fault entries kind (words_of m) ≡ words_of (struck_machine entries kind m)
  fault_makes fault.Trap m = refl
  fault_makes fault.Hang m = refl
  fault_makes (fault.Poke address word) m = split (may_write entries address) (λ e. rw e refl) (λ e. rw e refl)
  fault_makes (fault.Code address word) m = split (nat_lt address 2048) (λ e. rw e refl) (λ e. rw e refl)
  fault_makes (fault.Reg register word) m = refl

  stop_makes : (kind : FaultKind) (cause : TrapCause) (m : Machine) → trap_of kind ≡ Some cause
      → after_fault entries kind (words_of m) ≡ words_of m
  stop_makes fault.Trap cause m e = refl
  stop_makes fault.Hang cause m e = refl
  stop_makes (fault.Poke address word) cause m e = absurd (cc)
  stop_makes (fault.Code address word) cause m e = absurd (cc)
  stop_makes (fault.Reg register word) cause m e = absurd (cc)

  strikes_make : (point : ℕ) (faults : List Fault) (m : Machine)
      → after_steps entries (map strike (struck_at point faults)) (words_of m) ≡ words_of (strikes_at point entries faults m).machine
  strikes_make point [] m = refl
  strikes_make point (f ∷ faults) m = split (f.after == point)
      (λ here. rw (here, strikes_at, struck_at) (by_trap (trap_of f.kind) refl (strikes_make point faults (struck_machine entries f.kind m))))
      (λ later. rw (later, strikes_at, struck_at) refl)
    where
      struck : Machine
      struck = struck_machine entries f.kind m

      by_trap : (o : Option TrapCause) → trap_of f.kind ≡ o
          → after_steps entries (map strike (struck_at point faults)) (words_of struck) ≡ words_of (strikes_at point entries faults struck).machine
          → after_steps entries (map strike (f ∷ up_to_trap (struck_at point faults) o)) (words_of m)
          ≡ words_of (past_trap (strikes_at point entries faults struck) m faults o).machine
      by_trap None none more = ap (after_steps entries (map strike (struck_at point faults))) (fault_makes f.kind m) ∙ more
      by_trap (Some cause) some more = stop_makes f.kind cause m some

-- ---- the whole burst

module _ (entries : List Entry) where
  abbrev IsMade : Machine → TracedBurst → Type 0
  IsMade m t = after_steps entries t.steps (words_of m) ≡ words_of t.left

  steps_join : (xs ys : List TracedStep) (w : Words) → after_steps entries (xs ++ ys) w ≡ after_steps entries ys (after_steps entries xs w)
  steps_join [] ys w = refl
  steps_join (x ∷ xs) ys w = steps_join xs ys (after_step entries x w)

  acts_made : (go : Machine → ℕ → TracedBurst) (rest : List Fault) (m : Machine) (acts : ℕ) (full : Bool) → IsMade m (go m acts)
      → IsMade m (after_acts go rest m acts full)
  acts_made go rest m acts true h = refl
  acts_made go rest m acts false h = h

  crossing_made : (go : Machine → ℕ → TracedBurst) (rest : List Fault) (m : Machine) (acts : ℕ) (o : Option BurstEnd) → IsMade m (go m acts)
      → IsMade m (following_crossing go rest m acts o)
  crossing_made go rest m acts None h = acts_made go rest m acts (nat_le MOST_ACTS acts) h
  crossing_made go rest m acts (Some crossing) h = refl

  turn_made : (go : Machine → ℕ → TracedBurst) (rest : List Fault) (number : ℕ) (m : Machine) (acts : ℕ)
      → ((next : Machine) (done : ℕ) → IsMade next (go next done)) → IsMade m (following_turn go rest number m acts (turn entries m))
  turn_made go rest number m acts more =
      let t : Executed = turn entries m in
      ap (after_steps entries (following_crossing go rest t.machine (acts + length (acts_of t.act)) t.crossing).steps) (line_makes entries m number)
      ∙ crossing_made go rest t.machine (acts + length (acts_of t.act)) t.crossing (more t.machine (acts + length (acts_of t.act)))

  stop_made : (go : List Fault → Machine → TracedBurst) (m : Machine) (rest : List Fault) (o : Option TrapCause) → IsMade m (go rest m)
      → IsMade m (after_stop go m rest o)
  stop_made go m rest None h = h
  stop_made go m rest (Some cause) h = refl

  from_made : (left : ℕ) (faults : List Fault) (m : Machine) (acts : ℕ) → IsMade m (trace_from left entries faults m acts)
  unfolding trace_from
  from_made zero faults m acts = refl
  from_made (suc left) faults m acts =
      let point : ℕ = 4096 - suc left in
      let s : Struck = strikes_at point entries faults m in
      let go : List Fault → Machine → TracedBurst =
      λ rest struck. following_turn (λ next done. trace_from left entries rest next done) rest (4096 - left) struck acts (turn entries struck) in
      steps_join (map strike (struck_at point faults)) (after_stop go s.machine s.rest s.stopped).steps (words_of m)
      ∙ ap (after_steps entries (after_stop go s.machine s.rest s.stopped).steps) (strikes_make entries point faults m)
      ∙ stop_made go s.machine s.rest s.stopped
      (turn_made (λ next done. trace_from left entries s.rest next done) s.rest (4096 - left) s.machine acts
      (λ next done. from_made left s.rest next done))

  pub made : (faults : List Fault) (m : Machine)
      → after_steps entries (burst_trace entries faults m).steps (words_of m) ≡ words_of (burst entries faults m).machine
  unfolding burst_trace
  made faults m = from_made 4096 faults m 0 ∙ ap words_of (retold entries faults m).machine
