-- A trace follows its burst: the same strikes and instructions from each position on.
use Rattle.std.proofs.Common.{◌≡◌, ◌+◌, ◌-◌, ◌%◌, ◌^◌, ◌≤◌, ◌==◌, ℕ, zero, suc, Bool, true, false, Option, Some, None, List, [], ◌∷◌, ◌++◌, length, map, flat_map, refl, sym, ◌∙◌, ap, append-nil, append_assoc, length-append, arith}
use Rattle.nook_data.specs.declared.machine.Act.{Act}
use Rattle.nook_data.specs.declared.entries.Entry.{Entry}
use Rattle.nook_data.specs.declared.scenario.Fault.{Fault}
use Rattle.nook_data.specs.declared.machine.TrapCause.{TrapCause}
use Rattle.nook_data.specs.declared.machine.TrapCause.TheVariants as trap
use Rattle.nook_data.specs.declared.machine.BurstEnd.{BurstEnd}
use Rattle.nook_data.specs.declared.machine.BurstEnd.TheVariants as ends
use Rattle.nook_data.specs.declared.machine.Instr.{Instr}
use Rattle.nook_data.specs.declared.machine.Instr.TheVariants as instr
use Rattle.machine_defs.specs.Burst.{Burst, Struck, acts_of, burst, burst_from, count_at, ended, strikes_at}
use Rattle.machine_defs.specs.Burst.{struck_machine, trap_of}
use Rattle.machine_defs.specs.Devices.{Given, Taken, input_of, output_of}
use Rattle.machine_defs.specs.Machine.{decode_of}
use Rattle.machine_defs.specs.Pages.{fetch_word, may_write, read_word}
use Rattle.machine_defs.proofs.BurstTurns.{turn_cases}
use Rattle.machine_defs.specs.Execution.{Machine, Executed, executed, past_input, past_output, r, stores, turn}
use Rattle.machine_defs.proofs.MachineCases.{past_decode, past_fetch, past_read, past_trap}
use Rattle.turn_trace.specs.Bursts.{TracedBurst, TracedStep, rest_after, following_crossing, after_stop, following_turn, burst_trace, finished, strike, struck_at, taken, trace_from, up_to_trap}
use Rattle.turn_trace.specs.Retelling.{AreNumbered, Retells, acts_of_turn, counted, strikes_of, turns_of}
use Rattle.turn_trace.specs.Turns.{traced}
use Rattle.turn_trace.specs.declared.traced.TracedTurn.{TracedTurn}

split : {G : Type 0} → (b : Bool) → (b ≡ true → G) → (b ≡ false → G) → G
split true there not_there = there refl
split false there not_there = not_there refl

-- ---- no instruction is a hang by itself

abbrev IsOwn : Option BurstEnd → Type 0
IsOwn None = Unit {0}
IsOwn (Some (ends.Trap trap.Hang)) = ⊥
IsOwn (Some (ends.Trap cause)) = Unit {0}
IsOwn (Some ending) = Unit {0}

read_own : (m : Machine) (a address : ℕ) (o : Option ℕ) → IsOwn (past_read m a address o).crossing
read_own m a address None = tt
read_own m a address (Some word) = tt

store_own : (entries : List Entry) (m : Machine) (a address : ℕ) → IsOwn (stores entries m a address).crossing
store_own entries m a address = split (may_write entries address) (λ e. rw e tt) (λ e. rw e tt)

input_own : (m : Machine) (a port : ℕ) (o : Option Given) → IsOwn (past_input m a port o).crossing
input_own m a port None = tt
input_own m a port (Some given) = tt

output_own : (m : Machine) (port : ℕ) (o : Option Taken) → IsOwn (past_output m port o).crossing
output_own m port None = tt
output_own m port (Some given) = tt

executed_own : (entries : List Entry) (m : Machine) (i : Instr) → IsOwn (executed entries m i).crossing
executed_own entries m (instr.Ld a b imm) = read_own m a ((r m b + imm) % 2 ^ 32) (read_word m.memory ((r m b + imm) % 2 ^ 32))
executed_own entries m (instr.St a b imm) = store_own entries m a ((r m b + imm) % 2 ^ 32)
executed_own entries m (instr.In a imm) = input_own m a imm (input_of imm m.device)
executed_own entries m (instr.Out a imm) = output_own m imm (output_of imm (r m a) m.device)
executed_own entries m _ = tt

decode_own : (entries : List Entry) (m : Machine) (o : Option Instr) → IsOwn (past_decode entries m o).crossing
decode_own entries m None = tt
decode_own entries m (Some i) = executed_own entries m i

fetch_own : (entries : List Entry) (m : Machine) (o : Option ℕ) → IsOwn (past_fetch entries m o).crossing
fetch_own entries m None = tt
fetch_own entries m (Some word) = decode_own entries m (decode_of word)

turn_own : (entries : List Entry) (m : Machine) → IsOwn (turn entries m).crossing
unfolding turn
turn_own entries m = fetch_own entries m (fetch_word m.memory m.cpu.counter)

counts_turns : (number : ℕ) (ending : BurstEnd) → IsOwn (Some ending) → number ≡ counted (number + 0) ending
counts_turns number (ends.Trap trap.Hang) own = absurd own
counts_turns number (ends.Trap trap.BadOpcode) own = omega arith
counts_turns number (ends.Trap trap.BadFetch) own = omega arith
counts_turns number (ends.Trap (trap.BadRead address)) own = omega arith
counts_turns number (ends.Trap (trap.ForeignWrite address)) own = omega arith
counts_turns number (ends.Trap (trap.BadPort port)) own = omega arith
counts_turns number (ends.Trap trap.Explicit) own = omega arith
counts_turns number (ends.Trap trap.Injected) own = omega arith
counts_turns number (ends.Kcall service) own = omega arith
counts_turns number (ends.Reply status) own = omega arith
counts_turns number ends.Pause own = omega arith

counts_stop : (point : ℕ) (cause : TrapCause) → count_at point cause ≡ counted (point + 0) (ends.Trap cause)
counts_stop point trap.Hang = refl
counts_stop point trap.BadOpcode = omega arith
counts_stop point trap.BadFetch = omega arith
counts_stop point (trap.BadRead address) = omega arith
counts_stop point (trap.ForeignWrite address) = omega arith
counts_stop point (trap.BadPort port) = omega arith
counts_stop point trap.Explicit = omega arith
counts_stop point trap.Injected = omega arith

-- ---- what holds from a position on

record IsRecorded (point : ℕ) (faults : List Fault) (acts : List Act) (t : TracedBurst) (b : Burst) : Type 0 where
  machine : t.left ≡ b.machine
  ending : t.ending ≡ b.ending
  count : b.count ≡ counted (point + length (turns_of t.steps)) t.ending
  few : point + length (turns_of t.steps) ≤ 4096
  numbers : AreNumbered (point + 1) (turns_of t.steps)
  done : acts ++ flat_map acts_of_turn (turns_of t.steps) ≡ b.acts
  each : strikes_of t.steps ++ t.unstruck ≡ faults

ends_reported : (point : ℕ) (faults : List Fault) (m : Machine) (acts : List Act) (ending : BurstEnd) (count : ℕ)
    → point ≤ 4096 → count ≡ counted (point + 0) ending
    → IsRecorded point faults acts (finished faults m ending) (ended count m acts ending)
ends_reported point faults m acts ending count h n = record {
  machine = refl;
  ending = refl;
  count = n;
  few = omega arith;
  numbers = tt;
  done = append-nil acts;
  each = refl;
}

-- an instruction is prepended
turn_reported : (point number : ℕ) (faults : List Fault) (acts own : List Act) (recorded : TracedTurn) (t : TracedBurst) (b : Burst)
    → number ≡ point + 1 → recorded.number ≡ number → recorded.acts ≡ own
    → IsRecorded number faults (acts ++ own) t b → IsRecorded point faults acts (rest_after (taken recorded ∷ []) t) b
turn_reported point number faults acts own recorded t b n e a h =
    let more : point + suc (length (turns_of t.steps)) ≡ number + length (turns_of t.steps) = omega (arith, n) in
    record {
      machine = h.machine;
      ending = h.ending;
      count = rw more h.count;
      few = rw more h.few;
      numbers = (e ∙ n, rw (← n) h.numbers);
      done = rw a (sym (append_assoc acts own _) ∙ h.done);
      each = h.each;
    }

turns_following : (struck : List Fault) (steps : List TracedStep) → turns_of (map strike struck ++ steps) ≡ turns_of steps
turns_following [] steps = refl
turns_following (f ∷ struck) steps = turns_following struck steps

strikes_after : (struck : List Fault) (steps : List TracedStep) → strikes_of (map strike struck ++ steps) ≡ struck ++ strikes_of steps
strikes_after [] steps = refl
strikes_after (f ∷ struck) steps = ap (λ s. f ∷ s) (strikes_after struck steps)

-- strikes are prepended
strikes_reported : (point : ℕ) (struck rest faults : List Fault) (acts : List Act) (t : TracedBurst) (b : Burst)
    → struck ++ rest ≡ faults → IsRecorded point rest acts t b → IsRecorded point faults acts (rest_after (map strike struck) t) b
strikes_reported point struck rest faults acts t b e h = record {
  machine = h.machine;
  ending = h.ending;
  count = rw (turns_following struck t.steps) h.count;
  few = rw (turns_following struck t.steps) h.few;
  numbers = rw (turns_following struck t.steps) h.numbers;
  done = rw (turns_following struck t.steps) h.done;
  each = rw (strikes_after struck t.steps) (append_assoc struck (strikes_of t.steps) t.unstruck ∙ rw h.each e);
}

up_to_trap_rest : (f : Fault) (faults more : List Fault) (s : Struck) (m : Machine) (o : Option TrapCause)
    → more ++ s.rest ≡ faults → up_to_trap more o ++ (past_trap s m faults o).rest ≡ faults
up_to_trap_rest f faults more s m None e = e
up_to_trap_rest f faults more s m (Some cause) e = refl

-- the faults that strike at a position and the remaining ones are all of them
struck_and_rest : (point : ℕ) (entries : List Entry) (faults : List Fault) (m : Machine)
    → struck_at point faults ++ (strikes_at point entries faults m).rest ≡ faults
struck_and_rest point entries [] m = refl
struck_and_rest point entries (f ∷ faults) m =
    split (f.after == point)
    (λ e. rw (e, strikes_at, struck_at)
    (ap (λ s. f ∷ s) (up_to_trap_rest f faults (struck_at point faults) (strikes_at point entries faults (struck_machine entries f.kind m)) m (trap_of f.kind)
    (struck_and_rest point entries faults (struck_machine entries f.kind m)))))
    (λ e. rw (e, strikes_at, struck_at) refl)

-- an instruction that is the last
last_turn_reported : (go : Machine → ℕ → TracedBurst) (point number : ℕ) (rest : List Fault) (m : Machine) (acts : List Act) (n : ℕ)
    (t : Executed) (ending : BurstEnd)
    → number ≡ point + 1 → number ≤ 4096 → IsOwn (Some ending)
    → following_crossing go rest t.machine (n + length (acts_of t.act)) t.crossing ≡ finished rest t.machine ending
    → IsRecorded point rest acts (following_turn go rest number m n t) (ended number t.machine (acts ++ acts_of t.act) ending)
last_turn_reported go point number rest m acts n t ending next h own last =
    turn_reported point number rest acts (acts_of t.act) (traced number m t)
    (following_crossing go rest t.machine (n + length (acts_of t.act)) t.crossing)
    (ended number t.machine (acts ++ acts_of t.act) ending) next refl refl
    (rw last (ends_reported number rest t.machine (acts ++ acts_of t.act) ending number h (counts_turns number ending own)))

-- ---- the whole

from_reported : (left : ℕ) (entries : List Entry) (faults : List Fault) (m : Machine) (acts : List Act) (n : ℕ)
    → left ≤ 4096 → n ≡ length acts
    → IsRecorded (4096 - left) faults acts (trace_from left entries faults m n) (burst_from left entries faults m acts)
unfolding trace_from burst_from
from_reported zero entries faults m acts n h e = ends_reported 4096 faults m acts (ends.Trap trap.Hang) 4096 (omega arith) refl
from_reported (suc left) entries faults m acts n h e =
    let point : ℕ = 4096 - suc left in
    let number : ℕ = 4096 - left in
    let next : number ≡ point + 1 = omega arith in
    let s : Struck = strikes_at point entries faults m in
    let t : Executed = turn entries s.machine in
    let all : n + length (acts_of t.act) ≡ length (acts ++ acts_of t.act) = rw (length-append acts (acts_of t.act), e) refl in
    let traced_on = λ (m' : Machine) (n' : ℕ). trace_from left entries s.rest m' n' in
    let recorded : TracedBurst = after_stop
    (λ rest struck. following_turn (λ m' n'. trace_from left entries rest m' n') rest number struck n (turn entries struck))
    s.machine s.rest s.stopped in
    strikes_reported point (struck_at point faults) s.rest faults acts _ _ (struck_and_rest point entries faults m)
    (turn_cases (IsRecorded point s.rest acts recorded) left entries faults m acts s t refl refl
    (λ cause stopped. rw stopped
    (ends_reported point s.rest s.machine acts (ends.Trap cause) (count_at point cause) (omega arith) (counts_stop point cause)))
    (λ ending none crossing. rw none
    (last_turn_reported traced_on point number s.rest s.machine acts n t ending next (omega arith)
    (rw crossing at (turn_own entries s.machine)) (rw crossing refl)))
    (λ none no_crossing many. rw none
    (last_turn_reported traced_on point number s.rest s.machine acts n t ends.Pause next (omega arith) tt (rw (no_crossing, all, many) refl)))
    (λ none no_crossing few. rw none
    (turn_reported point number s.rest acts (acts_of t.act) (traced number s.machine t)
    (following_crossing traced_on s.rest t.machine (n + length (acts_of t.act)) t.crossing) _ next refl refl
    (rw (no_crossing, all, few)
    (from_reported left entries s.rest t.machine (acts ++ acts_of t.act) (length (acts ++ acts_of t.act)) (omega arith) refl)))))

pub retold : (entries : List Entry) (faults : List Fault) (m : Machine) → Retells faults (burst_trace entries faults m) (burst entries faults m)
unfolding burst_trace burst
retold entries faults m =
    let h : IsRecorded 0 faults [] (trace_from 4096 entries faults m 0) (burst_from 4096 entries faults m []) =
    from_reported 4096 entries faults m [] 0 (omega arith) refl in
    let none : 0 + length (turns_of (trace_from 4096 entries faults m 0).steps) ≡ length (turns_of (trace_from 4096 entries faults m 0).steps) = omega arith in
    record {
      machine = h.machine;
      ending = h.ending;
      count = rw none at h.count;
      few = rw none at h.few;
      numbers = h.numbers;
      acts = h.done;
      each = h.each;
    }
