use Rattle.std.proofs.Common.{◌≡◌, ◌+◌, ◌-◌, ◌<◌, ◌≤◌, ◌==◌, ℕ, suc, true, false, nat_le, List, [], ◌∷◌, Option, Some, None, length, refl, sym, ◌∙◌, arith}
use Rattle.driver_isa.specs.Runs.{is_due, past_run}
use Rattle.driver_isa.specs.Turns.{IsExecuted}
use Rattle.driver_isa.specs.Entries.{IsEntryAt, executed_entry}
use Rattle.driver_isa.proofs.Entries.{entry_turn}
use Rattle.machine_defs.specs.Burst.{Burst, Struck, burst, burst_from, count_at, ended, strikes_at}
use Rattle.machine_defs.specs.Execution.{Machine, turn}
use Rattle.machine_defs.proofs.BurstTurns.{crossing_ends, goes_on, last_act_ends, trap_ends, turn_cases}
use Rattle.nook_data.specs.declared.machine.Act.{Act}
use Rattle.nook_data.specs.declared.entries.Entry.{Entry}
use Rattle.nook_data.specs.declared.machine.Instr.{Instr}
use Rattle.nook_data.specs.declared.scenario.Fault.{Fault}
use Rattle.nook_data.specs.declared.machine.TrapCause.{TrapCause}
use Rattle.nook_data.specs.declared.machine.TrapCause.TheVariants as trap
use Rattle.nook_data.specs.declared.machine.BurstEnd.{BurstEnd}
use Rattle.nook_data.specs.declared.machine.BurstEnd.TheVariants as ends

-- a whole burst begins without acts
pub burst_begins : (entries : List Entry) (faults : List Fault) (m : Machine) (acts : List Act) → acts ≡ []
    → burst entries faults m ≡ burst_from 4096 entries faults m acts
unfolding burst
burst_begins entries faults m acts e = rw e refl

-- the instructions done so far and those left in the burst
record IsAt (count : ℕ) : Type 0 where
  whole : 4096 - count ≡ suc (4096 - (count + 1))
  next : 4096 - (4096 - (count + 1)) ≡ count + 1
  here : 4096 - suc (4096 - (count + 1)) ≡ count

at_count : (count : ℕ) → count < 4096 → IsAt count
at_count count h = record { whole = omega arith; next = omega arith; here = omega arith }

-- a trap among the faults that are due ends the burst
pub stops_here : (count : ℕ) (entries : List Entry) (faults : List Fault) (m : Machine) (acts : List Act) (whole : Burst)
    (s : Struck) (cause : TrapCause) (reported : ℕ) (ending : BurstEnd)
    → count < 4096 → burst_from (4096 - count) entries faults m acts ≡ whole
    → strikes_at count entries faults m ≡ s → s.stopped ≡ Some cause
    → reported ≡ count_at count cause → ending ≡ ends.Trap cause
    → whole ≡ record { machine = s.machine; acts = acts; count = reported; ending = ending }
stops_here count entries faults m acts whole s cause reported ending h e struck stopped n x =
    let at : IsAt count = at_count count h in
    let ends_so = trap_ends (4096 - (count + 1)) entries faults m acts s cause (rw at.here struck) stopped in
    sym (rw at.whole at e) ∙ ends_so ∙ rw (at.here, n, x) refl

-- a crossing ends the burst
pub crosses_here : (count : ℕ) (entries entries' : List Entry) (faults : List Fault) (m : Machine) (acts : List Act) (whole : Burst)
    (s : Struck) (left : Machine) (after : List Act) (result : Option BurstEnd) (ending : BurstEnd)
    → count < 4096 → burst_from (4096 - count) entries faults m acts ≡ whole
    → strikes_at count entries faults m ≡ s → s.stopped ≡ None
    → entries' ≡ entries → IsExecuted (turn entries' s.machine) left acts after result → result ≡ Some ending
    → whole ≡ record { machine = left; acts = after; count = count + 1; ending = ending }
crosses_here count entries entries' faults m acts whole s left after result ending h e struck stopped same t r =
    let at : IsAt count = at_count count h in
    let t' : IsExecuted (turn entries s.machine) left acts after result = rw same at t in
    let ends_so = crossing_ends (4096 - (count + 1)) entries faults m acts s (turn entries s.machine) ending (rw at.here struck) stopped refl
    (t'.crossing ∙ r) in
    sym (rw at.whole at e) ∙ ends_so ∙ rw (at.next, t'.machine, ← t'.acts) refl

-- the 64th act ends the burst
pub pauses_here : (count : ℕ) (entries entries' : List Entry) (faults : List Fault) (m : Machine) (acts : List Act) (whole : Burst)
    (s : Struck) (left : Machine) (after : List Act) (result : Option BurstEnd)
    → count < 4096 → burst_from (4096 - count) entries faults m acts ≡ whole
    → strikes_at count entries faults m ≡ s → s.stopped ≡ None
    → entries' ≡ entries → IsExecuted (turn entries' s.machine) left acts after result → result ≡ None
    → nat_le 64 (length after) ≡ true
    → whole ≡ record { machine = left; acts = after; count = count + 1; ending = ends.Pause }
pauses_here count entries entries' faults m acts whole s left after result h e struck stopped same t r many =
    let at : IsAt count = at_count count h in
    let t' : IsExecuted (turn entries s.machine) left acts after result = rw same at t in
    let ends_so = last_act_ends (4096 - (count + 1)) entries faults m acts s (turn entries s.machine) (rw at.here struck) stopped refl
    (t'.crossing ∙ r) (rw (← t'.acts) many) in
    sym (rw at.whole at e) ∙ ends_so ∙ rw (at.next, t'.machine, ← t'.acts) refl

-- after any other instruction the burst continues with its rest
pub goes_on_here : (count : ℕ) (entries entries' entries'' : List Entry) (faults : List Fault) (m : Machine) (acts : List Act) (whole : Burst)
    (s : Struck) (left : Machine) (after : List Act) (result : Option BurstEnd)
    → count < 4096 → burst_from (4096 - count) entries faults m acts ≡ whole
    → strikes_at count entries faults m ≡ s → s.stopped ≡ None
    → entries' ≡ entries → entries'' ≡ entries' → IsExecuted (turn entries' s.machine) left acts after result → result ≡ None
    → nat_le 64 (length after) ≡ false
    → burst_from (4096 - (count + 1)) entries'' s.rest left after ≡ whole
goes_on_here count entries entries' entries'' faults m acts whole s left after result h e struck stopped same same' t r few =
    let at : IsAt count = at_count count h in
    let t' : IsExecuted (turn entries s.machine) left acts after result = rw same at t in
    let goes_so = goes_on (4096 - (count + 1)) entries faults m acts s (turn entries s.machine) (rw at.here struck) stopped refl
    (t'.crossing ∙ r) (rw (← t'.acts) few) in
    rw (same', same) (rw (t'.machine, ← t'.acts) at (sym goes_so) ∙ rw at.whole at e)

-- a burst without a crossing is a hang
pub hangs_here : (count : ℕ) (entries : List Entry) (faults : List Fault) (m : Machine) (acts : List Act) (whole : Burst)
    (reported : ℕ) (ending : BurstEnd)
    → 4096 ≤ count → burst_from (4096 - count) entries faults m acts ≡ whole
    → reported ≡ 4096 → ending ≡ ends.Trap trap.Hang
    → whole ≡ record { machine = m; acts = acts; count = reported; ending = ending }
unfolding burst_from
hangs_here count entries faults m acts whole reported ending h e n x =
    let none : 4096 - count ≡ 0 = omega arith in
    sym e ∙ rw (none, n, x) refl

-- if none of the faults is due, none strikes
pub none_strikes : (count : ℕ) (entries : List Entry) (faults : List Fault) (m : Machine) → is_due count faults ≡ false
    → strikes_at count entries faults m ≡ record { machine = m; rest = faults; stopped = None }
none_strikes count entries [] m e = refl
none_strikes count entries (f ∷ faults) m e = let other : f.after == count ≡ false = e in rw (other, strikes_at) refl

no_trap : (o : Option TrapCause) (cause : TrapCause) → o ≡ None → o ≡ Some cause → ⊥
no_trap None cause n e = absurd cc
no_trap (Some other) cause n e = absurd cc

-- faults that strike without a trap leave the burst with the faults after them
pub strikes_here : (count : ℕ) (entries entries' : List Entry) (faults : List Fault) (m : Machine) (acts : List Act) (whole : Burst) (s : Struck)
    → count < 4096 → burst_from (4096 - count) entries faults m acts ≡ whole
    → strikes_at count entries faults m ≡ s → s.stopped ≡ None → is_due count s.rest ≡ false → entries' ≡ entries
    → burst_from (4096 - count) entries' s.rest s.machine acts ≡ whole
strikes_here count entries entries' faults m acts whole s h e struck stopped clear same =
    let at : IsAt count = at_count count h in
    let here : strikes_at (4096 - suc (4096 - (count + 1))) entries faults m ≡ s = rw at.here struck in
    let none : strikes_at (4096 - suc (4096 - (count + 1))) entries s.rest s.machine ≡ calm = rw at.here (none_strikes count entries s.rest s.machine clear) in
    rw same (sym (rw at.whole (alike (4096 - (count + 1)) here none)) ∙ e)
  where
    calm : Struck
    calm = record { machine = s.machine; rest = s.rest; stopped = None }

    alike : (left : ℕ) → strikes_at (4096 - suc left) entries faults m ≡ s → strikes_at (4096 - suc left) entries s.rest s.machine ≡ calm
        → burst_from (suc left) entries faults m acts ≡ burst_from (suc left) entries s.rest s.machine acts
    alike left here none = turn_cases (λ b. b ≡ burst_from (suc left) entries s.rest s.machine acts) left entries faults m acts s (turn entries s.machine) here refl
        (λ cause c. absurd (no_trap s.stopped cause stopped c))
        (λ ending n x. sym (crossing_ends left entries s.rest s.machine acts calm (turn entries s.machine) ending none refl refl x))
        (λ n x many. sym (last_act_ends left entries s.rest s.machine acts calm (turn entries s.machine) none refl refl x many))
        (λ n x few. sym (goes_on left entries s.rest s.machine acts calm (turn entries s.machine) none refl refl x few))

-- an instruction that crosses, with no fault due before it
pub run_crosses : (count : ℕ) (entries : List Entry) (faults : List Fault) (m left : Machine) (acts after : List Act) (whole : Burst)
    (reported : Option BurstEnd) (ending : BurstEnd)
    → count < 4096 → is_due count faults ≡ false → burst_from (4096 - count) entries faults m acts ≡ whole
    → IsExecuted (turn entries m) left acts after reported → reported ≡ Some ending
    → whole ≡ ended (count + 1) left after ending
run_crosses count entries faults m left acts after whole reported ending h clear e t r =
    crosses_here count entries entries faults m acts whole (record { machine = m; rest = faults; stopped = None }) left after reported ending
    h e (none_strikes count entries faults m clear) refl refl t r

-- one that does the 64th act
pub run_pauses : (count : ℕ) (entries : List Entry) (faults : List Fault) (m left : Machine) (acts after : List Act) (whole : Burst)
    (reported : Option BurstEnd)
    → count < 4096 → is_due count faults ≡ false → burst_from (4096 - count) entries faults m acts ≡ whole
    → IsExecuted (turn entries m) left acts after reported → reported ≡ None → nat_le 64 (length after) ≡ true
    → whole ≡ ended (count + 1) left after ends.Pause
run_pauses count entries faults m left acts after whole reported h clear e t r many =
    pauses_here count entries entries faults m acts whole (record { machine = m; rest = faults; stopped = None }) left after reported
    h e (none_strikes count entries faults m clear) refl refl t r many

-- any other instruction
pub run_goes_on : (count : ℕ) (entries entries' : List Entry) (faults : List Fault) (m left : Machine) (acts after : List Act) (whole : Burst)
    (reported : Option BurstEnd)
    → count < 4096 → is_due count faults ≡ false → burst_from (4096 - count) entries faults m acts ≡ whole
    → IsExecuted (turn entries m) left acts after reported → reported ≡ None → nat_le 64 (length after) ≡ false → entries' ≡ entries
    → burst_from (4096 - (count + 1)) entries' faults left after ≡ whole
run_goes_on count entries entries' faults m left acts after whole reported h clear e t r few same =
    goes_on_here count entries entries entries' faults m acts whole (record { machine = m; rest = faults; stopped = None }) left after reported
    h e (none_strikes count entries faults m clear) refl refl same t r few

-- if no act was added, there is still room for one
pub few_left : (acts after : List Act) → after ≡ acts → length acts < 64 → nat_le 64 (length after) ≡ false
few_left acts after e h = rw e (grind arith)

-- the instruction of an entry, with this many left up to `stop`
pub entry_goes_on : (stop left : ℕ) (entries entries' : List Entry) (faults : List Fault) (m m' : Machine) (o : Option Instr) (acts after : List Act) (whole : Burst)
    → 0 < left → left ≤ stop → stop ≤ 4096 → is_due (stop - left) faults ≡ false
    → IsEntryAt o m.memory m.cpu.counter → IsExecuted (executed_entry entries m o) m' acts after None → length after < 64 → entries' ≡ entries
    → burst_from (4096 - (stop - left)) entries faults m acts ≡ whole
    → burst_from (4096 - (stop - (left - 1))) entries' faults m' after ≡ whole
entry_goes_on stop left entries entries' faults m m' o acts after whole some within most clear is done few same e =
    let next : stop - (left - 1) ≡ (stop - left) + 1 = omega arith in
    rw next
    (run_goes_on (stop - left) entries entries' faults m m' acts after whole None (omega arith) clear e
    (entry_turn entries m m' o acts after is done).turned refl (few_left after after refl few) same)

-- consecutive instructions that ended the burst
pub run_ended : (count : ℕ) (entries : List Entry) (faults : List Fault) (m : Machine) (acts : List Act) (whole : Burst)
    (reported : Option BurstEnd) (ending : BurstEnd)
    → whole ≡ past_run count entries faults m acts reported → reported ≡ Some ending → whole ≡ ended count m acts ending
run_ended count entries faults m acts whole reported ending h r = h ∙ rw r refl

-- consecutive instructions that did not end it
pub run_left : (count : ℕ) (entries : List Entry) (faults : List Fault) (m : Machine) (acts : List Act) (whole : Burst)
    (reported : Option BurstEnd)
    → whole ≡ past_run count entries faults m acts reported → reported ≡ None → burst_from (4096 - count) entries faults m acts ≡ whole
run_left count entries faults m acts whole reported h r = sym (h ∙ rw r refl)
