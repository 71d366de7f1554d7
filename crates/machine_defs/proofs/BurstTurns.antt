-- What a burst becomes, by the result of its next instruction.
use Rattle.std.proofs.Common.{◌≡◌, ◌-◌, ℕ, suc, nat_le, Bool, true, false, Option, Some, None, List, ◌++◌, length, refl, sym, subst, ◌∙◌, ap}
use Rattle.nook_data.specs.declared.machine.Act.{Act}
use Rattle.nook_data.specs.declared.entries.Entry.{Entry}
use Rattle.nook_data.specs.declared.scenario.Fault.{Fault}
use Rattle.nook_data.specs.declared.machine.TrapCause.{TrapCause}
use Rattle.nook_data.specs.declared.machine.BurstEnd.{BurstEnd}
use Rattle.nook_data.specs.declared.machine.BurstEnd.TheVariants as ends
use Rattle.machine_defs.specs.Burst.{Burst, Struck, acts_of, burst_from, count_at, ended, strikes_at}
use Rattle.machine_defs.specs.Execution.{Machine, Executed, turn}

-- the results of an instruction and of the faults before it, under the names that equations give them
stops_with : {r s : Struck} {o : Option TrapCause} → r ≡ s → s.stopped ≡ o → r.stopped ≡ o
stops_with struck stopped = ap (λ (x : Struck). x.stopped) struck ∙ stopped

crosses_with : (entries : List Entry) {r s : Struck} {t : Executed} {o : Option BurstEnd} → r ≡ s → turn entries s.machine ≡ t → t.crossing ≡ o
    → (turn entries r.machine).crossing ≡ o
crosses_with entries struck turned crosses =
    ap (λ (x : Struck). (turn entries x.machine).crossing) struck ∙ ap (λ (x : Executed). x.crossing) turned ∙ crosses

-- a trap among the faults before an instruction ends the burst
pub trap_ends : (left : ℕ) (entries : List Entry) (faults : List Fault) (m : Machine) (acts : List Act) (s : Struck) (cause : TrapCause)
    → strikes_at (4096 - suc left) entries faults m ≡ s → s.stopped ≡ Some cause
    → burst_from (suc left) entries faults m acts ≡ ended (count_at (4096 - suc left) cause) s.machine acts (ends.Trap cause)
unfolding burst_from
trap_ends left entries faults m acts s cause struck stopped = rw (stops_with struck stopped, struck, burst_from) refl

-- a crossing by the instruction ends the burst
pub crossing_ends : (left : ℕ) (entries : List Entry) (faults : List Fault) (m : Machine) (acts : List Act) (s : Struck) (t : Executed) (ending : BurstEnd)
    → strikes_at (4096 - suc left) entries faults m ≡ s → s.stopped ≡ None → turn entries s.machine ≡ t → t.crossing ≡ Some ending
    → burst_from (suc left) entries faults m acts ≡ ended (4096 - left) t.machine (acts ++ acts_of t.act) ending
unfolding burst_from
crossing_ends left entries faults m acts s t ending struck none turned crosses =
    rw (stops_with struck none, crosses_with entries struck turned crosses, struck, turned, burst_from) refl

-- the 64th act ends the burst
pub last_act_ends : (left : ℕ) (entries : List Entry) (faults : List Fault) (m : Machine) (acts : List Act) (s : Struck) (t : Executed)
    → strikes_at (4096 - suc left) entries faults m ≡ s → s.stopped ≡ None → turn entries s.machine ≡ t → t.crossing ≡ None
    → nat_le 64 (length (acts ++ acts_of t.act)) ≡ true
    → burst_from (suc left) entries faults m acts ≡ ended (4096 - left) t.machine (acts ++ acts_of t.act) ends.Pause
unfolding burst_from
last_act_ends left entries faults m acts s t struck none turned crosses many =
    rw (stops_with struck none, crosses_with entries struck turned crosses, struck, turned, many, burst_from) refl

-- after any other instruction the burst continues with one instruction fewer
pub goes_on : (left : ℕ) (entries : List Entry) (faults : List Fault) (m : Machine) (acts : List Act) (s : Struck) (t : Executed)
    → strikes_at (4096 - suc left) entries faults m ≡ s → s.stopped ≡ None → turn entries s.machine ≡ t → t.crossing ≡ None
    → nat_le 64 (length (acts ++ acts_of t.act)) ≡ false
    → burst_from (suc left) entries faults m acts ≡ burst_from left entries s.rest t.machine (acts ++ acts_of t.act)
unfolding burst_from
goes_on left entries faults m acts s t struck none turned crosses few =
    rw (stops_with struck none, crosses_with entries struck turned crosses, struck, turned, few, burst_from) refl

by_option : {X G : Type 0} (o : Option X) → ((x : X) → o ≡ Some x → G) → (o ≡ None → G) → G
by_option (Some x) there not_there = there x refl
by_option None there not_there = not_there refl

by_bool : {G : Type 0} (b : Bool) → (b ≡ true → G) → (b ≡ false → G) → G
by_bool true there not_there = there refl
by_bool false there not_there = not_there refl

-- a property that holds in each of the four cases holds for the burst
pub turn_cases : (P : Burst → Type 0) (left : ℕ) (entries : List Entry) (faults : List Fault) (m : Machine) (acts : List Act) (s : Struck) (t : Executed)
    → strikes_at (4096 - suc left) entries faults m ≡ s → turn entries s.machine ≡ t
    → ((cause : TrapCause) → s.stopped ≡ Some cause → P (ended (count_at (4096 - suc left) cause) s.machine acts (ends.Trap cause)))
    → ((ending : BurstEnd) → s.stopped ≡ None → t.crossing ≡ Some ending → P (ended (4096 - left) t.machine (acts ++ acts_of t.act) ending))
    → (s.stopped ≡ None → t.crossing ≡ None → nat_le 64 (length (acts ++ acts_of t.act)) ≡ true
    → P (ended (4096 - left) t.machine (acts ++ acts_of t.act) ends.Pause))
    → (s.stopped ≡ None → t.crossing ≡ None → nat_le 64 (length (acts ++ acts_of t.act)) ≡ false
    → P (burst_from left entries s.rest t.machine (acts ++ acts_of t.act)))
    → P (burst_from (suc left) entries faults m acts)
turn_cases P left entries faults m acts s t struck turned traps crosses pauses more =
    by_option s.stopped
    (λ cause stopped. subst P (sym (trap_ends left entries faults m acts s cause struck stopped)) (traps cause stopped))
    (λ none. by_option t.crossing
    (λ ending x. subst P (sym (crossing_ends left entries faults m acts s t ending struck none turned x)) (crosses ending none x))
    (λ no_crossing. by_bool (nat_le 64 (length (acts ++ acts_of t.act)))
    (λ many. subst P (sym (last_act_ends left entries faults m acts s t struck none turned no_crossing many)) (pauses none no_crossing many))
    (λ few. subst P (sym (goes_on left entries faults m acts s t struck none turned no_crossing few)) (more none no_crossing few))))
