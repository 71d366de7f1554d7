use Rattle.std.specs.Prelude.{ℕ, zero, suc, ◌-◌, ◌<◌, ◌≤◌, Option, Some, None, List, [], ◌++◌, length}
use Rattle.std.proofs.Common.{arith, refl, length-append}
use Rattle.nook_data.specs.declared.machine.Act.{Act}
use Rattle.nook_data.specs.declared.entries.Entry.{Entry}
use Rattle.nook_data.specs.declared.scenario.Fault.{Fault}
use Rattle.nook_data.specs.declared.machine.TrapCause.{TrapCause}
use Rattle.nook_data.specs.declared.machine.TrapCause.TheVariants as trap
use Rattle.machine_defs.specs.Burst.{Struck, acts_of, burst, burst_from, count_at, strikes_at}
use Rattle.machine_defs.specs.Execution.{Machine, Executed, turn}
use Rattle.machine_defs.proofs.BurstTurns.{turn_cases}
use Rattle.headline_laws.specs.Recoveries.{IsBounded}

-- one more act
one_more : (acts : List Act) (a : Option Act) → length acts < 64 → length (acts ++ acts_of a) ≤ 64
one_more acts None h = grind (arith, length-append)
one_more acts (Some a) h = grind (arith, length-append)

count_bounded : (count : ℕ) (cause : TrapCause) → count ≤ 4096 → count_at count cause ≤ 4096
count_bounded count trap.Hang h = omega arith
count_bounded count trap.BadOpcode h = h
count_bounded count trap.BadFetch h = h
count_bounded count (trap.BadRead address) h = h
count_bounded count (trap.ForeignWrite address) h = h
count_bounded count (trap.BadPort port) h = h
count_bounded count trap.Explicit h = h
count_bounded count trap.Injected h = h

from_bounded : (left : ℕ) (entries : List Entry) (faults : List Fault) (m : Machine) (acts : List Act)
    → length acts < 64 → IsBounded (burst_from left entries faults m acts)
unfolding burst_from
from_bounded zero entries faults m acts a = record { turns = omega arith; acts = omega (arith, a) }
from_bounded (suc left) entries faults m acts a =
    let s : Struck = strikes_at (4096 - suc left) entries faults m in
    let t : Executed = turn entries s.machine in
    let turns : 4096 - left ≤ 4096 = omega arith in
    let more : length (acts ++ acts_of t.act) ≤ 64 = one_more acts t.act a in
    turn_cases IsBounded left entries faults m acts s t refl refl
    (λ cause trap. record { turns = count_bounded (4096 - suc left) cause (omega arith); acts = omega (arith, a) })
    (λ ending none crossing. record { turns = turns; acts = more })
    (λ none no_crossing many. record { turns = turns; acts = more })
    (λ none no_crossing few. from_bounded left entries s.rest t.machine (acts ++ acts_of t.act) (grind (arith, few)))

-- a burst has at most 4,096 instructions and at most 64 acts
pub burst_bounded : (entries : List Entry) (faults : List Fault) (m : Machine) → IsBounded (burst entries faults m)
unfolding burst
burst_bounded entries faults m = from_bounded 4096 entries faults m [] (omega arith)
