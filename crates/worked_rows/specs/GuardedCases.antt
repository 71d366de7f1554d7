use Rattle.std.specs.Prelude.{ℕ, List, [], ◌∷◌, ◌++◌, codes, map, replicate}
use Rattle.guard_defs.specs.GuardedRuns.{guarded_runs, guarded_scenario}
use Rattle.nook_data.specs.declared.calls.Op.TheVariants as op
use Rattle.nook_data.specs.declared.scenario.Fault.{Fault}
use Rattle.nook_data.specs.declared.scenario.FaultKind.TheVariants as fault
use Rattle.nook_data.specs.declared.scenario.PartSpec.{PartSpec}
use Rattle.nook_data.specs.declared.scenario.Scenario.{Scenario}
use Rattle.nook_data.specs.declared.scenario.ScheduleSpec.TheVariants as schedule
use Rattle.run_defs.specs.References.{block_image}
use Rattle.run_defs.specs.Simulation.{begins}
use Rattle.worked_rows.specs.Scenarios.{disk, report_of, strike, thread}

-- Guarded runs of disks, worked out by hand.

-- the guarded scenario of a scenario whose guarded run has at most 100,000 steps
abbrev pub guarded_of : Scenario → Scenario
guarded_of s = guarded_scenario s (guarded_runs 100000 (begins s))

-- the faults of each part of a scenario
abbrev pub own_faults : PartSpec → List Fault
own_faults part = part.faults

abbrev pub faults_of : Scenario → List (List Fault)
faults_of s = map own_faults s.parts

-- A write of two blocks. Each block takes 86 instructions: the third loads the first word and the fourth outputs it to
-- the disk. Three instructions come before the first block. After instruction 92, the third of the second block, the
-- loaded word is changed. The second store, the fourth instruction from the end of that block, is instruction 172.

abbrev pub changed_word : Fault
changed_word = strike 3 92 (fault.Reg 8 9)

abbrev pub wrong_second_block : Scenario
wrong_second_block = record {
  schedule = schedule.RoundRobin;
  parts = disk 2 1 block_image (changed_word ∷ []) ∷ [];
  threads = thread (codes "t0") ((0, op.Write 0 (replicate 32 5)) ∷ []) ∷ [];
}

-- so the guard's trap comes after instruction 171: the first block is stored, and the second is not
abbrev pub wrong_second_block_faults : List (List Fault)
wrong_second_block_faults = (changed_word ∷ strike 3 171 fault.Trap ∷ []) ∷ []

abbrev pub wrong_second_block_report : List ℕ
wrong_second_block_report =
    codes "part 0 d0 block limit 1\n"
    ++ codes "1 invoke c1 t0 write 0 [5,5,5,5,5,5,5,5,5,5,5,5,5,5,5,5,5,5,5,5,5,5,5,5,5,5,5,5,5,5,5,5]\n"
    ++ codes "2 stage load\n"
    ++ codes "3 stage init\n"
    ++ codes "4 burst x16 c0 b1 n2 service 3 0 0 = 0\n"
    ++ codes "5 burst x16 c0 b2 n2 reply 0\n"
    ++ codes "6 stage resume\n"
    ++ codes "7 enter c1 x0 try 1\n"
    ++ codes "8 burst x0 c1 b3 n171 trap | store 0 [5,5,5,5,5,5,5,5,5,5,5,5,5,5,5,5] ! trap injected\n"
    ++ codes "9 stage stop\n"
    ++ codes "10 stage collect buffer 0 read\n"
    ++ codes "11 stage reset\n"
    ++ codes "12 stage load\n"
    ++ codes "13 stage init\n"
    ++ codes "14 burst x16 c0 b4 n2 service 3 0 0 = 0\n"
    ++ codes "15 burst x16 c0 b5 n2 reply 0\n"
    ++ codes "16 stage resume\n"
    ++ codes "17 enter c1 x0 try 2\n"
    ++ codes "18 burst x0 c1 b6 n176 reply 0 | store 0 [5,5,5,5,5,5,5,5,5,5,5,5,5,5,5,5] | store 1 [5,5,5,5,5,5,5,5,5,5,5,5,5,5,5,5] -> done\n"
    ++ codes "disk 0 [5,5,5,5,5,5,5,5,5,5,5,5,5,5,5,5]\n"
    ++ codes "disk 1 [5,5,5,5,5,5,5,5,5,5,5,5,5,5,5,5]\n"
    ++ codes "config 0 0 0 0\n"
    ++ codes "failures 1\n"
    ++ codes "contract kept\n"
    ++ codes "thread 0 t0\n"
    ++ codes "1 p0 done\n"
    ++ codes "status 0\n"

-- A read of one block. Its first word is changed in the buffer before the last of its 89 instructions, the reply. The
-- disk may fail once.

abbrev pub changed_buffer : Fault
changed_buffer = strike 3 88 (fault.Poke 5184 9)

abbrev pub wrong_reply : Scenario
wrong_reply = record {
  schedule = schedule.RoundRobin;
  parts = disk 1 1 block_image (changed_buffer ∷ []) ∷ [];
  threads = thread (codes "t0") ((0, op.Read 0 1) ∷ []) ∷ [];
}

-- the trap comes before the reply, and after the fault at the same instruction
abbrev pub wrong_reply_faults : List (List Fault)
wrong_reply_faults = (changed_buffer ∷ strike 3 88 fault.Trap ∷ []) ∷ []
