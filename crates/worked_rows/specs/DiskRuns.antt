use Rattle.std.specs.Prelude.{ℕ, List, [], ◌∷◌, ◌++◌, replicate, codes}
use Rattle.nook_data.specs.declared.scenario.FaultKind.TheVariants as fault
use Rattle.nook_data.specs.declared.calls.Op.TheVariants as op
use Rattle.nook_data.specs.declared.scenario.Scenario.{Scenario}
use Rattle.nook_data.specs.declared.scenario.ScheduleSpec.TheVariants as schedule
use Rattle.run_defs.specs.References.{block_image}
use Rattle.worked_rows.specs.Scenarios.{driver, strike, disk, thread}

-- Runs of disks.

abbrev pub boot_alone : Scenario
boot_alone = record {
  schedule = schedule.RoundRobin;
  parts = disk 4 0 block_image [] ∷ [];
  threads = [];
}

abbrev pub boot_alone_report : List ℕ
boot_alone_report =
    codes "part 0 d0 block limit 0\n"
    ++ codes "1 stage load\n"
    ++ codes "2 stage init\n"
    ++ codes "3 burst x16 c0 b1 n2 service 3 0 0 = 0\n"
    ++ codes "4 burst x16 c0 b2 n2 reply 0\n"
    ++ codes "5 stage resume\n"
    ++ codes "config 0 0 0 0\n"
    ++ codes "failures 0\n"
    ++ codes "contract kept\n"
    ++ codes "status 0\n"

abbrev pub edges_of_the_disk : Scenario
edges_of_the_disk = record {
  schedule = schedule.RoundRobin;
  parts = disk 256 0 block_image [] ∷ [];
  threads = thread (codes "t0") ((0, op.Read 248 8) ∷ (0, op.Read 249 8) ∷ (0, op.Read 4294967295 2)
      ∷ (0, op.Write 256 []) ∷ []) ∷ [];
}

abbrev pub edges_of_the_disk_report : List ℕ
edges_of_the_disk_report =
    codes "part 0 d0 block limit 0\n"
    ++ codes "1 invoke c1 t0 read 248 8\n"
    ++ codes "2 stage load\n"
    ++ codes "3 stage init\n"
    ++ codes "4 burst x16 c0 b1 n2 service 3 0 0 = 0\n"
    ++ codes "5 burst x16 c0 b2 n2 reply 0\n"
    ++ codes "6 stage resume\n"
    ++ codes "7 enter c1 x0 try 1\n"
    ++ codes "8 burst x0 c1 b3 n691 reply 0 | load 248 | load 249 | load 250 | load 251 | load 252 | load 253 | load 254 | load 255 -> data [0,0,0,0,0,0,0,0,0,0,0,0,0,0,0,0,0,0,0,0,0,0,0,0,0,0,0,0,0,0,0,0,0,0,0,0,0,0,0,0,0,0,0,0,0,0,0,0,0,0,0,0,0,0,0,0,0,0,0,0,0,0,0,0,0,0,0,0,0,0,0,0,0,0,0,0,0,0,0,0,0,0,0,0,0,0,0,0,0,0,0,0,0,0,0,0,0,0,0,0,0,0,0,0,0,0,0,0,0,0,0,0,0,0,0,0,0,0,0,0,0,0,0,0,0,0,0,0]\n"
    ++ codes "9 invoke c2 t0 read 249 8 -> bad_range\n"
    ++ codes "10 invoke c3 t0 read 4294967295 2 -> bad_range\n"
    ++ codes "11 invoke c4 t0 write 256 [] -> bad_length\n"
    ++ codes "config 0 0 0 0\n"
    ++ codes "failures 0\n"
    ++ codes "contract kept\n"
    ++ codes "thread 0 t0\n"
    ++ codes "1 p0 data [0,0,0,0,0,0,0,0,0,0,0,0,0,0,0,0,0,0,0,0,0,0,0,0,0,0,0,0,0,0,0,0,0,0,0,0,0,0,0,0,0,0,0,0,0,0,0,0,0,0,0,0,0,0,0,0,0,0,0,0,0,0,0,0,0,0,0,0,0,0,0,0,0,0,0,0,0,0,0,0,0,0,0,0,0,0,0,0,0,0,0,0,0,0,0,0,0,0,0,0,0,0,0,0,0,0,0,0,0,0,0,0,0,0,0,0,0,0,0,0,0,0,0,0,0,0,0,0]\n"
    ++ codes "2 p0 bad_range\n"
    ++ codes "3 p0 bad_range\n"
    ++ codes "4 p0 bad_length\n"
    ++ codes "status 0\n"

abbrev pub given_up_past_the_limit : Scenario
given_up_past_the_limit = record {
  schedule = schedule.RoundRobin;
  parts = disk 4 2 block_image (strike 1 0 fault.Trap ∷ strike 2 0 fault.Trap ∷ strike 3 0 fault.Trap ∷ []) ∷ [];
  threads = thread (codes "t0") ((0, op.Write 0 (replicate 16 5)) ∷ []) ∷ [];
}

abbrev pub given_up_past_the_limit_report : List ℕ
given_up_past_the_limit_report =
    codes "part 0 d0 block limit 2\n"
    ++ codes "1 invoke c1 t0 write 0 [5,5,5,5,5,5,5,5,5,5,5,5,5,5,5,5]\n"
    ++ codes "2 stage load\n"
    ++ codes "3 stage init\n"
    ++ codes "4 burst x16 c0 b1 n0 trap ! trap injected\n"
    ++ codes "5 stage stop\n"
    ++ codes "6 stage collect\n"
    ++ codes "7 stage reset\n"
    ++ codes "8 stage load\n"
    ++ codes "9 stage init\n"
    ++ codes "10 burst x16 c0 b2 n0 trap ! trap injected\n"
    ++ codes "11 stage stop\n"
    ++ codes "12 stage collect\n"
    ++ codes "13 stage reset\n"
    ++ codes "14 stage load\n"
    ++ codes "15 stage init\n"
    ++ codes "16 burst x16 c0 b3 n0 trap ! trap injected\n"
    ++ codes "17 stage stop -> c1 gone 3\n"
    ++ codes "18 stage collect\n"
    ++ codes "config 0 0 0 0\n"
    ++ codes "failures 3\n"
    ++ codes "contract kept\n"
    ++ codes "thread 0 t0\n"
    ++ codes "1 p0 gone 3\n"
    ++ codes "status 1\n"

abbrev pub kept_within_the_limit : Scenario
kept_within_the_limit = record {
  schedule = schedule.RoundRobin;
  parts = disk 4 3 block_image (strike 1 0 fault.Trap ∷ strike 2 0 fault.Trap ∷ strike 3 0 fault.Trap ∷ []) ∷ [];
  threads = thread (codes "t0") ((0, op.Write 0 (replicate 16 5)) ∷ []) ∷ [];
}

abbrev pub kept_within_the_limit_report : List ℕ
kept_within_the_limit_report =
    codes "part 0 d0 block limit 3\n"
    ++ codes "1 invoke c1 t0 write 0 [5,5,5,5,5,5,5,5,5,5,5,5,5,5,5,5]\n"
    ++ codes "2 stage load\n"
    ++ codes "3 stage init\n"
    ++ codes "4 burst x16 c0 b1 n0 trap ! trap injected\n"
    ++ codes "5 stage stop\n"
    ++ codes "6 stage collect\n"
    ++ codes "7 stage reset\n"
    ++ codes "8 stage load\n"
    ++ codes "9 stage init\n"
    ++ codes "10 burst x16 c0 b2 n0 trap ! trap injected\n"
    ++ codes "11 stage stop\n"
    ++ codes "12 stage collect\n"
    ++ codes "13 stage reset\n"
    ++ codes "14 stage load\n"
    ++ codes "15 stage init\n"
    ++ codes "16 burst x16 c0 b3 n0 trap ! trap injected\n"
    ++ codes "17 stage stop\n"
    ++ codes "18 stage collect\n"
    ++ codes "19 stage reset\n"
    ++ codes "20 stage load\n"
    ++ codes "21 stage init\n"
    ++ codes "22 burst x16 c0 b4 n2 service 3 0 0 = 0\n"
    ++ codes "23 burst x16 c0 b5 n2 reply 0\n"
    ++ codes "24 stage resume\n"
    ++ codes "25 enter c1 x0 try 1\n"
    ++ codes "26 burst x0 c1 b6 n90 reply 0 | store 0 [5,5,5,5,5,5,5,5,5,5,5,5,5,5,5,5] -> done\n"
    ++ codes "disk 0 [5,5,5,5,5,5,5,5,5,5,5,5,5,5,5,5]\n"
    ++ codes "config 0 0 0 0\n"
    ++ codes "failures 3\n"
    ++ codes "contract kept\n"
    ++ codes "thread 0 t0\n"
    ++ codes "1 p0 done\n"
    ++ codes "status 0\n"

abbrev pub poked_buffer : Scenario
poked_buffer = record {
  schedule = schedule.RoundRobin;
  parts = disk 1 0 block_image (strike 3 88 (fault.Poke 7424 9) ∷ strike 3 88 (fault.Poke 5184 9) ∷ []) ∷ [];
  threads = thread (codes "t0") ((0, op.Read 0 1) ∷ []) ∷ [];
}

abbrev pub poked_buffer_report : List ℕ
poked_buffer_report =
    codes "part 0 d0 block limit 0\n"
    ++ codes "1 invoke c1 t0 read 0 1\n"
    ++ codes "2 stage load\n"
    ++ codes "3 stage init\n"
    ++ codes "4 burst x16 c0 b1 n2 service 3 0 0 = 0\n"
    ++ codes "5 burst x16 c0 b2 n2 reply 0\n"
    ++ codes "6 stage resume\n"
    ++ codes "7 enter c1 x0 try 1\n"
    ++ codes "8 burst x0 c1 b3 n89 reply 0 | load 0 -> data [9,0,0,0,0,0,0,0,0,0,0,0,0,0,0,0]\n"
    ++ codes "config 0 0 0 0\n"
    ++ codes "failures 0\n"
    ++ codes "contract broken event 8 clause 4\n"
    ++ codes "thread 0 t0\n"
    ++ codes "1 p0 data [9,0,0,0,0,0,0,0,0,0,0,0,0,0,0,0]\n"
    ++ codes "status 7\n"

abbrev pub listed_picks : Scenario
listed_picks = record {
  schedule = schedule.Listed (1 ∷ 1 ∷ 1 ∷ 1 ∷ 1 ∷ 0 ∷ 7 ∷ 0 ∷ []);
  parts = disk 4 0 block_image [] ∷ [];
  threads = thread (codes "t0")
      ((0, op.Write 1 (1 ∷ 2 ∷ 3 ∷ 4 ∷ 5 ∷ 6 ∷ 7 ∷ 8 ∷ 9 ∷ 10 ∷ 11 ∷ 12 ∷ 13 ∷ 14 ∷ 15 ∷ 16 ∷ []))
      ∷ (0, op.Read 1 1) ∷ []) ∷ [];
}

abbrev pub listed_picks_report : List ℕ
listed_picks_report =
    codes "part 0 d0 block limit 0\n"
    ++ codes "1 stage load\n"
    ++ codes "2 stage init\n"
    ++ codes "3 burst x16 c0 b1 n2 service 3 0 0 = 0\n"
    ++ codes "4 burst x16 c0 b2 n2 reply 0\n"
    ++ codes "5 stage resume\n"
    ++ codes "6 invoke c1 t0 write 1 [1,2,3,4,5,6,7,8,9,10,11,12,13,14,15,16]\n"
    ++ codes "7 enter c1 x0 try 1\n"
    ++ codes "8 burst x0 c1 b3 n90 reply 0 | store 1 [1,2,3,4,5,6,7,8,9,10,11,12,13,14,15,16] -> done\n"
    ++ codes "9 invoke c2 t0 read 1 1\n"
    ++ codes "10 enter c2 x0 try 1\n"
    ++ codes "11 burst x0 c2 b4 n89 reply 0 | load 1 -> data [1,2,3,4,5,6,7,8,9,10,11,12,13,14,15,16]\n"
    ++ codes "disk 1 [1,2,3,4,5,6,7,8,9,10,11,12,13,14,15,16]\n"
    ++ codes "config 0 0 0 0\n"
    ++ codes "failures 0\n"
    ++ codes "contract kept\n"
    ++ codes "thread 0 t0\n"
    ++ codes "1 p0 done\n"
    ++ codes "2 p0 data [1,2,3,4,5,6,7,8,9,10,11,12,13,14,15,16]\n"
    ++ codes "status 0\n"

abbrev pub conflicts_wait_in_order : Scenario
conflicts_wait_in_order = record {
  schedule = schedule.RoundRobin;
  parts = disk 4 0 block_image [] ∷ [];
  threads = thread (codes "t0") ((0, op.Write 2 (replicate 16 1)) ∷ [])
      ∷ thread (codes "t1") ((0, op.Write 2 (replicate 16 2)) ∷ []) ∷ thread (codes "t2") ((0, op.Read 2 1) ∷ []) ∷ [];
}

abbrev pub conflicts_wait_in_order_report : List ℕ
conflicts_wait_in_order_report =
    codes "part 0 d0 block limit 0\n"
    ++ codes "1 invoke c1 t0 write 2 [1,1,1,1,1,1,1,1,1,1,1,1,1,1,1,1]\n"
    ++ codes "2 invoke c2 t1 write 2 [2,2,2,2,2,2,2,2,2,2,2,2,2,2,2,2]\n"
    ++ codes "3 invoke c3 t2 read 2 1\n"
    ++ codes "4 stage load\n"
    ++ codes "5 stage init\n"
    ++ codes "6 burst x16 c0 b1 n2 service 3 0 0 = 0\n"
    ++ codes "7 burst x16 c0 b2 n2 reply 0\n"
    ++ codes "8 stage resume\n"
    ++ codes "9 enter c1 x0 try 1\n"
    ++ codes "10 burst x0 c1 b3 n90 reply 0 | store 2 [1,1,1,1,1,1,1,1,1,1,1,1,1,1,1,1] -> done\n"
    ++ codes "11 enter c2 x1 try 1\n"
    ++ codes "12 burst x1 c2 b4 n90 reply 0 | store 2 [2,2,2,2,2,2,2,2,2,2,2,2,2,2,2,2] -> done\n"
    ++ codes "13 enter c3 x2 try 1\n"
    ++ codes "14 burst x2 c3 b5 n89 reply 0 | load 2 -> data [2,2,2,2,2,2,2,2,2,2,2,2,2,2,2,2]\n"
    ++ codes "disk 2 [2,2,2,2,2,2,2,2,2,2,2,2,2,2,2,2]\n"
    ++ codes "config 0 0 0 0\n"
    ++ codes "failures 0\n"
    ++ codes "contract kept\n"
    ++ codes "thread 0 t0\n"
    ++ codes "1 p0 done\n"
    ++ codes "thread 1 t1\n"
    ++ codes "1 p0 done\n"
    ++ codes "thread 2 t2\n"
    ++ codes "1 p0 data [2,2,2,2,2,2,2,2,2,2,2,2,2,2,2,2]\n"
    ++ codes "status 0\n"
