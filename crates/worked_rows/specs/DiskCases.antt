use Rattle.std.specs.Prelude.{ℕ, true, false, Some, None, List, [], ◌∷◌, ◌++◌, replicate, codes}
use Rattle.nook_data.specs.declared.machine.Act.TheVariants as act
use Rattle.nook_data.specs.declared.calls.Answer.TheVariants as answer
use Rattle.nook_data.specs.declared.entries.Entry.TheVariants as entry
use Rattle.nook_data.specs.declared.steps.Event.{Event}
use Rattle.nook_data.specs.declared.steps.Event.TheVariants as event
use Rattle.nook_data.specs.declared.calls.Op.TheVariants as op
use Rattle.nook_data.specs.declared.scenario.PartSpec.{PartSpec}
use Rattle.nook_data.specs.declared.steps.Stage.TheVariants as stage
use Rattle.nook_data.specs.declared.scenario.ThreadSpec.{ThreadSpec}
use Rattle.worked_rows.specs.Cases.{numbers, thread, injected, invoked, entered, done, registers, shadow_replies}
use Rattle.worked_rows.specs.Cases.{replies, stopped, disk_with, plain_image}

-- Runs of a disk, with the journal of its part and its report.

-- ---- a block is written and read

abbrev pub write_and_read_part : PartSpec
write_and_read_part = disk_with plain_image 4 [] 0 []

abbrev pub write_and_read_threads : List ThreadSpec
write_and_read_threads =
    thread (codes "t0") (op.Write 1 (numbers 1 16) ∷ op.Read 1 1 ∷ []) ∷ []

-- what its part does
abbrev pub write_and_read_journal : List Event
write_and_read_journal =
    invoked 1 0 (op.Write 1 (numbers 1 16))
    ∷ done stage.Load
    ∷ done stage.Init
    ∷ registers 0 1
    ∷ shadow_replies 2 2 []
    ∷ done stage.Resume
    ∷ entered 1 0 1
    ∷ replies 0 1 3 90 0 (act.Store 1 (numbers 1 16) ∷ []) answer.Done
    ∷ invoked 2 0 (op.Read 1 1)
    ∷ entered 2 0 1
    ∷ replies 0 2 4 89 0 (act.Load 1 ∷ []) (answer.Blocks (numbers 1 16))
    ∷ []

abbrev pub write_and_read_report : List ℕ
write_and_read_report =
    codes "part 0 d0 block limit 0\n"
    ++ codes "1 invoke c1 t0 write 1 [1,2,3,4,5,6,7,8,9,10,11,12,13,14,15,16]\n"
    ++ codes "2 stage load\n"
    ++ codes "3 stage init\n"
    ++ codes "4 burst x16 c0 b1 n2 service 3 0 0 = 0\n"
    ++ codes "5 burst x16 c0 b2 n2 reply 0\n"
    ++ codes "6 stage resume\n"
    ++ codes "7 enter c1 x0 try 1\n"
    ++ codes "8 burst x0 c1 b3 n90 reply 0 | store 1 [1,2,3,4,5,6,7,8,9,10,11,12,13,14,15,16] -> done\n"
    ++ codes "9 invoke c2 t0 read 1 1\n"
    ++ codes "10 enter c2 x0 try 1\n"
    ++ codes "11 burst x0 c2 b4 n89 reply 0 | load 1 -> data [1,2,3,4,5,6,7,8,9,10,11,12,13,14,15,16]\n"
    ++ codes "disk 1 [1,2,3,4,5,6,7,8,9,10,11,12,13,14,15,16]\n"
    ++ codes "config 0 0 0 0\n"
    ++ codes "failures 0\n"
    ++ codes "contract kept\n"
    ++ codes "thread 0 t0\n"
    ++ codes "1 p0 done\n"
    ++ codes "2 p0 data [1,2,3,4,5,6,7,8,9,10,11,12,13,14,15,16]\n"
    ++ codes "status 0\n"

-- ---- a write is interrupted after its store, and another write and a read wait for it

abbrev pub write_cut_part : PartSpec
write_cut_part = disk_with plain_image 4 [] 1 (injected 3 89 ∷ [])

abbrev pub write_cut_threads : List ThreadSpec
write_cut_threads =
    thread (codes "t0") (op.Write 2 (replicate 16 1) ∷ [])
    ∷ thread (codes "t1") (op.Write 2 (replicate 16 2) ∷ [])
    ∷ thread (codes "t2") (op.Read 2 1 ∷ []) ∷ []

-- what its part does
abbrev pub write_cut_journal : List Event
write_cut_journal =
    invoked 1 0 (op.Write 2 (replicate 16 1))
    ∷ invoked 2 1 (op.Write 2 (replicate 16 2))
    ∷ invoked 3 2 (op.Read 2 1)
    ∷ done stage.Load
    ∷ done stage.Init
    ∷ registers 0 1
    ∷ shadow_replies 2 2 []
    ∷ done stage.Resume
    ∷ entered 1 0 1
    ∷ stopped 0 1 3 89 (act.Store 2 (replicate 16 1) ∷ [])
    ∷ done stage.Stop
    ∷ event.Stage stage.Collect [] (entry.Buffer 0 false ∷ [])
    ∷ done stage.Reset
    ∷ done stage.Load
    ∷ done stage.Init
    ∷ registers 0 4
    ∷ shadow_replies 5 2 []
    ∷ done stage.Resume
    ∷ entered 1 0 2
    ∷ replies 0 1 6 90 0 (act.Store 2 (replicate 16 1) ∷ []) answer.Done
    ∷ entered 2 1 1
    ∷ replies 1 2 7 90 0 (act.Store 2 (replicate 16 2) ∷ []) answer.Done
    ∷ entered 3 2 1
    ∷ replies 2 3 8 89 0 (act.Load 2 ∷ []) (answer.Blocks (replicate 16 2))
    ∷ []

abbrev pub write_cut_report : List ℕ
write_cut_report =
    codes "part 0 d0 block limit 1\n"
    ++ codes "1 invoke c1 t0 write 2 [1,1,1,1,1,1,1,1,1,1,1,1,1,1,1,1]\n"
    ++ codes "2 invoke c2 t1 write 2 [2,2,2,2,2,2,2,2,2,2,2,2,2,2,2,2]\n"
    ++ codes "3 invoke c3 t2 read 2 1\n"
    ++ codes "4 stage load\n"
    ++ codes "5 stage init\n"
    ++ codes "6 burst x16 c0 b1 n2 service 3 0 0 = 0\n"
    ++ codes "7 burst x16 c0 b2 n2 reply 0\n"
    ++ codes "8 stage resume\n"
    ++ codes "9 enter c1 x0 try 1\n"
    ++ codes "10 burst x0 c1 b3 n89 trap | store 2 [1,1,1,1,1,1,1,1,1,1,1,1,1,1,1,1] ! trap injected\n"
    ++ codes "11 stage stop\n"
    ++ codes "12 stage collect buffer 0 read\n"
    ++ codes "13 stage reset\n"
    ++ codes "14 stage load\n"
    ++ codes "15 stage init\n"
    ++ codes "16 burst x16 c0 b4 n2 service 3 0 0 = 0\n"
    ++ codes "17 burst x16 c0 b5 n2 reply 0\n"
    ++ codes "18 stage resume\n"
    ++ codes "19 enter c1 x0 try 2\n"
    ++ codes "20 burst x0 c1 b6 n90 reply 0 | store 2 [1,1,1,1,1,1,1,1,1,1,1,1,1,1,1,1] -> done\n"
    ++ codes "21 enter c2 x1 try 1\n"
    ++ codes "22 burst x1 c2 b7 n90 reply 0 | store 2 [2,2,2,2,2,2,2,2,2,2,2,2,2,2,2,2] -> done\n"
    ++ codes "23 enter c3 x2 try 1\n"
    ++ codes "24 burst x2 c3 b8 n89 reply 0 | load 2 -> data [2,2,2,2,2,2,2,2,2,2,2,2,2,2,2,2]\n"
    ++ codes "disk 2 [2,2,2,2,2,2,2,2,2,2,2,2,2,2,2,2]\n"
    ++ codes "config 0 0 0 0\n"
    ++ codes "failures 1\n"
    ++ codes "contract kept\n"
    ++ codes "thread 0 t0\n"
    ++ codes "1 p0 done\n"
    ++ codes "thread 1 t1\n"
    ++ codes "1 p0 done\n"
    ++ codes "thread 2 t2\n"
    ++ codes "1 p0 data [2,2,2,2,2,2,2,2,2,2,2,2,2,2,2,2]\n"
    ++ codes "status 0\n"

-- ---- a write of eight blocks is interrupted twice

abbrev pub wide_write_cut_part : PartSpec
wide_write_cut_part = disk_with plain_image 16 [] 2 (injected 3 258 ∷ injected 6 100 ∷ [])

abbrev pub wide_write_cut_threads : List ThreadSpec
wide_write_cut_threads =
    thread (codes "t0") (op.Write 0 (numbers 0 128) ∷ []) ∷ []

-- what its part does
abbrev pub wide_write_cut_journal : List Event
wide_write_cut_journal =
    invoked 1 0 (op.Write 0 (numbers 0 128))
    ∷ done stage.Load
    ∷ done stage.Init
    ∷ registers 0 1
    ∷ shadow_replies 2 2 []
    ∷ done stage.Resume
    ∷ entered 1 0 1
    ∷ stopped 0 1 3 258 (act.Store 0 (numbers 0 16) ∷ act.Store 1 (numbers 16 16) ∷ act.Store 2 (numbers 32 16) ∷ [])
    ∷ done stage.Stop
    ∷ event.Stage stage.Collect [] (entry.Buffer 0 false ∷ [])
    ∷ done stage.Reset
    ∷ done stage.Load
    ∷ done stage.Init
    ∷ registers 0 4
    ∷ shadow_replies 5 2 []
    ∷ done stage.Resume
    ∷ entered 1 0 2
    ∷ stopped 0 1 6 100 (act.Store 0 (numbers 0 16) ∷ [])
    ∷ done stage.Stop
    ∷ event.Stage stage.Collect [] (entry.Buffer 0 false ∷ [])
    ∷ done stage.Reset
    ∷ done stage.Load
    ∷ done stage.Init
    ∷ registers 0 7
    ∷ shadow_replies 8 2 []
    ∷ done stage.Resume
    ∷ entered 1 0 3
    ∷ replies 0 1 9 692 0 (act.Store 0 (numbers 0 16) ∷ act.Store 1 (numbers 16 16) ∷ act.Store 2 (numbers 32 16)
    ∷ act.Store 3 (numbers 48 16) ∷ act.Store 4 (numbers 64 16) ∷ act.Store 5 (numbers 80 16)
    ∷ act.Store 6 (numbers 96 16) ∷ act.Store 7 (numbers 112 16) ∷ []) answer.Done
    ∷ []

abbrev pub wide_write_cut_report : List ℕ
wide_write_cut_report =
    codes "part 0 d0 block limit 2\n"
    ++ codes "1 invoke c1 t0 write 0 [0,1,2,3,4,5,6,7,8,9,10,11,12,13,14,15,16,17,18,19,20,21,22,23,24,25,26,27,28,29,30,31,32,33,34,35,36,37,38,39,40,41,42,43,44,45,46,47,48,49,50,51,52,53,54,55,56,57,58,59,60,61,62,63,64,65,66,67,68,69,70,71,72,73,74,75,76,77,78,79,80,81,82,83,84,85,86,87,88,89,90,91,92,93,94,95,96,97,98,99,100,101,102,103,104,105,106,107,108,109,110,111,112,113,114,115,116,117,118,119,120,121,122,123,124,125,126,127]\n"
    ++ codes "2 stage load\n"
    ++ codes "3 stage init\n"
    ++ codes "4 burst x16 c0 b1 n2 service 3 0 0 = 0\n"
    ++ codes "5 burst x16 c0 b2 n2 reply 0\n"
    ++ codes "6 stage resume\n"
    ++ codes "7 enter c1 x0 try 1\n"
    ++ codes "8 burst x0 c1 b3 n258 trap | store 0 [0,1,2,3,4,5,6,7,8,9,10,11,12,13,14,15] | store 1 [16,17,18,19,20,21,22,23,24,25,26,27,28,29,30,31] | store 2 [32,33,34,35,36,37,38,39,40,41,42,43,44,45,46,47] ! trap injected\n"
    ++ codes "9 stage stop\n"
    ++ codes "10 stage collect buffer 0 read\n"
    ++ codes "11 stage reset\n"
    ++ codes "12 stage load\n"
    ++ codes "13 stage init\n"
    ++ codes "14 burst x16 c0 b4 n2 service 3 0 0 = 0\n"
    ++ codes "15 burst x16 c0 b5 n2 reply 0\n"
    ++ codes "16 stage resume\n"
    ++ codes "17 enter c1 x0 try 2\n"
    ++ codes "18 burst x0 c1 b6 n100 trap | store 0 [0,1,2,3,4,5,6,7,8,9,10,11,12,13,14,15] ! trap injected\n"
    ++ codes "19 stage stop\n"
    ++ codes "20 stage collect buffer 0 read\n"
    ++ codes "21 stage reset\n"
    ++ codes "22 stage load\n"
    ++ codes "23 stage init\n"
    ++ codes "24 burst x16 c0 b7 n2 service 3 0 0 = 0\n"
    ++ codes "25 burst x16 c0 b8 n2 reply 0\n"
    ++ codes "26 stage resume\n"
    ++ codes "27 enter c1 x0 try 3\n"
    ++ codes "28 burst x0 c1 b9 n692 reply 0 | store 0 [0,1,2,3,4,5,6,7,8,9,10,11,12,13,14,15] | store 1 [16,17,18,19,20,21,22,23,24,25,26,27,28,29,30,31] | store 2 [32,33,34,35,36,37,38,39,40,41,42,43,44,45,46,47] | store 3 [48,49,50,51,52,53,54,55,56,57,58,59,60,61,62,63] | store 4 [64,65,66,67,68,69,70,71,72,73,74,75,76,77,78,79] | store 5 [80,81,82,83,84,85,86,87,88,89,90,91,92,93,94,95] | store 6 [96,97,98,99,100,101,102,103,104,105,106,107,108,109,110,111] | store 7 [112,113,114,115,116,117,118,119,120,121,122,123,124,125,126,127] -> done\n"
    ++ codes "disk 0 [0,1,2,3,4,5,6,7,8,9,10,11,12,13,14,15]\n"
    ++ codes "disk 1 [16,17,18,19,20,21,22,23,24,25,26,27,28,29,30,31]\n"
    ++ codes "disk 2 [32,33,34,35,36,37,38,39,40,41,42,43,44,45,46,47]\n"
    ++ codes "disk 3 [48,49,50,51,52,53,54,55,56,57,58,59,60,61,62,63]\n"
    ++ codes "disk 4 [64,65,66,67,68,69,70,71,72,73,74,75,76,77,78,79]\n"
    ++ codes "disk 5 [80,81,82,83,84,85,86,87,88,89,90,91,92,93,94,95]\n"
    ++ codes "disk 6 [96,97,98,99,100,101,102,103,104,105,106,107,108,109,110,111]\n"
    ++ codes "disk 7 [112,113,114,115,116,117,118,119,120,121,122,123,124,125,126,127]\n"
    ++ codes "config 0 0 0 0\n"
    ++ codes "failures 2\n"
    ++ codes "contract kept\n"
    ++ codes "thread 0 t0\n"
    ++ codes "1 p0 done\n"
    ++ codes "status 0\n"
