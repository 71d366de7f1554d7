use Rattle.std.specs.Prelude.{ℕ, true, false, Some, None, List, [], ◌∷◌, ◌++◌, replicate, codes}
use Rattle.nook_data.specs.declared.machine.Act.TheVariants as act
use Rattle.nook_data.specs.declared.calls.Answer.TheVariants as answer
use Rattle.nook_data.specs.declared.entries.Entry.TheVariants as entry
use Rattle.nook_data.specs.declared.steps.Event.{Event}
use Rattle.nook_data.specs.declared.steps.Event.TheVariants as event
use Rattle.nook_data.specs.declared.calls.Op.TheVariants as op
use Rattle.nook_data.specs.declared.scenario.PartSpec.{PartSpec}
use Rattle.nook_data.specs.declared.steps.Stage.TheVariants as stage
use Rattle.nook_data.specs.declared.scenario.ThreadSpec.{ThreadSpec}
use Rattle.worked_rows.specs.Cases.{numbers, thread, injected, invoked, entered, done, registers, shadow_replies}
use Rattle.worked_rows.specs.Cases.{replies, stopped, disk_with, failing_image, inventing_image}

-- Runs of a disk with a failing block, and of a driver that invents words.

-- ---- a driver answers a read with invented words

abbrev pub read_invented_part : PartSpec
read_invented_part = disk_with inventing_image 1 [] 0 []

abbrev pub read_invented_threads : List ThreadSpec
read_invented_threads =
    thread (codes "t0") (op.Read 0 1 ∷ []) ∷ []

-- what its part does
abbrev pub read_invented_journal : List Event
read_invented_journal =
    invoked 1 0 (op.Read 0 1)
    ∷ done stage.Load
    ∷ done stage.Init
    ∷ registers 0 1
    ∷ shadow_replies 2 2 []
    ∷ done stage.Resume
    ∷ entered 1 0 1
    ∷ replies 0 1 3 3 0 [] (answer.Blocks (1 ∷ replicate 15 0))
    ∷ []

abbrev pub read_invented_report : List ℕ
read_invented_report =
    codes "part 0 d0 block limit 0\n"
    ++ codes "1 invoke c1 t0 read 0 1\n"
    ++ codes "2 stage load\n"
    ++ codes "3 stage init\n"
    ++ codes "4 burst x16 c0 b1 n2 service 3 0 0 = 0\n"
    ++ codes "5 burst x16 c0 b2 n2 reply 0\n"
    ++ codes "6 stage resume\n"
    ++ codes "7 enter c1 x0 try 1\n"
    ++ codes "8 burst x0 c1 b3 n3 reply 0 -> data [1,0,0,0,0,0,0,0,0,0,0,0,0,0,0,0]\n"
    ++ codes "config 0 0 0 0\n"
    ++ codes "failures 0\n"
    ++ codes "contract broken event 8 clause 4\n"
    ++ codes "thread 0 t0\n"
    ++ codes "1 p0 data [1,0,0,0,0,0,0,0,0,0,0,0,0,0,0,0]\n"
    ++ codes "status 7\n"

-- ---- a block of the disk fails

abbrev pub bad_block_part : PartSpec
bad_block_part = disk_with failing_image 4 (record { block = 2; after = 0 } ∷ []) 0 []

abbrev pub bad_block_threads : List ThreadSpec
bad_block_threads =
    thread (codes "t0") (op.Write 1 (replicate 16 1 ++ replicate 16 2) ∷ op.Read 1 1 ∷ op.Read 2 1 ∷ []) ∷ []

-- what its part does
abbrev pub bad_block_journal : List Event
bad_block_journal =
    invoked 1 0 (op.Write 1 (replicate 16 1 ++ replicate 16 2))
    ∷ done stage.Load
    ∷ done stage.Init
    ∷ registers 0 1
    ∷ shadow_replies 2 2 []
    ∷ done stage.Resume
    ∷ entered 1 0 1
    ∷ replies 0 1 3 179 257 (act.Store 1 (replicate 16 1) ∷ act.Failed 2 true ∷ []) (answer.IoError 2)
    ∷ invoked 2 0 (op.Read 1 1)
    ∷ entered 2 0 1
    ∷ replies 0 2 4 93 0 (act.Load 1 ∷ []) (answer.Blocks (replicate 16 1))
    ∷ invoked 3 0 (op.Read 2 1)
    ∷ entered 3 0 1
    ∷ replies 0 3 5 8 256 (act.Failed 2 false ∷ []) (answer.IoError 2)
    ∷ []

abbrev pub bad_block_report : List ℕ
bad_block_report =
    codes "part 0 d0 block limit 0\n"
    ++ codes "1 invoke c1 t0 write 1 [1,1,1,1,1,1,1,1,1,1,1,1,1,1,1,1,2,2,2,2,2,2,2,2,2,2,2,2,2,2,2,2]\n"
    ++ codes "2 stage load\n"
    ++ codes "3 stage init\n"
    ++ codes "4 burst x16 c0 b1 n2 service 3 0 0 = 0\n"
    ++ codes "5 burst x16 c0 b2 n2 reply 0\n"
    ++ codes "6 stage resume\n"
    ++ codes "7 enter c1 x0 try 1\n"
    ++ codes "8 burst x0 c1 b3 n179 reply 257 | store 1 [1,1,1,1,1,1,1,1,1,1,1,1,1,1,1,1] | failed store 2 -> io_error 2\n"
    ++ codes "9 invoke c2 t0 read 1 1\n"
    ++ codes "10 enter c2 x0 try 1\n"
    ++ codes "11 burst x0 c2 b4 n93 reply 0 | load 1 -> data [1,1,1,1,1,1,1,1,1,1,1,1,1,1,1,1]\n"
    ++ codes "12 invoke c3 t0 read 2 1\n"
    ++ codes "13 enter c3 x0 try 1\n"
    ++ codes "14 burst x0 c3 b5 n8 reply 256 | failed load 2 -> io_error 2\n"
    ++ codes "disk 1 [1,1,1,1,1,1,1,1,1,1,1,1,1,1,1,1]\n"
    ++ codes "config 0 0 0 0\n"
    ++ codes "failures 0\n"
    ++ codes "contract kept\n"
    ++ codes "thread 0 t0\n"
    ++ codes "1 p0 io_error 2\n"
    ++ codes "2 p0 data [1,1,1,1,1,1,1,1,1,1,1,1,1,1,1,1]\n"
    ++ codes "3 p0 io_error 2\n"
    ++ codes "status 0\n"

-- ---- a block fails when an interrupted write is submitted again

abbrev pub bad_block_later_part : PartSpec
bad_block_later_part = disk_with failing_image 4 (record { block = 1; after = 1 } ∷ []) 1 (injected 3 88 ∷ [])

abbrev pub bad_block_later_threads : List ThreadSpec
bad_block_later_threads =
    thread (codes "t0") (op.Write 1 (replicate 16 1) ∷ []) ∷ []

-- what its part does
abbrev pub bad_block_later_journal : List Event
bad_block_later_journal =
    invoked 1 0 (op.Write 1 (replicate 16 1))
    ∷ done stage.Load
    ∷ done stage.Init
    ∷ registers 0 1
    ∷ shadow_replies 2 2 []
    ∷ done stage.Resume
    ∷ entered 1 0 1
    ∷ stopped 0 1 3 88 (act.Store 1 (replicate 16 1) ∷ [])
    ∷ done stage.Stop
    ∷ event.Stage stage.Collect [] (entry.Buffer 0 false ∷ [])
    ∷ done stage.Reset
    ∷ done stage.Load
    ∷ done stage.Init
    ∷ registers 0 4
    ∷ shadow_replies 5 2 []
    ∷ done stage.Resume
    ∷ entered 1 0 2
    ∷ replies 0 1 6 90 256 (act.Failed 1 true ∷ []) (answer.IoError 1)
    ∷ []

abbrev pub bad_block_later_report : List ℕ
bad_block_later_report =
    codes "part 0 d0 block limit 1\n"
    ++ codes "1 invoke c1 t0 write 1 [1,1,1,1,1,1,1,1,1,1,1,1,1,1,1,1]\n"
    ++ codes "2 stage load\n"
    ++ codes "3 stage init\n"
    ++ codes "4 burst x16 c0 b1 n2 service 3 0 0 = 0\n"
    ++ codes "5 burst x16 c0 b2 n2 reply 0\n"
    ++ codes "6 stage resume\n"
    ++ codes "7 enter c1 x0 try 1\n"
    ++ codes "8 burst x0 c1 b3 n88 trap | store 1 [1,1,1,1,1,1,1,1,1,1,1,1,1,1,1,1] ! trap injected\n"
    ++ codes "9 stage stop\n"
    ++ codes "10 stage collect buffer 0 read\n"
    ++ codes "11 stage reset\n"
    ++ codes "12 stage load\n"
    ++ codes "13 stage init\n"
    ++ codes "14 burst x16 c0 b4 n2 service 3 0 0 = 0\n"
    ++ codes "15 burst x16 c0 b5 n2 reply 0\n"
    ++ codes "16 stage resume\n"
    ++ codes "17 enter c1 x0 try 2\n"
    ++ codes "18 burst x0 c1 b6 n90 reply 256 | failed store 1 -> io_error 1\n"
    ++ codes "disk 1 [1,1,1,1,1,1,1,1,1,1,1,1,1,1,1,1]\n"
    ++ codes "config 0 0 0 0\n"
    ++ codes "failures 1\n"
    ++ codes "contract kept\n"
    ++ codes "thread 0 t0\n"
    ++ codes "1 p0 io_error 1\n"
    ++ codes "status 0\n"
