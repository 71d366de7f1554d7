use Rattle.std.specs.Prelude.{ℕ, true, false, Some, None, List, [], ◌∷◌, ◌++◌, replicate, codes}
use Rattle.nook_data.specs.declared.machine.Act.TheVariants as act
use Rattle.nook_data.specs.declared.calls.Answer.TheVariants as answer
use Rattle.nook_data.specs.declared.entries.Entry.TheVariants as entry
use Rattle.nook_data.specs.declared.steps.Event.{Event}
use Rattle.nook_data.specs.declared.steps.Event.TheVariants as event
use Rattle.nook_data.specs.declared.calls.Op.TheVariants as op
use Rattle.nook_data.specs.declared.scenario.PartSpec.{PartSpec}
use Rattle.nook_data.specs.declared.steps.Stage.TheVariants as stage
use Rattle.nook_data.specs.declared.scenario.ThreadSpec.{ThreadSpec}
use Rattle.worked_rows.specs.Cases.{numbers, thread, injected, invoked, entered, done, registers, shadow_replies}
use Rattle.worked_rows.specs.Cases.{replies, stopped, stream_with}

-- Runs of a stream, with the journal of its part and its report.

-- ---- a play is interrupted, and the configuration and the stream are restored

abbrev pub play_cut_part : PartSpec
play_cut_part = stream_with 1 (injected 5 11 ∷ [])

abbrev pub play_cut_threads : List ThreadSpec
play_cut_threads =
    thread (codes "t0") (op.Open ∷ op.Set 1 7 ∷ op.Play (10 ∷ 11 ∷ 12 ∷ 13 ∷ []) ∷ op.Set 0 16000 ∷ op.Play (14 ∷ [])
    ∷ []) ∷ []

-- what its part does
abbrev pub play_cut_journal : List Event
play_cut_journal =
    invoked 1 0 op.Open
    ∷ done stage.Load
    ∷ done stage.Init
    ∷ registers 2 1
    ∷ shadow_replies 2 2 []
    ∷ done stage.Resume
    ∷ entered 1 0 1
    ∷ replies 0 1 3 1 0 [] answer.Done
    ∷ invoked 2 0 (op.Set 1 7)
    ∷ entered 2 0 1
    ∷ replies 0 2 4 4 0 (act.Register 1 7 ∷ []) answer.Done
    ∷ invoked 3 0 (op.Play (10 ∷ 11 ∷ 12 ∷ 13 ∷ []))
    ∷ entered 3 0 1
    ∷ stopped 0 3 5 11 (act.Played 10 8000 7 ∷ act.Played 11 8000 7 ∷ [])
    ∷ event.Stage stage.Stop ((3, answer.Done) ∷ []) []
    ∷ invoked 4 0 (op.Set 0 16000)
    ∷ event.Stage stage.Collect [] (entry.Buffer 0 false ∷ [])
    ∷ done stage.Reset
    ∷ done stage.Load
    ∷ done stage.Init
    ∷ registers 2 6
    ∷ shadow_replies 7 2 []
    ∷ done (stage.ReplaySet 1 7)
    ∷ shadow_replies 8 4 (act.Register 1 7 ∷ [])
    ∷ done stage.ReplayOpen
    ∷ shadow_replies 9 1 []
    ∷ done stage.Resume
    ∷ entered 4 0 1
    ∷ replies 0 4 10 8 0 (act.Register 0 16000 ∷ []) answer.Done
    ∷ invoked 5 0 (op.Play (14 ∷ []))
    ∷ entered 5 0 1
    ∷ replies 0 5 11 7 0 (act.Played 14 16000 7 ∷ []) answer.Done
    ∷ []

abbrev pub play_cut_report : List ℕ
play_cut_report =
    codes "part 0 d0 sound limit 1\n"
    ++ codes "1 invoke c1 t0 open\n"
    ++ codes "2 stage load\n"
    ++ codes "3 stage init\n"
    ++ codes "4 burst x16 c0 b1 n2 service 3 2 0 = 0\n"
    ++ codes "5 burst x16 c0 b2 n2 reply 0\n"
    ++ codes "6 stage resume\n"
    ++ codes "7 enter c1 x0 try 1\n"
    ++ codes "8 burst x0 c1 b3 n1 reply 0 -> done\n"
    ++ codes "9 invoke c2 t0 set 1 7\n"
    ++ codes "10 enter c2 x0 try 1\n"
    ++ codes "11 burst x0 c2 b4 n4 reply 0 | register 1 7 -> done\n"
    ++ codes "12 invoke c3 t0 play [10,11,12,13]\n"
    ++ codes "13 enter c3 x0 try 1\n"
    ++ codes "14 burst x0 c3 b5 n11 trap | played 10 8000 7 | played 11 8000 7 ! trap injected\n"
    ++ codes "15 stage stop -> c3 done\n"
    ++ codes "16 invoke c4 t0 set 0 16000\n"
    ++ codes "17 stage collect buffer 0 read\n"
    ++ codes "18 stage reset\n"
    ++ codes "19 stage load\n"
    ++ codes "20 stage init\n"
    ++ codes "21 burst x16 c0 b6 n2 service 3 2 0 = 0\n"
    ++ codes "22 burst x16 c0 b7 n2 reply 0\n"
    ++ codes "23 stage replay_set 1 7\n"
    ++ codes "24 burst x16 c0 b8 n4 reply 0 | register 1 7\n"
    ++ codes "25 stage replay_open\n"
    ++ codes "26 burst x16 c0 b9 n1 reply 0\n"
    ++ codes "27 stage resume\n"
    ++ codes "28 enter c4 x0 try 1\n"
    ++ codes "29 burst x0 c4 b10 n8 reply 0 | register 0 16000 -> done\n"
    ++ codes "30 invoke c5 t0 play [14]\n"
    ++ codes "31 enter c5 x0 try 1\n"
    ++ codes "32 burst x0 c5 b11 n7 reply 0 | played 14 16000 7 -> done\n"
    ++ codes "played 10 8000 7\n"
    ++ codes "played 11 8000 7\n"
    ++ codes "played 14 16000 7\n"
    ++ codes "config 16000 7 1 0\n"
    ++ codes "losses samples 2 busy 0\n"
    ++ codes "failures 1\n"
    ++ codes "contract kept\n"
    ++ codes "thread 0 t0\n"
    ++ codes "1 p0 done\n"
    ++ codes "2 p0 done\n"
    ++ codes "3 p0 done\n"
    ++ codes "4 p0 done\n"
    ++ codes "5 p0 done\n"
    ++ codes "status 0\n"

-- ---- the first init is interrupted, and threads ask for the stream meanwhile

abbrev pub init_cut_part : PartSpec
init_cut_part = stream_with 1 (injected 1 0 ∷ [])

abbrev pub init_cut_threads : List ThreadSpec
init_cut_threads =
    thread (codes "t0") (op.Open ∷ op.Open ∷ op.Set 1 6 ∷ op.Open ∷ [])
    ∷ thread (codes "t1") (op.Set 2 2 ∷ op.Open ∷ []) ∷ []

-- what its part does
abbrev pub init_cut_journal : List Event
init_cut_journal =
    invoked 1 0 op.Open
    ∷ invoked 2 1 (op.Set 2 2)
    ∷ done stage.Load
    ∷ done stage.Init
    ∷ stopped 16 0 1 0 []
    ∷ event.Stage stage.Stop ((1, (answer.Busy stage.Stop)) ∷ []) []
    ∷ event.Invoke 3 0 op.Open (Some (answer.Busy stage.Collect))
    ∷ done stage.Collect
    ∷ invoked 4 0 (op.Set 1 6)
    ∷ done stage.Reset
    ∷ done stage.Load
    ∷ done stage.Init
    ∷ registers 2 2
    ∷ shadow_replies 3 2 []
    ∷ done stage.Resume
    ∷ entered 2 1 1
    ∷ replies 1 2 4 6 0 (act.Register 2 2 ∷ []) answer.Done
    ∷ entered 4 0 1
    ∷ invoked 5 1 op.Open
    ∷ replies 0 4 5 4 0 (act.Register 1 6 ∷ []) answer.Done
    ∷ entered 5 1 1
    ∷ invoked 6 0 op.Open
    ∷ replies 1 5 6 1 0 [] answer.Done
    ∷ event.Enter 6 0 1 (Some (answer.InUse 1))
    ∷ []

abbrev pub init_cut_report : List ℕ
init_cut_report =
    codes "part 0 d0 sound limit 1\n"
    ++ codes "1 invoke c1 t0 open\n"
    ++ codes "2 invoke c2 t1 set 2 2\n"
    ++ codes "3 stage load\n"
    ++ codes "4 stage init\n"
    ++ codes "5 burst x16 c0 b1 n0 trap ! trap injected\n"
    ++ codes "6 stage stop -> c1 busy stop\n"
    ++ codes "7 invoke c3 t0 open -> busy collect\n"
    ++ codes "8 stage collect\n"
    ++ codes "9 invoke c4 t0 set 1 6\n"
    ++ codes "10 stage reset\n"
    ++ codes "11 stage load\n"
    ++ codes "12 stage init\n"
    ++ codes "13 burst x16 c0 b2 n2 service 3 2 0 = 0\n"
    ++ codes "14 burst x16 c0 b3 n2 reply 0\n"
    ++ codes "15 stage resume\n"
    ++ codes "16 enter c2 x1 try 1\n"
    ++ codes "17 burst x1 c2 b4 n6 reply 0 | register 2 2 -> done\n"
    ++ codes "18 enter c4 x0 try 1\n"
    ++ codes "19 invoke c5 t1 open\n"
    ++ codes "20 burst x0 c4 b5 n4 reply 0 | register 1 6 -> done\n"
    ++ codes "21 enter c5 x1 try 1\n"
    ++ codes "22 invoke c6 t0 open\n"
    ++ codes "23 burst x1 c5 b6 n1 reply 0 -> done\n"
    ++ codes "24 enter c6 x0 try 1 -> in_use 1\n"
    ++ codes "config 8000 6 2 0\n"
    ++ codes "losses samples 0 busy 2\n"
    ++ codes "failures 1\n"
    ++ codes "contract kept\n"
    ++ codes "thread 0 t0\n"
    ++ codes "1 p0 busy stop\n"
    ++ codes "2 p0 busy collect\n"
    ++ codes "3 p0 done\n"
    ++ codes "4 p0 in_use 1\n"
    ++ codes "thread 1 t1\n"
    ++ codes "1 p0 done\n"
    ++ codes "2 p0 done\n"
    ++ codes "status 0\n"
