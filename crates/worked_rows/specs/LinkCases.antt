use Rattle.std.specs.Prelude.{ℕ, true, false, Some, None, List, [], ◌∷◌, ◌++◌, replicate, codes}
use Rattle.nook_data.specs.declared.machine.Act.TheVariants as act
use Rattle.nook_data.specs.declared.calls.Answer.TheVariants as answer
use Rattle.nook_data.specs.declared.entries.Entry.TheVariants as entry
use Rattle.nook_data.specs.declared.steps.Event.{Event}
use Rattle.nook_data.specs.declared.steps.Event.TheVariants as event
use Rattle.nook_data.specs.declared.calls.Op.TheVariants as op
use Rattle.nook_data.specs.declared.scenario.PartSpec.{PartSpec}
use Rattle.nook_data.specs.declared.steps.Stage.TheVariants as stage
use Rattle.nook_data.specs.declared.scenario.ThreadSpec.{ThreadSpec}
use Rattle.worked_rows.specs.Cases.{numbers, thread, injected, invoked, entered, done, registers, shadow_replies}
use Rattle.worked_rows.specs.Cases.{replies, stopped, link_with}

-- Runs of a link, with the journal of its part and its report.

-- ---- a send is interrupted after its frame, and another before its frame

abbrev pub send_cut_part : PartSpec
send_cut_part = link_with 1 (injected 3 18 ∷ []) []

abbrev pub send_cut_threads : List ThreadSpec
send_cut_threads =
    thread (codes "t0") (op.Send (7 ∷ 8 ∷ 9 ∷ []) ∷ [])
    ∷ thread (codes "t1") (op.Send (4 ∷ []) ∷ []) ∷ []

-- what its part does
abbrev pub send_cut_journal : List Event
send_cut_journal =
    invoked 1 0 (op.Send (7 ∷ 8 ∷ 9 ∷ []))
    ∷ invoked 2 1 (op.Send (4 ∷ []))
    ∷ done stage.Load
    ∷ done stage.Init
    ∷ registers 1 1
    ∷ shadow_replies 2 2 []
    ∷ done stage.Resume
    ∷ entered 1 0 1
    ∷ entered 2 1 1
    ∷ stopped 0 1 3 18 (act.Sent (7 ∷ 8 ∷ 9 ∷ []) ∷ [])
    ∷ event.Stage stage.Stop ((1, answer.Done) ∷ (2, answer.Done) ∷ []) []
    ∷ event.Stage stage.Collect [] (entry.Buffer 0 false ∷ entry.Buffer 1 false ∷ [])
    ∷ done stage.Reset
    ∷ done stage.Load
    ∷ done stage.Init
    ∷ registers 1 4
    ∷ shadow_replies 5 2 []
    ∷ done stage.Resume
    ∷ []

abbrev pub send_cut_report : List ℕ
send_cut_report =
    codes "part 0 d0 net limit 1\n"
    ++ codes "1 invoke c1 t0 send [7,8,9]\n"
    ++ codes "2 invoke c2 t1 send [4]\n"
    ++ codes "3 stage load\n"
    ++ codes "4 stage init\n"
    ++ codes "5 burst x16 c0 b1 n2 service 3 1 0 = 0\n"
    ++ codes "6 burst x16 c0 b2 n2 reply 0\n"
    ++ codes "7 stage resume\n"
    ++ codes "8 enter c1 x0 try 1\n"
    ++ codes "9 enter c2 x1 try 1\n"
    ++ codes "10 burst x0 c1 b3 n18 trap | sent [7,8,9] ! trap injected\n"
    ++ codes "11 stage stop -> c1 done -> c2 done\n"
    ++ codes "12 stage collect buffer 0 read buffer 1 read\n"
    ++ codes "13 stage reset\n"
    ++ codes "14 stage load\n"
    ++ codes "15 stage init\n"
    ++ codes "16 burst x16 c0 b4 n2 service 3 1 0 = 0\n"
    ++ codes "17 burst x16 c0 b5 n2 reply 0\n"
    ++ codes "18 stage resume\n"
    ++ codes "wire [7,8,9]\n"
    ++ codes "config 100 1 0 0\n"
    ++ codes "losses sends 1\n"
    ++ codes "frames arrived 0 received 0 queued 0 ring 0 driver 0 reset 0 full_ring 0 full_queue 0\n"
    ++ codes "failures 1\n"
    ++ codes "contract kept\n"
    ++ codes "thread 0 t0\n"
    ++ codes "1 p0 done\n"
    ++ codes "thread 1 t1\n"
    ++ codes "1 p0 done\n"
    ++ codes "status 0\n"

-- ---- seventeen frames arrive, and nobody receives them

abbrev pub ring_full_part : PartSpec
ring_full_part = link_with 0 [] ((1 ∷ []) ∷ (2 ∷ []) ∷ (3 ∷ []) ∷ (4 ∷ []) ∷ (5 ∷ []) ∷ (6 ∷ []) ∷ (7 ∷ []) ∷ (8 ∷ [])
    ∷ (9 ∷ []) ∷ (10 ∷ []) ∷ (11 ∷ []) ∷ (12 ∷ []) ∷ (13 ∷ []) ∷ (14 ∷ []) ∷ (15 ∷ []) ∷ (16 ∷ []) ∷ (17 ∷ []) ∷ [])

abbrev pub ring_full_threads : List ThreadSpec
ring_full_threads =
    []

-- what its part does
abbrev pub ring_full_journal : List Event
ring_full_journal =
    done stage.Load
    ∷ event.Arrive (1 ∷ []) true
    ∷ done stage.Init
    ∷ event.Arrive (2 ∷ []) true
    ∷ registers 1 1
    ∷ event.Arrive (3 ∷ []) true
    ∷ shadow_replies 2 2 []
    ∷ event.Arrive (4 ∷ []) true
    ∷ done stage.Resume
    ∷ event.Arrive (5 ∷ []) true
    ∷ event.Arrive (6 ∷ []) true
    ∷ event.Arrive (7 ∷ []) true
    ∷ event.Arrive (8 ∷ []) true
    ∷ event.Arrive (9 ∷ []) true
    ∷ event.Arrive (10 ∷ []) true
    ∷ event.Arrive (11 ∷ []) true
    ∷ event.Arrive (12 ∷ []) true
    ∷ event.Arrive (13 ∷ []) true
    ∷ event.Arrive (14 ∷ []) true
    ∷ event.Arrive (15 ∷ []) true
    ∷ event.Arrive (16 ∷ []) true
    ∷ event.Arrive (17 ∷ []) false
    ∷ []

abbrev pub ring_full_report : List ℕ
ring_full_report =
    codes "part 0 d0 net limit 0\n"
    ++ codes "1 stage load\n"
    ++ codes "2 arrive [1] kept\n"
    ++ codes "3 stage init\n"
    ++ codes "4 arrive [2] kept\n"
    ++ codes "5 burst x16 c0 b1 n2 service 3 1 0 = 0\n"
    ++ codes "6 arrive [3] kept\n"
    ++ codes "7 burst x16 c0 b2 n2 reply 0\n"
    ++ codes "8 arrive [4] kept\n"
    ++ codes "9 stage resume\n"
    ++ codes "10 arrive [5] kept\n"
    ++ codes "11 arrive [6] kept\n"
    ++ codes "12 arrive [7] kept\n"
    ++ codes "13 arrive [8] kept\n"
    ++ codes "14 arrive [9] kept\n"
    ++ codes "15 arrive [10] kept\n"
    ++ codes "16 arrive [11] kept\n"
    ++ codes "17 arrive [12] kept\n"
    ++ codes "18 arrive [13] kept\n"
    ++ codes "19 arrive [14] kept\n"
    ++ codes "20 arrive [15] kept\n"
    ++ codes "21 arrive [16] kept\n"
    ++ codes "22 arrive [17] lost\n"
    ++ codes "config 100 1 0 0\n"
    ++ codes "losses sends 0\n"
    ++ codes "frames arrived 17 received 0 queued 0 ring 16 driver 0 reset 0 full_ring 1 full_queue 0\n"
    ++ codes "failures 0\n"
    ++ codes "contract kept\n"
    ++ codes "status 0\n"
