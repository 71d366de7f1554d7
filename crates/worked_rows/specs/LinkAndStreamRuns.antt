use Rattle.std.specs.Prelude.{ℕ, List, [], ◌∷◌, ◌++◌, replicate, codes}
use Rattle.nook_data.specs.declared.scenario.FaultKind.TheVariants as fault
use Rattle.nook_data.specs.declared.calls.Op.TheVariants as op
use Rattle.nook_data.specs.declared.scenario.Scenario.{Scenario}
use Rattle.nook_data.specs.declared.scenario.ScheduleSpec.TheVariants as schedule
use Rattle.run_defs.specs.References.{net_image, sound_image}
use Rattle.worked_rows.specs.Scenarios.{link, stream, thread}

-- Runs of a link and of a stream.

abbrev pub frame_up_and_none_left : Scenario
frame_up_and_none_left = record {
  schedule = schedule.RoundRobin;
  parts = link 0 net_image [] ((5 ∷ 6 ∷ []) ∷ []) ∷ [];
  threads = thread (codes "t0") ((0, op.Send (9 ∷ [])) ∷ (0, op.Recv) ∷ (0, op.Recv) ∷ []) ∷ [];
}

abbrev pub frame_up_and_none_left_report : List ℕ
frame_up_and_none_left_report =
    codes "part 0 d0 net limit 0\n"
    ++ codes "1 invoke c1 t0 send [9]\n"
    ++ codes "2 stage load\n"
    ++ codes "3 arrive [5,6] kept\n"
    ++ codes "4 stage init\n"
    ++ codes "5 burst x16 c0 b1 n2 service 3 1 0 = 0\n"
    ++ codes "6 burst x16 c0 b2 n2 reply 0\n"
    ++ codes "7 stage resume\n"
    ++ codes "8 enter c1 x0 try 1\n"
    ++ codes "9 burst x0 c1 b3 n9 reply 0 | sent [9] -> done\n"
    ++ codes "10 invoke c2 t0 recv\n"
    ++ codes "11 enter c2 x0 try 1\n"
    ++ codes "12 burst x0 c2 b4 n22 service 6 4096 2 = 1 [5,6] | popped [5,6]\n"
    ++ codes "13 burst x0 c2 b5 n1 reply 0 -> frame [5,6]\n"
    ++ codes "14 invoke c3 t0 recv\n"
    ++ codes "15 enter c3 x0 try 1\n"
    ++ codes "16 burst x0 c3 b6 n3 reply 0 -> empty\n"
    ++ codes "wire [9]\n"
    ++ codes "config 100 1 0 0\n"
    ++ codes "losses sends 0\n"
    ++ codes "frames arrived 1 received 1 queued 0 ring 0 driver 0 reset 0 full_ring 0 full_queue 0\n"
    ++ codes "failures 0\n"
    ++ codes "contract kept\n"
    ++ codes "thread 0 t0\n"
    ++ codes "1 p0 done\n"
    ++ codes "2 p0 frame [5,6]\n"
    ++ codes "3 p0 empty\n"
    ++ codes "status 0\n"

abbrev pub stream_with_its_volume : Scenario
stream_with_its_volume = record {
  schedule = schedule.RoundRobin;
  parts = stream 0 sound_image [] ∷ [];
  threads = thread (codes "t0") ((0, op.Open) ∷ (0, op.Set 1 7) ∷ (0, op.Play (10 ∷ 11 ∷ [])) ∷ (0, op.Get 1)
      ∷ (0, op.Close) ∷ []) ∷ [];
}

abbrev pub stream_with_its_volume_report : List ℕ
stream_with_its_volume_report =
    codes "part 0 d0 sound limit 0\n"
    ++ codes "1 invoke c1 t0 open\n"
    ++ codes "2 stage load\n"
    ++ codes "3 stage init\n"
    ++ codes "4 burst x16 c0 b1 n2 service 3 2 0 = 0\n"
    ++ codes "5 burst x16 c0 b2 n2 reply 0\n"
    ++ codes "6 stage resume\n"
    ++ codes "7 enter c1 x0 try 1\n"
    ++ codes "8 burst x0 c1 b3 n1 reply 0 -> done\n"
    ++ codes "9 invoke c2 t0 set 1 7\n"
    ++ codes "10 enter c2 x0 try 1\n"
    ++ codes "11 burst x0 c2 b4 n4 reply 0 | register 1 7 -> done\n"
    ++ codes "12 invoke c3 t0 play [10,11]\n"
    ++ codes "13 enter c3 x0 try 1\n"
    ++ codes "14 burst x0 c3 b5 n12 reply 0 | played 10 8000 7 | played 11 8000 7 -> done\n"
    ++ codes "15 invoke c4 t0 get 1\n"
    ++ codes "16 enter c4 x0 try 1\n"
    ++ codes "17 burst x0 c4 b6 n6 reply 0 -> value 7\n"
    ++ codes "18 invoke c5 t0 close\n"
    ++ codes "19 enter c5 x0 try 1\n"
    ++ codes "20 burst x0 c5 b7 n1 reply 0 -> done\n"
    ++ codes "played 10 8000 7\n"
    ++ codes "played 11 8000 7\n"
    ++ codes "config 8000 7 1 0\n"
    ++ codes "losses samples 0 busy 0\n"
    ++ codes "failures 0\n"
    ++ codes "contract kept\n"
    ++ codes "thread 0 t0\n"
    ++ codes "1 p0 done\n"
    ++ codes "2 p0 done\n"
    ++ codes "3 p0 done\n"
    ++ codes "4 p0 value 7\n"
    ++ codes "5 p0 done\n"
    ++ codes "status 0\n"
