-- Threads that finished their scripts have left a run by threads.
use Rattle.std.proofs.Common.{◌≡◌, ℕ, suc, List, [], ◌∷◌, map, refl, sym, subst}
use mathlib.Core.List.{IsPrefix}
use Rattle.app_threads.specs.Order.{AllFollow}
use Rattle.nook_data.specs.declared.steps.Event.{Event}
use Rattle.nook_data.specs.declared.scenario.PartSpec.{PartSpec}
use Rattle.nook_data.specs.declared.desks.Receipt.{Receipt}
use Rattle.nook_data.specs.declared.scenario.Scenario.{Scenario}
use Rattle.nook_data.specs.declared.scenario.ThreadSpec.{ThreadSpec}
use Rattle.nook_data.specs.Views.Room.{Kept}
use Rattle.run_results.specs.declared.report.PartEnd.{PartEnd}
use Rattle.run_results.specs.Journals.{events_in}
use Rattle.order_defs.specs.OneClock.{AreOneRun}
use Rattle.threaded_run.proofs.Growing.{receipts_grown}
use Rattle.threaded_run.proofs.Leaving.{arrivals_left, begin_left, ends_left, no_others_left, runs_left, settled_left}
use Rattle.threaded_run.proofs.Ordered.{Begun, begun, in_order}
use Rattle.threaded_run.specs.declared.running.Unheard.{Unheard}
use Rattle.threaded_run.specs.Leaving.{AreLeft, AreStampedFrom, HaveRows, HaveWorked, answers_in}
use Rattle.threaded_run.specs.Threaded.{AreServed, IsThreaded, journal_at}
use Rattle.threaded_run.specs.Unheard.{IsWholeRun}

served_all : (seens journals : List (List Event)) (thread : ℕ) (threads : List ThreadSpec) (rows : List (List Receipt))
    → ((part : ℕ) → IsPrefix (journal_at seens part) (journal_at journals part))
    → HaveRows seens thread threads rows → AreServed journals thread threads (answers_in threads rows)
served_all seens journals thread [] [] begin h = tt
served_all seens journals thread [] (row ∷ rows) begin h = absurd h
served_all seens journals thread (t ∷ threads) [] begin h = absurd h
served_all seens journals thread (t ∷ threads) (row ∷ rows) begin h = (
  record {
    receipts = row;
    have = receipts_grown seens journals thread t.ops row begin h.0.0;
    rising = h.0.1;
    same = refl;
  },
  served_all seens journals (suc thread) threads rows begin h.1,
)

one_run : (scenario : Scenario) (seens : List (List Event)) (stamps : List (List ℕ)) (rows : List (List Receipt)) (journals : List (Kept Event)) (ends : List PartEnd)
    → HaveWorked scenario.parts scenario.threads seens rows → AllFollow stamps scenario.threads rows → AreLeft scenario.parts seens journals ends
    → AreStampedFrom stamps journals → AreOneRun scenario.threads (map events_in journals)
one_run scenario seens stamps rows journals ends w f l s =
    let b : Begun stamps (map events_in journals) = begun stamps journals s in
    record {
      stamps = b.stamps;
      stamped = b.stamped;
      in_order = in_order seens (map events_in journals) stamps b.stamps (begin_left scenario.parts seens journals ends l) b.begin
          0 scenario.threads rows w.served f;
    }

threaded : (scenario : Scenario) (seens : List (List Event)) (stamps : List (List ℕ)) (rows : List (List Receipt)) (journals : List (Kept Event)) (ends : List PartEnd)
    → HaveWorked scenario.parts scenario.threads seens rows → AllFollow stamps scenario.threads rows → AreLeft scenario.parts seens journals ends
    → AreStampedFrom stamps journals → IsThreaded scenario (map events_in journals) (answers_in scenario.threads rows)
threaded scenario seens stamps rows journals ends w f l s = record {
  settled = settled_left scenario.parts seens journals ends l;
  served = served_all seens (map events_in journals) 0 scenario.threads rows (begin_left scenario.parts seens journals ends l) w.served;
  arrived = arrivals_left scenario.parts seens journals ends l w.arrived;
  no_others = no_others_left scenario.threads 0 scenario.parts seens journals ends l w.no_others;
  one_run = one_run scenario seens stamps rows journals ends w f l s;
}

pub made_by_threads : (scenario : Scenario) (specs : List PartSpec) (seens : List (List Event)) (stamps : List (List ℕ)) (rows : List (List Receipt)) (left : Unheard)
    → specs ≡ scenario.parts
    → HaveWorked scenario.parts scenario.threads seens rows → AllFollow stamps scenario.threads rows → AreLeft specs seens left.journals left.ends
    → AreStampedFrom stamps left.journals → left.answers ≡ answers_in scenario.threads rows
    → IsWholeRun scenario left
made_by_threads scenario specs seens stamps rows left e w f l s a =
    let own : AreLeft scenario.parts seens left.journals left.ends = subst (λ x. AreLeft x seens left.journals left.ends) e l in
    record {
      runs = runs_left scenario.parts seens left.journals left.ends own;
      ends = ends_left scenario.parts seens left.journals left.ends own;
      threaded = subst (IsThreaded scenario (map events_in left.journals)) (sym a)
          (threaded scenario seens stamps rows left.journals left.ends w f own s);
    }
