-- How a script or arrivals end, as the end of a work.
use Rattle.std.proofs.Common.{◌≡◌, ℕ, List, [], length, slice_get, subst, sym, ap, Some}
use Rattle.std.specs.Prelude.{IfOk, if◌then◌else◌, ◌==◌, slice_index_or, Result, Ok, Err}
use Rattle.nook_data.specs.declared.scenario.PartSpec.{PartSpec}
use Rattle.nook_data.specs.declared.desks.Receipt.{Receipt}
use Rattle.nook_data.specs.declared.scenario.ThreadSpec.{ThreadSpec}
use Rattle.desk_like.specs.Desks.{DeskView}
use Rattle.app_threads.specs.declared.stop.WorkerStop.{WorkerStop}
use Rattle.app_threads.specs.declared.stop.WorkerStop.TheVariants as stop
use Rattle.app_threads.specs.declared.work.Work.TheVariants as work
use Rattle.app_threads.specs.Order.{Follows, all_stamps}
use Rattle.app_threads.specs.Workers.{AreReceipts, ArrivalsEnd, AtDesks, Does, GrewBy, IsArrivalRefused, IsCallRefused, ScriptEnds, count_on, invokes_of}
use Rattle.app_threads.specs.Works.{WorkEnds, ops_of}

pub script_work : (specs : List PartSpec) (scripts : List ThreadSpec) (arrivals : List (List (List ℕ))) (olds news : List DeskView) (t : ℕ) (script : ThreadSpec) (e : Result (List Receipt) WorkerStop)
    → slice_get scripts t ≡ Some script → ScriptEnds specs olds news t script.ops e → IfOk e (λ rs. Follows (all_stamps news) 0 script.ops rs) → WorkEnds specs scripts arrivals olds (work.Script t) news e
script_work specs scripts arrivals olds news t script (Ok rs) a h order =
    let ops : ops_of (slice_get scripts t) ≡ script.ops = ap ops_of a in (
      subst (λ o. AreReceipts news t o rs) (sym ops) h.0.receipts_are,
      subst (λ o. AtDesks (λ d v w. Does v w (invokes_of d o rs) []) olds news) (sym ops) h.0.does,
      h.1,
      subst (λ o. Follows (all_stamps news) 0 o rs) (sym ops) order,
    )
script_work specs scripts arrivals olds news t script (Err (stop.Refused thread index part refusal)) a h order =
    let ops : ops_of (slice_get scripts t) ≡ script.ops = ap ops_of a in
    (subst (λ o. AtDesks (λ d v w. GrewBy t (count_on d o) 0 v w) olds news) (sym ops) h.0, h.1, (subst (λ o. IsCallRefused specs olds news o t index part refusal) (sym ops) h.2, h.3))
script_work specs scripts arrivals olds news t script (Err stop.NoMemory) a h order =
    let ops : ops_of (slice_get scripts t) ≡ script.ops = ap ops_of a in
    subst (λ o. AtDesks (λ d v w. GrewBy t (count_on d o) 0 v w) olds news) (sym ops) h

pub arrivals_work : (specs : List PartSpec) (scripts : List ThreadSpec) (arrivals : List (List (List ℕ))) (olds news : List DeskView) (p : ℕ) (frames : List (List ℕ)) (e : Result (List Receipt) WorkerStop)
    → frames ≡ slice_index_or arrivals p [] → ArrivalsEnd specs olds news p frames e → WorkEnds specs scripts arrivals olds (work.Arrivals p) news e
arrivals_work specs scripts arrivals olds news p frames (Ok rs) a h = (
  subst (λ r. AreReceipts news 255 [] r) (sym h.0) tt,
  subst (λ fs. AtDesks (λ d v w. Does v w [] (if p == d then fs else [])) olds news) a h.1,
  h.2,
  subst (λ r. Follows (all_stamps news) 0 [] r) (sym h.0) tt,
)
arrivals_work specs scripts arrivals olds news p frames (Err (stop.Refused thread index part refusal)) a h =
    (subst (λ fs. AtDesks (λ d v w. GrewBy 255 0 (length (if p == d then fs else [])) v w) olds news) a h.0, h.1, (h.2, subst (λ q. IsArrivalRefused specs olds news (slice_index_or arrivals q []) index q refusal) (sym h.2) (subst (λ fs. IsArrivalRefused specs olds news fs index p refusal) a h.3)))
arrivals_work specs scripts arrivals olds news p frames (Err stop.NoMemory) a h =
    subst (λ fs. AtDesks (λ d v w. GrewBy 255 0 (length (if p == d then fs else [])) v w) olds news) a h
