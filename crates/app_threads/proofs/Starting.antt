-- What a worker did depends only on the events that its seats had seen and on their `made` lists, not on shares.
use Rattle.std.proofs.Common.{ℕ, List, [], ◌++◌, map, length, subst, sym, ap, ◌∙◌, arith}
use Rattle.std.proofs.lemmas.List.{length-map}
use Rattle.std.specs.Prelude.{Result, Ok, Err}
use Rattle.std.proofs.lemmas.Option.{slice_get_within}
use mathlib.Core.List.{IsPrefix}
use Rattle.nook_data.specs.declared.desks.DeskRefused.{DeskRefused}
use Rattle.nook_data.specs.declared.desks.DeskRefused.TheVariants as refused
use Rattle.nook_data.specs.declared.scenario.PartSpec.{PartSpec}
use Rattle.nook_data.specs.declared.desks.Receipt.{Receipt}
use Rattle.nook_data.specs.declared.scenario.ThreadSpec.{ThreadSpec}
use Rattle.part_defs.specs.State.{PartState}
use Rattle.desk_like.specs.Desks.{DeskView, IsRisingFrom}
use Rattle.app_threads.specs.declared.stop.WorkerStop.{WorkerStop}
use Rattle.app_threads.specs.declared.stop.WorkerStop.TheVariants as stop
use Rattle.app_threads.specs.declared.work.Work.{Work}
use Rattle.app_threads.specs.declared.work.Work.TheVariants as work
use Rattle.app_threads.specs.Steps.{Same, Starts}
use Rattle.app_threads.specs.Workers.{AtDesks, Does, Gains, GrewBy, IsRefusedAt, KnowsOpen, MadeBy, count_on, invokes_of}
use Rattle.app_threads.specs.Works.{IsWorkRefused, WorkEnds, frames_for, ops_for, thread_of}
use Rattle.app_threads.proofs.Counted.{at_most_same}
use Rattle.app_threads.proofs.Listed.{map_get, some_at}
use Rattle.app_threads.proofs.Scripts.{at_desks_more}

-- a new seat's view, whatever its share, its stamps and its clock
abbrev pub start_view : DeskView → DeskView
start_view v = record { seen = v.seen; made = []; share = []; stamps = []; clock = 0 }

-- seats that were split from these start with these views
pub start_same : (olds made : List DeskView) → AtDesks Starts olds made → AtDesks Same (map start_view olds) made
start_same olds made s = (
  s.0 ∙ sym (length-map olds start_view),
  λ d u w i j. let v = map_get start_view olds d u i in let e = s.1 d v.0 w v.1 j in (e.0 ∙ ap (λ (x : DeskView). x.seen) (sym v.2), e.1 ∙ ap (λ (x : DeskView). x.made) (sym v.2)),
)

abbrev pub gains_same : (v u w : DeskView) (is : List ℕ) (fs : List (List ℕ)) → Same 0 v u → Gains u w is fs → Gains v w is fs
gains_same v u w is fs s g = record {
  numbers = g.numbers;
  grows = record {
    seen = subst (λ seen. IsPrefix seen w.seen) s.0 g.grows.seen;
    made = g.grows.made ∙ ap (λ (m : List ℕ). m ++ g.numbers) s.1;
    there = g.grows.there;
  };
  invoked = g.invoked;
  arrived = g.arrived;
}

does_same : (v u w : DeskView) (is : List ℕ) (fs : List (List ℕ)) → Same 0 v u → Does u w is fs → Does v w is fs
does_same v u w is fs s h = record {
  gains = gains_same v u w is fs s h.gains;
  rising = subst (λ seen. IsRisingFrom (length seen) h.gains.numbers) s.0 h.rising;
}

made_same : (thread : ℕ) (v u w : DeskView) → Same 0 v u → MadeBy thread u w → MadeBy thread v w
made_same thread v u w s h none = h (s.1 ∙ none)

refused_same : (specs : List PartSpec) (olds mids news : List DeskView) (part : ℕ) (Cause : PartState → Type 0) → AtDesks Same olds mids → IsRefusedAt specs mids news part Cause → IsRefusedAt specs olds news part Cause
refused_same specs olds mids news part Cause same r =
    let l = slice_get_within mids part r.old r.old_there in
    let v = some_at olds part (let n = same.0 in omega arith) in
    let e = same.1 part v.0 r.old v.1 r.old_there in
    record {
      spec = r.spec;
      old = v.0;
      new = r.new;
      spec_there = r.spec_there;
      old_there = v.1;
      new_there = r.new_there;
      between = r.between;
      from = subst (λ seen. IsPrefix seen r.between) e.0 r.from;
      to = r.to;
      cause = r.cause;
    }

open_same : (specs : List PartSpec) (olds mids news : List DeskView) (thread part : ℕ) (refusal : DeskRefused) → AtDesks Same olds mids → KnowsOpen specs mids news thread part refusal → KnowsOpen specs olds news thread part refusal
open_same specs olds mids news thread part (refused.OpenCall call) same r =
    let l = slice_get_within mids part r.old r.old_there in
    let v = some_at olds part (let n = same.0 in omega arith) in
    let e = same.1 part v.0 r.old v.1 r.old_there in
    record {
      spec = r.spec;
      old = v.0;
      new = r.new;
      spec_there = r.spec_there;
      old_there = v.1;
      new_there = r.new_there;
      open_call = r.open_call;
      answered = λ none. r.answered (e.1 ∙ none);
    }
open_same specs olds mids news thread part (refused.NoMemory call) same r = tt
open_same specs olds mids news thread part refused.TooManyCalls same r = tt
open_same specs olds mids news thread part refused.NoOpenCall same r = tt
open_same specs olds mids news thread part refused.TooManyArrivals same r = tt

grew_same : (thread : ℕ) (calls frames : ℕ → ℕ) (olds mids news : List DeskView) → AtDesks Same olds mids → AtDesks (λ d v w. GrewBy thread (calls d) (frames d) v w) mids news → AtDesks (λ d v w. GrewBy thread (calls d) (frames d) v w) olds news
grew_same thread calls frames olds mids news same h =
    at_desks_more Same (λ d v w. GrewBy thread (calls d) (frames d) v w) (λ d v w. GrewBy thread (calls d) (frames d) v w) olds mids news
    (λ d v u w s g. (at_most_same v u w (calls d) (frames d) s g.0, made_same thread v u w s g.1)) same h

stop_same : (specs : List PartSpec) (scripts : List ThreadSpec) (arrivals : List (List (List ℕ))) (olds mids news : List DeskView) (k : Work) (index part : ℕ) (refusal : DeskRefused) → AtDesks Same olds mids
    → IsWorkRefused specs scripts arrivals mids news k index part refusal → IsWorkRefused specs scripts arrivals olds news k index part refusal
stop_same specs scripts arrivals olds mids news (work.Script thread) index part refusal same h = (
  record { op = h.0.op; operation = h.0.operation; cause = refused_same specs olds mids news part _ same h.0.cause },
  open_same specs olds mids news thread part refusal same h.1,
)
stop_same specs scripts arrivals olds mids news (work.Arrivals p) index part refusal same h =
    (h.0, record { frame = h.1.frame; cause = refused_same specs olds mids news part _ same h.1.cause })

pub work_same : (specs : List PartSpec) (scripts : List ThreadSpec) (arrivals : List (List (List ℕ))) (olds mids news : List DeskView) (k : Work) (e : Result (List Receipt) WorkerStop) → AtDesks Same olds mids
    → WorkEnds specs scripts arrivals mids k news e → WorkEnds specs scripts arrivals olds k news e
work_same specs scripts arrivals olds mids news k (Ok row) same h =
    let P : ℕ → DeskView → DeskView → Type 0 = λ d v w. Does v w (invokes_of d (ops_for scripts k) row) (frames_for d arrivals k) in
    let Q : ℕ → DeskView → DeskView → Type 0 = λ d v w. MadeBy (thread_of k) v w in (
      h.0,
      at_desks_more Same P P olds mids news (λ d v u w s g. does_same v u w (invokes_of d (ops_for scripts k) row) (frames_for d arrivals k) s g) same h.1,
      at_desks_more Same Q Q olds mids news (λ d v u w s g. made_same (thread_of k) v u w s g) same h.2,
      h.3,
    )
work_same specs scripts arrivals olds mids news k (Err (stop.Refused thread index part refusal)) same h = (
  grew_same (thread_of k) (λ d. count_on d (ops_for scripts k)) (λ d. length (frames_for d arrivals k)) olds mids news same h.0,
  h.1,
  stop_same specs scripts arrivals olds mids news k index part refusal same h.2,
)
work_same specs scripts arrivals olds mids news k (Err stop.NoMemory) same h =
    grew_same (thread_of k) (λ d. count_on d (ops_for scripts k)) (λ d. length (frames_for d arrivals k)) olds mids news same h
