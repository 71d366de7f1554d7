-- The rest of a trace from a position in its burst, after what a sink has received.
use Rattle.std.proofs.Common.{◌≡◌, ◌+◌, ◌-◌, ◌<◌, ◌≤◌, ◌==◌, ℕ, suc, nat_le, Bool, true, false, is_some, Option, Some, None, Result, Ok, Err, List, [], ◌∷◌, ◌++◌, length, map, refl, sym, ◌∙◌, ap, subst, append-nil, arith, codes, add-one, drop, get_or}
use Rattle.std.proofs.lemmas.Bool.{eq-eqb}
use Rattle.std.proofs.Math.Seq.{drop-cons}
use Rattle.std.proofs.Math.Nat.{le_refl}
use Rattle.std.proofs.lemmas.Grind.{flat_map-append}
use Rattle.nook_data.specs.declared.entries.Entry.{Entry}
use Rattle.nook_data.specs.declared.scenario.Fault.{Fault}
use Rattle.nook_data.specs.declared.scenario.FaultKind.TheVariants as kinds
use Rattle.nook_data.specs.declared.machine.TrapCause.{TrapCause}
use Rattle.nook_data.specs.declared.machine.TrapCause.TheVariants as trap
use Rattle.nook_data.specs.declared.machine.BurstEnd.{BurstEnd}
use Rattle.nook_data.specs.declared.machine.BurstEnd.TheVariants as ends
use Rattle.machine_defs.specs.Burst.{Struck, acts_of, strikes_at, struck_machine, trap_of}
use Rattle.machine_defs.proofs.MachineCases.{past_trap}
use Rattle.report_defs.specs.ReportLines.{line_feed}
use Rattle.machine_defs.specs.Execution.{Machine, Executed, turn}
use Rattle.nook_io.specs.Changes.{Change, Stream, between}
use Rattle.report_text.proofs.WroteLemmas.{Progress, appends_whole, progress_halt, progress_start, progress_step, progress_stop}
use Rattle.report_text.specs.Writing.{Wrote}
use Rattle.report_text.specs.declared.write.WriteStop.{WriteStop}
use Rattle.report_text.specs.declared.write.WriteStop.TheVariants.{Fault as SinkFault, NoMemory as SinkNoMemory}
use Rattle.turn_trace.specs.Bursts.{TracedBurst, TracedStep, rest_after, following_crossing, after_strikes, following_turn, burst_trace, finished, strike, struck_at, taken, trace_from, up_to_trap}
use Rattle.driver_isa.specs.Faults.{is_refused}
use Rattle.turn_trace.specs.Lines.{fault_text, refusal_text, step_line, step_lines, strike_line, turn_line, unstruck_line, unstruck_lines}
use Rattle.turn_trace.specs.Turns.{traced}
use Rattle.turn_trace.specs.declared.traced.TracedTurn.{TracedTurn}

-- ---- a text that is written piece by piece

-- a text of which nothing remains is written
pub progress_done : {T : Type 0} {sink : Change} {whole : List ℕ} (v : T) → Progress sink [] whole → Wrote sink (Ok v) whole
progress_done {sink = sink} {whole = whole} v p = record {
  ok = appends_whole sink.before.contents sink.after.contents p.front whole p.gained (sym (append-nil p.front) ∙ p.parts);
  err = tt;
  later = subst (λ k. sink.before.errors ≤ k) (sym p.kept) (le_refl sink.before.errors);
  fault = λ e. cc;
  kept = p.kept;
  no_memory = λ e. p.kept;
}

pub err_same : {T : Type 0} (r : Result T WriteStop) (e f : WriteStop) → r ≡ Err e → r ≡ Err f → e ≡ f
err_same r e f is h = cc

-- a text that was not written completely, whatever type the call returns
pub still_cut : {T V : Type 0} {sink : Change} {e : WriteStop} {text : List ℕ}
    → Wrote {T = V} sink (Err e) text → Wrote {T = T} sink (Err e) text
still_cut {e = e} w = record {
  ok = tt;
  err = w.err;
  later = w.later;
  fault = λ h. w.fault (ap Err (err_same (Err e) e SinkFault refl h));
  kept = tt;
  no_memory = λ h. w.no_memory (ap Err (err_same (Err e) e SinkNoMemory refl h));
}

-- ---- the steps of a burst

-- the lines of the remaining steps complete those of the whole
pub record Remains (entries : List Entry) (sink : Change) (t whole : TracedBurst) : Type 0 where
  pub progress : Progress sink (step_lines entries t.steps) (step_lines entries whole.steps)
  pub unstruck : t.unstruck ≡ whole.unstruck
  pub left : t.left ≡ whole.left

-- all lines are written, and these are the remaining faults and the final machine
pub record Ends (entries : List Entry) (sink : Change) (rest : List Fault) (m : Machine) (whole : TracedBurst) : Type 0 where
  pub progress : Progress sink [] (step_lines entries whole.steps)
  pub unstruck : rest ≡ whole.unstruck
  pub left : m ≡ whole.left

-- at the start the whole trace of a burst remains
pub begins_whole : (entries : List Entry) (sink : Stream) (faults : List Fault) (m : Machine)
    → Remains entries (between sink sink) (trace_from 4096 entries faults m 0) (burst_trace entries faults m)
unfolding burst_trace
begins_whole entries sink faults m =
    record { progress = progress_start sink (step_lines entries (trace_from 4096 entries faults m 0).steps); unstruck = refl; left = refl }

ends_whole : {entries : List Entry} {sink : Change} {whole : TracedBurst}
    (rest : List Fault) (m : Machine) (ending : BurstEnd)
    → Remains entries sink (finished rest m ending) whole → Ends entries sink rest m whole
ends_whole rest m ending h = record { progress = h.progress; unstruck = h.unstruck; left = h.left }

-- the lines of some steps come before those of the later ones
steps_first : {entries : List Entry} {sink : Change} {whole : TracedBurst} (steps : List TracedStep) (t : TracedBurst)
    → Remains entries sink (rest_after steps t) whole
    → Progress sink (step_lines entries steps ++ step_lines entries t.steps) (step_lines entries whole.steps)
steps_first {entries = entries} steps t h = rw (flat_map-append (step_line entries) steps t.steps) at h.progress

-- the lines of some steps are written
writes_steps : {V : Type 0} {v : V} {entries : List Entry} {old mid new : Stream} {whole : TracedBurst}
    (steps : List TracedStep) (t : TracedBurst)
    → Remains entries (between old mid) (rest_after steps t) whole → Wrote (between mid new) (Ok v) (step_lines entries steps)
    → Remains entries (between old new) t whole
writes_steps steps t h w = record { progress = progress_step (steps_first steps t h) w; unstruck = h.unstruck; left = h.left }

-- the lines of some steps are not written completely
cuts_steps : {V : Type 0} {e : WriteStop} {entries : List Entry} {old mid new : Stream} {whole : TracedBurst}
    (steps : List TracedStep) (t : TracedBurst)
    → Remains entries (between old mid) (rest_after steps t) whole → Wrote {T = V} (between mid new) (Err e) (step_lines entries steps)
    → Wrote {T = V} (between old new) (Err e) (step_lines entries whole.steps)
cuts_steps {entries = entries} steps t h w = progress_stop (step_lines entries t.steps) (steps_first steps t h) w

-- the line of an instruction is that of its step
turn_step : (entries : List Entry) (recorded own : TracedTurn) → recorded ≡ own → turn_line recorded ≡ step_lines entries (taken own ∷ [])
turn_step entries recorded own e = rw (e, append-nil (turn_line own)) refl

-- a trace from a position: first the strikes at the position, then an instruction
at_position : (point : ℕ) (entries : List Entry) (faults : List Fault) (m : Machine) (acts : ℕ) → point < 4096
    → trace_from (4096 - point) entries faults m acts
    ≡ rest_after (map strike (struck_at point faults))
    (after_strikes
    (λ rest struck. following_turn (λ m' acts'. trace_from (4096 - (point + 1)) entries rest m' acts') rest (point + 1) struck acts (turn entries struck))
    (strikes_at point entries faults m))
unfolding trace_from
at_position point entries faults m acts h =
    let left : ℕ = 4096 - (point + 1) in
    let whole : 4096 - point ≡ suc left = omega arith in
    let next : 4096 - left ≡ point + 1 = omega arith in
    let here : 4096 - suc left ≡ point = omega arith in
    rw (whole, next, here) refl

-- what remains after a position's strikes, given their result
abbrev after_point : ℕ → List Entry → ℕ → Struck → TracedBurst
after_point point entries acts s =
    after_strikes
    (λ rest struck. following_turn (λ m' acts'. trace_from (4096 - (point + 1)) entries rest m' acts') rest (point + 1) struck acts (turn entries struck))
    s

-- what a call must do at a position: this much remains, with the entries that it gets
pub record IsPosition (point : ℕ) (entries own : List Entry) (sink : Change) (faults : List Fault) (m : Machine)
    (acts : ℕ) (whole : TracedBurst) : Type 0 where
  pub within : point < 4096
  pub remains : Remains entries sink (trace_from (4096 - point) entries faults m acts) whole
  pub same : own ≡ entries

pub is_position : {entries own : List Entry} {sink : Change} {faults : List Fault} {m : Machine} {acts : ℕ}
    {whole : TracedBurst} (point : ℕ) → point < 4096
    → Remains entries sink (trace_from (4096 - point) entries faults m acts) whole → own ≡ entries
    → IsPosition point entries own sink faults m acts whole
is_position point h r e = record { within = h; remains = r; same = e }

-- the strikes at the position come first
position_first : {point : ℕ} {entries own : List Entry} {sink : Change} {faults : List Fault} {m : Machine}
    {acts : ℕ} {whole : TracedBurst} (s : Struck) → IsPosition point entries own sink faults m acts whole → strikes_at point own faults m ≡ s
    → Remains entries sink (rest_after (map strike (struck_at point faults)) (after_point point entries acts s)) whole
position_first {point = point} {entries = entries} {own = own} {faults = faults} {m = m} {acts = acts} s p e =
    let e' : strikes_at point entries faults m ≡ s = rw p.same at e in
    rw (at_position point entries faults m acts p.within, e') at p.remains

-- the lines of a position's strikes are written
strikes_written : {V : Type 0} {v : V} {point : ℕ} {entries own : List Entry} {old mid new : Stream} {faults : List Fault}
    {m : Machine} {acts : ℕ} {whole : TracedBurst} {s : Struck}
    → IsPosition point entries own (between old mid) faults m acts whole → strikes_at point own faults m ≡ s
    → Wrote (between mid new) (Ok v) (step_lines own (map strike (struck_at point faults)))
    → Remains entries (between old new) (after_point point entries acts s) whole
strikes_written {point = point} {entries = entries} {faults = faults} {acts = acts} {s = s} p e w =
    writes_steps (map strike (struck_at point faults)) (after_point point entries acts s) (position_first s p e) (rw p.same at w)

-- the lines of a position's strikes are not written completely
pub strikes_cut : {V : Type 0} {stop : WriteStop} {point : ℕ} {entries own : List Entry} {old mid new : Stream}
    {faults : List Fault} {m : Machine} {acts : ℕ} {whole : TracedBurst}
    → IsPosition point entries own (between old mid) faults m acts whole
    → Wrote {T = V} (between mid new) (Err stop) (step_lines own (map strike (struck_at point faults)))
    → Wrote {T = V} (between old new) (Err stop) (step_lines entries whole.steps)
strikes_cut {point = point} {entries = entries} {own = own} {faults = faults} {m = m} {acts = acts} p w =
    cuts_steps (map strike (struck_at point faults)) (after_point point entries acts (strikes_at point own faults m))
    (position_first (strikes_at point own faults m) p refl) (rw p.same at w)

some_of : {X : Type 0} (o : Option X) → is_some o ≡ true → (x : X) × (o ≡ Some x)
some_of None h = cc
some_of (Some x) h = (x, refl)

pub none_of : {X : Type 0} (o : Option X) → is_some o ≡ false → o ≡ None
none_of None h = refl
none_of (Some x) h = cc

-- a trap among the strikes ends the burst
pub stops_here : {V : Type 0} {v : V} {point : ℕ} {entries own : List Entry} {old mid new : Stream} {faults : List Fault}
    {m : Machine} {acts : ℕ} {whole : TracedBurst} {s : Struck}
    → IsPosition point entries own (between old mid) faults m acts whole → strikes_at point own faults m ≡ s
    → Wrote (between mid new) (Ok v) (step_lines own (map strike (struck_at point faults)))
    → is_some s.stopped ≡ true → Ends entries (between old new) s.rest s.machine whole
stops_here {s = s} p e w stopped =
    let some : (cause : TrapCause) × (s.stopped ≡ Some cause) = some_of s.stopped stopped in
    ends_whole s.rest s.machine (ends.Trap some.0) (rw some.1 at (strikes_written p e w))

-- what remains after a position's strikes if none of them was a trap: an instruction
turn_first : {V : Type 0} {v : V} {point : ℕ} {entries own : List Entry} {old mid new : Stream} {faults : List Fault}
    {m : Machine} {acts : ℕ} {whole : TracedBurst} {s : Struck}
    → IsPosition point entries own (between old mid) faults m acts whole → strikes_at point own faults m ≡ s
    → Wrote (between mid new) (Ok v) (step_lines own (map strike (struck_at point faults)))
    → is_some s.stopped ≡ false
    → Remains entries (between old new)
    (following_turn (λ m' acts'. trace_from (4096 - (point + 1)) entries s.rest m' acts') s.rest (point + 1) s.machine acts (turn entries s.machine)) whole
turn_first {s = s} p e w stopped = rw (none_of s.stopped stopped) at (strikes_written p e w)

-- the instruction does not run
pub untaken_here : {U V : Type 0} {v : V} {stop : WriteStop} {point : ℕ} {entries own : List Entry} {old mid new : Stream}
    {faults : List Fault} {m : Machine} {acts : ℕ} {whole : TracedBurst} {s : Struck}
    → IsPosition point entries own (between old mid) faults m acts whole → strikes_at point own faults m ≡ s
    → Wrote (between mid new) (Ok v) (step_lines own (map strike (struck_at point faults)))
    → (stop ≡ SinkFault → ⊥) → Wrote {T = U} (between old new) (Err stop) (step_lines entries whole.steps)
untaken_here {stop = stop} p e w other =
    progress_halt (strikes_written p e w).progress (λ h. absurd (other (err_same (Err stop) stop SinkFault refl h)))

-- what remains after a position's strikes and its instruction, given its acts and crossing
pub record IsAfterInstruction (point : ℕ) (entries : List Entry) (sink : Change) (rest : List Fault) (after : Machine)
    (acts own : ℕ) (crossing : Option BurstEnd) (whole : TracedBurst) : Type 0 where
  pub remains : Remains entries sink
      (following_crossing (λ m' acts'. trace_from (4096 - (point + 1)) entries rest m' acts') rest after (acts + own) crossing) whole

-- the instruction that ran at a position, with the entries that it got
pub record IsGiven (point : ℕ) (own : List Entry) (m : Machine) (recorded : TracedTurn) (after : Machine) (crossing : Option BurstEnd) : Type 0 where
  pub is : recorded ≡ traced (point + 1) m (turn own m)
  pub left : (turn own m).machine ≡ after
  pub crossed : (turn own m).crossing ≡ crossing

pub is_reported : (point : ℕ) (own : List Entry) (m : Machine) (recorded : TracedTurn) (after : Machine) (crossing : Option BurstEnd)
    → recorded ≡ traced (point + 1) m (turn own m) → (turn own m).machine ≡ after → (turn own m).crossing ≡ crossing
    → IsGiven point own m recorded after crossing
is_reported point own m recorded after crossing e l x = record { is = e; left = l; crossed = x }

-- the instruction at a position is written
pub turns_here : {V W : Type 0} {v : V} {w : W} {point : ℕ} {entries own later : List Entry} {old mid struck new : Stream}
    {faults : List Fault} {m after : Machine} {acts : ℕ} {whole : TracedBurst} {s : Struck} {recorded : TracedTurn} {crossing : Option BurstEnd}
    → IsPosition point entries own (between old mid) faults m acts whole → strikes_at point own faults m ≡ s
    → Wrote (between mid struck) (Ok v) (step_lines own (map strike (struck_at point faults)))
    → is_some s.stopped ≡ false → later ≡ own → IsGiven point later s.machine recorded after crossing
    → Wrote (between struck new) (Ok w) (turn_line recorded)
    → IsAfterInstruction point entries (between old new) s.rest after acts (length recorded.acts) crossing whole
turns_here {point = point} {entries = entries} {acts = acts} {s = s} {recorded = recorded} p e strikes stopped same t written =
    let t' = rw (same ∙ p.same) at t in
    let go = λ (m' : Machine) (acts' : ℕ). trace_from (4096 - (point + 1)) entries s.rest m' acts' in
    let next : TracedBurst = following_crossing go s.rest (turn entries s.machine).machine
    (acts + length (acts_of (turn entries s.machine).act)) (turn entries s.machine).crossing in
    record {
      remains = rw (t'.is, ← t'.left, ← t'.crossed)
          (writes_steps (taken (traced (point + 1) s.machine (turn entries s.machine)) ∷ []) next (turn_first p e strikes stopped)
          (rw (turn_step entries recorded (traced (point + 1) s.machine (turn entries s.machine)) t'.is) at written));
    }

-- the instruction at a position is not written completely
pub turn_cut : {V W : Type 0} {v : V} {stop : WriteStop} {point : ℕ} {entries own later : List Entry} {old mid struck new : Stream}
    {faults : List Fault} {m after : Machine} {acts : ℕ} {whole : TracedBurst} {s : Struck} {recorded : TracedTurn}
    {crossing : Option BurstEnd}
    → IsPosition point entries own (between old mid) faults m acts whole → strikes_at point own faults m ≡ s
    → Wrote (between mid struck) (Ok v) (step_lines own (map strike (struck_at point faults)))
    → is_some s.stopped ≡ false → later ≡ own → IsGiven point later s.machine recorded after crossing
    → Wrote {T = W} (between struck new) (Err stop) (turn_line recorded)
    → Wrote {T = W} (between old new) (Err stop) (step_lines entries whole.steps)
turn_cut {point = point} {entries = entries} {acts = acts} {s = s} {recorded = recorded} p e strikes stopped same t written =
    let t' = rw (same ∙ p.same) at t in
    let go = λ (m' : Machine) (acts' : ℕ). trace_from (4096 - (point + 1)) entries s.rest m' acts' in
    let next : TracedBurst = following_crossing go s.rest (turn entries s.machine).machine
    (acts + length (acts_of (turn entries s.machine).act)) (turn entries s.machine).crossing in
    cuts_steps (taken (traced (point + 1) s.machine (turn entries s.machine)) ∷ []) next (turn_first p e strikes stopped)
    (rw (turn_step entries recorded (traced (point + 1) s.machine (turn entries s.machine)) t'.is) at written)

-- a crossing ends the burst
pub crosses_here : {point : ℕ} {entries : List Entry} {sink : Change} {rest : List Fault} {m : Machine} {acts own : ℕ}
    {whole : TracedBurst} (crossing : Option BurstEnd)
    → IsAfterInstruction point entries sink rest m acts own crossing whole → is_some crossing ≡ true
    → Ends entries sink rest m whole
crosses_here {rest = rest} {m = m} crossing r x =
    let some : (ending : BurstEnd) × (crossing ≡ Some ending) = some_of crossing x in
    ends_whole rest m some.0 (rw some.1 at r.remains)

-- the 64th act ends the burst
pub pauses_here : {point : ℕ} {entries : List Entry} {sink : Change} {rest : List Fault} {m : Machine} {acts own : ℕ}
    {whole : TracedBurst} (crossing : Option BurstEnd) (n : ℕ)
    → IsAfterInstruction point entries sink rest m acts own crossing whole → is_some crossing ≡ false
    → n ≡ own → nat_le 64 (acts + n) ≡ true → Ends entries sink rest m whole
pauses_here {rest = rest} {m = m} {acts = acts} {own = own} crossing n r x e many =
    let many' : nat_le 64 (acts + own) ≡ true = rw e at many in
    ends_whole rest m ends.Pause (rw (none_of crossing x, many') at r.remains)

-- otherwise the rest remains
pub goes_on_here : {point : ℕ} {entries : List Entry} {sink : Change} {rest : List Fault} {m : Machine} {acts own : ℕ}
    {whole : TracedBurst} (crossing : Option BurstEnd) (n : ℕ)
    → IsAfterInstruction point entries sink rest m acts own crossing whole → is_some crossing ≡ false
    → n ≡ own → nat_le 64 (acts + n) ≡ false
    → Remains entries sink (trace_from (4096 - (point + 1)) entries rest m (acts + n)) whole
goes_on_here {acts = acts} {own = own} crossing n r x e few =
    let few' : nat_le 64 (acts + own) ≡ false = rw e at few in
    rw e (rw (none_of crossing x, few') at r.remains)

pub hangs_here : {entries : List Entry} {sink : Change} {whole : TracedBurst}
    (point : ℕ) (faults : List Fault) (m : Machine) (acts : ℕ)
    → 4096 ≤ point → Remains entries sink (trace_from (4096 - point) entries faults m acts) whole
    → Ends entries sink faults m whole
unfolding trace_from
hangs_here point faults m acts h r =
    let none : 4096 - point ≡ 0 = omega arith in
    ends_whole faults m (ends.Trap trap.Hang) (rw none at r)

-- ---- the strikes at one position

-- the lines of the faults that strike at a position
abbrev pub strike_lines_at : ℕ → List Entry → List Fault → List ℕ
strike_lines_at point entries faults = step_lines entries (map strike (struck_at point faults))

here_at : (point : ℕ) (f : Fault) → f.after ≡ point → f.after == point ≡ true
here_at point f e = eq-eqb f.after point e

-- the first fault strikes, and its line comes before those of the faults that strike after it
strike_first : (point : ℕ) (entries : List Entry) (f : Fault) (faults : List Fault) (refused : Bool) (stopped : Option TrapCause)
    → f.after == point ≡ true → trap_of f.kind ≡ stopped → refused ≡ is_refused entries f.kind
    → strike_lines_at point entries (f ∷ faults)
    ≡ (fault_text (codes "fault ") f ++ (refusal_text refused ++ line_feed)) ++ step_lines entries (map strike (up_to_trap (struck_at point faults) stopped))
strike_first point entries f faults refused stopped here trap same = rw (here, trap, same, struck_at) refl

-- and the later faults strike the machine that it left
pub strikes_on : (point : ℕ) (own later : List Entry) (f : Fault) (faults rest : List Fault) (m after : Machine)
    → rest ≡ f ∷ faults → f.after ≡ point → trap_of f.kind ≡ None → later ≡ own → struck_machine own f.kind m ≡ after
    → strikes_at point later faults after ≡ strikes_at point own rest m
strikes_on point own later f faults rest m after is here none same struck =
    let more : Struck = strikes_at point own faults (struck_machine own f.kind m) in
    let first : strikes_at point own (f ∷ faults) m ≡ past_trap more m faults (trap_of f.kind) = rw (here_at point f here, strikes_at) refl in
    let all : strikes_at point own (f ∷ faults) m ≡ more = first ∙ ap (past_trap more m faults) none in
    rw (is, same, ← struck) (sym all)

-- a fault that is not a trap is written, and the later ones remain
pub strikes_more : {V : Type 0} {v : V} {old mid new : Stream} {whole : List ℕ}
    (point : ℕ) (entries : List Entry) (f : Fault) (faults : List Fault) (refused : Bool)
    → Progress (between old mid) (strike_lines_at point entries (f ∷ faults)) whole
    → f.after ≡ point → trap_of f.kind ≡ None → refused ≡ is_refused entries f.kind
    → Wrote (between mid new) (Ok v) (fault_text (codes "fault ") f ++ (refusal_text refused ++ line_feed))
    → Progress (between old new) (strike_lines_at point entries faults) whole
strikes_more point entries f faults refused p here none same w =
    progress_step (rw (strike_first point entries f faults refused None (here_at point f here) none same) at p) w

-- a fault's line is not written completely
pub strike_cut : {V : Type 0} {stop : WriteStop} {old mid new : Stream} {whole : List ℕ}
    (point : ℕ) (entries : List Entry) (f : Fault) (faults : List Fault) (refused : Bool)
    → Progress (between old mid) (strike_lines_at point entries (f ∷ faults)) whole
    → f.after ≡ point → refused ≡ is_refused entries f.kind
    → Wrote {T = V} (between mid new) (Err stop) (fault_text (codes "fault ") f ++ (refusal_text refused ++ line_feed))
    → Wrote {T = V} (between old new) (Err stop) whole
strike_cut point entries f faults refused p here same w =
    progress_stop (step_lines entries (map strike (up_to_trap (struck_at point faults) (trap_of f.kind))))
    (rw (strike_first point entries f faults refused (trap_of f.kind) (here_at point f here) refl same) at p) w

-- ---- the faults that did not strike

-- the value read past the end of a list of faults
abbrev pub no_fault : Fault
no_fault = record { burst = 0; after = 0; kind = kinds.Trap }

-- their remaining lines begin with the next one's
pub next_unstruck : (faults : List Fault) (i : ℕ) → i < length faults
    → unstruck_lines (drop i faults) ≡ unstruck_line (get_or faults i no_fault) ++ unstruck_lines (drop (i + 1) faults)
next_unstruck faults i h = rw (drop-cons faults i no_fault h, add-one i) refl
