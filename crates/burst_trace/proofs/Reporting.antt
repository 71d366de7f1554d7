-- What is written of a trace, piece by piece.
use Rattle.std.proofs.Common.{◌≡◌, ℕ, Bool, true, false, Option, Some, None, List, [], Result, Ok, Err, refl, sym, ap, subst}
use Rattle.std.proofs.Math.Nat.{le_refl}
use Rattle.part_defs.specs.State.{DomainState}
use Rattle.machine_defs.specs.BurstFaults.{faults_of_burst}
use Rattle.nook_data.specs.declared.devices.DeviceState.{DeviceState}
use Rattle.nook_data.specs.declared.entries.Entry.{Entry}
use Rattle.nook_data.specs.declared.scenario.Fault.{Fault}
use Rattle.nook_data.specs.declared.scenario.PartSpec.{PartSpec}
use Rattle.nook_data.specs.declared.machine.Context.{Context}
use Rattle.nook_io.specs.Changes.{Change, Stream, between}
use Rattle.report_text.proofs.WroteLemmas.{appends_nothing}
use Rattle.report_text.specs.Writing.{Wrote}
use Rattle.report_text.specs.declared.write.WriteStop.{WriteStop}
use Rattle.report_text.specs.declared.write.WriteStop.TheVariants as stop
use Rattle.turn_trace.proofs.Going.{err_same, still_cut}
use Rattle.turn_trace.specs.Bursts.{burst_trace}
use Rattle.turn_trace.specs.Lines.{step_lines}
use Rattle.burst_trace.specs.Text.{inside_of, part_lines, trace_by, trace_lines, traced_in}
use Rattle.burst_trace.specs.Writing.{WroteTrace, text_in}

-- there is no trace, and nothing was written
pub wrote_none : (sink : Stream) → WroteTrace (between sink sink) (Ok false) None
wrote_none sink = record {
  wrote = record { ok = appends_nothing sink.contents; err = tt; later = le_refl sink.errors; fault = λ e. cc; kept = refl; no_memory = λ e. refl };
  there = refl;
}

-- nothing was written of any trace, and the sink did not fail
pub unwritten : (sink : Stream) (e : WriteStop) (trace : Option (List ℕ)) → (e ≡ stop.Fault → ⊥)
    → WroteTrace (between sink sink) (Err e) trace
unwritten sink e trace other = record {
  wrote = record {
    ok = tt;
    err = record { front = []; rest = text_in trace; gained = appends_nothing sink.contents; whole = refl };
    later = le_refl sink.errors;
    fault = λ h. absurd (other (err_same (Err e) e stop.Fault refl h));
    kept = tt;
    no_memory = λ h. refl;
  };
  there = tt;
}

-- the trace of a domain's burst was written, if the context is Inside
pub domain_reported : {V : Type 0} {v : V} {sink : Change} (inside : Option Context) (x : Context) (faults : List Fault)
    (d : DomainState) (head end : List ℕ) → Some x ≡ inside → Wrote sink (Ok v) (trace_lines head end x faults d)
    → WroteTrace sink (Ok true) (trace_by head end faults d inside)
domain_reported {sink = sink} inside x faults d head end found w =
    subst (λ i. WroteTrace sink (Ok true) (trace_by head end faults d i)) found
    (record { wrote = record { ok = w.ok; err = tt; later = w.later; fault = λ e. cc; kept = w.kept; no_memory = λ e. w.kept }; there = refl })

-- it was not written completely
pub domain_cut : {V : Type 0} {e : WriteStop} {sink : Change} (inside : Option Context) (x : Context) (faults : List Fault)
    (d : DomainState) (head end : List ℕ) → Some x ≡ inside → Wrote {T = V} sink (Err e) (trace_lines head end x faults d)
    → WroteTrace sink (Err e) (trace_by head end faults d inside)
domain_cut {e = e} {sink = sink} inside x faults d head end found w =
    subst (λ i. WroteTrace sink (Err e) (trace_by head end faults d i)) found (record { wrote = still_cut w; there = tt })

-- no such context is Inside
pub domain_untold : (inside : Option Context) (faults : List Fault) (d : DomainState) (head end : List ℕ) (sink : Stream)
    → None ≡ inside → WroteTrace (between sink sink) (Ok false) (trace_by head end faults d inside)
domain_untold inside faults d head end sink found =
    subst (λ i. WroteTrace (between sink sink) (Ok false) (trace_by head end faults d i)) found (wrote_none sink)

-- the trace of a part's burst is that of its domain's, with the faults of that burst
pub part_reported : {sink : Change} {result : Result Bool WriteStop} (spec : PartSpec) (burst context : ℕ) (faults : List Fault)
    (d : DomainState) (head end : List ℕ) → faults ≡ faults_of_burst burst spec.faults
    → WroteTrace sink result (trace_by head end faults d (inside_of context d))
    → WroteTrace sink result (part_lines head end burst context spec d)
unfolding part_lines
part_reported {sink = sink} {result = result} spec burst context faults d head end e w =
    subst (λ g. WroteTrace sink result (trace_by head end g d (inside_of context d))) e w

-- the steps of a burst were written, run on a detached domain
pub steps_reported : {V : Type 0} {result : Result V WriteStop} {sink : Change} (x : Context) (faults : List Fault)
    (d : DomainState) (words : List ℕ) (entries : List Entry) (device : DeviceState) → words ≡ d.memory → entries ≡ d.entries → device ≡ d.device
    → Wrote sink result (step_lines entries (burst_trace entries faults (record { cpu = x.cpu; memory = words; device = device })).steps)
    → Wrote sink result (step_lines d.entries (traced_in x faults d).steps)
steps_reported x faults d words entries device m e v w = rw (← m, ← e, ← v) w
