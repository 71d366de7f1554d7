use Rattle.std.proofs.Common.{◌≡◌, ℕ, suc, ◌+◌, ◌&&◌, eqb, Bool, true, false, Option, Some, None, is_some, List, ◌++◌, length, sym, refl, ap, ap₂, subst, ◌∙◌, inl, inr, arith, append_assoc, length-set}
use Rattle.std.specs.List.{find}
use Rattle.std.proofs.lemmas.Bool.{and_parts, eqb-true, cond-true, cond-false}
use Rattle.nook_data.specs.declared.calls.Answer.{Answer}
use Rattle.nook_data.specs.declared.calls.Answer.TheVariants as answered
use Rattle.nook_data.specs.declared.calls.CallEntry.{CallEntry}
use Rattle.nook_data.specs.declared.steps.End.{End}
use Rattle.nook_data.specs.declared.steps.End.TheVariants as ends
use Rattle.nook_data.specs.declared.steps.FailCause.{FailCause}
use Rattle.nook_data.specs.declared.scenario.Fault.{Fault}
use Rattle.nook_data.specs.declared.calls.Op.{Op}
use Rattle.nook_data.specs.declared.calls.Op.TheVariants.{Read, Write, Send, Recv, Play, Get, Set}
use Rattle.nook_data.specs.declared.machine.Context.{Context}
use Rattle.part_laws.specs.Watch.{Watch, Watched, sees, sees_acts, sees_crossing, owes, owes_found}
use Rattle.part_defs.specs.Crossing.{Crossed, after_crossing}
use Rattle.part_defs.specs.Domain.{DomainBurst, context_of, domain_burst, machine_of}
use Rattle.promise_defs.specs.Ideal.{ran}
use Rattle.part_defs.specs.Log.{call_of_thread}
use Rattle.part_defs.proofs.PartCases.{burst_by, burst_step, is_of_thread, number_of_call, with_burst}
use Rattle.nook_data.specs.Numbered.{at_number}
use Rattle.part_defs.specs.State.{DomainState, PartState}
use Rattle.part_defs.specs.Steps.{can_burst, is_driven, is_inside, is_running, served_number, burst_stepped}
use Rattle.machine_defs.specs.BurstFaults.{faults_of_burst}
use Rattle.promise_defs.specs.Trace.{shown_acts, shown_option}
use Rattle.part_laws.specs.Counts.{count_acts}
use Rattle.part_laws.specs.Balance.{held_at, Balanced}
use Rattle.part_laws.specs.ActsOn.{dev_of, acts_on, Reports}
use Rattle.part_laws.specs.Facts.{At, Facts}
use Rattle.part_laws.specs.Views.{Past, Call, core_of, cores, entry_of, stage_of, view_of, watch_of, ideal_of, tracks_of}
use Rattle.part_laws.proofs.ActLists.{ActsOk, acts_ok}
use Rattle.part_laws.proofs.Acting.{with_dev, Active}
use Rattle.part_laws.proofs.Acts.{Serves}
use Rattle.part_laws.proofs.ActsDetermine.{acts_determine}
use Rattle.part_laws.proofs.Balances.{held_active}
use Rattle.part_laws.proofs.Contexts.{driven_set}
use Rattle.part_laws.proofs.Crossed.{Bursts, crossing_ok}
use Rattle.part_laws.proofs.Crossings.{CrossOk}
use Rattle.part_laws.proofs.Enters.{running_mode}
use Rattle.part_laws.proofs.OpenCalls.{Found, open_find}
use Rattle.part_laws.proofs.Indices.{split, from_map}
use Rattle.part_laws.specs.Recovery.{StepKeeps}
use Rattle.part_laws.proofs.Watching.{required_met}

-- A burst: its acts, followed by its crossing.

-- ---- no crossing clears a broken clause

owes_clause : (c : Watched) (o : Op) (a : Answer) (w : Watch) → owes c o a w ≡ None → w.clause ≡ None
owes_clause c (Write first words) answered.Done w h = (required_met _ 3 w.clause h).1
owes_clause c (Read first count) (answered.Blocks words) w h = (required_met _ 4 w.clause h).1
owes_clause c (Send frame) answered.Done w h = (required_met _ 7 w.clause h).1
owes_clause c Recv a w h = (required_met _ 9 w.clause h).1
owes_clause c (Play samples) answered.Done w h = (required_met _ 11 w.clause h).1
owes_clause c (Set key value) answered.Done w h = (required_met _ 13 w.clause h).1
owes_clause c (Get key) (answered.Value word) w h = (required_met _ 14 w.clause h).1
owes_clause c (Read first count) (answered.IoError block) w h = (required_met _ 15 w.clause h).1
owes_clause c (Write first words) (answered.IoError block) w h = (required_met _ 15 w.clause h).1
owes_clause c o a w h = h

found_clause : (c : Option Watched) (a : Answer) (w : Watch) → owes_found c a w ≡ None → w.clause ≡ None
found_clause None a w h = h
found_clause (Some c) a w h = owes_clause c c.op a w h

crossing_clause : (n : ℕ) (e : End) (a : Option Answer) (failure : Option FailCause) (w : Watch)
    → (sees_crossing n e a failure w).clause ≡ None → w.clause ≡ None
crossing_clause n e a (Some cause) w h = h
crossing_clause n (ends.Service service first second result moved) a None w h = (required_met _ 8 w.clause h).1
crossing_clause n (ends.Reply status) (Some a) None w h = found_clause (at_number n w.calls) a w h
crossing_clause n (ends.Reply status) None None w h = (required_met _ 13 w.clause h).1
crossing_clause n ends.Pause a None w h = h
crossing_clause n ends.Trap a None w h = h

-- ---- what holds after a burst

record BurstReports (d : DomainState) (x : DomainBurst) : Type 0 where
  reports : Reports (dev_of d.device) (dev_of x.domain.device) x.acts
  driven : is_some (context_of 16 x.domain.contexts) ≡ is_some (context_of 16 d.contexts)
  contexts : length x.domain.contexts ≡ 17

burst_reports : (context : ℕ) (faults : List Fault) (d : DomainState) → length d.contexts ≡ 17 → BurstReports d (domain_burst context faults d)
unfolding domain_burst
burst_reports context faults d l = by_context (context_of context d.contexts) refl
  where
    by_context : (o : Option Context) → context_of context d.contexts ≡ o → BurstReports d (burst_by context faults d o)
    by_context None e = record { reports = record { made = refl; fit = tt }; driven = refl; contexts = l }
    by_context (Some x) e = record {
      reports = acts_determine d.entries faults (machine_of x d);
      driven = driven_set d.contexts context (Some _) l (sym (ap is_some e));
      contexts = length-set d.contexts context (Some _) ∙ l;
    }

-- ---- the step

-- the call that the burst serves, before it
record Begins (p : PartState) (b : Past) (context : ℕ) : Type 0 where
  call : CallEntry
  active : Active (view_of p)
  serves : Serves (served_number context p) call b
  whose : (q : PartState) (after : Past) → q.log.pending ≡ p.log.pending → q.mode ≡ p.mode → (view_of q).driven ≡ (view_of p).driven
      → length q.log.defaults ≡ 4 → ((rest : List (List ℕ)) → held_at (stage_of q.mode) rest ≡ length rest) → Facts (view_of q) after → length q.domain.contexts ≡ 17 → Serves (served_number context p) call after
      → Bursts q after context (served_number context p)

no_call : CallEntry
no_call = record { call = 0; thread = 0; op = Recv; inside = false; attempts = 0 }

begins : (p : PartState) (b : Past) (context : ℕ) → Facts (view_of p) b → can_burst p context ≡ true → Begins p b context
begins p b context f h = split (eqb context 16)
    (λ t. own t (sym (cond-true (eqb context 16) (is_driven p) others t) ∙ h))
    (λ t. other t (and_parts (is_running p.mode) (is_inside (call_of_thread context p.log.pending)) (sym (cond-false (eqb context 16) (is_driven p) others t) ∙ h)))
  where
    others : Bool
    others = is_running p.mode && is_inside (call_of_thread context p.log.pending)

    number : ℕ
    number = number_of_call (call_of_thread context p.log.pending)

    own : eqb context 16 ≡ true → is_driven p ≡ true → Begins p b context
    own t d = record {
      call = no_call;
      active = inr d;
      serves = subst (λ n. Serves n no_call b) (sym (cond-true (eqb context 16) 0 number t)) tt;
      whose = λ q after pending m driven ld held g l s. record
          { facts = g; contexts = l; defaults = ld; held = held; whose = inl (eqb-true context 16 t, driven ∙ d) };
    }

    other : eqb context 16 ≡ false → (is_running p.mode ≡ true) × (is_inside (call_of_thread context p.log.pending) ≡ true) → Begins p b context
    other t (r, i) = by_call (call_of_thread context p.log.pending) refl i
      where
        with_call : (e : CallEntry) → call_of_thread context p.log.pending ≡ Some e → e.inside ≡ true → (g : Found 1 (cores b) context e)
            → (c : Call) × At b.calls g.index c × (g.core ≡ core_of c) → Begins p b context
        with_call e q j g (c, at, s) = record {
          call = e;
          active = inl (running_mode p.mode r);
          serves = subst (λ n. Serves n e b) (sym count) (c, at, ap (λ x. x.inside) (sym entry) ∙ j, entry);
          whose = λ p' after pending m driven ld held f' l z. by_serves p' after pending m ld held f' l (subst (λ n. Serves n e after) count z);
        }
          where
            entry : e ≡ entry_of (suc g.index) c.core
            entry = g.entry ∙ ap₂ (λ n x. entry_of n x) (omega arith) s

            count : served_number context p ≡ suc g.index
            count = cond-false (eqb context 16) 0 number t ∙ ap number_of_call q ∙ ap (λ x. x.call) entry

            by_serves : (p' : PartState) (after : Past) → p'.log.pending ≡ p.log.pending → p'.mode ≡ p.mode → length p'.log.defaults ≡ 4
                → ((rest : List (List ℕ)) → held_at (stage_of p'.mode) rest ≡ length rest)
                → Facts (view_of p') after → length p'.domain.contexts ≡ 17
                → (d : Call) × At after.calls g.index d × (d.core.inside ≡ true) × (e ≡ entry_of (suc g.index) d.core)
                → Bursts p' after context (served_number context p)
            by_serves p' after pending m ld held f' l (d, hd, id, ed) = record {
              facts = f';
              contexts = l;
              defaults = ld;
              held = held;
              whose = inr (
                t,
                (
                  g.index,
                  count,
                  (
                    d,
                    record { facts = f'; running = m ∙ running_mode p.mode r; at = hd; inside = id },
                    ap (call_of_thread context) pending ∙ q ∙ ap Some ed,
                  ),
                ),
              );
            }

        by_call : (x : Option CallEntry) → call_of_thread context p.log.pending ≡ x → is_inside x ≡ true → Begins p b context
        by_call None q j = absurd cc
        by_call (Some e) q j = with_found (open_find 1 (cores b) context e (ap (find (is_of_thread context)) (sym f.pending) ∙ q))
          where
            with_found : Found 1 (cores b) context e → Begins p b context
            with_found g = with_call e q j g (from_map core_of b.calls g.index g.core g.at)

past_burst_ok : (p : PartState) (b : Past) (context : ℕ) (x : DomainBurst) → Facts (view_of p) b → BurstReports p.domain x → Begins p b context
    → (sees (watch_of (view_of p) b) (burst_step context p x).event).clause ≡ None → StepKeeps p b (burst_step context p x)
past_burst_ok p b context x f t u h = with_acts (acts_ok x.acts (view_of p) b n u.call f u.active u.serves t.reports.fit
    (crossing_clause n c.end c.answer c.failure (sees_acts n x.acts (watch_of (view_of p) b)) h))
  where
    n : ℕ
    n = served_number context p

    q : PartState
    q = with_burst x.domain p

    c : Crossed
    c = after_crossing context x.ending (with_burst x.domain p)

    seen : with_dev (acts_on x.acts (view_of p).dev) (view_of p) ≡ view_of (with_burst x.domain p)
    seen = ap₂ (λ d t. record (view_of p) { dev = d; driven = t }) (sym t.reports.made) (sym t.driven)

    with_acts : ActsOk (view_of p) b n u.call x.acts → StepKeeps p b (burst_step context p x)
    with_acts a = joined (crossing_ok q a.after context n x.ending
        (u.whose q a.after refl refl t.driven (ap length f.defaults) (held_active p.mode (is_driven p) f.driving u.active) facts t.contexts a.serves)
        (sym (ap (λ w. (sees_crossing n c.end c.answer c.failure w).clause) watched) ∙ h))
      where
        facts : Facts (view_of (with_burst x.domain p)) a.after
        facts = subst (λ v. Facts v a.after) seen a.facts

        watched : sees_acts n x.acts (watch_of (view_of p) b) ≡ watch_of (view_of (with_burst x.domain p)) a.after
        watched = a.seen ∙ ap (λ v. watch_of v a.after) seen

        joined : CrossOk (view_of q) a.after n c.end c.answer c.failure (view_of c.state) × (length c.state.domain.contexts ≡ 17)
            → StepKeeps p b (burst_step context p x)
        joined (g, l) = record {
          after = g.after;
          facts = g.facts;
          contexts = l;
          seen = ap (sees_crossing n c.end c.answer c.failure) watched ∙ g.seen;
          tracked = a.tracked ∙ g.tracked;
          shown = λ more.
              ap (ran (ideal_of (view_of p) b)) (append_assoc (shown_acts n x.acts) (shown_option n c.answer (tracks_of g.after)) more)
              ∙ ap (λ ts. ran (ideal_of (view_of p) b) (shown_acts n x.acts ++ (shown_option n c.answer ts ++ more))) (sym g.tracked)
              ∙ a.shown (shown_option n c.answer (tracks_of a.after) ++ more)
              ∙ ap (λ v. ran (ideal_of v a.after) (shown_option n c.answer (tracks_of a.after) ++ more)) seen
              ∙ g.shown more;
          licensed = g.allowed;
          counted = λ m y. g.counted (count_acts n x.acts m) (subst (λ v. Balanced v a.after (count_acts n x.acts m)) seen (a.counted m y));
        }

pub burst_ok : (p : PartState) (b : Past) (context : ℕ) → Facts (view_of p) b → length p.domain.contexts ≡ 17 → can_burst p context ≡ true
    → (sees (watch_of (view_of p) b) (burst_stepped context p).event).clause ≡ None → StepKeeps p b (burst_stepped context p)
unfolding burst_stepped
burst_ok p b context f l c h = past_burst_ok p b context (domain_burst context (faults_of_burst (p.bursts + 1) p.spec.faults) p.domain) f
    (burst_reports context (faults_of_burst (p.bursts + 1) p.spec.faults) p.domain l) (begins p b context f c) h
