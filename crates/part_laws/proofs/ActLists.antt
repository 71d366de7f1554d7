use Rattle.std.proofs.Common.{fold, ◌≡◌, ℕ, None, List, [], ◌∷◌, ◌++◌, refl, ap, subst, ◌∙◌}
use Rattle.nook_data.specs.declared.machine.Act.{Act}
use Rattle.nook_data.specs.declared.machine.Act.TheVariants as act
use Rattle.nook_data.specs.declared.calls.CallEntry.{CallEntry}
use Rattle.part_laws.specs.Watch.{sees_act, sees_acts}
use Rattle.promise_defs.specs.Ideal.{ran}
use Rattle.promise_defs.specs.Trace.{Visible, shown_acts, tracks_after_act}
use Rattle.part_laws.specs.Counts.{Counts, count_act, count_acts}
use Rattle.part_laws.specs.Balance.{Balanced}
use Rattle.part_laws.specs.ActsOn.{act_on, acts_on, Fits, ActsFit}
use Rattle.part_laws.specs.Facts.{Facts}
use Rattle.part_laws.specs.Views.{View, Past, watch_of, ideal_of, tracks_of}
use Rattle.part_laws.proofs.Acting.{with_dev, Active}
use Rattle.part_laws.proofs.Acts.{Serves, act_shown, ActOk, failed_ok, sent_ok, popped_ok, stored_ok, register_ok, played_ok}
use Rattle.part_laws.proofs.Watching.{acts_clause}

-- All acts of a burst in order.

act_ok : (v : View) (b : Past) (n : ℕ) (e : CallEntry) (a : Act) → Facts v b → Active v → Serves n e b
    → Fits a v.dev → (sees_act n a (watch_of v b)).clause ≡ None → ActOk v b n e a
act_ok v b n e (act.Load block) f u s fit h =
    record { after = b; facts = f; serves = s; seen = refl; tracked = refl; shown = λ more. refl; counted = λ m x. x }
act_ok v b n e (act.Store block words) f u s fit h = stored_ok v b n e block words f s fit h
act_ok v b n e (act.Failed block store) f u s fit h = failed_ok v b n e block store f s
act_ok v b n e (act.Sent frame) f u s fit h = sent_ok v b n e frame f s h
act_ok v b n e (act.Popped frame) f u s fit h = popped_ok v b n e frame f u s fit
act_ok v b n e (act.Played word rate volume) f u s fit h = played_ok v b n e word rate volume f u s fit h
act_ok v b n e (act.Register key value) f u s fit h = register_ok v b n e key value f u s h

act_and_more : (n : ℕ) (a : Act) (acts : List Act) (more : List Visible) → shown_acts n (a ∷ acts) ++ more ≡ act_shown n a (shown_acts n acts ++ more)
act_and_more n (act.Load block) acts more = refl
act_and_more n (act.Store block words) acts more = refl
act_and_more n (act.Failed block store) acts more = refl
act_and_more n (act.Sent frame) acts more = refl
act_and_more n (act.Popped frame) acts more = refl
act_and_more n (act.Played word rate volume) acts more = refl
act_and_more n (act.Register key value) acts more = refl

pub record ActsOk (v : View) (b : Past) (n : ℕ) (e : CallEntry) (acts : List Act) : Type 0 where
  pub after : Past
  pub facts : Facts (with_dev (acts_on acts v.dev) v) after
  pub serves : Serves n e after
  pub seen : sees_acts n acts (watch_of v b) ≡ watch_of (with_dev (acts_on acts v.dev) v) after
  pub tracked : fold tracks_after_act (tracks_of b) acts ≡ tracks_of after
  pub shown : (more : List Visible)
      → ran (ideal_of v b) (shown_acts n acts ++ more) ≡ ran (ideal_of (with_dev (acts_on acts v.dev) v) after) more
  pub counted : (m : Counts) → Balanced v b m → Balanced (with_dev (acts_on acts v.dev) v) after (count_acts n acts m)

pub acts_ok : (acts : List Act) (v : View) (b : Past) (n : ℕ) (e : CallEntry) → Facts v b → Active v → Serves n e b
    → ActsFit acts v.dev → (sees_acts n acts (watch_of v b)).clause ≡ None → ActsOk v b n e acts
acts_ok [] v b n e f u s fit h =
    record { after = b; facts = f; serves = s; seen = refl; tracked = refl; shown = λ more. refl; counted = λ m x. x }
acts_ok (a ∷ acts) v b n e f u s fit h = with_first
    (act_ok v b n e a f u s fit.0 (acts_clause n acts (sees_act n a (watch_of v b)) h))
    (acts_ok acts)
  where
    with_first : ActOk v b n e a
        → ((v : View) (b : Past) (n : ℕ) (e : CallEntry) → Facts v b → Active v → Serves n e b
        → ActsFit acts v.dev → (sees_acts n acts (watch_of v b)).clause ≡ None → ActsOk v b n e acts)
        → ActsOk v b n e (a ∷ acts)
    with_first o go = joined (go (with_dev (act_on a v.dev) v) o.after n e o.facts u o.serves fit.1
        (subst (λ w. (sees_acts n acts w).clause ≡ None) o.seen h))
      where
        joined : ActsOk (with_dev (act_on a v.dev) v) o.after n e acts → ActsOk v b n e (a ∷ acts)
        joined r = record {
          after = r.after;
          facts = r.facts;
          serves = r.serves;
          seen = ap (sees_acts n acts) o.seen ∙ r.seen;
          tracked = ap (λ ts. fold tracks_after_act ts acts) o.tracked ∙ r.tracked;
          shown = λ more. ap (ran (ideal_of v b)) (act_and_more n a acts more) ∙ o.shown (shown_acts n acts ++ more) ∙ r.shown more;
          counted = λ m x. r.counted (count_act n a m) (o.counted m x);
        }
