-- What is kept after the acts of a burst, and after an event.
use Rattle.std.proofs.Common.{◌≡◌, ◌<◌, ◌+◌, ◌==◌, ℕ, suc, Bool, true, false, not, if◌then◌else◌, List, [], ◌∷◌, ◌++◌, map, take, length, get_or, Option, refl, sym, ap, ap₂, ◌∙◌, arith, add-zero}
use Rattle.std.specs.List.{count_by, filter, fold, list_any}
use Rattle.std.proofs.lemmas.List.{map-append, take_more}
use Rattle.std.proofs.lemmas.List.Sums.{fold-append, sum_by-cons}
use Rattle.nook_data.specs.declared.machine.Act.{Act}
use Rattle.nook_data.specs.declared.machine.Act.TheVariants as act
use Rattle.nook_data.specs.declared.calls.Answer.{Answer}
use Rattle.nook_data.specs.declared.steps.End.{End}
use Rattle.nook_data.specs.declared.steps.FailCause.{FailCause}
use Rattle.nook_data.specs.declared.clause.Clause.{Clause}
use Rattle.promise_defs.specs.Contract.{Known, OpenCall, acts, after_deed, after_failure, call_of, crossing_deeds}
use Rattle.promise_defs.specs.Contract.{deeds_of, is_answered_in}
use Rattle.promise_defs.proofs.PromiseChanges.{after_deeds, with_acts}
use Rattle.promise_defs.specs.Losses.{CallEffects, handed_result, is_played, is_sent}
use Rattle.contract_monitor.specs.Calls.{change_effects, effects_played, effects_sent}
use Rattle.contract_monitor.specs.Judging.{act_broken, first_broken, smaller}
use Rattle.contract_monitor.specs.Keeping.{MonitorState, count_act, count_handed, kept_act, kept_answered, kept_burst, kept_crossing, kept_deed, effects_act}
use Rattle.contract_monitor.proofs.Changes.{filter_all, filter_alike, or_false, unchanged}
use Rattle.contract_monitor.proofs.Judged.{act_least, broken_more, broken_one}

-- ---- acts in order

kept_parts : (call : ℕ) (k : MonitorState) (done : List Act) → fold (kept_act call) k done ≡ record {
  known = after_deeds call k.known (map acts done);
  call_effects = fold (effects_act call) k.call_effects done;
  counts = fold count_act k.counts done;
}
kept_parts call k [] = refl
kept_parts call k (a ∷ done) = kept_parts call (kept_act call k a) done

-- acts have the same effect on what is kept as on the whole
pub acts_kept : (call : ℕ) (k : Known) (done : List Act) → fold (kept_deed call) k (map acts done) ≡ after_deeds call k (map acts done)
acts_kept call k [] = refl
acts_kept call k (a ∷ done) = acts_kept call (after_deed call k (acts a)) done

pub known_acts : (call : ℕ) (k : MonitorState) (done : List Act) → (fold (kept_act call) k done).known ≡ after_deeds call k.known (map acts done)
known_acts call k done = ap (λ kept. kept.known) (kept_parts call k done)

-- one more act
pub kept_more : (call : ℕ) (k now next : MonitorState) (done : List Act) (i : ℕ) (a : Act) → i < length done → a ≡ get_or done i a
    → now ≡ fold (kept_act call) k (take i done) → next ≡ kept_act call now a → next ≡ fold (kept_act call) k (take (i + 1) done)
kept_more call k now next done i a l is e step =
    step ∙ (ap (λ kept. kept_act call kept a) e
    ∙ (sym (fold-append (kept_act call) k (take i done) (a ∷ []))
    ∙ ap (fold (kept_act call) k) (ap (λ x. take i done ++ x ∷ []) is ∙ sym (take_more done i a l))))

pub broken_next : (call : ℕ) (k now : MonitorState) (done : List Act) (i : ℕ) (a : Act) (broken clause next : Option Clause) → i < length done
    → a ≡ get_or done i a → now ≡ fold (kept_act call) k (take i done) → broken ≡ first_broken call k.known (map acts (take i done))
    → clause ≡ act_broken now.known (call_of call now.known.calls) a → next ≡ smaller broken clause
    → next ≡ first_broken call k.known (map acts (take (i + 1) done))
broken_next call k now done i a broken clause next l is e b c n =
    let reached : Known = after_deeds call k.known (map acts (take i done)) in
    let known : now.known ≡ reached = ap (λ kept. kept.known) e ∙ known_acts call k (take i done) in
    let judged : clause ≡ first_broken call reached (acts a ∷ []) =
    c ∙ (ap (λ w. act_broken w (call_of call w.calls) a) known
    ∙ (sym (act_least reached (call_of call reached.calls) a) ∙ sym (broken_one call reached (acts a)))) in
    let more : map acts (take (i + 1) done) ≡ map acts (take i done) ++ acts a ∷ [] =
    ap (map acts) (take_more done i a l ∙ ap (λ x. take i done ++ x ∷ []) (sym is)) ∙ map-append acts (take i done) (a ∷ []) in
    n ∙ (ap₂ smaller b judged
    ∙ (sym (broken_more call k.known (map acts (take i done)) (acts a ∷ [])) ∙ ap (first_broken call k.known) (sym more)))

-- ---- tallies

abbrev act_effects : Act → CallEffects → CallEffects
act_effects (act.Sent frame) t = effects_sent t
act_effects (act.Played word rate volume) t = effects_played t
act_effects a t = t

effects_act_is : (call : ℕ) (ts : List CallEffects) (a : Act) → effects_act call ts a ≡ change_effects call (act_effects a) ts
effects_act_is call ts (act.Sent frame) = refl
effects_act_is call ts (act.Played word rate volume) = refl
effects_act_is call ts (act.Load block) = sym (unchanged (λ (t : CallEffects). t.number == call) ts)
effects_act_is call ts (act.Failed block store) = sym (unchanged (λ (t : CallEffects). t.number == call) ts)
effects_act_is call ts (act.Store block words) = sym (unchanged (λ (t : CallEffects). t.number == call) ts)
effects_act_is call ts (act.Popped frame) = sym (unchanged (λ (t : CallEffects). t.number == call) ts)
effects_act_is call ts (act.Register key value) = sym (unchanged (λ (t : CallEffects). t.number == call) ts)

number_kept : (a : Act) (t : CallEffects) → (act_effects a t).number ≡ t.number
number_kept (act.Sent frame) t = refl
number_kept (act.Played word rate volume) t = refl
number_kept (act.Load block) t = refl
number_kept (act.Failed block store) t = refl
number_kept (act.Store block words) t = refl
number_kept (act.Popped frame) t = refl
number_kept (act.Register key value) t = refl

with_none : (t : CallEffects) → with_acts [] t ≡ t
with_none t = ap₂ (λ s p. record t { sent = s; played = p }) (add-zero t.sent) (add-zero t.played)

next_plus : (n m : ℕ) → suc n + m ≡ n + (1 + m)
next_plus n m = omega arith

same_plus : (n m k : ℕ) → k ≡ 0 + m → n + m ≡ n + k
same_plus n m k e = omega (arith, e)

zero_sent : (a : Act) (more : List Act) (n : ℕ) → is_sent a ≡ false → n + count_by is_sent more ≡ n + count_by is_sent (a ∷ more)
zero_sent a more n e =
    same_plus n (count_by is_sent more) (count_by is_sent (a ∷ more))
    (sum_by-cons (λ x. if is_sent x then 1 else 0) a more ∙ ap (λ b. (if b then 1 else 0) + count_by is_sent more) e)

zero_played : (a : Act) (more : List Act) (n : ℕ) → is_played a ≡ false → n + count_by is_played more ≡ n + count_by is_played (a ∷ more)
zero_played a more n e =
    same_plus n (count_by is_played more) (count_by is_played (a ∷ more))
    (sum_by-cons (λ x. if is_played x then 1 else 0) a more ∙ ap (λ b. (if b then 1 else 0) + count_by is_played more) e)

one_sent : (a : Act) (more : List Act) (n : ℕ) → is_sent a ≡ true → suc n + count_by is_sent more ≡ n + count_by is_sent (a ∷ more)
one_sent a more n e =
    next_plus n (count_by is_sent more)
    ∙ ap (λ m. n + m) (sym (sum_by-cons (λ x. if is_sent x then 1 else 0) a more ∙ ap (λ b. (if b then 1 else 0) + count_by is_sent more) e))

one_played : (a : Act) (more : List Act) (n : ℕ) → is_played a ≡ true → suc n + count_by is_played more ≡ n + count_by is_played (a ∷ more)
one_played a more n e =
    next_plus n (count_by is_played more)
    ∙ ap (λ m. n + m) (sym (sum_by-cons (λ x. if is_played x then 1 else 0) a more ∙ ap (λ b. (if b then 1 else 0) + count_by is_played more) e))

counts_alike : (t : CallEffects) (s s' p p' : ℕ) → s ≡ s' → p ≡ p' → record t { sent = s; played = p } ≡ record t { sent = s'; played = p' }
counts_alike t s s' p p' e f = ap₂ (λ a b. record t { sent = a; played = b }) e f

-- an act and the later ones
with_first : (a : Act) (more : List Act) (t : CallEffects) → with_acts more (act_effects a t) ≡ with_acts (a ∷ more) t
with_first (act.Sent frame) more t =
    counts_alike t _ _ _ _ (one_sent (act.Sent frame) more t.sent refl) (zero_played (act.Sent frame) more t.played refl)
with_first (act.Played word rate volume) more t =
    counts_alike t _ _ _ _ (zero_sent (act.Played word rate volume) more t.sent refl) (one_played (act.Played word rate volume) more t.played refl)
with_first (act.Load block) more t =
    counts_alike t _ _ _ _ (zero_sent (act.Load block) more t.sent refl) (zero_played (act.Load block) more t.played refl)
with_first (act.Failed block store) more t =
    counts_alike t _ _ _ _ (zero_sent (act.Failed block store) more t.sent refl) (zero_played (act.Failed block store) more t.played refl)
with_first (act.Store block words) more t =
    counts_alike t _ _ _ _ (zero_sent (act.Store block words) more t.sent refl) (zero_played (act.Store block words) more t.played refl)
with_first (act.Popped frame) more t =
    counts_alike t _ _ _ _ (zero_sent (act.Popped frame) more t.sent refl) (zero_played (act.Popped frame) more t.played refl)
with_first (act.Register key value) more t =
    counts_alike t _ _ _ _ (zero_sent (act.Register key value) more t.sent refl) (zero_played (act.Register key value) more t.played refl)

chosen : (call : ℕ) (a : Act) (more : List Act) (t : CallEffects) (b : Bool) → (t.number == call) ≡ b
    → (if (if b then act_effects a t else t).number == call then with_acts more (if b then act_effects a t else t) else (if b then act_effects a t else t))
    ≡ (if b then with_acts (a ∷ more) t else t)
chosen call a more t true e =
    ap (λ n. if n == call then with_acts more (act_effects a t) else act_effects a t) (number_kept a t)
    ∙ (ap (λ b. if b then with_acts more (act_effects a t) else act_effects a t) e ∙ with_first a more t)
chosen call a more t false e = ap (λ b. if b then with_acts more t else t) e

map_twice : {A : Type 0} (f g h : A → A) → ((x : A) → f (g x) ≡ h x) → (xs : List A) → map f (map g xs) ≡ map h xs
map_twice f g h same [] = refl
map_twice f g h same (x ∷ xs) = ap₂ (λ y more. y ∷ more) (same x) (map_twice f g h same xs)

chosen_map : (call : ℕ) (a : Act) (more : List Act) (t : CallEffects) →
    (if (if t.number == call then act_effects a t else t).number == call then with_acts more (if t.number == call then act_effects a t else t)
    else (if t.number == call then act_effects a t else t)) ≡ (if t.number == call then with_acts (a ∷ more) t else t)
chosen_map call a more t = chosen call a more t (t.number == call) refl

if_none : (b : Bool) (t : CallEffects) → (if b then with_acts [] t else t) ≡ t
if_none true t = with_none t
if_none false t = refl

map_none : (call : ℕ) (ts : List CallEffects) → ts ≡ map (λ t. if t.number == call then with_acts [] t else t) ts
map_none call [] = refl
map_none call (t ∷ ts) = ap₂ (λ y more. y ∷ more) (sym (if_none (t.number == call) t)) (map_none call ts)

call_effects_acts : (call : ℕ) (ts : List CallEffects) (done : List Act) →
    fold (effects_act call) ts done ≡ map (λ t. if t.number == call then with_acts done t else t) ts
call_effects_acts call ts [] = map_none call ts
call_effects_acts call ts (a ∷ done) =
    call_effects_acts call (effects_act call ts a) done
    ∙ (ap (map (λ (t : CallEffects). if t.number == call then with_acts done t else t)) (effects_act_is call ts a)
    ∙ map_twice (λ (t : CallEffects). if t.number == call then with_acts done t else t) (λ (t : CallEffects). if t.number == call then act_effects a t else t)
    (λ (t : CallEffects). if t.number == call then with_acts (a ∷ done) t else t) (chosen_map call a done) ts)

-- ---- a burst

-- the state after a burst, except for its answer
burst_during : (call : ℕ) (done : List Act) (e : End) (a : Option Answer) (failure : Option FailCause) (k : MonitorState) →
    kept_burst call done e a failure k ≡ record {
      known = after_failure failure (fold (kept_deed call) k.known (deeds_of done e a failure));
      call_effects = map (λ t. if t.number == call then with_acts done t else t) k.call_effects;
      counts = count_handed (handed_result e) (fold count_act k.counts done);
    }
burst_during call done e a failure k =
    ap (kept_crossing call e a failure) (kept_parts call k done)
    ∙ ap₂ (λ w ts. record {
      known = after_failure failure w;
      call_effects = ts;
      counts = count_handed (handed_result e) (fold count_act k.counts done);
    })
    (ap (λ w. fold (kept_deed call) w (crossing_deeds e a failure)) (sym (acts_kept call k.known done))
    ∙ sym (fold-append (kept_deed call) k.known (map acts done) (crossing_deeds e a failure))) (call_effects_acts call k.call_effects done)

pub burst_after : (call : ℕ) (done : List Act) (e : End) (a : Option Answer) (failure : Option FailCause)
    (answers : List (ℕ × Answer)) (k now next : MonitorState) → now ≡ kept_burst call done e a failure k → next ≡ kept_answered answers now
    → next ≡ kept_answered answers (record {
      known = after_failure failure (fold (kept_deed call) k.known (deeds_of done e a failure));
      call_effects = map (λ t. if t.number == call then with_acts done t else t) k.call_effects;
      counts = count_handed (handed_result e) (fold count_act k.counts done);
    })
burst_after call done e a failure answers k now next is closes =
    closes ∙ ap (kept_answered answers) (is ∙ burst_during call done e a failure k)

-- the smallest clause that the acts and the crossing break
pub burst_broken : (call : ℕ) (done : List Act) (e : End) (a : Option Answer) (failure : Option FailCause) (k now : MonitorState)
    (first second : Option Clause) → now ≡ fold (kept_act call) k done → first ≡ first_broken call k.known (map acts done)
    → second ≡ first_broken call now.known (crossing_deeds e a failure)
    → smaller first second ≡ first_broken call k.known (deeds_of done e a failure)
burst_broken call done e a failure k now first second is f s =
    ap₂ smaller f (s ∙ ap (λ w. first_broken call w (crossing_deeds e a failure)) (ap (λ kept. kept.known) is ∙ known_acts call k done))
    ∙ sym (broken_more call k.known (map acts done) (crossing_deeds e a failure))

-- ---- answers

pub none_answered : (k : MonitorState) → k ≡ kept_answered [] k
none_answered k =
    sym (ap₂ (λ calls ts. record { known = record k.known { calls = calls }; call_effects = ts; counts = k.counts })
    (filter_all k.known.calls) (filter_all k.call_effects))

pub one_opened : (number : ℕ) (a : Answer) (calls : List OpenCall) →
    filter (λ (c : OpenCall). not (number == c.number)) calls ≡ filter (λ (c : OpenCall). not (is_answered_in ((number, a) ∷ []) c)) calls
one_opened number a calls = filter_alike _ _ (λ (c : OpenCall). ap not (sym (or_false (number == c.number)))) calls

pub one_tallied : (number : ℕ) (a : Answer) (ts : List CallEffects) →
    filter (λ (t : CallEffects). not (number == t.number)) ts
    ≡ filter (λ (t : CallEffects). not (list_any (λ (x : ℕ × Answer). x.0 == t.number) ((number, a) ∷ []))) ts
one_tallied number a ts = filter_alike _ _ (λ (t : CallEffects). ap not (sym (or_false (number == t.number)))) ts
