-- Loops over parts, monitors, events and acts take one more item.
use Rattle.std.proofs.Common.{◌≡◌, ℕ, zero, suc, ◌+◌, ◌<◌, ◌||◌, Bool, true, false, is_some, Option, Some, List, [], ◌∷◌, ◌++◌, filter}
use Rattle.std.proofs.Common.{append-nil, get_or, length, map, slice_get, take, refl, sym, ap, ap₂, ◌∙◌, subst, arith}
use Rattle.std.proofs.lemmas.Grind.{flat_map-append}
use Rattle.std.proofs.lemmas.List.{take_more}
use Rattle.std.proofs.lemmas.List.Elements.{filter-append}
use Rattle.contract_monitor.proofs.Numbers.{counts_reported}
use Rattle.contract_monitor.specs.Keeping.{losses_of}
use Rattle.contract_monitor.specs.Monitors.{JudgeAlike, Monitored, broken_clause}
use Rattle.explore_defs.specs.Outcomes.{clause_of, given_by, part_outcome, shown_losses}
use Rattle.explore_defs.specs.declared.outcome.PartOutcome.{PartOutcome}
use Rattle.explored_run.specs.Alike.{HasSeenRun, MonitorsAlike, event_acts, given_at, given_in, is_given, run_outcome}
use Rattle.explored_run.specs.Sums.{any_broken, any_given_up, lost_by}
use Rattle.machine_defs.proofs.BurstKeeps.{split}
use Rattle.nook_data.specs.Types.{Act, Class, Event, Losses}
use Rattle.nook_data.specs.declared.classes.Class.TheVariants as class
use Rattle.nook_data.specs.declared.steps.Event.TheVariants as event
use Rattle.part_defs.specs.Runs.{PartRun}
use Rattle.part_defs.specs.Stages.{is_given_up}
use Rattle.report_defs.specs.Campaigns.{lost_of}
use Rattle.report_defs.specs.ReportText.{journal_acts}
use Rattle.run_results.specs.declared.report.PartEnd.{PartEnd}
use Rattle.run_defs.specs.Simulation.{RunningPart}
use Rattle.run_ends.specs.Ends.{end_of, objects_in}
use Rattle.sim_run.specs.Branching.{run_of}
use Rattle.sim_run.specs.Watched.{HaveSeen}

took : {X : Type 0} (xs : List X) (i : ℕ) (x : X) → i < length xs → x ≡ get_or xs i x → take i xs ++ x ∷ [] ≡ take (i + 1) xs
took xs i x l is = ap (λ y. take i xs ++ y ∷ []) is ∙ sym (take_more xs i x l)

-- ---- monitors

alike_snoc : (ms ns : List Monitored) (m n : Monitored) → MonitorsAlike ms ns → JudgeAlike m n
    → MonitorsAlike (ms ++ m ∷ []) (ns ++ n ∷ [])
alike_snoc [] [] m n a j = (j, a)
alike_snoc [] (n' ∷ ns) m n a j = absurd a
alike_snoc (m' ∷ ms) [] m n a j = absurd a
alike_snoc (m' ∷ ms) (n' ∷ ns) m n a j = (a.0, alike_snoc ms ns m n a.1 j)

pub alike_more : (ms ns : List Monitored) (i : ℕ) (m n : Monitored) → i < length ms → length ms ≡ length ns → m ≡ get_or ms i m
    → n ≡ get_or ns i n → MonitorsAlike (take i ms) (take i ns) → JudgeAlike m n → MonitorsAlike (take (i + 1) ms) (take (i + 1) ns)
alike_more ms ns i m n l same p q a j =
    let k : i < length ns = omega arith in
    subst (MonitorsAlike (take (i + 1) ms)) (took ns i n k q)
    (subst (λ xs. MonitorsAlike xs (take i ns ++ n ∷ [])) (took ms i m l p) (alike_snoc (take i ms) (take i ns) m n a j))

lost_snoc : (ms : List Monitored) (m : Monitored) → lost_by (ms ++ m ∷ []) ≡ lost_by ms + lost_of (losses_of m.kept.counts)
lost_snoc [] m = plus (lost_of (losses_of m.kept.counts))
  where
    plus : (n : ℕ) → n + 0 ≡ 0 + n
    plus n = omega arith
lost_snoc (x ∷ ms) m =
    ap (λ (n : ℕ). lost_of (losses_of x.kept.counts) + n) (lost_snoc ms m)
    ∙ plus (lost_of (losses_of x.kept.counts)) (lost_by ms) (lost_of (losses_of m.kept.counts))
  where
    plus : (a b c : ℕ) → a + (b + c) ≡ a + b + c
    plus a b c = omega arith

pub lost_more : (ms : List Monitored) (i : ℕ) (m : Monitored) (count lost new : ℕ) (losses : Losses) → i < length ms
    → m ≡ get_or ms i m → count ≡ lost_by (take i ms) → losses ≡ losses_of m.kept.counts → lost ≡ lost_of losses → new ≡ count + lost
    → new ≡ lost_by (take (i + 1) ms)
lost_more ms i m count lost new losses l is c t o n =
    n ∙ ap₂ (λ (a b : ℕ). a + b) c (o ∙ ap lost_of t) ∙ sym (lost_snoc (take i ms) m) ∙ ap lost_by (took ms i m l is)

broken_snoc : (ms : List Monitored) (m : Monitored) → any_broken ms ≡ false → is_some m.broken ≡ false
    → any_broken (ms ++ m ∷ []) ≡ false
broken_snoc [] m a b = ap (λ (x : Bool). x || false) b
broken_snoc (x ∷ ms) m a b = split (is_some x.broken)
    (λ e. absurd (differ (sym (ap (λ (y : Bool). y || any_broken ms) e) ∙ a)))
    (λ e. ap (λ (y : Bool). y || any_broken (ms ++ m ∷ [])) e ∙ broken_snoc ms m (sym (ap (λ (y : Bool). y || any_broken ms) e) ∙ a) b)
  where
    differ : true ≡ false → ⊥
    differ h = cc

pub broken_more : (ms : List Monitored) (i : ℕ) (m : Monitored) → i < length ms → m ≡ get_or ms i m
    → any_broken (take i ms) ≡ false → is_some m.broken ≡ false → any_broken (take (i + 1) ms) ≡ false
broken_more ms i m l is a b = ap any_broken (sym (took ms i m l is)) ∙ broken_snoc (take i ms) m a b

or_true : (b : Bool) → (b || true) ≡ true
or_true true = refl
or_true false = refl

pub broken_at : (ms : List Monitored) (i : ℕ) (m : Monitored) → i < length ms → m ≡ get_or ms i m → is_some m.broken ≡ true
    → true ≡ any_broken ms
broken_at [] i m l is b = absurd (omega arith)
broken_at (x ∷ ms) zero m l is b = sym (ap (λ (y : Bool). y || any_broken ms) (ap (λ (y : Monitored). is_some y.broken) (sym is) ∙ b))
broken_at (x ∷ ms) (suc i) m l is b =
    sym (ap (λ (y : Bool). is_some x.broken || y) (sym (broken_at ms i m (omega arith) is b)) ∙ or_true (is_some x.broken))

-- ---- parts

pub record IsPartAt (seats : List RunningPart) (i : ℕ) (run : PartRun) : Type 0 where
  pub seat : RunningPart
  pub is : seat.run ≡ run
  pub at : slice_get seats i ≡ Some seat
  pub took : take i seats ++ seat ∷ [] ≡ take (i + 1) seats

inner : {X : Type 0} {x y : X} → Some x ≡ Some y → x ≡ y
inner h = cc

part_at : (seats : List RunningPart) (i : ℕ) (run : PartRun) → slice_get (map run_of seats) i ≡ Some run → IsPartAt seats i run
part_at [] i run h = absurd cc
part_at (seat ∷ seats) zero run h = record { seat = seat; is = inner h; at = refl; took = refl }
part_at (seat ∷ seats) (suc i) run h =
    let p : IsPartAt seats i run = part_at seats i run h in record {
      seat = p.seat;
      is = p.is;
      at = p.at;
      took = ap (λ xs. seat ∷ xs) p.took ∙ ap (λ n. take n (seat ∷ seats)) (plus i);
    }
  where
    plus : (n : ℕ) → suc (n + 1) ≡ suc n + 1
    plus n = omega arith

given_up_snoc : (seats : List RunningPart) (seat : RunningPart) → any_given_up seats ≡ false → is_given_up seat.run.state ≡ false
    → any_given_up (seats ++ seat ∷ []) ≡ false
given_up_snoc [] seat a b = ap (λ (x : Bool). x || false) b
given_up_snoc (x ∷ seats) seat a b = split (is_given_up x.run.state)
    (λ e. absurd (differ (sym (ap (λ (y : Bool). y || any_given_up seats) e) ∙ a)))
    (λ e. ap (λ (y : Bool). y || any_given_up (seats ++ seat ∷ [])) e
    ∙ given_up_snoc seats seat (sym (ap (λ (y : Bool). y || any_given_up seats) e) ∙ a) b)
  where
    differ : true ≡ false → ⊥
    differ h = cc

pub given_up_more : (seats : List RunningPart) (i : ℕ) (run : PartRun) → slice_get (map run_of seats) i ≡ Some run
    → any_given_up (take i seats) ≡ false → is_given_up run.state ≡ false → any_given_up (take (i + 1) seats) ≡ false
given_up_more seats i run h a b =
    let p : IsPartAt seats i run = part_at seats i run h in
    ap any_given_up (sym p.took)
    ∙ given_up_snoc (take i seats) p.seat a (ap (λ (r : PartRun). is_given_up r.state) p.is ∙ b)

pub given_up_at : (seats : List RunningPart) (i : ℕ) (run : PartRun) → slice_get (map run_of seats) i ≡ Some run
    → is_given_up run.state ≡ true → true ≡ any_given_up seats
given_up_at [] i run h b = absurd cc
given_up_at (x ∷ seats) zero run h b =
    sym (ap (λ (y : Bool). y || any_given_up seats) (ap (λ (r : PartRun). is_given_up r.state) (inner h) ∙ b))
given_up_at (x ∷ seats) (suc i) run h b =
    sym (ap (λ (y : Bool). is_given_up x.run.state || y) (sym (given_up_at seats i run h b)) ∙ or_true (is_given_up x.run.state))

map_snoc : {X Y : Type 0} (f : X → Y) (xs : List X) (x : X) → map f (xs ++ x ∷ []) ≡ map f xs ++ f x ∷ []
map_snoc f [] x = refl
map_snoc f (y ∷ xs) x = ap (λ ys. f y ∷ ys) (map_snoc f xs x)

pub given_alike_more : (ps qs : List RunningPart) (i : ℕ) (p q : PartRun) → slice_get (map run_of ps) i ≡ Some p
    → slice_get (map run_of qs) i ≡ Some q → map given_at (take i ps) ≡ map given_at (take i qs) → given_in p ≡ given_in q
    → map given_at (take (i + 1) ps) ≡ map given_at (take (i + 1) qs)
given_alike_more ps qs i p q h k same g =
    let a : IsPartAt ps i p = part_at ps i p h in
    let b : IsPartAt qs i q = part_at qs i q k in
    ap (map given_at) (sym a.took) ∙ map_snoc given_at (take i ps) a.seat
    ∙ ap₂ (λ xs (x : List Act). xs ++ x ∷ []) same (ap given_in a.is ∙ g ∙ ap given_in (sym b.is))
    ∙ sym (map_snoc given_at (take i qs) b.seat) ∙ ap (map given_at) b.took

pub outcomes_more : (seats : List RunningPart) (i : ℕ) (run : PartRun) (made new : List PartOutcome)
    → slice_get (map run_of seats) i ≡ Some run → made ≡ map part_outcome (take i seats) → new ≡ made ++ run_outcome run ∷ []
    → new ≡ map part_outcome (take (i + 1) seats)
outcomes_more seats i run made new h m n =
    let p : IsPartAt seats i run = part_at seats i run h in
    n ∙ ap₂ (λ xs (x : PartOutcome). xs ++ x ∷ []) m (ap run_outcome (sym p.is))
    ∙ sym (map_snoc part_outcome (take i seats) p.seat) ∙ ap (map part_outcome) p.took

-- the monitor of the part with a number has seen the part's journal
pub seen_run : (seats : List RunningPart) (ms : List Monitored) (i : ℕ) (run : PartRun) (m : Monitored) → HaveSeen seats ms
    → slice_get (map run_of seats) i ≡ Some run → m ≡ get_or ms i m → HasSeenRun run m
seen_run [] ms i run m s h is = absurd cc
seen_run (seat ∷ seats) [] i run m s h is = absurd s
seen_run (seat ∷ seats) (x ∷ ms) zero run m s h is =
    subst (HasSeenRun run) (sym is) (subst (λ (r : PartRun). HasSeenRun r x) (inner h) s.0)
seen_run (seat ∷ seats) (x ∷ ms) (suc i) run m s h is = seen_run seats ms i run m s.1 h is

pub seen_count : (seats : List RunningPart) (ms : List Monitored) → HaveSeen seats ms → length ms ≡ length seats
seen_count [] [] s = refl
seen_count [] (m ∷ ms) s = absurd s
seen_count (seat ∷ seats) [] s = absurd s
seen_count (seat ∷ seats) (m ∷ ms) s = ap suc (seen_count seats ms s.1)

-- ---- acts

none_given : (acts : List Act) → filter (is_given class.Block) acts ≡ []
none_given [] = refl
none_given (a ∷ acts) = none_given acts

given_filter : (c : Class) (acts : List Act) → given_by c acts ≡ filter (is_given c) acts
given_filter class.Block acts = sym (none_given acts)
given_filter class.Net acts = refl
given_filter class.Sound acts = refl

journal_one : (e : Event) → journal_acts (e ∷ []) ≡ event_acts e
journal_one (event.Burst context call burst count end acts a failure) = append-nil acts
journal_one (event.Invoke call t o a) = refl
journal_one (event.Enter call context b a) = refl
journal_one (event.Stage st answers released) = refl
journal_one (event.Arrive frame kept) = refl

pub given_step : (c : Class) (events : List Event) (i : ℕ) (e : Event) (given new : List Act) → i < length events
    → e ≡ get_or events i e → given ≡ given_by c (journal_acts (take i events)) → new ≡ given ++ filter (is_given c) (event_acts e)
    → new ≡ given_by c (journal_acts (take (i + 1) events))
given_step c events i e given new l is g n =
    n ∙ ap₂ (λ (xs ys : List Act). xs ++ ys) (g ∙ given_filter c (journal_acts (take i events)))
    (ap (filter (is_given c)) (sym (journal_one e)))
    ∙ sym (filter-append (is_given c) (journal_acts (take i events)) (journal_acts (e ∷ [])))
    ∙ ap (filter (is_given c)) (sym (flat_map-append _ (take i events) (e ∷ [])))
    ∙ sym (given_filter c (journal_acts (take i events ++ e ∷ [])))
    ∙ ap (λ xs. given_by c (journal_acts xs)) (took events i e l is)

-- ---- an outcome

same_outcome : {a a' b b' : List (List ℕ)} {c c' : List Act} {d d' : List ℕ} {e e' : Losses} {f f' : ℕ} {g g' : Option ℕ}
    → a ≡ a' → b ≡ b' → c ≡ c' → d ≡ d' → e ≡ e' → f ≡ f' → g ≡ g'
    → ◌≡◌ {A = PartOutcome} (record { objects = a; medium = b; given = c; config = d; losses = e; failures = f; broken = g })
    (record { objects = a'; medium = b'; given = c'; config = d'; losses = e'; failures = f'; broken = g' })
same_outcome p q r t u v x = cc

pub outcome_is : (run : PartRun) (m : Monitored) (end : PartEnd) (given : List Act) (n : Losses) (broken : Option ℕ)
    → HasSeenRun run m → end ≡ end_of run.state → given ≡ given_in run
    → n ≡ shown_losses run.state.spec.class (losses_of m.kept.counts) → broken ≡ broken_clause m
    → ◌≡◌ {A = PartOutcome} (record {
      objects = end.objects;
      medium = end.medium;
      given = given;
      config = end.config;
      losses = n;
      failures = end.failures;
      broken = broken;
    }) (run_outcome run)
unfolding end_of objects_in
outcome_is run m end given n broken s e g l b =
    same_outcome (ap (λ (x : PartEnd). x.objects) e) (ap (λ (x : PartEnd). x.medium) e) g (ap (λ (x : PartEnd). x.config) e)
    (l ∙ ap (λ c. shown_losses run.state.spec.class (losses_of c)) s.counts
    ∙ ap (shown_losses run.state.spec.class) (counts_reported run.journal))
    (ap (λ (x : PartEnd). x.failures) e) (b ∙ ap clause_of s.broken)
