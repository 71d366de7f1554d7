-- The counts after one more event.
use Rattle.std.proofs.Common.{◌≡◌, ◌+◌, ◌==◌, ℕ, suc, Bool, true, false, not, cond, Option, Some, None, is_some, List, [], ◌∷◌, ◌++◌, refl, sym, ap, ap₂, ◌∙◌, arith, add-zero}
use Rattle.std.specs.List.{count_by, fold, sum_by}
use Rattle.std.proofs.lemmas.Grind.{flat_map-append}
use Rattle.std.proofs.lemmas.List.{append-nil}
use Rattle.std.proofs.lemmas.List.Sums.{fold-append, sum_by-append, sum_by-cons}
use Rattle.nook_data.specs.declared.machine.Act.{Act}
use Rattle.nook_data.specs.declared.machine.Act.TheVariants as act
use Rattle.nook_data.specs.declared.calls.Answer.{Answer}
use Rattle.nook_data.specs.declared.steps.Event.{Event}
use Rattle.nook_data.specs.declared.steps.Event.TheVariants as event
use Rattle.nook_data.specs.declared.steps.Stage.TheVariants as stage
use Rattle.nook_data.specs.Answers.{answers_of}
use Rattle.promise_defs.specs.Losses.{FrameLocations, CallEffects, all_answers, handed_result, is_arrival, is_busy}
use Rattle.promise_defs.specs.Losses.{is_lost_arrival, is_popped, is_received, is_refused, is_taken, lost_by, lost_from}
use Rattle.promise_defs.specs.Losses.{losses, no_locations, one_if, locations_after, call_effects_after, call_effects_during}
use Rattle.contract_monitor.specs.Keeping.{LossCounts, count_act, count_answer, count_handed, counts_after, counts_during, samples_lost, sends_lost, losses_of}
use Rattle.contract_monitor.specs.Monitors.{counts_of}

-- ---- answers

plus_more : (n a b m : ℕ) → m ≡ a + b → (n + a) + b ≡ n + m
plus_more n a b m e = omega (arith, e)

abbrev with_answers : LossCounts → ℕ → ℕ → ℕ → ℕ → LossCounts
with_answers n sends samples busy received = record n { sends = sends; samples = samples; busy = busy; received = received }

alike : (n : LossCounts) (a a' b b' c c' d d' : ℕ) → a ≡ a' → b ≡ b' → c ≡ c' → d ≡ d' → with_answers n a b c d ≡ with_answers n a' b' c' d'
alike n a a' b b' c c' d d' e f g h =
    ap₂ (λ x y. with_answers n x y c d) e f ∙ ap₂ (λ x y. with_answers n a' b' x y) g h

one_is : (b : Bool) → one_if b ≡ cond b 1 0
one_is true = refl
one_is false = refl

next_sum : (f : ℕ × Answer → ℕ) (n : ℕ) (a : ℕ × Answer) (answers : List (ℕ × Answer)) →
    (n + f a) + sum_by f answers ≡ n + sum_by f (a ∷ answers)
next_sum f n a answers = plus_more n (f a) (sum_by f answers) (sum_by f (a ∷ answers)) (sum_by-cons f a answers)

next_count : (p : ℕ × Answer → Bool) (n : ℕ) (a : ℕ × Answer) (answers : List (ℕ × Answer)) →
    (n + one_if (p a)) + count_by p answers ≡ n + count_by p (a ∷ answers)
next_count p n a answers =
    ap (λ m. (n + m) + count_by p answers) (one_is (p a)) ∙ next_sum (λ x. cond (p x) 1 0) n a answers

answered : (ts : List CallEffects) (n : LossCounts) (answers : List (ℕ × Answer)) → fold (count_answer ts) n answers
    ≡ with_answers n (n.sends + sum_by (lost_by sends_lost ts) answers) (n.samples + sum_by (lost_by samples_lost ts) answers)
    (n.busy + count_by is_busy answers) (n.received + count_by is_received answers)
answered ts n [] =
    alike n _ _ _ _ _ _ _ _ (sym (add-zero n.sends)) (sym (add-zero n.samples)) (sym (add-zero n.busy)) (sym (add-zero n.received))
answered ts n (a ∷ answers) =
    answered ts (count_answer ts n a) answers
    ∙ alike n _ _ _ _ _ _ _ _ (next_sum (lost_by sends_lost ts) n.sends a answers) (next_sum (lost_by samples_lost ts) n.samples a answers)
    (next_count is_busy n.busy a answers) (next_count is_received n.received a answers)

-- ---- what an event counts in addition to its answers

abbrev with_event : LossCounts → ℕ → ℕ → ℕ → ℕ → FrameLocations → LossCounts
with_event n arrived taken refused lost locations =
    record n { arrived = arrived; taken = taken; refused = refused; lost = lost; locations = locations }

like_event : (n : LossCounts) (a a' b b' c c' d d' : ℕ) (p p' : FrameLocations) → a ≡ a' → b ≡ b' → c ≡ c' → d ≡ d' → p ≡ p'
    → with_event n a b c d p ≡ with_event n a' b' c' d' p'
like_event n a a' b b' c c' d d' p p' e f g h i =
    ap₂ (λ x y. with_event n x y c d p) e f ∙ (ap₂ (λ x y. with_event n a' b' x y p) g h ∙ ap (with_event n a' b' c' d') i)

plus_none : (n : ℕ) → n ≡ n + 0
plus_none n = sym (add-zero n)

suc_is : (n : ℕ) → suc n ≡ n + 1
suc_is n = omega arith

abbrev with_popped : FrameLocations → ℕ → ℕ → FrameLocations
with_popped p popped since = record p { popped = popped; popped_since = since }

suc_more : (n m k : ℕ) → k ≡ 1 + m → suc n + m ≡ n + k
suc_more n m k e = omega (arith, e)

same_more : (n m k : ℕ) → k ≡ 0 + m → n + m ≡ n + k
same_more n m k e = omega (arith, e)

popped_more : (p : FrameLocations) (a : Act) (done : List Act) → is_popped a ≡ true →
    with_popped p (suc p.popped + count_by is_popped done) (suc p.popped_since + count_by is_popped done)
    ≡ with_popped p (p.popped + count_by is_popped (a ∷ done)) (p.popped_since + count_by is_popped (a ∷ done))
popped_more p a done h =
    let e = sum_by-cons (λ x. cond (is_popped x) 1 0) a done ∙ ap (λ b. cond b 1 0 + count_by is_popped done) h in
    ap₂ (with_popped p) (suc_more p.popped _ _ e) (suc_more p.popped_since _ _ e)

popped_same : (p : FrameLocations) (a : Act) (done : List Act) → is_popped a ≡ false →
    with_popped p (p.popped + count_by is_popped done) (p.popped_since + count_by is_popped done)
    ≡ with_popped p (p.popped + count_by is_popped (a ∷ done)) (p.popped_since + count_by is_popped (a ∷ done))
popped_same p a done h =
    let e = sum_by-cons (λ x. cond (is_popped x) 1 0) a done ∙ ap (λ b. cond b 1 0 + count_by is_popped done) h in
    ap₂ (with_popped p) (same_more p.popped _ _ e) (same_more p.popped_since _ _ e)

abbrev at_locations : LossCounts → FrameLocations → LossCounts
at_locations n p = record n { locations = p }

acts_counted : (n : LossCounts) (done : List Act) → fold count_act n done
    ≡ at_locations n (with_popped n.locations (n.locations.popped + count_by is_popped done) (n.locations.popped_since + count_by is_popped done))
acts_counted n [] = ap₂ (λ a b. at_locations n (with_popped n.locations a b)) (plus_none n.locations.popped) (plus_none n.locations.popped_since)
acts_counted n (act.Popped frame ∷ done) =
    acts_counted (count_act n (act.Popped frame)) done ∙ ap (at_locations n) (popped_more n.locations (act.Popped frame) done refl)
acts_counted n (act.Load block ∷ done) = acts_counted n done ∙ ap (at_locations n) (popped_same n.locations (act.Load block) done refl)
acts_counted n (act.Failed block store ∷ done) =
    acts_counted n done ∙ ap (at_locations n) (popped_same n.locations (act.Failed block store) done refl)
acts_counted n (act.Store block words ∷ done) =
    acts_counted n done ∙ ap (at_locations n) (popped_same n.locations (act.Store block words) done refl)
acts_counted n (act.Sent frame ∷ done) = acts_counted n done ∙ ap (at_locations n) (popped_same n.locations (act.Sent frame) done refl)
acts_counted n (act.Played word rate volume ∷ done) =
    acts_counted n done ∙ ap (at_locations n) (popped_same n.locations (act.Played word rate volume) done refl)
acts_counted n (act.Register key value ∷ done) =
    acts_counted n done ∙ ap (at_locations n) (popped_same n.locations (act.Register key value) done refl)

-- the counts after an event, as the losses count it
abbrev counted : LossCounts → Event → LossCounts
counted n e = with_event n (n.arrived + cond (is_arrival e) 1 0) (n.taken + cond (is_taken e) 1 0) (n.refused + cond (is_refused e) 1 0)
    (n.lost + cond (is_lost_arrival e) 1 0) (locations_after n.locations e)

idle : (n : LossCounts) (p : FrameLocations) → at_locations n p ≡ with_event n (n.arrived + 0) (n.taken + 0) (n.refused + 0) (n.lost + 0) p
idle n p = like_event n _ _ _ _ _ _ _ _ p p (plus_none n.arrived) (plus_none n.taken) (plus_none n.refused) (plus_none n.lost) refl

abbrev positions_handed : FrameLocations → ℕ → ℕ → ℕ → FrameLocations
positions_handed p popped since handed = record p { popped = popped; popped_since = since; handed_since = handed }

given : (result : Option ℕ) (n : LossCounts) (popped since : ℕ) →
    count_handed result (at_locations n (with_popped n.locations popped since))
    ≡ with_event n (n.arrived + 0) (n.taken + cond (elim result [ Some r ↦ not (r == 0) | None ↦ false ]) 1 0)
    (n.refused + cond (elim result [ Some r ↦ r == 0 | None ↦ false ]) 1 0) (n.lost + 0)
    (positions_handed n.locations popped since (n.locations.handed_since + one_if (is_some result)))
given None n popped since =
    like_event n _ _ _ _ _ _ _ _ _ _ (plus_none n.arrived) (plus_none n.taken) (plus_none n.refused) (plus_none n.lost)
    (ap (positions_handed n.locations popped since) (plus_none n.locations.handed_since))
given (Some r) n popped since =
    like_event n _ _ _ _ _ _ _ _ _ _ (plus_none n.arrived) (ap (λ m. n.taken + m) (one_is (not (r == 0))))
    (ap (λ m. n.refused + m) (one_is (r == 0))) (plus_none n.lost)
    (ap (positions_handed n.locations popped since) (suc_is n.locations.handed_since))

during_counted : (n : LossCounts) (e : Event) → counts_during n e ≡ counted n e
during_counted n (event.Invoke call thread o a) = idle n n.locations
during_counted n (event.Enter call thread attempt a) = idle n n.locations
during_counted n (event.Burst context call burst count e done a failure) =
    ap (count_handed (handed_result e)) (acts_counted n done) ∙ given (handed_result e) n _ _
during_counted n (event.Stage stage.Stop answers released) = idle n n.locations
during_counted n (event.Stage stage.Collect answers released) = idle n n.locations
during_counted n (event.Stage stage.Reset answers released) = idle n (locations_after n.locations (event.Stage stage.Reset answers released))
during_counted n (event.Stage stage.Load answers released) = idle n n.locations
during_counted n (event.Stage stage.Init answers released) = idle n n.locations
during_counted n (event.Stage (stage.ReplaySet key value) answers released) = idle n n.locations
during_counted n (event.Stage stage.ReplayOpen answers released) = idle n n.locations
during_counted n (event.Stage stage.Resume answers released) = idle n n.locations
during_counted n (event.Arrive frame kept) =
    like_event n _ _ _ _ _ _ _ _ _ _ (suc_is n.arrived) (plus_none n.taken) (plus_none n.refused)
    (ap (λ m. n.lost + m) (one_is (not kept))) refl

-- ---- one event more

plus_swap : (n : ℕ) → n + 0 ≡ 0 + n
plus_swap n = omega arith

zero_plus : (n : ℕ) → 0 + n ≡ n
zero_plus n = omega arith

sum_assoc : (a b c m : ℕ) → m ≡ b + c → a + m ≡ (a + b) + c
sum_assoc a b c m e = omega (arith, e)

lost_more : (lost : CallEffects → ℕ) (ts : List CallEffects) (events : List Event) (e : Event) →
    lost_from lost ts (events ++ e ∷ [])
    ≡ lost_from lost ts events + sum_by (lost_by lost (call_effects_during (fold call_effects_after ts events) e)) (answers_of e)
lost_more lost ts [] e = plus_swap (sum_by (lost_by lost (call_effects_during ts e)) (answers_of e))
lost_more lost ts (x ∷ events) e =
    sum_assoc (sum_by (lost_by lost (call_effects_during ts x)) (answers_of x)) _ _ _ (lost_more lost (call_effects_after ts x) events e)

answers_more : (p : ℕ × Answer → Bool) (events : List Event) (e : Event) →
    count_by p (all_answers (events ++ e ∷ [])) ≡ count_by p (all_answers events) + count_by p (answers_of e)
answers_more p events e =
    ap (count_by p) (flat_map-append answers_of events (e ∷ []) ∙ ap (λ xs. all_answers events ++ xs) (append-nil (answers_of e)))
    ∙ sum_by-append (λ x. cond (p x) 1 0) (all_answers events) (answers_of e)

count_more : (p : Event → Bool) (events : List Event) (e : Event) →
    count_by p (events ++ e ∷ []) ≡ count_by p events + cond (p e) 1 0
count_more p events e =
    sum_by-append (λ x. cond (p x) 1 0) events (e ∷ []) ∙ ap (λ m. count_by p events + m) (zero_plus (cond (p e) 1 0))

pub counts_more : (events : List Event) (e : Event) →
    counts_after (fold call_effects_after [] events) (counts_of events) e ≡ counts_of (events ++ e ∷ [])
counts_more events e =
    let ts : List CallEffects = call_effects_during (fold call_effects_after [] events) e in
    let n : LossCounts = counts_of events in
    ap (λ m. fold (count_answer ts) m (answers_of e)) (during_counted n e)
    ∙ (answered ts (counted n e) (answers_of e)
    ∙ (alike (counted n e) _ _ _ _ _ _ _ _ (sym (lost_more sends_lost [] events e)) (sym (lost_more samples_lost [] events e))
    (sym (answers_more is_busy events e)) (sym (answers_more is_received events e))
    ∙ like_event (with_answers n (lost_from sends_lost [] (events ++ e ∷ [])) (lost_from samples_lost [] (events ++ e ∷ []))
    (count_by is_busy (all_answers (events ++ e ∷ []))) (count_by is_received (all_answers (events ++ e ∷ [])))) _ _ _ _ _ _ _ _ _ _
    (sym (count_more is_arrival events e)) (sym (count_more is_taken events e)) (sym (count_more is_refused events e))
    (sym (count_more is_lost_arrival events e)) (sym (fold-append locations_after no_locations events (e ∷ [])))))

pub counts_reported : (events : List Event) → losses_of (counts_of events) ≡ losses events
unfolding losses
counts_reported events = refl
