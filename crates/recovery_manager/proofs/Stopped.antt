-- After Stop the calls without an answer are those that the shadow's table holds.
use Rattle.std.proofs.Common.{◌≡◌, ℕ, ◌<◌, ◌≤◌, cond, is_none, Option, Some, None, List, [], ◌∷◌, filter, map, refl, ap, ◌∙◌, arith}
use Rattle.std.proofs.lemmas.Bool.{eq-eqb, ne_eqb}
use Rattle.nook_data.specs.declared.calls.Answer.{Answer}
use Rattle.nook_data.specs.declared.calls.CallEntry.{CallEntry}
use Rattle.nook_data.specs.declared.calls.Op.{Op}
use Rattle.nook_data.specs.declared.calls.Op.TheVariants as op
use Rattle.nook_data.specs.declared.steps.Stage.TheVariants as stage
use Rattle.part_defs.specs.Log.{held_by_shadow, held_call, is_held, queue_after, shadow_answer, stop_answers}
use Rattle.part_defs.specs.Log.{with_answer}
use Rattle.part_defs.specs.Views.CallLogs.{IsNumbered}
use Rattle.nook_data.specs.Answers.{answer_among}
use Rattle.part_defs.specs.State.{CallLog}
use Rattle.shadow_log.specs.Stopped.{after_answers, is_unanswered}

-- the table holds an operation regardless of who asks and what is known
held_alike : (o : Op) (thread : ℕ) (config : List ℕ) (holder : Option ℕ) (queue : List (List ℕ))
    → is_none (shadow_answer o thread config holder stage.Stop queue) ≡ is_held o
unfolding shadow_answer
held_alike (op.Read first count) thread config holder queue = refl
held_alike (op.Write first words) thread config holder queue = refl
held_alike (op.Send frame) thread config holder queue = refl
held_alike op.Recv thread config holder queue = refl
held_alike op.Open thread config holder queue = refl
held_alike (op.Play samples) thread config holder queue = refl
held_alike op.Close thread config holder queue = refl
held_alike (op.Get key) thread config holder queue = refl
held_alike (op.Set key value) thread config holder queue = refl

-- an answer to another call does not affect this one
other_answer : (n call : ℕ) (a : Option Answer) (rest : List (ℕ × Answer)) → (call ≡ n → ⊥)
    → answer_among n (with_answer call a rest) ≡ answer_among n rest
other_answer n call None rest other = refl
other_answer n call (Some a) rest other = rw (ne_eqb call n other) refl

-- there is no answer to a number below those of the calls
none_up_to : (n low count : ℕ) (xs : List CallEntry) (config : List ℕ) (holder : Option ℕ) (queue : List (List ℕ)) → IsNumbered low count xs
    → n ≤ low → answer_among n (stop_answers xs config holder queue) ≡ None
none_up_to n low count [] config holder queue i l = refl
none_up_to n low count (x ∷ xs) config holder queue i l =
    other_answer n x.call (shadow_answer x.op x.thread config holder stage.Stop queue) _ (λ e. absurd (omega (arith, e, i.0, l)))
    ∙ none_up_to n x.call count xs config holder (queue_after x.op queue) i.1 (omega (arith, i.0, l))

own_answer : (low count : ℕ) (x : CallEntry) (xs : List CallEntry) (config : List ℕ) (holder : Option ℕ) (queue : List (List ℕ)) (a : Option Answer)
    → IsNumbered low count (x ∷ xs) → is_none (answer_among x.call (with_answer x.call a (stop_answers xs config holder queue))) ≡ is_none a
own_answer low count x xs config holder queue None i = ap is_none (none_up_to x.call x.call count xs config holder queue i.1 (omega arith))
own_answer low count x xs config holder queue (Some a) i = rw (eq-eqb x.call x.call refl) refl

calls_held : (low count : ℕ) (xs : List CallEntry) (config : List ℕ) (holder : Option ℕ) (queue : List (List ℕ)) (answers : List (ℕ × Answer))
    → IsNumbered low count xs → ((n : ℕ) → low < n → answer_among n answers ≡ answer_among n (stop_answers xs config holder queue))
    → filter (is_unanswered answers) xs ≡ filter (λ c. is_held c.op) xs
calls_held low count [] config holder queue answers i same = refl
calls_held low count (x ∷ xs) config holder queue answers i same =
    let own : is_unanswered answers x ≡ is_held x.op =
    ap is_none (same x.call i.0) ∙ own_answer low count x xs config holder (queue_after x.op queue) _ i ∙ held_alike x.op x.thread config holder queue in
    let rest : filter (is_unanswered answers) xs ≡ filter (λ c. is_held c.op) xs =
    calls_held x.call count xs config holder (queue_after x.op queue) answers i.1
    (λ n l. same n (omega (arith, l, i.0))
    ∙ other_answer n x.call (shadow_answer x.op x.thread config holder stage.Stop queue) _ (λ e. absurd (omega (arith, e, l)))) in
    ap (λ b. cond b (x ∷ filter (is_unanswered answers) xs) (filter (is_unanswered answers) xs)) own
    ∙ ap (λ l. cond (is_held x.op) (x ∷ l) l) rest

pub stopped_log : (log new : CallLog) (answers : List (ℕ × Answer)) (queue : List (List ℕ)) → IsNumbered 0 log.count log.pending
    → answers ≡ stop_answers log.pending log.config log.holder queue → new ≡ after_answers answers log → new ≡ held_by_shadow log
stopped_log log new answers queue i e h = h ∙ ap (λ l. record log { pending = map held_call l })
    (calls_held 0 log.count log.pending log.config log.holder queue answers i (λ n l. ap (answer_among n) e))
