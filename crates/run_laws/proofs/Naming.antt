-- The line of an event names the event's step.
use Rattle.std.proofs.Common.{◌≡◌, ℕ, ◌<◌, ◌==◌, ◌&&◌, nat_lt, true, is_none, Some, None, Option, List, [], ◌∷◌, ◌++◌, refl, sym, ap, ◌∙◌, arith, append_assoc, true≢false, bytes_eq, codes, decimal, if◌then◌else◌, eqb-true, ltb-true}
use Rattle.std.proofs.lemmas.Bool.{and_parts}
use Rattle.part_defs.specs.Log.{call_of_thread}
use Rattle.part_defs.proofs.PartCases.{is_of_thread}
use Rattle.report_defs.specs.ReportLines.{answer_tail, event_line, event_text, op_text, stage_text}
use Rattle.report_defs.specs.Views.Reporting.{answers_tail, kept_text, released_tail, words_text}
use Rattle.part_defs.specs.Runs.{step_of}
use Rattle.part_defs.specs.State.{PartState}
use Rattle.part_defs.specs.Steps.{enabled, is_inside, is_ready, is_running}
use Rattle.nook_data.specs.declared.calls.CallEntry.{CallEntry}
use Rattle.nook_data.specs.declared.steps.Event.{Event}
use Rattle.nook_data.specs.declared.steps.Event.TheVariants as event
use Rattle.nook_data.specs.declared.calls.Op.{Op}
use Rattle.nook_data.specs.declared.steps.Step.{Step}
use Rattle.nook_data.specs.declared.steps.Step.TheVariants as step
use Rattle.part_laws.proofs.CrossingFit.{found_fits}
use Rattle.part_laws.proofs.Indices.{split}
use Rattle.part_laws.proofs.RunsDetermined.{found_thread}
use Rattle.part_laws.proofs.TiedSteps.{threads_of_fit}
use Rattle.part_laws.specs.Fit.{IsFit}
use Rattle.run_laws.proofs.Words.{HaveNoBlank, context_named, decimal_no_blank, joined, words_of_joined}
use Rattle.run_laws.specs.Audit.{Section, arrival_of, context_in, if_burst, if_entered, if_invoked, step_named, word_at, words_of}
use Rattle.run_laws.specs.Fitting.{IsNext}

-- ---- by the words of a line

abbrev pub named_by : Section → List ℕ → List ℕ → List ℕ → Option Step
named_by s second third fourth =
    if bytes_eq second (codes "invoke") then if_invoked s.threads (context_in (codes "t") fourth) else
    if bytes_eq second (codes "enter") then if_entered (context_in (codes "x") fourth) else
    if bytes_eq second (codes "burst") then if_burst (context_in (codes "x") third) else
    if bytes_eq second (codes "stage") then Some step.Stage else
    if bytes_eq second (codes "arrive") then arrival_of s.seat.coming else None

pub named_by_words : (s : Section) (line : List ℕ) → step_named s line ≡ named_by s (word_at 1 line) (word_at 2 line) (word_at 3 line)
unfolding step_named
named_by_words s line = refl

second_word : (line a b : List ℕ) (more : List (List ℕ)) → words_of line ≡ a ∷ b ∷ more → word_at 1 line ≡ b
second_word line a b more e = rw e refl

third_word : (line a b c : List ℕ) (more : List (List ℕ)) → words_of line ≡ a ∷ b ∷ c ∷ more → word_at 2 line ≡ c
third_word line a b c more e = rw e refl

fourth_word : (line a b c d : List ℕ) (more : List (List ℕ)) → words_of line ≡ a ∷ b ∷ c ∷ d ∷ more → word_at 3 line ≡ d
fourth_word line a b c d more e = rw e refl

-- ---- the words of each event's line

-- a number, a blank and a text
line_with : (n : ℕ) (e : Event) (text : List ℕ) → event_text e ++ 10 ∷ [] ≡ text → event_line n e ≡ decimal n ++ 32 ∷ text
unfolding event_line
line_with n e text is = ap (λ t. decimal n ++ 32 ∷ t) is

five_pieces : (a b c d e rest feed : List ℕ) → ((a ++ b) ++ ((c ++ d) ++ (e ++ rest))) ++ feed ≡ a ++ (b ++ (c ++ (d ++ (e ++ (rest ++ feed)))))
five_pieces a b c d e rest feed = simp append_assoc

three_pieces : (a b c rest feed : List ℕ) → ((a ++ b) ++ (c ++ rest)) ++ feed ≡ a ++ (b ++ (c ++ (rest ++ feed)))
three_pieces a b c rest feed = simp append_assoc

-- the words of a line that is a number, a blank and a text of joined words
words_with : (n : ℕ) (e : Event) (words : List (List ℕ)) (rest : List ℕ) → event_text e ++ 10 ∷ [] ≡ joined words rest → HaveNoBlank words
    → words_of (event_line n e) ≡ decimal n ∷ words ++ words_of rest
words_with n e words rest is h =
    ap words_of (line_with n e (joined words rest) is) ∙ words_of_joined (decimal n ∷ words) rest (decimal_no_blank n, h)

-- ---- whose thread or context a step is

thread_found : (p : PartState) (thread : ℕ) (o : Option CallEntry) → IsFit p → call_of_thread thread p.log.pending ≡ o → (o ≡ None → ⊥) → thread < 17
thread_found p thread None f e h = absurd (h refl)
thread_found p thread (Some c) f e h =
    let low : c.thread < 16 = found_fits (λ d. d.thread < 16) (is_of_thread thread) p.log.pending c (threads_of_fit p f) e in
    let same : c.thread ≡ thread = found_thread thread p.log.pending c e in
    omega arith

ready_found : (p : PartState) (o : Option CallEntry) → is_ready p o ≡ true → o ≡ None → ⊥
ready_found p None h e = true≢false (sym h)
ready_found p (Some c) h e = cc

inside_found : (o : Option CallEntry) → is_inside o ≡ true → o ≡ None → ⊥
inside_found None h e = true≢false (sym h)
inside_found (Some c) h e = cc

invoking_low : (p : PartState) (thread : ℕ) (o : Op) → enabled p (step.Invoke thread o) ≡ true → thread < 17
unfolding enabled
invoking_low p thread o h =
    let low : thread < 16 = ltb-true thread 16 (and_parts (nat_lt thread 16) (is_none (call_of_thread thread p.log.pending))
    (and_parts (nat_lt thread 16 && is_none (call_of_thread thread p.log.pending)) (nat_lt p.log.count 100000) h).0).0 in
    omega arith

entering_low : (p : PartState) (thread : ℕ) → IsFit p → enabled p (step.Enter thread) ≡ true → thread < 17
unfolding enabled
entering_low p thread f h = thread_found p thread (call_of_thread thread p.log.pending) f refl
    (ready_found p (call_of_thread thread p.log.pending) (and_parts (is_running p.mode) (is_ready p (call_of_thread thread p.log.pending)) h).1)

bursting_low : (p : PartState) (context : ℕ) → IsFit p → enabled p (step.Burst context) ≡ true → context < 17
unfolding enabled
bursting_low p context f h = split (context == 16)
    (λ e. let same : context ≡ 16 = eqb-true context 16 e in omega arith)
    (λ e. thread_found p context (call_of_thread context p.log.pending) f refl
    (inside_found (call_of_thread context p.log.pending) (and_parts (is_running p.mode) (is_inside (call_of_thread context p.log.pending)) (rw e at h)).1))

-- ---- each event

by_fourth : (s : Section) (n : ℕ) (e : Event) (a b c d : List ℕ) (more : List (List ℕ)) → words_of (event_line n e) ≡ a ∷ b ∷ c ∷ d ∷ more
    → step_named s (event_line n e) ≡ named_by s b c d
by_fourth s n e a b c d more is =
    named_by_words s (event_line n e)
    ∙ ap (λ w. named_by s w (word_at 2 (event_line n e)) (word_at 3 (event_line n e))) (second_word (event_line n e) a b (c ∷ d ∷ more) is)
    ∙ ap (λ w. named_by s b w (word_at 3 (event_line n e))) (third_word (event_line n e) a b c (d ∷ more) is)
    ∙ ap (λ w. named_by s b c w) (fourth_word (event_line n e) a b c d more is)

by_third : (s : Section) (n : ℕ) (e : Event) (a b c : List ℕ) (more : List (List ℕ)) → words_of (event_line n e) ≡ a ∷ b ∷ c ∷ more
    → step_named s (event_line n e) ≡ named_by s b c (word_at 3 (event_line n e))
by_third s n e a b c more is =
    named_by_words s (event_line n e)
    ∙ ap (λ w. named_by s w (word_at 2 (event_line n e)) (word_at 3 (event_line n e))) (second_word (event_line n e) a b (c ∷ more) is)
    ∙ ap (λ w. named_by s b w (word_at 3 (event_line n e))) (third_word (event_line n e) a b c more is)

by_second : (s : Section) (n : ℕ) (e : Event) (a b : List ℕ) (more : List (List ℕ)) → words_of (event_line n e) ≡ a ∷ b ∷ more
    → step_named s (event_line n e) ≡ named_by s b (word_at 2 (event_line n e)) (word_at 3 (event_line n e))
by_second s n e a b more is =
    named_by_words s (event_line n e)
    ∙ ap (λ w. named_by s w (word_at 2 (event_line n e)) (word_at 3 (event_line n e))) (second_word (event_line n e) a b more is)

-- the line of an event names the step that makes the event, if that is the next of its kind
pub step_is_named : (s : Section) (n : ℕ) (e : Event) → IsFit s.seat.run.state → enabled s.seat.run.state (step_of e) ≡ true → IsNext s (step_of e)
    → step_named s (event_line n e) ≡ Some (step_of e)
step_is_named s n (event.Invoke call thread o a) f may next =
    by_fourth s n (event.Invoke call thread o a) (decimal n) (codes "invoke") (99 ∷ decimal call) (116 ∷ decimal thread) _
    (words_with n (event.Invoke call thread o a) (codes "invoke" ∷ (99 ∷ decimal call) ∷ (116 ∷ decimal thread) ∷ [])
    ((op_text o ++ answer_tail a) ++ 10 ∷ []) (five_pieces (codes "invoke c") (decimal call) (codes " t") (decimal thread) (codes " ") (op_text o ++ answer_tail a) (10 ∷ []))
    (refl, (decimal_no_blank call, (decimal_no_blank thread, tt))))
    ∙ ap (if_invoked s.threads) (context_named 116 thread (invoking_low s.seat.run.state thread o may)) ∙ next
step_is_named s n (event.Enter call thread attempt a) f may next =
    by_fourth s n (event.Enter call thread attempt a) (decimal n) (codes "enter") (99 ∷ decimal call) (120 ∷ decimal thread) _
    (words_with n (event.Enter call thread attempt a) (codes "enter" ∷ (99 ∷ decimal call) ∷ (120 ∷ decimal thread) ∷ [])
    (codes "try " ++ ((decimal attempt ++ answer_tail a) ++ 10 ∷ [])) (entered (decimal call) (decimal thread) (decimal attempt) (answer_tail a))
    (refl, (decimal_no_blank call, (decimal_no_blank thread, tt))))
    ∙ ap if_entered (context_named 120 thread (entering_low s.seat.run.state thread f may))
  where
    entered : (call thread attempt rest : List ℕ)
        → ((codes "enter c" ++ call) ++ ((codes " x" ++ thread) ++ ((codes " try " ++ attempt) ++ rest))) ++ 10 ∷ []
        ≡ joined (codes "enter" ∷ (99 ∷ call) ∷ (120 ∷ thread) ∷ []) (codes "try " ++ ((attempt ++ rest) ++ 10 ∷ []))
    entered call thread attempt rest =
        ap (λ t. ((codes "enter c" ++ call) ++ ((codes " x" ++ thread) ++ t)) ++ 10 ∷ []) (append_assoc (codes " try ") attempt rest)
        ∙ five_pieces (codes "enter c") call (codes " x") thread (codes " try ") (attempt ++ rest) (10 ∷ [])
step_is_named s n (event.Burst context call burst count end acts a failure) f may next =
    by_third s n (event.Burst context call burst count end acts a failure) (decimal n) (codes "burst") (120 ∷ decimal context) _
    (words_with n (event.Burst context call burst count end acts a failure) (codes "burst" ∷ (120 ∷ decimal context) ∷ []) _
    (bursted (decimal context) (decimal call) _) (refl, (decimal_no_blank context, tt)))
    ∙ ap if_burst (context_named 120 context (bursting_low s.seat.run.state context f may))
  where
    bursted : (context call rest : List ℕ)
        → ((codes "burst x" ++ context) ++ ((codes " c" ++ call) ++ rest)) ++ 10 ∷ []
        ≡ joined (codes "burst" ∷ (120 ∷ context) ∷ []) (codes "c" ++ ((call ++ rest) ++ 10 ∷ []))
    bursted context call rest =
        ap (λ t. ((codes "burst x" ++ context) ++ t) ++ 10 ∷ []) (append_assoc (codes " c") call rest)
        ∙ three_pieces (codes "burst x") context (codes " c") (call ++ rest) (10 ∷ [])
step_is_named s n (event.Stage stage answers released) f may next =
    by_second s n (event.Stage stage answers released) (decimal n) (codes "stage") _
    (words_with n (event.Stage stage answers released) (codes "stage" ∷ []) ((stage_text stage ++ (answers_tail answers ++ released_tail released)) ++ 10 ∷ []) refl (refl, tt))
step_is_named s n (event.Arrive frame kept) f may next =
    by_second s n (event.Arrive frame kept) (decimal n) (codes "arrive") _
    (words_with n (event.Arrive frame kept) (codes "arrive" ∷ []) ((words_text frame ++ kept_text kept) ++ 10 ∷ []) refl (refl, tt))
    ∙ next
