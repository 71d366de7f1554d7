-- Every answer of a run has at most 128 words: a Read reads at most 8 blocks, a frame handed up has at most 64 words.
use Rattle.std.proofs.Common.{◌≡◌, ℕ, zero, suc, ◌+◌, ◌-◌, ◌*◌, ◌≤◌, ◌==◌, ◌&&◌, nat_lt, nat_le, not, if◌then◌else◌, Bool, true, false, Option, Some, None, Result, Ok, Err, List, [], ◌∷◌, ◌++◌, length, take, drop, min, slice_range, refl, sym, subst, arith, length-take}
use Rattle.std.specs.List.{AllByRecursion}
use Rattle.std.proofs.lemmas.Bool.{and_parts, leb-true}
use Rattle.nook_data.specs.declared.classes.Accept.{Accept}
use Rattle.nook_data.specs.declared.classes.Accept.TheVariants as accepts
use Rattle.nook_data.specs.declared.classes.Admit.{Admit}
use Rattle.nook_data.specs.declared.classes.Admit.TheVariants as admits
use Rattle.nook_data.specs.declared.calls.Answer.{Answer}
use Rattle.nook_data.specs.declared.calls.Answer.TheVariants as answer
use Rattle.nook_data.specs.declared.calls.CallEntry.{CallEntry}
use Rattle.nook_data.specs.declared.classes.Class.{Class}
use Rattle.nook_data.specs.declared.classes.Class.TheVariants as class
use Rattle.nook_data.specs.declared.entries.Entry.{Entry}
use Rattle.nook_data.specs.declared.steps.Event.{Event}
use Rattle.nook_data.specs.declared.steps.Event.TheVariants as event
use Rattle.nook_data.specs.declared.steps.Mode.{Mode}
use Rattle.nook_data.specs.declared.steps.Mode.TheVariants as mode
use Rattle.nook_data.specs.declared.calls.Op.{Op}
use Rattle.nook_data.specs.declared.calls.Op.TheVariants as op
use Rattle.nook_data.specs.declared.scenario.PartSpec.{PartSpec}
use Rattle.nook_data.specs.declared.steps.Stage.{Stage}
use Rattle.nook_data.specs.declared.steps.Stage.TheVariants as stage
use Rattle.nook_data.specs.declared.steps.Step.{Step}
use Rattle.nook_data.specs.declared.steps.Step.TheVariants as step
use Rattle.nook_data.specs.declared.machine.BadParam.{BadParam}
use Rattle.nook_data.specs.declared.machine.BurstEnd.{BurstEnd}
use Rattle.nook_data.specs.declared.machine.BurstEnd.TheVariants as ends
use Rattle.nook_data.specs.declared.machine.Service.{Service}
use Rattle.nook_data.specs.declared.machine.Service.TheVariants as service
use Rattle.part_defs.specs.Calls.{Stepped, after_invoke, answer_in, queue_in, after_enter, after_admit}
use Rattle.part_defs.proofs.PartCases.{admit_open, entered_by, invoked_by, reply_by, serve_by, stage_by, with_burst}
use Rattle.nook_data.specs.Classes.{static_check, check_op, check_range, check_length, is_block_length, is_of_class}
use Rattle.nook_data.specs.Classes.{maximum_of, same_class, admit, admit_holder, is_holder, entry_address, accept}
use Rattle.part_defs.specs.Crossing.{Crossed, fails, is_last, heap_start, is_accepted, next_stage, closes_call}
use Rattle.part_defs.specs.Crossing.{reply_answer, call_replied, after_crossing}
use Rattle.nook_data.specs.Frames.{head_of, tail_of}
use Rattle.part_defs.specs.Domain.{domain_burst, first_argument, second_argument}
use Rattle.part_defs.specs.Log.{call_of_thread, shadow_answer, frame_or_empty, queue_after, with_answer, stop_answers}
use Rattle.part_defs.specs.Log.{stop_queue, gone_answers}
use Rattle.nook_data.specs.Layout.{buffer_start}
use Rattle.nook_data.specs.Numbered.{at_number}
use Rattle.nook_data.specs.Valid.{IsValidPart}
use Rattle.nook_data.specs.Answers.{one_answer}
use Rattle.part_defs.specs.Runs.{IsRun, IsRunFrom, event_of, state_after, step_of}
use Rattle.nook_data.specs.Answers.{answer_among}
use Rattle.machine_defs.specs.Services.{needs, is_frame_length, tested_length, checked_frame, checked, served}
use Rattle.part_defs.specs.Stages.{stage_due, is_given_up, stops, gives_up_part, collects, resets, loads_image, inits}
use Rattle.part_defs.specs.Stages.{replays_set, replays_open, resumes, stage_stepped}
use Rattle.part_defs.specs.State.{PartState}
use Rattle.part_defs.specs.Steps.{opening, stepped, burst_stepped, after_arrival}
use Rattle.machine_defs.specs.BurstFaults.{faults_of_burst}
use Rattle.part_laws.proofs.PartFacts.{open_read_count}
use Rattle.machine_defs.proofs.BurstKeeps.{split}
use Rattle.part_laws.proofs.Served.{queue_stays}
use Rattle.part_laws.proofs.StepsFit.{fit_after, opening_fit}
use Rattle.part_laws.proofs.ValidFits.{valid_fits}
use Rattle.part_laws.specs.Fit.{IsFit, IsFitSpec}
use Rattle.part_server.specs.Answers.{IsShort, AnswersShortly}

-- ---- an invariant: the frames in the kernel's queue are short

abbrev IsShortFrame : List ℕ → Type 0
IsShortFrame frame = length frame ≤ 128

abbrev AreShortFrames : List (List ℕ) → Type 0
AreShortFrames queue = AllByRecursion IsShortFrame queue

abbrev IsShortOption : Option Answer → Type 0
IsShortOption None = Unit {0}
IsShortOption (Some a) = IsShort a

abbrev AreShort : List (ℕ × Answer) → Type 0
AreShort answers = AllByRecursion (λ x. IsShort x.1) answers

abbrev IsShortEvent : Event → Type 0
IsShortEvent (event.Invoke call thread o a) = IsShortOption a
IsShortEvent (event.Enter call thread attempt a) = IsShortOption a
IsShortEvent (event.Burst context call burst count end acts a failure) = IsShortOption a
IsShortEvent (event.Stage s answers released) = AreShort answers
IsShortEvent (event.Arrive frame kept) = Unit {0}

abbrev StaysShort : Stepped → Type 0
StaysShort t = AreShortFrames t.state.queue × IsShortEvent t.event

-- ---- ranges

short_range : (xs : List ℕ) (start n : ℕ) → length (slice_range xs start (start + n)) ≤ n
short_range xs start n =
    let e : length (take (start + n - start) (drop start xs)) ≡ min (start + n - start) (length (drop start xs)) = length-take (start + n - start) (drop start xs) in
    omega arith

-- ---- the queue

tail_short : (queue : List (List ℕ)) → AreShortFrames queue → AreShortFrames (tail_of queue)
tail_short [] h = h
tail_short (frame ∷ queue) h = h.1

head_short : (queue : List (List ℕ)) → AreShortFrames queue → IsShortFrame (head_of queue)
head_short [] h = omega arith
head_short (frame ∷ queue) h = h.0

push_short : (queue : List (List ℕ)) (frame : List ℕ) → AreShortFrames queue → IsShortFrame frame → AreShortFrames (queue ++ frame ∷ [])
push_short [] frame h f = (f, tt)
push_short (x ∷ queue) frame h f = (h.0, push_short queue frame h.1 f)

after_short : (o : Op) (queue : List (List ℕ)) → AreShortFrames queue → AreShortFrames (queue_after o queue)
after_short (op.Read first count) queue h = h
after_short (op.Write first words) queue h = h
after_short (op.Send frame) queue h = h
after_short op.Recv queue h = tail_short queue h
after_short op.Open queue h = h
after_short (op.Play samples) queue h = h
after_short op.Close queue h = h
after_short (op.Get key) queue h = h
after_short (op.Set key value) queue h = h

frame_short : (queue : List (List ℕ)) → AreShortFrames queue → IsShort (frame_or_empty queue)
frame_short [] h = omega arith
frame_short (frame ∷ queue) h = h.0

-- ---- answers of the shadow and of the static check

dropped_short : (b : Bool) → IsShort (if b then answer.Done else answer.NotOpen)
dropped_short true = omega arith
dropped_short false = omega arith

shadow_short : (o : Op) (thread : ℕ) (config : List ℕ) (holder : Option ℕ) (s : Stage) (queue : List (List ℕ)) → AreShortFrames queue
    → IsShortOption (shadow_answer o thread config holder s queue)
unfolding shadow_answer
shadow_short (op.Read first count) thread config holder s queue h = tt
shadow_short (op.Write first words) thread config holder s queue h = tt
shadow_short (op.Send frame) thread config holder s queue h = omega arith
shadow_short op.Recv thread config holder s queue h = frame_short queue h
shadow_short op.Open thread config holder s queue h = omega arith
shadow_short (op.Play samples) thread config holder s queue h = dropped_short (is_holder holder thread)
shadow_short op.Close thread config holder s queue h = tt
shadow_short (op.Get key) thread config holder s queue h = omega arith
shadow_short (op.Set key value) thread config holder s queue h = tt

if_short : (b : Bool) (x y : Option Answer) → IsShortOption x → IsShortOption y → IsShortOption (if b then x else y)
if_short true x y h i = h
if_short false x y h i = i

plain_short : (a : Answer) → IsShort a → IsShortOption (Some a)
plain_short a h = h

range_short : (blocks first count : ℕ) → IsShortOption (check_range blocks first count)
range_short blocks first count = if_short (nat_le (first + count) blocks) None (Some answer.BadRange) tt (omega arith)

length_short : (words : List ℕ) → IsShortOption (check_length words)
length_short words = if_short (nat_le 1 (length words) && nat_le (length words) 64) None (Some answer.BadLength) tt (omega arith)

op_short : (c : Class) (blocks : ℕ) (o : Op) → IsShortOption (check_op c blocks o)
op_short c blocks (op.Read first count) =
    if_short (nat_le 1 count && nat_le count 8) (check_range blocks first count) (Some answer.BadLength) (range_short blocks first count) (omega arith)
op_short c blocks (op.Write first words) =
    if_short (is_block_length (length words)) (check_range blocks first _) (Some answer.BadLength) (range_short blocks first _) (omega arith)
op_short c blocks (op.Send frame) = length_short frame
op_short c blocks op.Recv = tt
op_short c blocks op.Open = tt
op_short c blocks (op.Play samples) = length_short samples
op_short c blocks op.Close = tt
op_short c blocks (op.Get key) = if_short (nat_le key 3) None (Some answer.BadKey) tt (omega arith)
op_short c blocks (op.Set key value) =
    if_short (nat_le key 3) (if nat_le value (maximum_of c key) then None else Some answer.BadValue) (Some answer.BadKey)
    (if_short (nat_le value (maximum_of c key)) None (Some answer.BadValue) tt (omega arith)) (omega arith)

check_short : (c : Class) (blocks : ℕ) (o : Op) → IsShortOption (static_check c blocks o)
check_short c blocks o = if_short (is_of_class c o) (check_op c blocks o) (Some answer.BadClass) (op_short c blocks o) (omega arith)

-- ---- Invoke

mode_short : (m : Mode) (thread : ℕ) (o : Op) (p : PartState) → AreShortFrames p.queue → IsShortOption (answer_in m thread o p)
mode_short (mode.Boot s) thread o p h = tt
mode_short mode.Running thread o p h = tt
mode_short (mode.Recovering s) thread o p h = shadow_short o thread p.log.config p.log.holder s p.queue h
mode_short (mode.Dead collected) thread o p h = omega arith

mode_queue : (m : Mode) (o : Op) (queue : List (List ℕ)) → AreShortFrames queue → AreShortFrames (queue_in m o queue)
mode_queue (mode.Boot s) o queue h = h
mode_queue mode.Running o queue h = h
mode_queue (mode.Recovering s) o queue h = after_short o queue h
mode_queue (mode.Dead collected) o queue h = h

invoke_short : (p : PartState) (thread : ℕ) (o : Op) → AreShortFrames p.queue → StaysShort (after_invoke thread o p)
unfolding after_invoke
invoke_short p thread o h = by_check (static_check p.spec.class p.spec.blocks o) (check_short p.spec.class p.spec.blocks o)
  where
    by_check : (a : Option Answer) → IsShortOption a → StaysShort (invoked_by p thread o a)
    by_check None i = (mode_queue p.mode o p.queue h, mode_short p.mode thread o p h)
    by_check (Some a) i = (h, i)

-- ---- Enter

abbrev IsShortAdmit : Admit → Type 0
IsShortAdmit (admits.Reply a) = IsShort a
IsShortAdmit admits.TakeFrame = Unit {0}
IsShortAdmit (admits.Enter position) = Unit {0}

open_short : (holder : Option ℕ) → IsShortAdmit (admit_open holder)
open_short None = tt
open_short (Some thread) = omega arith

holder_short : (b : Bool) (position : ℕ) → IsShortAdmit (admit_holder b position)
holder_short true position = tt
holder_short false position = omega arith

admit_short : (c : Class) (thread : ℕ) (o : Op) (holder : Option ℕ) (queued : ℕ) → IsShortAdmit (admit c thread o holder queued)
admit_short c thread (op.Read first count) holder queued = tt
admit_short c thread (op.Write first words) holder queued = tt
admit_short c thread (op.Send frame) holder queued = tt
admit_short c thread op.Recv holder queued = split (queued == 0) (λ e. rw e tt) (λ e. rw e tt)
admit_short c thread op.Open holder queued = open_short holder
admit_short c thread (op.Play samples) holder queued = holder_short (is_holder holder thread) (entry_address c (op.Play samples))
admit_short c thread op.Close holder queued = holder_short (is_holder holder thread) (entry_address c op.Close)
admit_short c thread (op.Get key) holder queued = tt
admit_short c thread (op.Set key value) holder queued = tt

enter_short : (p : PartState) (thread : ℕ) → AreShortFrames p.queue → StaysShort (after_enter thread p)
unfolding after_enter
enter_short p thread h = by_call (call_of_thread thread p.log.pending)
  where
    by_admit : (c : CallEntry) (a : Admit) → IsShortAdmit a → StaysShort (after_admit p c a)
    by_admit c (admits.Reply a) i = (h, i)
    by_admit c admits.TakeFrame i = (tail_short p.queue h, head_short p.queue h)
    by_admit c (admits.Enter position) i = (h, tt)

    by_call : (o : Option CallEntry) → StaysShort (entered_by p thread o)
    by_call None = (h, tt)
    by_call (Some c) = by_admit c (admit p.spec.class thread c.op p.log.holder (length p.queue)) (admit_short p.spec.class thread c.op p.log.holder (length p.queue))

-- ---- Burst

abbrev CrossesShort : Crossed → Type 0
CrossesShort x = AreShortFrames x.state.queue × IsShortOption x.answer

-- a frame that a service hands up has at most 64 words
abbrev IsShortService : Service → Type 0
IsShortService (service.NetRx start len) = len ≤ 64
IsShortService _ = Unit {0}

abbrev IsShortCheck : Result Service BadParam → Type 0
IsShortCheck (Ok s) = IsShortService s
IsShortCheck (Err bad) = Unit {0}

needs_short : (b : Bool) (number argument : ℕ) (s : Service) → (b ≡ true → IsShortService s) → IsShortCheck (needs b number argument s)
needs_short true number argument s h = h refl
needs_short false number argument s h = tt

either_short : (b : Bool) (x y : Result Service BadParam) → IsShortCheck x → IsShortCheck y → IsShortCheck (if b then x else y)
either_short true x y h i = h
either_short false x y h i = i

frame_check_short : (first second : ℕ) (c : Class) → IsShortCheck (checked_frame first second c)
frame_check_short first second c =
    either_short (not (same_class c class.Net)) (Err (record { service = 6; argument = 0 })) _ tt
    (either_short (not (nat_le 2048 first && nat_le (first + tested_length second) 7360)) (Err (record { service = 6; argument = 1 })) _ tt
    (needs_short (is_frame_length second) 6 2 (service.NetRx first second)
    (λ e. leb-true second 64 (and_parts (nat_le 1 second) (nat_le second 64) e).1)))

checked_short : (number first second : ℕ) (c : Class) (entries : List Entry) → IsShortCheck (checked number first second c entries)
checked_short number first second c entries =
    either_short (number == 1) _ _ (needs_short _ 1 1 (service.Alloc first) (λ e. tt))
    (either_short (number == 2) _ _ (needs_short _ 2 1 (service.Free first) (λ e. tt))
    (either_short (number == 3) _ _ (needs_short _ 3 1 service.Register (λ e. tt))
    (either_short (number == 4) _ _ (needs_short _ 4 1 (service.Borrow first) (λ e. tt))
    (either_short (number == 5) _ _ (needs_short _ 5 1 (service.GiveBack first) (λ e. tt))
    (either_short (number == 6) _ _ (frame_check_short first second c)
    (either_short (number == 7) (Ok service.Log) _ tt
    (either_short (number == 8) (Ok service.Yield) (Err (record { service = number; argument = 0 })) tt tt)))))))

queue_short : (heap : ℕ) (s : Service) (memory : List ℕ) (entries : List Entry) (queue : List (List ℕ)) → AreShortFrames queue → IsShortService s
    → AreShortFrames (served heap s memory entries queue).queue
unfolding served
queue_short heap (service.Alloc n) memory entries queue h i = subst AreShortFrames (sym (queue_stays heap (service.Alloc n) memory entries queue refl)) h
queue_short heap (service.Free address) memory entries queue h i = h
queue_short heap service.Register memory entries queue h i = h
queue_short heap (service.Borrow object) memory entries queue h i = subst AreShortFrames (sym (queue_stays heap (service.Borrow object) memory entries queue refl)) h
queue_short heap (service.GiveBack object) memory entries queue h i = subst AreShortFrames (sym (queue_stays heap (service.GiveBack object) memory entries queue refl)) h
queue_short heap (service.NetRx start len) memory entries queue h i = by_room (nat_lt (length queue) 64)
  where
    frame : List ℕ
    frame = slice_range memory start (start + len)

    short : IsShortFrame frame
    short = let l : length frame ≤ len = short_range memory start len in omega arith

    by_room : (b : Bool) → AreShortFrames (if b then queue ++ frame ∷ [] else queue)
    by_room true = push_short queue frame h short
    by_room false = h
queue_short heap service.Log memory entries queue h i = h
queue_short heap service.Yield memory entries queue h i = h

serve_short : (number context : ℕ) (p : PartState) (r : Result Service BadParam) → AreShortFrames p.queue → IsShortCheck r → CrossesShort (serve_by number context p r)
unfolding fails
serve_short number context p (Err bad) h i = (h, tt)
serve_short number context p (Ok s) h i = (queue_short (heap_start p) s p.domain.memory p.domain.entries p.queue h i, tt)

-- a Read of at most 8 blocks
abbrev IsSmall : Op → Type 0
IsSmall (op.Read first count) = count ≤ 8
IsSmall _ = Unit {0}

reply_short : (o : Op) (thread : ℕ) (p : PartState) → AreShortFrames p.queue → IsSmall o → IsShort (reply_answer o thread p)
reply_short (op.Read first count) thread p h i =
    let l : length (slice_range p.domain.memory (buffer_start thread) (buffer_start thread + 16 * count)) ≤ 16 * count =
    short_range p.domain.memory (buffer_start thread) (16 * count) in
    omega arith
reply_short (op.Write first words) thread p h i = omega arith
reply_short (op.Send frame) thread p h i = omega arith
reply_short op.Recv thread p h i = frame_short p.queue h
reply_short op.Open thread p h i = omega arith
reply_short (op.Play samples) thread p h i = omega arith
reply_short op.Close thread p h i = omega arith
reply_short (op.Get key) thread p h i = omega arith
reply_short (op.Set key value) thread p h i = omega arith

abbrev IsSmallCall : Option CallEntry → Type 0
IsSmallCall None = Unit {0}
IsSmallCall (Some c) = IsSmall c.op

call_short : (status : ℕ) (p : PartState) (o : Option CallEntry) → AreShortFrames p.queue → IsSmallCall o → CrossesShort (call_replied status p o)
unfolding fails closes_call
call_short status p None h i = (h, tt)
call_short status p (Some c) h i = by_accept (accept c.op status)
  where
    by_accept : (a : Accept) → CrossesShort (reply_by c status p a)
    by_accept accepts.Take = (after_short c.op p.queue h, reply_short c.op c.thread p h i)
    by_accept (accepts.IoError block) = (after_short c.op p.queue h, omega arith)
    by_accept (accepts.Fail cause) = (h, tt)

crossed_short : (context : ℕ) (e : BurstEnd) (p : PartState) → AreShortFrames p.queue → IsSmallCall (call_of_thread context p.log.pending)
    → CrossesShort (after_crossing context e p)
unfolding after_crossing fails next_stage
crossed_short context (ends.Trap cause) p h i = (h, tt)
crossed_short context (ends.Kcall k) p h i = split (is_last context p)
    (λ e. rw e (h, tt))
    (λ e. rw e (serve_short k context p _ h (checked_short k (first_argument context p.domain) (second_argument context p.domain) p.spec.class p.domain.entries)))
crossed_short context ends.Pause p h i = split (is_last context p)
    (λ e. rw e (h, tt))
    (λ e. rw e (h, tt))
crossed_short context (ends.Reply status) p h i = split (context == 16)
    (λ e. rw e (split (is_accepted status p)
    (λ f. rw f (h, tt))
    (λ f. rw f (h, tt))))
    (λ e. rw e (call_short status p (call_of_thread context p.log.pending) h i))

burst_short : (p : PartState) (context : ℕ) → AreShortFrames p.queue → IsSmallCall (call_of_thread context p.log.pending) → StaysShort (burst_stepped context p)
unfolding burst_stepped
burst_short p context h i =
    let b = domain_burst context (faults_of_burst (p.bursts + 1) p.spec.faults) p.domain in
    crossed_short context b.ending (with_burst b.domain p) h i

small_op : (p : PartState) (thread : ℕ) (c : CallEntry) (o : Op) → IsFit p → call_of_thread thread p.log.pending ≡ Some c → c.op ≡ o → IsSmall o
small_op p thread c (op.Read first count) fit found e = open_read_count p fit thread c found first count e
small_op p thread c (op.Write first words) fit found e = tt
small_op p thread c (op.Send frame) fit found e = tt
small_op p thread c op.Recv fit found e = tt
small_op p thread c op.Open fit found e = tt
small_op p thread c (op.Play samples) fit found e = tt
small_op p thread c op.Close fit found e = tt
small_op p thread c (op.Get key) fit found e = tt
small_op p thread c (op.Set key value) fit found e = tt

small_call : (p : PartState) (thread : ℕ) (o : Option CallEntry) → IsFit p → call_of_thread thread p.log.pending ≡ o → IsSmallCall o
small_call p thread None fit found = tt
small_call p thread (Some c) fit found = small_op p thread c c.op fit found refl

-- ---- Stage

with_short : (call : ℕ) (a : Option Answer) (answers : List (ℕ × Answer)) → IsShortOption a → AreShort answers → AreShort (with_answer call a answers)
with_short call None answers h i = i
with_short call (Some a) answers h i = (h, i)

stop_short : (pending : List CallEntry) (config : List ℕ) (holder : Option ℕ) (queue : List (List ℕ)) → AreShortFrames queue
    → AreShort (stop_answers pending config holder queue)
stop_short [] config holder queue h = tt
stop_short (c ∷ pending) config holder queue h =
    with_short c.call (shadow_answer c.op c.thread config holder stage.Stop queue) (stop_answers pending config holder (queue_after c.op queue))
    (shadow_short c.op c.thread config holder stage.Stop queue h) (stop_short pending config holder (queue_after c.op queue) (after_short c.op queue h))

stop_queue_short : (pending : List CallEntry) (queue : List (List ℕ)) → AreShortFrames queue → AreShortFrames (stop_queue pending queue)
stop_queue_short [] queue h = h
stop_queue_short (c ∷ pending) queue h = stop_queue_short pending (queue_after c.op queue) (after_short c.op queue h)

gone_short : (failures : ℕ) (pending : List CallEntry) → AreShort (gone_answers failures pending)
gone_short failures [] = tt
gone_short failures (c ∷ pending) = (omega arith, gone_short failures pending)

stage_short : (p : PartState) → AreShortFrames p.queue → StaysShort (stage_stepped p)
unfolding stage_stepped stops gives_up_part collects resets loads_image inits replays_set replays_open resumes
stage_short p h = by_due (stage_due p.mode)
  where
    by_due : (o : Option Stage) → StaysShort (stage_by p o)
    by_due None = (h, tt)
    by_due (Some stage.Stop) = split (is_given_up p)
        (λ e. rw e (h, gone_short p.failures p.log.pending))
        (λ e. rw e (stop_queue_short p.log.pending p.queue h, stop_short p.log.pending p.log.config p.log.holder p.queue h))
    by_due (Some stage.Collect) = (h, tt)
    by_due (Some stage.Reset) = (h, tt)
    by_due (Some stage.Load) = (h, tt)
    by_due (Some stage.Init) = (h, tt)
    by_due (Some (stage.ReplaySet key value)) = (h, tt)
    by_due (Some stage.ReplayOpen) = (h, tt)
    by_due (Some stage.Resume) = (h, tt)

-- ---- any step, and any run

step_short : (p : PartState) (s : Step) → IsFit p → AreShortFrames p.queue → StaysShort (stepped p s)
unfolding stepped after_arrival
step_short p (step.Invoke thread o) fit h = invoke_short p thread o h
step_short p (step.Enter thread) fit h = enter_short p thread h
step_short p (step.Burst context) fit h = burst_short p context h (small_call p context (call_of_thread context p.log.pending) fit refl)
step_short p step.Stage fit h = stage_short p h
step_short p (step.Arrive frame) fit h = (h, tt)

if_answered : (c call : ℕ) (o : Option Answer) (a : Answer) → IsShortOption o → answer_among call (one_answer c o) ≡ Some a → IsShort a
if_answered c call None a h e = absurd (let k : None ≡ Some a = e in cc)
if_answered c call (Some x) a h e = split (c == call)
    (λ i. of_option (Some x) h (rw i at e))
    (λ i. none_is (rw i at e))
  where
    none_is : {G : Type 0} → None ≡ Some a → G
    none_is x = cc

    of_option : (o : Option Answer) → IsShortOption o → o ≡ Some a → IsShort a
    of_option None h x = none_is x
    of_option (Some b) h x = subst IsShort (inner x) h
      where
        inner : Some b ≡ Some a → b ≡ a
        inner y = cc

among_answered : (call : ℕ) (answers : List (ℕ × Answer)) (a : Answer) → AreShort answers → answer_among call answers ≡ Some a → IsShort a
among_answered call [] a h e = cc
among_answered call (x ∷ answers) a h e = split (x.0 == call)
    (λ i. subst IsShort (inner (rw i at e)) h.0)
    (λ i. among_answered call answers a h.1 (rw i at e))
  where
    inner : Some x.1 ≡ Some a → x.1 ≡ a
    inner y = cc

event_answers : (e : Event) → IsShortEvent e → AnswersShortly e
event_answers (event.Invoke c thread o a) h call b e = if_answered c call a b h e
event_answers (event.Enter c thread attempt a) h call b e = if_answered c call a b h e
event_answers (event.Burst context c burst count end acts a failure) h call b e = if_answered c call a b h e
event_answers (event.Stage s answers released) h call b e = among_answered call answers b h e
event_answers (event.Arrive frame kept) h call b e = cc

short_from : (p : PartState) (events : List Event) → IsFit p → AreShortFrames p.queue → IsRunFrom p events → AllByRecursion AnswersShortly events
unfolding IsRunFrom
short_from p [] f h r = tt
short_from p (e ∷ events) f h r =
    let s : StaysShort (stepped p (step_of e)) = step_short p (step_of e) f h in (
      subst AnswersShortly r.1 (event_answers (event_of p (step_of e)) s.1),
      short_from (state_after p (step_of e)) events (fit_after p (step_of e) f r.0) s.0 r.2,
    )

nothing_queued : (spec : PartSpec) → AreShortFrames (opening spec).queue
unfolding opening
nothing_queued spec = tt

run_short : (spec : PartSpec) (journal : List Event) → IsFitSpec spec → IsRun spec journal → AllByRecursion AnswersShortly journal
run_short spec journal fit r = short_from (opening spec) journal (opening_fit spec fit) (nothing_queued spec) r

all_at : (P : Event → Type 0) (position : ℕ) (events : List Event) (e : Event) → AllByRecursion P events → at_number position events ≡ Some e → P e
all_at P zero events e all h = cc
all_at P (suc k) [] e all h = cc
all_at P (suc zero) (x ∷ events) e all h = subst P (inner h) all.0
  where
    inner : Some x ≡ Some e → x ≡ e
    inner y = cc
all_at P (suc (suc k)) (x ∷ events) e all h = all_at P (suc k) events e all.1 h

-- the event with a number in a run has a short answer
pub short_at : (spec : PartSpec) (journal : List Event) (position : ℕ) (e : Event) → IsValidPart spec → IsRun spec journal → at_number position journal ≡ Some e
    → AnswersShortly e
short_at spec journal position e valid r h = all_at AnswersShortly position journal e (run_short spec journal (valid_fits spec valid) r) h
