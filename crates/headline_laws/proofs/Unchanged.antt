use Rattle.std.proofs.Common.{◌≡◌, ℕ, ◌+◌, ◌%◌, ◌^◌, ◌==◌, ◌&&◌, if◌then◌else◌, nat_le, nat_lt, not, Bool, true, false, Option, Some, None, Result, Ok, Err, List, [], ◌∷◌, length, refl, ap, ◌∙◌}
use Rattle.nook_data.specs.declared.calls.Answer.{Answer}
use Rattle.nook_data.specs.declared.calls.CallEntry.{CallEntry}
use Rattle.nook_data.specs.declared.calls.Op.{Op}
use Rattle.nook_data.specs.declared.calls.Op.TheVariants as op
use Rattle.nook_data.specs.declared.classes.Accept.{Accept}
use Rattle.nook_data.specs.declared.classes.Accept.TheVariants as accepts
use Rattle.nook_data.specs.declared.classes.Admit.{Admit}
use Rattle.nook_data.specs.declared.classes.Admit.TheVariants as admits
use Rattle.nook_data.specs.declared.devices.DeviceKind.{DeviceKind}
use Rattle.nook_data.specs.declared.devices.DeviceKind.TheVariants as kind
use Rattle.nook_data.specs.declared.devices.DeviceState.{DeviceState}
use Rattle.nook_data.specs.declared.devices.Disk.{Disk}
use Rattle.nook_data.specs.declared.entries.Entry.{Entry}
use Rattle.nook_data.specs.declared.machine.BadParam.{BadParam}
use Rattle.nook_data.specs.declared.machine.BurstEnd.{BurstEnd}
use Rattle.nook_data.specs.declared.machine.BurstEnd.TheVariants as ends
use Rattle.nook_data.specs.declared.machine.Context.{Context}
use Rattle.nook_data.specs.declared.machine.Instr.{Instr}
use Rattle.nook_data.specs.declared.machine.Instr.TheVariants as instr
use Rattle.nook_data.specs.declared.machine.Service.{Service}
use Rattle.nook_data.specs.declared.scenario.BadBlock.{BadBlock}
use Rattle.nook_data.specs.declared.scenario.Fault.{Fault}
use Rattle.nook_data.specs.declared.steps.Event.{Event}
use Rattle.nook_data.specs.declared.steps.Stage.{Stage}
use Rattle.nook_data.specs.declared.steps.Stage.TheVariants as stage
use Rattle.nook_data.specs.declared.steps.Step.{Step}
use Rattle.nook_data.specs.declared.steps.Step.TheVariants as step
use Rattle.nook_data.specs.Classes.{accept, admit, static_check}
use Rattle.nook_data.specs.Frames.{is_empty}
use Rattle.machine_defs.proofs.BurstKeeps.{burst_keeps, every_fault, split}
use Rattle.machine_defs.proofs.MachineCases.{kind_input, kind_with_arrival, past_decode, past_fetch, past_read}
use Rattle.machine_defs.specs.Burst.{burst}
use Rattle.machine_defs.specs.BurstFaults.{faults_of_burst}
use Rattle.machine_defs.specs.Devices.{Given, Taken, input_of, is_command, is_register_port, kind_output, output_of}
use Rattle.machine_defs.specs.Devices.{commanded, is_failing, reset_device, reset_kind, with_arrival}
use Rattle.machine_defs.specs.Machine.{decode_of}
use Rattle.machine_defs.specs.Execution.{Executed, Machine, executed, past_input, past_output, r, stores, turn}
use Rattle.machine_defs.specs.Pages.{fetch_word, may_write, read_word}
use Rattle.machine_defs.specs.Services.{checked}
use Rattle.machine_defs.specs.Views.Ports.{device_after, device_given, device_of}
use Rattle.part_defs.proofs.PartCases.{burst_by, burst_step, entered_by, invoked_by, reply_by, serve_by, stage_by, with_burst}
use Rattle.part_defs.specs.Calls.{Stepped, after_admit, after_enter, after_invoke}
use Rattle.part_defs.specs.Crossing.{after_crossing, call_replied, closes_call, fails, is_accepted, is_last, next_stage}
use Rattle.part_defs.specs.Crossing.{noted_set, shadow_replied}
use Rattle.part_defs.specs.Domain.{DomainBurst, collected_domain, context_of, domain_burst, entered_domain}
use Rattle.part_defs.specs.Domain.{first_argument, left_domain, loaded_domain, machine_of, noted, plainly_entered}
use Rattle.part_defs.specs.Domain.{result_set, second_argument, stopped_domain}
use Rattle.part_defs.specs.Log.{call_of_thread}
use Rattle.part_defs.specs.Runs.{state_after, state_from, step_of}
use Rattle.part_defs.specs.Stages.{collects, gives_up_part, inits, is_given_up, loads_image, replays_open, replays_set}
use Rattle.part_defs.specs.Stages.{resets, resumes, stage_done, stage_due, stage_stepped, stops}
use Rattle.part_defs.specs.State.{DomainState, PartState}
use Rattle.part_defs.specs.Steps.{after_arrival, burst_stepped, stepped}
use Rattle.part_laws.proofs.DeviceStays.{crossing_untouched}

-- What no step changes: the addresses of a driver's entries, and the bad blocks of its disk.

-- ---- bad blocks

-- a disk's bad blocks; other devices have none
abbrev pub bad_of_kind : DeviceKind → List BadBlock
bad_of_kind (kind.Disk k) = k.bad
bad_of_kind _ = []

abbrev pub bad_of : DeviceState → List BadBlock
bad_of d = bad_of_kind d.kind

given_by_choice : (bad : List BadBlock) (d : DeviceState) (test : Bool) (x y : Option Given) →
    bad_of (device_given x d) ≡ bad → bad_of (device_given y d) ≡ bad → bad_of (device_given (if test then x else y) d) ≡ bad
given_by_choice bad d true x y p q = p
given_by_choice bad d false x y p q = q

taken_by_choice : (bad : List BadBlock) (d : DeviceState) (test : Bool) (x y : Option Taken) →
    bad_of (device_after x d) ≡ bad → bad_of (device_after y d) ≡ bad → bad_of (device_after (if test then x else y) d) ≡ bad
taken_by_choice bad d true x y p q = p
taken_by_choice bad d false x y p q = q

kind_input_bad : (port : ℕ) (registers : List ℕ) (k : DeviceKind) →
    bad_of (device_given (kind_input port (device_of registers k) k) (device_of registers k)) ≡ bad_of_kind k
kind_input_bad port registers (kind.Disk k) =
    given_by_choice _ _ (port == 1) _ _ refl (given_by_choice _ _ (port == 2) _ _ refl (given_by_choice _ _ (port == 3) _ _ refl refl))
kind_input_bad port registers (kind.Link k) =
    given_by_choice _ _ (port == 1) _ _ refl (given_by_choice _ _ (port == 3) _ _ refl (given_by_choice _ _ (port == 4) _ _ refl refl))
kind_input_bad port registers kind.Speaker = refl

commanded_bad : (word : ℕ) (k : Disk) → (commanded word k).bad ≡ k.bad
commanded_bad word k = split (is_failing k)
    (λ e. rw e refl)
    (λ e. rw e refl)

kind_output_bad : (port word : ℕ) (registers : List ℕ) (k : DeviceKind) →
    bad_of (device_after (kind_output port word (device_of registers k) k) (device_of registers k)) ≡ bad_of_kind k
kind_output_bad port word registers (kind.Disk k) =
    taken_by_choice _ _ (port == 0) _ _ (taken_by_choice _ _ (is_command word k) _ _ (commanded_bad word k) refl)
    (taken_by_choice _ _ (port == 1) _ _ refl (taken_by_choice _ _ (port == 2) _ _ refl refl))
kind_output_bad port word registers (kind.Link k) =
    taken_by_choice _ _ (port == 0) _ _
    (taken_by_choice _ _ (word == 1 && (nat_le 1 k.length && nat_le k.length 64)) _ _ refl
    (taken_by_choice _ _ (word == 2 && not (is_empty k.ring)) _ _ refl refl))
    (taken_by_choice _ _ (port == 1) _ _ refl
    (taken_by_choice _ _ (port == 2) _ _ (taken_by_choice _ _ (nat_lt k.position 64) _ _ refl refl) refl))
kind_output_bad port word registers kind.Speaker = taken_by_choice _ _ (port == 0) _ _ refl refl

input_bad : (port : ℕ) (d : DeviceState) → bad_of (device_given (input_of port d) d) ≡ bad_of d
input_bad port d =
    given_by_choice _ _ (is_register_port port) _ _ refl (kind_input_bad port d.registers d.kind)

output_bad : (port word : ℕ) (d : DeviceState) → bad_of (device_after (output_of port word d) d) ≡ bad_of d
output_bad port word d =
    taken_by_choice _ _ (is_register_port port) _ _ refl (kind_output_bad port word d.registers d.kind)

-- an instruction

abbrev KeepsBad : Machine → Executed → Type 0
KeepsBad m t = bad_of t.machine.device ≡ bad_of m.device

past_read_bad : (m : Machine) (a address : ℕ) (o : Option ℕ) → KeepsBad m (past_read m a address o)
past_read_bad m a address None = refl
past_read_bad m a address (Some word) = refl

past_input_bad : (m : Machine) (a port : ℕ) (o : Option Given) → bad_of (device_given o m.device) ≡ bad_of m.device
    → KeepsBad m (past_input m a port o)
past_input_bad m a port None h = refl
past_input_bad m a port (Some given) h = h

past_output_bad : (m : Machine) (port : ℕ) (o : Option Taken) → bad_of (device_after o m.device) ≡ bad_of m.device
    → KeepsBad m (past_output m port o)
past_output_bad m port None h = refl
past_output_bad m port (Some taken) h = h

stores_bad : (entries : List Entry) (m : Machine) (a address : ℕ) → KeepsBad m (stores entries m a address)
stores_bad entries m a address = split (may_write entries address)
    (λ e. rw e refl)
    (λ e. rw e refl)

executed_bad : (entries : List Entry) (m : Machine) (i : Instr) → KeepsBad m (executed entries m i)
executed_bad entries m (instr.Ld a b imm) = past_read_bad m a ((r m b + imm) % 2 ^ 32) (read_word m.memory ((r m b + imm) % 2 ^ 32))
executed_bad entries m (instr.St a b imm) = stores_bad entries m a ((r m b + imm) % 2 ^ 32)
executed_bad entries m (instr.In a imm) = past_input_bad m a imm (input_of imm m.device) (input_bad imm m.device)
executed_bad entries m (instr.Out a imm) = past_output_bad m imm (output_of imm (r m a) m.device) (output_bad imm (r m a) m.device)
executed_bad entries m _ = refl

past_decode_bad : (entries : List Entry) (m : Machine) (o : Option Instr) → KeepsBad m (past_decode entries m o)
past_decode_bad entries m None = refl
past_decode_bad entries m (Some i) = executed_bad entries m i

past_fetch_bad : (entries : List Entry) (m : Machine) (o : Option ℕ) → KeepsBad m (past_fetch entries m o)
past_fetch_bad entries m None = refl
past_fetch_bad entries m (Some word) = past_decode_bad entries m (decode_of word)

turn_bad : (entries : List Entry) (m : Machine) → bad_of (turn entries m).machine.device ≡ bad_of m.device
unfolding turn
turn_bad entries m = past_fetch_bad entries m (fetch_word m.memory m.cpu.counter)

burst_bad : (entries : List Entry) (faults : List Fault) (m : Machine)
    → bad_of (burst entries faults m).machine.device ≡ bad_of m.device
burst_bad entries faults m =
    burst_keeps (λ m' acts. bad_of m'.device ≡ bad_of m.device) (λ f. Unit {0}) entries
    (λ m' acts k. turn_bad entries m' ∙ k)
    (λ f m' acts c k. k)
    faults m (every_fault faults) refl

reset_bad : (k : DeviceKind) → bad_of_kind (reset_kind k) ≡ bad_of_kind k
reset_bad (kind.Disk k) = refl
reset_bad (kind.Link k) = refl
reset_bad kind.Speaker = refl

arrival_bad : (frame : List ℕ) (k : DeviceKind) → bad_of_kind (kind_with_arrival frame k) ≡ bad_of_kind k
arrival_bad frame (kind.Disk k) = refl
arrival_bad frame (kind.Link k) = refl
arrival_bad frame kind.Speaker = refl

-- ---- the driver's entries

abbrev SameStarts : PartState → PartState → Type 0
SameStarts p q = q.domain.starts ≡ p.domain.starts

fails_starts : (p : PartState) → SameStarts p (fails p)
unfolding fails noted
fails_starts p = refl

serve_starts : (number context : ℕ) (p : PartState) (o : Result Service BadParam) → SameStarts p (serve_by number context p o).state
unfolding result_set
serve_starts number context p (Err bad) = fails_starts p
serve_starts number context p (Ok s) = refl

noted_set_starts : (o : Op) (d : DomainState) → (noted_set o d).starts ≡ d.starts
unfolding noted
noted_set_starts (op.Set key value) d = refl
noted_set_starts _ d = refl

closes_starts : (c : CallEntry) (p : PartState) → SameStarts p (closes_call c p)
unfolding closes_call left_domain
closes_starts c p = noted_set_starts c.op (left_domain c.thread p.domain)

reply_starts : (c : CallEntry) (status : ℕ) (p : PartState) (o : Accept) → SameStarts p (reply_by c status p o).state
reply_starts c status p accepts.Take = closes_starts c p
reply_starts c status p (accepts.IoError block) = closes_starts c p
reply_starts c status p (accepts.Fail cause) = fails_starts p

call_reply_starts : (status : ℕ) (p : PartState) (o : Option CallEntry) → SameStarts p (call_replied status p o).state
call_reply_starts status p None = refl
call_reply_starts status p (Some c) = reply_starts c status p (accept c.op status)

next_stage_starts : (p : PartState) → SameStarts p (next_stage p)
unfolding next_stage left_domain
next_stage_starts p = refl

shadow_reply_starts : (status : ℕ) (p : PartState) → SameStarts p (shadow_replied status p).state
shadow_reply_starts status p = split (is_accepted status p)
    (λ e. rw e (next_stage_starts p))
    (λ e. rw e (fails_starts p))

crossing_starts : (context : ℕ) (e : BurstEnd) (p : PartState) → SameStarts p (after_crossing context e p).state
unfolding after_crossing
crossing_starts context (ends.Trap cause) p = fails_starts p
crossing_starts context (ends.Kcall number) p = split (is_last context p)
    (λ last. rw last (fails_starts p))
    (λ early. rw early (serve_starts number context p
    (checked number (first_argument context p.domain) (second_argument context p.domain) p.spec.class p.domain.entries)))
crossing_starts context ends.Pause p = split (is_last context p)
    (λ last. rw last (fails_starts p))
    (λ early. rw early refl)
crossing_starts context (ends.Reply status) p = split (context == 16)
    (λ own. rw own (shadow_reply_starts status p))
    (λ other. rw other (call_reply_starts status p (call_of_thread context p.log.pending)))

-- ---- steps

-- the entries and the bad blocks of a domain are another's
pub record IsUnchanged (d e : DomainState) : Type 0 where
  pub starts : e.starts ≡ d.starts
  pub bad : bad_of e.device ≡ bad_of d.device

same : (d : DomainState) → IsUnchanged d d
same d = record { starts = refl; bad = refl }

abbrev Leaves : PartState → Stepped → Type 0
Leaves p t = IsUnchanged p.domain t.state.domain

invoke_leaves : (p : PartState) (thread : ℕ) (o : Op) (a : Option Answer) → Leaves p (invoked_by p thread o a)
invoke_leaves p thread o None = same p.domain
invoke_leaves p thread o (Some a) = same p.domain

admitted_leaves : (p : PartState) (c : CallEntry) (a : Admit) → Leaves p (after_admit p c a)
unfolding entered_domain
admitted_leaves p c (admits.Reply a) = same p.domain
admitted_leaves p c admits.TakeFrame = same p.domain
admitted_leaves p c (admits.Enter index) = record { starts = refl; bad = refl }

enter_leaves : (p : PartState) (thread : ℕ) (o : Option CallEntry) → Leaves p (entered_by p thread o)
enter_leaves p thread None = same p.domain
enter_leaves p thread (Some c) = admitted_leaves p c (admit p.spec.class thread c.op p.log.holder (length p.queue))

burst_by_leaves : (context : ℕ) (faults : List Fault) (d : DomainState) (o : Option Context)
    → IsUnchanged d (burst_by context faults d o).domain
burst_by_leaves context faults d None = same d
burst_by_leaves context faults d (Some x) = record { starts = refl; bad = burst_bad d.entries faults (machine_of x d) }

domain_burst_leaves : (context : ℕ) (faults : List Fault) (d : DomainState)
    → IsUnchanged d (domain_burst context faults d).domain
unfolding domain_burst
domain_burst_leaves context faults d = burst_by_leaves context faults d (context_of context d.contexts)

past_burst_leaves : (context : ℕ) (p : PartState) (b : DomainBurst) → IsUnchanged p.domain b.domain
    → Leaves p (burst_step context p b)
past_burst_leaves context p b u = record {
  starts = crossing_starts context b.ending (with_burst b.domain p) ∙ u.starts;
  bad = ap bad_of (crossing_untouched context b.ending (with_burst b.domain p)) ∙ u.bad;
}

stage_leaves : (p : PartState) (s : Stage) → Leaves p (stage_done s p)
unfolding stops gives_up_part collects resets loads_image inits replays_set replays_open resumes stopped_domain collected_domain loaded_domain plainly_entered entered_domain reset_device
stage_leaves p stage.Stop = split (is_given_up p)
    (λ e. rw e (record { starts = refl; bad = refl }))
    (λ e. rw e (record { starts = refl; bad = refl }))
stage_leaves p stage.Collect = record { starts = refl; bad = refl }
stage_leaves p stage.Reset = record { starts = refl; bad = reset_bad p.domain.device.kind }
stage_leaves p stage.Load = record { starts = refl; bad = refl }
stage_leaves p stage.Init = record { starts = refl; bad = refl }
stage_leaves p (stage.ReplaySet key value) = record { starts = refl; bad = refl }
stage_leaves p stage.ReplayOpen = record { starts = refl; bad = refl }
stage_leaves p stage.Resume = same p.domain

stage_by_leaves : (p : PartState) (o : Option Stage) → Leaves p (stage_by p o)
stage_by_leaves p None = same p.domain
stage_by_leaves p (Some s) = stage_leaves p s

pub step_leaves : (p : PartState) (s : Step) → IsUnchanged p.domain (state_after p s).domain
unfolding stepped after_invoke after_enter burst_stepped stage_stepped after_arrival with_arrival
step_leaves p (step.Invoke thread o) = invoke_leaves p thread o (static_check p.spec.class p.spec.blocks o)
step_leaves p (step.Enter thread) = enter_leaves p thread (call_of_thread thread p.log.pending)
step_leaves p (step.Burst context) =
    past_burst_leaves context p (domain_burst context (faults_of_burst (p.bursts + 1) p.spec.faults) p.domain)
    (domain_burst_leaves context (faults_of_burst (p.bursts + 1) p.spec.faults) p.domain)
step_leaves p step.Stage = stage_by_leaves p (stage_due p.mode)
step_leaves p (step.Arrive frame) = record { starts = refl; bad = arrival_bad frame p.domain.device.kind }

pub events_leave : (p : PartState) (events : List Event) → IsUnchanged p.domain (state_from p events).domain
unfolding state_from
events_leave p [] = same p.domain
events_leave p (e ∷ events) =
    let first = step_leaves p (step_of e) in
    let more = events_leave (state_after p (step_of e)) events in
    record { starts = more.starts ∙ first.starts; bad = more.bad ∙ first.bad }
