use Rattle.std.proofs.Common.{◌≡◌, ℕ, ◌+◌, ◌-◌, ◌%◌, ◌^◌, ◌<◌, ◌≤◌, ◌==◌, ◌&&◌, ◌||◌, nat_le, nat_lt, not, true, false, Option, Some, None, List, [], ◌∷◌, ◌++◌, drop, length, refl, sym, ap, ◌∙◌, append-nil, arith, subst, true≢false, eqb-true}
use Rattle.std.proofs.lemmas.Bool.{and_parts, ltb-true, leb-true, not-true}
use Rattle.nook_data.specs.declared.machine.Act.{Act}
use Rattle.nook_data.specs.declared.machine.Act.TheVariants as act
use Rattle.nook_data.specs.declared.devices.DeviceKind.{DeviceKind}
use Rattle.nook_data.specs.declared.devices.DeviceKind.TheVariants as kind
use Rattle.nook_data.specs.declared.devices.DeviceState.{DeviceState}
use Rattle.nook_data.specs.declared.devices.Disk.{Disk}
use Rattle.nook_data.specs.declared.devices.Link.{Link}
use Rattle.nook_data.specs.declared.entries.Entry.{Entry}
use Rattle.nook_data.specs.declared.scenario.Fault.{Fault}
use Rattle.nook_data.specs.declared.machine.Instr.{Instr}
use Rattle.nook_data.specs.declared.machine.Instr.TheVariants as instr
use Rattle.machine_defs.specs.Burst.{burst, acts_of}
use Rattle.machine_defs.specs.Devices.{Given, Taken, input_of, output_of, kind_output, disk_input, disk_output}
use Rattle.machine_defs.specs.Devices.{link_input, link_output, link_command, speaker_output, is_register_port}
use Rattle.machine_defs.specs.Devices.{is_command, is_failing, command_act, commanded, with_disk, with_link}
use Rattle.nook_data.specs.Frames.{head_of, tail_of, is_empty}
use Rattle.machine_defs.proofs.MachineCases.{kind_input, past_decode, past_fetch, past_read}
use Rattle.machine_defs.specs.Machine.{decode_of}
use Rattle.machine_defs.specs.Pages.{may_write, read_word, fetch_word}
use Rattle.machine_defs.specs.Execution.{Machine, Executed, turn, executed, past_input, past_output, stores, r}
use Rattle.machine_defs.proofs.BurstKeeps.{split, every_fault, burst_keeps}
use Rattle.part_laws.specs.ActsOn.{Dev, dev_of, act_on, acts_on, Fits, ActsFit, Reports}

-- an instruction's act, if it does one, determines the device after it
abbrev Determined : DeviceState → DeviceState → Option Act → Type 0
Determined d e None = dev_of e ≡ dev_of d
Determined d e (Some a) = (dev_of e ≡ act_on a (dev_of d)) × Fits a (dev_of d)

abbrev TakenDetermined : DeviceState → Option Taken → Type 0
TakenDetermined d None = Unit {0}
TakenDetermined d (Some taken) = Determined d taken.device taken.act

abbrev GivenDetermined : DeviceState → Option Given → Type 0
GivenDetermined d None = Unit {0}
GivenDetermined d (Some given) = dev_of given.device ≡ dev_of d

abbrev device : List ℕ → DeviceKind → DeviceState
device registers k = record { registers = registers; kind = k }

-- the disk

one_and_two : (word : ℕ) → (word == 1) ≡ true → (word == 2) ≡ true → ⊥
one_and_two word one two =
    let a : word ≡ 1 = eqb-true word 1 one in
    let b : word ≡ 2 = eqb-true word 2 two in
    omega arith

command_reported : (registers : List ℕ) (k : Disk) (word : ℕ) → is_command word k ≡ true
    → Determined (device registers (kind.Disk k)) (with_disk (device registers (kind.Disk k)) (commanded word k)) (Some (command_act word k))
command_reported registers k word h =
    let parts : ((word == 1 || word == 2) ≡ true) × (nat_lt k.block (length k.medium) ≡ true) =
    and_parts (word == 1 || word == 2) (nat_lt k.block (length k.medium)) h in
    let within : k.block < length k.medium = ltb-true k.block (length k.medium) parts.1 in
    split (is_failing k)
    (λ fails. rw fails (refl, within))
    (λ works. split (word == 1)
    (λ one. split (word == 2)
    (λ two. absurd (one_and_two word one two))
    (λ not_two. rw (works, one, not_two) (refl, within)))
    (λ not_one.
    let two : (word == 2) ≡ true = rw not_one at parts.0 in
    rw (works, not_one, two) (refl, within)))

disk_output_reported : (registers : List ℕ) (k : Disk) (port word : ℕ)
    → TakenDetermined (device registers (kind.Disk k)) (disk_output port word (device registers (kind.Disk k)) k)
disk_output_reported registers k port word =
    split (port == 0)
    (λ zero'. split (is_command word k)
    (λ command. rw (zero', command) (command_reported registers k word command))
    (λ none'. rw (zero', none') refl))
    (λ not_zero. split (port == 1)
    (λ one. rw (not_zero, one) refl)
    (λ not_one. split (port == 2)
    (λ two. rw (not_zero, not_one, two) refl)
    (λ not_two. rw (not_zero, not_one, not_two) tt)))

disk_input_reported : (registers : List ℕ) (k : Disk) (port : ℕ)
    → GivenDetermined (device registers (kind.Disk k)) (disk_input port (device registers (kind.Disk k)) k)
disk_input_reported registers k port =
    split (port == 1)
    (λ one. rw one refl)
    (λ not_one. split (port == 2)
    (λ two. rw (not_one, two) refl)
    (λ not_two. split (port == 3)
    (λ three. rw (not_one, not_two, three) refl)
    (λ not_three. rw (not_one, not_two, not_three) tt)))

-- the net device

ring_popped : (ring : List (List ℕ)) → is_empty ring ≡ false
    → (tail_of ring ≡ drop 1 ring) × ((rest : List (List ℕ)) × (ring ≡ head_of ring ∷ rest))
ring_popped [] h = absurd (true≢false h)
ring_popped (frame ∷ ring) h = (refl, (ring, refl))

popped_reported : (registers : List ℕ) (k : Link) → is_empty k.ring ≡ false
    → Determined (device registers (kind.Link k))
    (with_link (device registers (kind.Link k)) (record k { ring = tail_of k.ring; reading = 0 })) (Some (act.Popped (head_of k.ring)))
popped_reported registers k h =
    let p : (tail_of k.ring ≡ drop 1 k.ring) × ((rest : List (List ℕ)) × (k.ring ≡ head_of k.ring ∷ rest)) = ring_popped k.ring h in
    (ap (λ (ring : List (List ℕ)). record { linked = true; medium = []; ring = ring; registers = registers }) p.0, p.1)

link_command_reported : (registers : List ℕ) (k : Link) (word : ℕ)
    → TakenDetermined (device registers (kind.Link k)) (link_command word (device registers (kind.Link k)) k)
link_command_reported registers k word =
    split (word == 1 && (nat_le 1 k.length && nat_le k.length 64))
    (λ sends. rw sends (refl, tt))
    (λ none'. split (word == 2 && not (is_empty k.ring))
    (λ pops. rw (none', pops) (popped_reported registers k
    (not-true (is_empty k.ring) (and_parts (word == 2) (not (is_empty k.ring)) pops).1)))
    (λ none''. rw (none', none'') refl))

link_output_reported : (registers : List ℕ) (k : Link) (port word : ℕ)
    → TakenDetermined (device registers (kind.Link k)) (link_output port word (device registers (kind.Link k)) k)
link_output_reported registers k port word =
    split (port == 0)
    (λ zero'. rw zero' (link_command_reported registers k word))
    (λ not_zero. split (port == 1)
    (λ one. rw (not_zero, one) refl)
    (λ not_one. split (port == 2)
    (λ two. split (nat_lt k.position 64)
    (λ fits. rw (not_zero, not_one, two, fits) refl)
    (λ full. rw (not_zero, not_one, two, full) refl))
    (λ not_two. rw (not_zero, not_one, not_two) tt)))

link_input_reported : (registers : List ℕ) (k : Link) (port : ℕ)
    → GivenDetermined (device registers (kind.Link k)) (link_input port (device registers (kind.Link k)) k)
link_input_reported registers k port =
    split (port == 1)
    (λ one. rw one refl)
    (λ not_one. split (port == 3)
    (λ three. rw (not_one, three) refl)
    (λ not_three. split (port == 4)
    (λ four. rw (not_one, not_three, four) refl)
    (λ not_four. rw (not_one, not_three, not_four) tt)))

-- every device

speaker_output_reported : (registers : List ℕ) (port word : ℕ)
    → TakenDetermined (device registers kind.Speaker) (speaker_output port word (device registers kind.Speaker))
speaker_output_reported registers port word = split (port == 0)
    (λ zero'. rw zero' (refl, (refl, refl)))
    (λ other. rw other tt)

kind_output_reported : (registers : List ℕ) (k : DeviceKind) (port word : ℕ)
    → TakenDetermined (device registers k) (kind_output port word (device registers k) k)
kind_output_reported registers (kind.Disk k) port word = disk_output_reported registers k port word
kind_output_reported registers (kind.Link k) port word = link_output_reported registers k port word
kind_output_reported registers kind.Speaker port word = speaker_output_reported registers port word

kind_input_reported : (registers : List ℕ) (k : DeviceKind) (port : ℕ)
    → GivenDetermined (device registers k) (kind_input port (device registers k) k)
kind_input_reported registers (kind.Disk k) port = disk_input_reported registers k port
kind_input_reported registers (kind.Link k) port = link_input_reported registers k port
kind_input_reported registers kind.Speaker port = tt

register_key : (port : ℕ) → is_register_port port ≡ true → port - 8 < 4
register_key port h =
    let parts : (nat_le 8 port ≡ true) × (nat_le port 11 ≡ true) = and_parts (nat_le 8 port) (nat_le port 11) h in
    let low : 8 ≤ port = leb-true 8 port parts.0 in
    let high : port ≤ 11 = leb-true port 11 parts.1 in
    omega arith

output_reported : (d : DeviceState) (port word : ℕ) → TakenDetermined d (output_of port word d)
output_reported d port word = split (is_register_port port)
    (λ yes'. rw yes' (refl, register_key port yes'))
    (λ no'. rw no' (kind_output_reported d.registers d.kind port word))

input_reported : (d : DeviceState) (port : ℕ) → GivenDetermined d (input_of port d)
input_reported d port = split (is_register_port port)
    (λ yes'. rw yes' refl)
    (λ no'. rw no' (kind_input_reported d.registers d.kind port))

-- an instruction

abbrev InstructionDetermined : Machine → Executed → Type 0
InstructionDetermined m t = Determined m.device t.machine.device t.act

past_read_reported : (m : Machine) (a address : ℕ) (o : Option ℕ) → InstructionDetermined m (past_read m a address o)
past_read_reported m a address None = refl
past_read_reported m a address (Some word) = refl

past_input_reported : (m : Machine) (a port : ℕ) (o : Option Given) → GivenDetermined m.device o → InstructionDetermined m (past_input m a port o)
past_input_reported m a port None h = refl
past_input_reported m a port (Some given) h = h

past_output_reported : (m : Machine) (port : ℕ) (o : Option Taken) → TakenDetermined m.device o → InstructionDetermined m (past_output m port o)
past_output_reported m port None h = refl
past_output_reported m port (Some taken) h = h

stores_reported : (entries : List Entry) (m : Machine) (a address : ℕ) → InstructionDetermined m (stores entries m a address)
stores_reported entries m a address = split (may_write entries address)
    (λ e. rw e refl)
    (λ e. rw e refl)

executed_reported : (entries : List Entry) (m : Machine) (i : Instr) → InstructionDetermined m (executed entries m i)
executed_reported entries m (instr.Ld a b imm) = past_read_reported m a ((r m b + imm) % 2 ^ 32) (read_word m.memory ((r m b + imm) % 2 ^ 32))
executed_reported entries m (instr.St a b imm) = stores_reported entries m a ((r m b + imm) % 2 ^ 32)
executed_reported entries m (instr.In a imm) = past_input_reported m a imm (input_of imm m.device) (input_reported m.device imm)
executed_reported entries m (instr.Out a imm) = past_output_reported m imm (output_of imm (r m a) m.device) (output_reported m.device imm (r m a))
executed_reported entries m _ = refl

past_decode_reported : (entries : List Entry) (m : Machine) (o : Option Instr) → InstructionDetermined m (past_decode entries m o)
past_decode_reported entries m None = refl
past_decode_reported entries m (Some i) = executed_reported entries m i

past_fetch_reported : (entries : List Entry) (m : Machine) (o : Option ℕ) → InstructionDetermined m (past_fetch entries m o)
past_fetch_reported entries m None = refl
past_fetch_reported entries m (Some word) = past_decode_reported entries m (decode_of word)

turn_reported : (entries : List Entry) (m : Machine) → InstructionDetermined m (turn entries m)
unfolding turn
turn_reported entries m = past_fetch_reported entries m (fetch_word m.memory m.cpu.counter)

-- a burst

acts_on_push : (acts : List Act) (a : Act) (d : Dev) → acts_on (acts ++ a ∷ []) d ≡ act_on a (acts_on acts d)
acts_on_push [] a d = refl
acts_on_push (b ∷ acts) a d = acts_on_push acts a (act_on b d)

fit_push : (acts : List Act) (a : Act) (d : Dev) → ActsFit acts d → Fits a (acts_on acts d) → ActsFit (acts ++ a ∷ []) d
fit_push [] a d h f = (f, tt)
fit_push (b ∷ acts) a d h f = (h.0, fit_push acts a (act_on b d) h.1 f)

reported_more : (b : Dev) (d e : DeviceState) (acts : List Act) (o : Option Act) → Determined d e o → Reports b (dev_of d) acts
    → Reports b (dev_of e) (acts ++ acts_of o)
reported_more b d e acts None h t = rw (append-nil acts) (record { made = h ∙ t.made; fit = t.fit })
reported_more b d e acts (Some a) h t = record {
  made = h.0 ∙ ap (act_on a) t.made ∙ sym (acts_on_push acts a b);
  fit = fit_push acts a b t.fit (subst (λ x. Fits a x) t.made h.1);
}

-- a burst's acts determine its device
pub acts_determine : (entries : List Entry) (faults : List Fault) (m : Machine)
    → Reports (dev_of m.device) (dev_of (burst entries faults m).machine.device) (burst entries faults m).acts
acts_determine entries faults m =
    burst_keeps (λ m' acts. Reports (dev_of m.device) (dev_of m'.device) acts) (λ f. Unit {0}) entries
    (λ m' acts k. reported_more (dev_of m.device) m'.device (turn entries m').machine.device acts (turn entries m').act (turn_reported entries m') k)
    (λ f m' acts c k. k)
    faults m (every_fault faults) (record { made = refl; fit = tt })
