use Rattle.std.specs.Prelude.{ℕ, ◌+◌, ◌-◌, ◌%◌, ◌^◌, min, ◌==◌, ◌&&◌, ◌||◌, nat_le, nat_lt, not, if◌then◌else◌, Bool}
use Rattle.std.specs.Prelude.{Option, Some, None, List, [], ◌∷◌, ◌++◌, take, length, replicate, slice_get}
use Rattle.std.specs.Prelude.{slice_index, slice_index_or, slice_set, unwrap_or}
use Rattle.std.specs.List.{list_any}
use Rattle.nook_data.specs.Types.{Act, BadBlock, Class, DeviceKind, DeviceState, Disk, Link}
use Rattle.nook_data.specs.declared.machine.Act.TheVariants as act
use Rattle.nook_data.specs.declared.classes.Class.TheVariants as class
use Rattle.nook_data.specs.declared.devices.DeviceKind.TheVariants as kind
use Rattle.nook_data.specs.declared.limits.TheConstants.{BLOCK_WORDS, MOST_FRAME_WORDS, MOST_RING_FRAMES}
use Rattle.nook_data.specs.Frames.{head_of, is_empty, tail_of}

-- what a device returns at a port, and the device after it
pub record Given : Type 0 where
  pub word : ℕ
  pub device : DeviceState

-- the act of a device that took a word at a port, if it did one, and the device after it
pub record Taken : Type 0 where
  pub act : Option Act
  pub device : DeviceState

-- a port is read: the word that the driver gets, and the device after it
abbrev pub gives : ℕ → DeviceState → Option Given
gives word device = Some (record { word = word; device = device })

-- a port is written: the act, if one is done, and the device after it
abbrev pub takes : Option Act → DeviceState → Option Taken
takes done device = Some (record { act = done; device = device })

-- the device with another disk
abbrev pub with_disk : DeviceState → Disk → DeviceState
with_disk d k = record d { kind = kind.Disk k }

-- the device with another link
abbrev pub with_link : DeviceState → Link → DeviceState
with_link d k = record d { kind = kind.Link k }

-- the disk

-- the word is a command, and the block register names a block
abbrev pub is_command : ℕ → Disk → Bool
is_command word k = (word == 1 || word == 2) && nat_lt k.block (length k.medium)

-- a command on the block of the block register fails: the block is bad and had at least `after` commands
abbrev pub is_failing : Disk → Bool
is_failing k = list_any (λ b. b.block == k.block && nat_le b.after (slice_index k.counts k.block)) k.bad

-- the disk after any command: its block has one command more, up to the highest count, and the buffer is at its start
abbrev pub counted : ℕ → Disk → Disk
counted status k = record k {
  counts = slice_set k.counts k.block (min (slice_index k.counts k.block + 1) (2 ^ 32 - 1));
  position = 0;
  status = status;
}

-- the disk after a command: a failed one changes no words; otherwise a load fills the buffer, and a store the block
abbrev pub commanded : ℕ → Disk → Disk
commanded word k = if is_failing k then counted 1 k else record (counted 0 k) {
  medium = if word == 2 then slice_set k.medium k.block k.buffer else k.medium;
  buffer = if word == 1 then unwrap_or (slice_get k.medium k.block) [] else k.buffer;
}

-- the act of a command
abbrev pub command_act : ℕ → Disk → Act
command_act word k =
    if is_failing k then act.Failed k.block (word == 2)
    else if word == 1 then act.Load k.block
    else act.Store k.block k.buffer

-- what IN returns from a disk; a disk has no other ports
abbrev pub disk_input : ℕ → DeviceState → Disk → Option Given
disk_input port d k =
    if port == 1 then gives k.block d
    else if port == 2 then
    gives (slice_index k.buffer k.position) (with_disk d (record k { position = (k.position + 1) % BLOCK_WORDS }))
    else if port == 3 then gives k.status d else None

-- what OUT does to a disk; a disk has no other ports
abbrev pub disk_output : ℕ → ℕ → DeviceState → Disk → Option Taken
disk_output port word d k =
    if port == 0 then
    if is_command word k then takes (Some (command_act word k)) (with_disk d (commanded word k)) else takes None d
    else if port == 1 then takes None (with_disk d (record k { block = word; position = 0 }))
    else if port == 2 then
    takes None (with_disk d (record k {
      buffer = slice_set k.buffer k.position word;
      position = (k.position + 1) % BLOCK_WORDS;
    }))
    else None

-- the net device

-- the receive position after a word was read: it stays if the ring is empty, and never passes the longest frame
abbrev pub next_reading : Link → ℕ
next_reading k = if is_empty k.ring then k.reading else min (k.reading + 1) MOST_FRAME_WORDS

-- what IN returns from a link; a link has no other ports
abbrev pub link_input : ℕ → DeviceState → Link → Option Given
link_input port d k =
    if port == 1 then gives k.length d
    else if port == 3 then gives (length (head_of k.ring)) d
    else if port == 4 then
    gives (slice_index_or (head_of k.ring) k.reading 0) (with_link d (record k { reading = next_reading k })) else None

-- word 1 sends the first words of the transmit buffer, word 2 takes the first frame off the ring
abbrev pub link_command : ℕ → DeviceState → Link → Option Taken
link_command word d k =
    if word == 1 && (nat_le 1 k.length && nat_le k.length MOST_FRAME_WORDS) then
    takes (Some (act.Sent (take k.length k.buffer))) d
    else if word == 2 && not (is_empty k.ring) then
    takes (Some (act.Popped (head_of k.ring))) (with_link d (record k { ring = tail_of k.ring; reading = 0 }))
    else takes None d

-- what OUT does to a link; a link has no other ports
abbrev pub link_output : ℕ → ℕ → DeviceState → Link → Option Taken
link_output port word d k =
    if port == 0 then link_command word d k
    else if port == 1 then
    takes None (with_link d (record k { length = word; buffer = replicate MOST_FRAME_WORDS 0; position = 0 }))
    else if port == 2 then
    if nat_lt k.position MOST_FRAME_WORDS then
    takes None (with_link d (record k { buffer = slice_set k.buffer k.position word; position = k.position + 1 }))
    else takes None d else None

-- what OUT does to a speaker: a sample is played at the rate and the volume of its registers
abbrev pub speaker_output : ℕ → ℕ → DeviceState → Option Taken
speaker_output port word d =
    if port == 0 then takes (Some (act.Played word (slice_index d.registers 0) (slice_index d.registers 1))) d else None

-- all devices

-- what OUT does at a port of the class
abbrev pub kind_output : ℕ → ℕ → DeviceState → DeviceKind → Option Taken
kind_output port word d (kind.Disk k) = disk_output port word d k
kind_output port word d (kind.Link k) = link_output port word d k
kind_output port word d kind.Speaker = speaker_output port word d

-- ports 8 to 11 are the registers
abbrev pub is_register_port : ℕ → Bool
is_register_port port = nat_le 8 port && nat_le port 11

-- what IN returns at a port; None if there is no such port
abbrev pub input_of : ℕ → DeviceState → Option Given
input_of port d = if is_register_port port then gives (slice_index d.registers (port - 8)) d else elim d.kind [
  | (kind.Disk k) ↦ disk_input port d k
  | (kind.Link k) ↦ link_input port d k
  | kind.Speaker ↦ None
]

-- what OUT does at a port; None if there is no such port
abbrev pub output_of : ℕ → ℕ → DeviceState → Option Taken
output_of port word d =
    if is_register_port port then
    takes (Some (act.Register (port - 8) word)) (record d { registers = slice_set d.registers (port - 8) word })
    else kind_output port word d d.kind

-- a link with an empty ring and a cleared transmit buffer
abbrev pub idle_link : Link
idle_link = record { length = 0; buffer = replicate MOST_FRAME_WORDS 0; position = 0; ring = []; reading = 0 }

-- a reset clears everything except the medium, the bad blocks and the counts of commands
abbrev pub reset_kind : DeviceKind → DeviceKind
reset_kind (kind.Disk k) =
    kind.Disk (record k { block = 0; buffer = replicate BLOCK_WORDS 0; position = 0; status = 0 })
reset_kind (kind.Link k) = kind.Link idle_link
reset_kind kind.Speaker = kind.Speaker

-- a reset: the registers get the defaults, and all else is cleared except the medium, bad blocks and command counts
unfoldable pub reset_device : List ℕ → DeviceState → DeviceState
reset_device defaults d = record { registers = defaults; kind = reset_kind d.kind }

-- the initial device of a class
abbrev pub opening_kind : Class → ℕ → List BadBlock → DeviceKind
opening_kind class.Block blocks bad = kind.Disk (record {
  medium = replicate blocks (replicate BLOCK_WORDS 0);
  bad = bad;
  counts = replicate blocks 0;
  block = 0;
  buffer = replicate BLOCK_WORDS 0;
  position = 0;
  status = 0;
})
opening_kind class.Net blocks bad = kind.Link idle_link
opening_kind class.Sound blocks bad = kind.Speaker

-- the initial device: as after a reset, with a medium of zeros
unfoldable pub opening_device : Class → ℕ → List BadBlock → List ℕ → DeviceState
opening_device c blocks bad defaults = record { registers = defaults; kind = opening_kind c blocks bad }

-- the frames that wait in the ring; only a link has any
abbrev pub ring_of : DeviceState → List (List ℕ)
ring_of d = elim d.kind [ (kind.Link k) ↦ k.ring | _ ↦ [] ]

-- a disk's blocks; the other devices have none
abbrev pub medium_of : DeviceState → List (List ℕ)
medium_of d = elim d.kind [ (kind.Disk k) ↦ k.medium | _ ↦ [] ]

-- the ring holds fewer frames than its maximum, so that it keeps an arriving frame
abbrev pub is_below_most : List (List ℕ) → Bool
is_below_most ring = nat_lt (length ring) MOST_RING_FRAMES

-- the device would keep a frame that arrives now
abbrev pub has_room : DeviceState → Bool
has_room d = is_below_most (ring_of d)

-- the device after a frame arrived in the ring; only a link takes it
unfoldable pub with_arrival : List ℕ → DeviceState → DeviceState
with_arrival frame d = record d {
  kind = elim d.kind [
    | (kind.Link k) ↦ kind.Link (record k { ring = if is_below_most k.ring then k.ring ++ frame ∷ [] else k.ring })
    | other ↦ other
  ];
}
