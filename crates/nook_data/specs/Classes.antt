use Rattle.std.specs.Prelude.{ℕ, Bool, true, false, List, [], ◌∷◌, length, Option, Some, None, ◌+◌, ◌-◌, ◌*◌, ◌/◌, ◌%◌}
use Rattle.std.specs.Prelude.{nat_le, nat_lt, ◌==◌, ◌&&◌, ◌||◌, if◌then◌else◌, slice_index, bytes_eq}
use Rattle.nook_data.specs.Types.{Accept, Admit, Answer, Class, Op}
use Rattle.nook_data.specs.declared.classes.Accept.TheVariants as accepted
use Rattle.nook_data.specs.declared.classes.Admit.TheVariants.{Reply, TakeFrame, Enter}
use Rattle.nook_data.specs.declared.calls.Answer.TheVariants as answer
use Rattle.nook_data.specs.declared.classes.Class.TheVariants.{Block, Net, Sound}
use Rattle.nook_data.specs.declared.steps.FailCause.TheVariants.{BadReply}
use Rattle.nook_data.specs.declared.limits.TheConstants.{BLOCK_WORDS, MOST_BLOCKS, MOST_FRAME_WORDS}
use Rattle.nook_data.specs.declared.calls.Op.TheVariants.{Read, Write, Send, Recv, Open, Play, Close, Get, Set}

-- the number by which a driver registers for its class
abbrev pub class_code : Class → ℕ
class_code class = elim class [ Block ↦ 0 | Net ↦ 1 | Sound ↦ 2 ]

-- the two classes are the same
abbrev pub same_class : Class → Class → Bool
same_class a b = class_code a == class_code b

-- ---- configuration

-- the initial value of each configuration register and of the record, by key 0 to 3
abbrev pub default_of : Class → ℕ → ℕ
default_of Block key = 0
default_of Net key = if key == 0 then 100 else if key == 1 then 1 else 0
default_of Sound key = if key == 0 then 8000 else if key == 1 then 5 else if key == 2 then 1 else 0

-- the greatest valid value of a key
abbrev pub maximum_of : Class → ℕ → ℕ
maximum_of Block key = if key == 0 then 1 else if key == 1 then 8 else 4294967295
maximum_of Net key = if key == 0 then 1000 else if key == 1 then 1 else if key == 2 then 255 else 4294967295
maximum_of Sound key = if key == 0 then 48000 else if key == 1 then 10 else if key == 2 then 2 else 4294967295

-- the four defaults of a class
abbrev pub defaults_of : Class → List ℕ
defaults_of class = default_of class 0 ∷ default_of class 1 ∷ default_of class 2 ∷ default_of class 3 ∷ []

-- ---- operations

-- Read and Write are of class block; Send and Recv of net; Open, Play and Close of sound; Get and Set of each
abbrev pub is_of_class : Class → Op → Bool
is_of_class class (Read first count) = same_class class Block
is_of_class class (Write first words) = same_class class Block
is_of_class class (Send frame) = same_class class Net
is_of_class class Recv = same_class class Net
is_of_class class Open = same_class class Sound
is_of_class class (Play samples) = same_class class Sound
is_of_class class Close = same_class class Sound
is_of_class class o = true

-- a Write
abbrev pub is_write : Op → Bool
is_write o = elim o [ (Write first words) ↦ true | _ ↦ false ]

-- a Set
abbrev pub is_set : Op → Bool
is_set o = elim o [ (Set key value) ↦ true | _ ↦ false ]

-- a Recv
abbrev pub is_recv : Op → Bool
is_recv o = elim o [ Recv ↦ true | _ ↦ false ]

-- a Play
abbrev pub is_play : Op → Bool
is_play o = elim o [ (Play samples) ↦ true | _ ↦ false ]

-- a Send of this frame
abbrev pub sends : List ℕ → Op → Bool
sends frame o = elim o [ (Send own) ↦ bytes_eq own frame | _ ↦ false ]

-- the word is the next sample of a Play of which this many samples were played
abbrev pub is_next : Op → ℕ → ℕ → Bool
is_next (Play samples) played word = nat_lt played (length samples) && (slice_index samples played == word)
is_next o played word = false

-- Open, Play and Close
abbrev pub is_of_stream : Op → Bool
is_of_stream o = elim o [ Open ↦ true | (Play samples) ↦ true | Close ↦ true | _ ↦ false ]

-- the first block of a Read or Write
abbrev pub first_of_op : Op → ℕ
first_of_op (Read first count) = first
first_of_op (Write first words) = first
first_of_op o = 0

-- how many blocks an operation covers
abbrev pub blocks_of_op : Op → ℕ
blocks_of_op (Read first count) = count
blocks_of_op (Write first words) = length words / BLOCK_WORDS
blocks_of_op o = 0

-- the Read or Write covers the block
abbrev pub covers : Op → ℕ → Bool
covers o block = nat_le (first_of_op o) block && nat_lt block (first_of_op o + blocks_of_op o)

-- ---- the static check: what is wrong with an operation in every state of the part

-- checks that a range of blocks fits on a disk with this many blocks
abbrev pub check_range : ℕ → ℕ → ℕ → Option Answer
check_range blocks first count = if nat_le (first + count) blocks then None else Some answer.BadRange

-- checks the length of a frame or of samples
abbrev pub check_length : List ℕ → Option Answer
check_length words =
    if nat_le 1 (length words) && nat_le (length words) MOST_FRAME_WORDS then None else Some answer.BadLength

-- the number of words is that of 1 to 8 blocks
abbrev pub is_block_length : ℕ → Bool
is_block_length n = nat_le BLOCK_WORDS n && nat_le n (MOST_BLOCKS * BLOCK_WORDS) && (n % BLOCK_WORDS == 0)

-- checks the arguments of an operation of the class
abbrev pub check_op : Class → ℕ → Op → Option Answer
check_op class blocks (Read first count) =
    if nat_le 1 count && nat_le count MOST_BLOCKS then check_range blocks first count else Some answer.BadLength
check_op class blocks (Write first words) =
    if is_block_length (length words) then check_range blocks first (length words / BLOCK_WORDS)
    else Some answer.BadLength
check_op class blocks (Send frame) = check_length frame
check_op class blocks (Play samples) = check_length samples
check_op class blocks (Get key) = if nat_le key 3 then None else Some answer.BadKey
check_op class blocks (Set key value) =
    if nat_le key 3 then if nat_le value (maximum_of class key) then None else Some answer.BadValue
    else Some answer.BadKey
check_op class blocks o = None

-- the answer that an operation gets in every state, if there is one; the second argument is the disk's blocks
abbrev pub static_check : Class → ℕ → Op → Option Answer
static_check class blocks o = if is_of_class class o then check_op class blocks o else Some answer.BadClass

-- ---- conflicts: of two conflicting open calls, the later one waits for the earlier

-- the two ranges of blocks overlap
abbrev pub share_block : Op → Op → Bool
share_block a b =
    nat_lt (first_of_op a) (first_of_op b + blocks_of_op b) && nat_lt (first_of_op b) (first_of_op a + blocks_of_op a)

-- two operations of a class conflict; neither is a Set
abbrev pub clash : Class → Op → Op → Bool
clash Block a b = (is_write a || is_write b) && share_block a b
clash Net a b = is_recv a && is_recv b
clash Sound a b = is_of_stream a && is_of_stream b

-- a Set conflicts with every call
abbrev pub conflicts : Class → Op → Op → Bool
conflicts class a b = is_set a || is_set b || clash class a b

-- ---- the entries of a driver, in the class's order

-- how many entries a driver of the class has
abbrev pub entry_count : Class → ℕ
entry_count class = elim class [ Block ↦ 5 | Net ↦ 5 | Sound ↦ 6 ]

-- the index of Init among the entries
abbrev pub init_address : ℕ
init_address = 0

-- the index of Open among the entries
abbrev pub open_point : ℕ
open_point = 1

-- the index of Get among the entries
abbrev pub get_number : Class → ℕ
get_number class = elim class [ Block ↦ 3 | Net ↦ 3 | Sound ↦ 4 ]

-- the index of Set among the entries
abbrev pub set_position : Class → ℕ
set_position class = elim class [ Block ↦ 4 | Net ↦ 4 | Sound ↦ 5 ]

-- the index of an operation's entry
abbrev pub entry_address : Class → Op → ℕ
entry_address class (Read first count) = 1
entry_address class (Write first words) = 2
entry_address class (Send frame) = 1
entry_address class Recv = 2
entry_address class Open = open_point
entry_address class (Play samples) = 2
entry_address class Close = 3
entry_address class (Get key) = get_number class
entry_address class (Set key value) = set_position class

-- ---- at Enter

-- the thread holds the stream
abbrev pub is_holder : Option ℕ → ℕ → Bool
is_holder None thread = false
is_holder (Some holder) thread = holder == thread

-- admits a Play or Close, which only the holder may do
abbrev pub admit_holder : Bool → ℕ → Admit
admit_holder true index = Enter index
admit_holder false index = Reply answer.NotOpen

-- what becomes of a thread's call at its Enter, given the stream's holder and the number of frames in the queue
abbrev pub admit : Class → ℕ → Op → Option ℕ → ℕ → Admit
admit class thread Recv holder queued = if queued == 0 then Enter (entry_address class Recv) else TakeFrame
admit class thread Open holder queued = elim holder [ None ↦ Enter open_point | Some one ↦ Reply (answer.InUse one) ]
admit class thread (Play samples) holder queued =
    admit_holder (is_holder holder thread) (entry_address class (Play samples))
admit class thread Close holder queued = admit_holder (is_holder holder thread) (entry_address class Close)
admit class thread o holder queued = Enter (entry_address class o)

-- ---- at the driver's reply

-- status 256 + i of a Read or Write reports that its block with index i failed
abbrev pub is_io_status : Op → ℕ → Bool
is_io_status o status = nat_le 256 status && nat_lt (status - 256) (blocks_of_op o)

-- what the status of a reply means for an operation
abbrev pub accept : Op → ℕ → Accept
accept o status = if status == 0 then accepted.Take
    else if is_io_status o status then accepted.IoError (first_of_op o + (status - 256))
    else accepted.Fail (BadReply status)
