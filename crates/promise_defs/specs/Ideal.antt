use Rattle.std.specs.Prelude.{◌≡◌, ℕ, suc, Bool, true, false, List, [], ◌∷◌, ◌++◌, length, Option, Some, None, is_some}
use Rattle.std.specs.Prelude.{option_and_then, unwrap_or, ◌==◌, ◌&&◌, not, if◌then◌else◌, slice_index, slice_set}
use Rattle.std.specs.Prelude.{bytes_eq}
use Rattle.std.specs.List.{list_any}
use Rattle.nook_data.specs.Types.{Answer, Class, Op}
use Rattle.nook_data.specs.declared.calls.Answer.TheVariants as answered
use Rattle.nook_data.specs.declared.classes.Class.TheVariants.{Net, Sound}
use Rattle.nook_data.specs.declared.calls.Op.TheVariants.{Read, Write, Send, Recv, Open, Play, Close, Get, Set}
use Rattle.promise_defs.specs.Blocks.{blank_blocks, get_blocks, put_from, has_block}
use Rattle.nook_data.specs.Classes.{covers, defaults_of, is_holder, is_next, is_play, same_class, sends, static_check}
use Rattle.nook_data.specs.Numbered.{at_number, change_number, number_where}
use Rattle.promise_defs.specs.Trace.{Visible, called, wire, sample, arrived, answer}

-- The never-failing device of a class: a plain disk on which blocks may fail, a link that may lose frames, or a
-- stream that may skip samples, each with a configuration. It has no domains, stages, failures or restarts.

-- a call: whether it waits for its answer, whether its frame was sent, and how many of its samples were played
pub record Opened : Type 0 where
  pub thread : ℕ
  pub op : Op
  pub waits : Bool
  pub wired : Bool
  pub played : ℕ

-- calls in the order of their numbers; the disk's blocks; the pending frames; the stream's holder; the configuration
pub record Ideal : Type 0 where
  pub class : Class
  pub size : ℕ
  pub opened : List Opened
  pub blocks : List (List ℕ)
  pub pending : List (List ℕ)
  pub holder : Option ℕ
  pub config : List ℕ

-- the initial device, with this many blocks
abbrev pub never_failing : Class → ℕ → Ideal
never_failing class size = record {
  class = class;
  size = size;
  opened = [];
  blocks = blank_blocks class size;
  pending = [];
  holder = None;
  config = defaults_of class;
}

-- the device continues if the test holds; otherwise it never shows this
abbrev pub when : Bool → Ideal → Option Ideal
when true m = Some m
when false m = None

-- calls are numbered from 1, and a thread has at most one open call
abbrev pub may_call : ℕ → ℕ → List Opened → Bool
may_call call thread opened =
    (call == suc (length opened)) && not (list_any (λ o. o.waits && (o.thread == thread)) opened)

-- ---- the wire and the speaker

-- a Send that waits for its answer sends its own frame, once
abbrev pub may_wire : List ℕ → Opened → Bool
may_wire frame o = o.waits && not o.wired && sends frame o.op

-- the number of the waiting Play of the thread that holds the stream; 0 if there is none
abbrev pub play_of : Ideal → ℕ
play_of m = number_where (λ o. o.waits && is_play o.op && is_holder m.holder o.thread) m.opened

-- a call's next sample, at the configured rate and volume
abbrev pub may_sound : ℕ → ℕ → ℕ → Ideal → Opened → Bool
may_sound word rate volume m o =
    is_next o.op o.played word && (slice_index m.config 0 == rate) && (slice_index m.config 1 == volume)

-- ---- a call is answered

-- the pending frames after the first one equal to this frame; None if none is equal
abbrev pub after_frame : List ℕ → List (List ℕ) → Option (List (List ℕ))
after_frame frame [] = None
after_frame frame (first ∷ pending) = if bytes_eq first frame then Some pending else after_frame frame pending

-- the answers that a thread's call may get if the static check gives none
abbrev pub may_answer : Ideal → ℕ → Op → Answer → Bool
may_answer m thread (Read first count) (answered.Blocks words) = bytes_eq words (get_blocks m.blocks first count)
may_answer m thread (Read first count) (answered.IoError block) = covers (Read first count) block
may_answer m thread (Write first words) answered.Done = true
may_answer m thread (Write first words) (answered.IoError block) = covers (Write first words) block
may_answer m thread (Send frame) answered.Done = true
may_answer m thread Recv answered.Empty = true
may_answer m thread Recv (answered.Frame frame) = is_some (after_frame frame m.pending)
may_answer m thread Open (answered.Busy stage) = true
may_answer m thread Open answered.Done = not (is_some m.holder)
may_answer m thread Open (answered.InUse holder) = is_holder m.holder holder
may_answer m thread (Play samples) answered.Done = is_holder m.holder thread
may_answer m thread (Play samples) answered.NotOpen = not (is_holder m.holder thread)
may_answer m thread Close answered.Done = is_holder m.holder thread
may_answer m thread Close answered.NotOpen = not (is_holder m.holder thread)
may_answer m thread (Get key) (answered.Value word) = slice_index m.config key == word
may_answer m thread (Set key value) answered.Done = true
may_answer m thread o a = false

-- the effects of an answer: a Write's blocks are stored, a frame leaves with all before it, the stream is opened or
-- closed, a key gets its value; the last list has the blocks of a Write that were stored although the medium failed
abbrev pub after_answer : Ideal → ℕ → Op → Answer → List ℕ → Ideal
after_answer m thread (Write first words) answered.Done stored =
    record m { blocks = put_from (covers (Write first words)) (Write first words) 0 m.blocks }
after_answer m thread (Write first words) (answered.IoError block) stored =
    record m {
      blocks = put_from (λ b. covers (Write first words) b && has_block b stored) (Write first words) 0 m.blocks;
    }
after_answer m thread Recv (answered.Frame frame) stored =
    record m { pending = unwrap_or (after_frame frame m.pending) m.pending }
after_answer m thread Open answered.Done stored = record m { holder = Some thread }
after_answer m thread Close answered.Done stored = record m { holder = None }
after_answer m thread (Set key value) answered.Done stored = record m { config = slice_set m.config key value }
after_answer m thread o a stored = m

-- both are the same answer of the static check
abbrev pub same_refusal : Answer → Answer → Bool
same_refusal answered.BadClass answered.BadClass = true
same_refusal answered.BadLength answered.BadLength = true
same_refusal answered.BadRange answered.BadRange = true
same_refusal answered.BadKey answered.BadKey = true
same_refusal answered.BadValue answered.BadValue = true
same_refusal a b = false

-- the answer of the static check, or one that may be given if it has none
abbrev pub is_due : Ideal → Opened → Answer → Bool
is_due m o a = elim (static_check m.class m.size o.op) [
  | (Some refusal) ↦ same_refusal refusal a
  | None ↦ may_answer m o.thread o.op a
]

-- ---- one item shown, and all items

-- the device after it shows an item; None if it never does: only a link shows arrivals and sent frames,
-- and only a stream shows samples
abbrev pub shows : Ideal → Visible → Option Ideal
shows m (called call thread o) =
    when (may_call call thread m.opened) (record m
    { opened = m.opened ++ record { thread = thread; op = o; waits = true; wired = false; played = 0 } ∷ [] })
shows m (wire call frame) = option_and_then
    (λ o. when (same_class m.class Net && may_wire frame o)
    (record m { opened = change_number (λ o. record o { wired = true }) call m.opened }))
    (at_number call m.opened)
shows m (sample word rate volume) = option_and_then
    (λ o. when (same_class m.class Sound && may_sound word rate volume m o)
    (record m { opened = change_number (λ o. record o { played = suc o.played }) (play_of m) m.opened }))
    (at_number (play_of m) m.opened)
shows m (arrived frame) = when (same_class m.class Net) (record m { pending = m.pending ++ frame ∷ [] })
shows m (answer call a stored) =
    let closed : Ideal = record m { opened = change_number (λ o. record o { waits = false }) call m.opened } in
    option_and_then (λ o. when (o.waits && is_due closed o a) (after_answer closed o.thread o.op a stored))
    (at_number call m.opened)

-- the device after it shows all items; None if it never does
unfoldable pub ran : Ideal → List Visible → Option Ideal
ran m [] = Some m
ran m (v ∷ more) = option_and_then (λ after. ran after more) (shows m v)

-- the trace is possible for the never-failing device of a class
unfoldable pub class_run : Class → ℕ → List Visible → Bool
class_run class size visible = is_some (ran (never_failing class size) visible)

-- the same as a proposition
abbrev pub IsClassRun : Class → ℕ → List Visible → Type 0
IsClassRun class size visible = class_run class size visible ≡ true
