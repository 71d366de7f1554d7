use Rattle.std.specs.Prelude.{ℕ, ◌+◌, ◌==◌, ◌&&◌, nat_lt, nat_le, not, if◌then◌else◌, Bool, true, Option, Some, None}
use Rattle.std.specs.Prelude.{Result, Ok, Err, List, [], ◌∷◌, ◌++◌, length, slice_range}
use Rattle.std.specs.List.{list_any}
use Rattle.nook_data.specs.Types.{BadParam, Class, Entry, Service}
use Rattle.nook_data.specs.declared.entries.Entry.TheVariants as entry
use Rattle.nook_data.specs.declared.limits.TheConstants.{MOST_FRAME_WORDS, MOST_QUEUED_FRAMES}
use Rattle.nook_data.specs.declared.memory_map.TheConstants.{DATA_START, DATA_WORDS, BUFFERS_END, LAST_OBJECT}
use Rattle.nook_data.specs.declared.memory_map.TheConstants.{OBJECT_WORDS}
use Rattle.nook_data.specs.declared.machine.Service.TheVariants as service
use Rattle.nook_data.specs.declared.classes.Class.TheVariants as class
use Rattle.nook_data.specs.Classes.{class_code, same_class}
use Rattle.machine_defs.specs.Entries.{is_heap_at, is_borrow_of, is_registered, free_start, borrow_start, with_entry}
use Rattle.machine_defs.specs.Entries.{without_heap, without_borrow, registered}
use Rattle.nook_data.specs.Layout.{object_start}
use Rattle.machine_defs.specs.Pages.{object_words, with_words}

-- the service if its argument passes the check, else the failing argument
abbrev pub needs : Bool → ℕ → ℕ → Service → Result Service BadParam
needs passes number argument s = if passes then Ok s else Err (record { service = number; argument = argument })

-- a frame has 1 to 64 words
abbrev pub is_frame_length : ℕ → Bool
is_frame_length len = nat_le 1 len && nat_le len MOST_FRAME_WORDS

-- the length with which the range of a frame is checked
abbrev pub tested_length : ℕ → ℕ
tested_length len = if is_frame_length len then len else 1

-- checks a frame to be handed up: first the class, then its address, then its length
abbrev pub checked_frame : ℕ → ℕ → Class → Result Service BadParam
checked_frame first second c = if not (same_class c class.Net) then Err (record { service = 6; argument = 0 })
    else if not (nat_le DATA_START first && nat_le (first + tested_length second) BUFFERS_END) then
    Err (record { service = 6; argument = 1 })
    else needs (is_frame_length second) 6 2 (service.NetRx first second)

-- the service of a kernel call by its number and two arguments, or its first failing argument
abbrev pub checked : ℕ → ℕ → ℕ → Class → List Entry → Result Service BadParam
checked number first second c entries =
    if number == 1 then needs (nat_le 1 first && nat_le first DATA_WORDS) 1 1 (service.Alloc first)
    else if number == 2 then needs (list_any (is_heap_at first) entries) 2 1 (service.Free first)
    else if number == 3 then needs (first == class_code c && not (is_registered entries)) 3 1 service.Register
    else if number == 4 then
    needs ((nat_le 1 first && nat_le first LAST_OBJECT)
    && not (list_any (is_borrow_of first) entries)) 4 1 (service.Borrow first)
    else if number == 5 then needs (list_any (is_borrow_of first) entries) 5 1 (service.GiveBack first)
    else if number == 6 then checked_frame first second c
    else if number == 7 then Ok service.Log
    else if number == 8 then Ok service.Yield else Err (record { service = number; argument = 0 })

-- the results of a service: memory, entries and queue after it, its answer, and the words that it moved
pub record Served : Type 0 where
  pub memory : List ℕ
  pub entries : List Entry
  pub queue : List (List ℕ)
  pub answer : ℕ
  pub moved : List ℕ

-- a service that answers 0 and moves nothing
abbrev pub plainly_served : List ℕ → List Entry → List (List ℕ) → Served
plainly_served memory entries queue =
    record { memory = memory; entries = entries; queue = queue; answer = 0; moved = [] }

-- a heap block at the lowest address where it fits; the answer is 0 if it fits nowhere
abbrev pub alloc_served : ℕ → Option ℕ → List ℕ → List Entry → List (List ℕ) → Served
alloc_served n None memory entries queue = plainly_served memory entries queue
alloc_served n (Some start) memory entries queue =
    record (plainly_served memory (with_entry (entry.Heap start n) entries) queue) { answer = start }

-- a copy of a kernel object is lent; the answer is 0 if there is no room for it
abbrev pub borrow_served : ℕ → Option ℕ → List ℕ → List Entry → List (List ℕ) → Served
borrow_served object None memory entries queue = plainly_served memory entries queue
borrow_served object (Some start) memory entries queue =
    let copied : List ℕ = with_words start (object_words object memory) memory in
    record (plainly_served copied (with_entry (entry.Borrow object start) entries) queue) { answer = start }

-- the copy at a start is written to its object and no longer lent; the check refuses objects that are not lent
abbrev pub give_back_served : ℕ → Option ℕ → List ℕ → List Entry → List (List ℕ) → Served
give_back_served object None memory entries queue = plainly_served memory entries queue
give_back_served object (Some start) memory entries queue =
    let words : List ℕ = slice_range memory start (start + OBJECT_WORDS) in
    let kept : List ℕ = with_words (object_start object) words memory in
    record (plainly_served kept (without_borrow object entries) queue) { moved = words }

-- the kernel's queue takes a frame if it holds fewer than its maximum
abbrev pub frame_served : List ℕ → List ℕ → List Entry → List (List ℕ) → Served
frame_served frame memory entries queue =
    let taken : Bool = nat_lt (length queue) MOST_QUEUED_FRAMES in
    let queue' : List (List ℕ) = if taken then queue ++ frame ∷ [] else queue in
    record (plainly_served memory entries queue') { answer = if taken then 1 else 0; moved = frame }

-- the effects of the eight services on memory, the entry list and the kernel's queue
unfoldable pub served : ℕ → Service → List ℕ → List Entry → List (List ℕ) → Served
served heap_start (service.Alloc n) memory entries queue =
    alloc_served n (free_start heap_start n entries) memory entries queue
served heap_start (service.Free address) memory entries queue =
    plainly_served memory (without_heap address entries) queue
served heap_start service.Register memory entries queue = plainly_served memory (registered true entries) queue
served heap_start (service.Borrow object) memory entries queue =
    borrow_served object (free_start heap_start OBJECT_WORDS entries) memory entries queue
served heap_start (service.GiveBack object) memory entries queue =
    give_back_served object (borrow_start object entries) memory entries queue
served heap_start (service.NetRx start len) memory entries queue =
    frame_served (slice_range memory start (start + len)) memory entries queue
served heap_start service.Log memory entries queue = plainly_served memory entries queue
served heap_start service.Yield memory entries queue = plainly_served memory entries queue
