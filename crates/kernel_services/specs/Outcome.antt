use Rattle.std.specs.Prelude.{ℕ, Bool, Option, Some, None, List, [], ◌∷◌, ◌++◌, length, nat_lt, if◌then◌else◌}
use Rattle.nook_data.specs.declared.entries.Entry.{Entry}
use Rattle.nook_data.specs.declared.machine.Service.{Service}
use Rattle.nook_data.specs.declared.machine.Service.TheVariants as service
use Rattle.nook_data.specs.declared.limits.TheConstants.{MOST_QUEUED_FRAMES}
use Rattle.nook_data.specs.declared.memory_map.TheConstants.{OBJECT_WORDS}
use Rattle.machine_defs.specs.Entries.{free_start}
use Rattle.domain_pages.specs.Frames.{with_own}
use Rattle.machine_defs.specs.Services.{Served}
use Rattle.kernel_services.specs.declared.services.Served.{Served as Given}

-- what a service leaves, with what it returns
abbrev pub outcome : List ℕ → List Entry → List (List ℕ) → Given → Served
outcome memory entries queue served_with = record {
  memory = memory;
  entries = entries;
  queue = queue;
  answer = served_with.answer;
  moved = served_with.moved;
}

-- the queue after a frame is handed up: the frame is queued if there is room
abbrev pub with_frame : List ℕ → List (List ℕ) → List (List ℕ)
with_frame frame queue = if nat_lt (length queue) MOST_QUEUED_FRAMES then queue ++ frame ∷ [] else queue

-- the driver's pages with their own copy, after the copy of an object is put at a start
abbrev pub own_copied : Option ℕ → List Bool → List Bool
own_copied None own = own
own_copied (Some start) own = with_own start OBJECT_WORDS own

-- the same after a service: only Borrow writes words of the driver
abbrev pub own_served : ℕ → Service → List Entry → List Bool → List Bool
own_served heap_start (service.Borrow object) entries own = own_copied (free_start heap_start OBJECT_WORDS entries) own
own_served heap_start asked entries own = own
