use Rattle.std.specs.Prelude.{ℕ, ◌+◌, ◌*◌}
use Rattle.nook_data.specs.declared.memory_map.TheConstants.{DATA_END, STACKS_END, STACK_WORDS, BUFFERS_END}
use Rattle.nook_data.specs.declared.memory_map.TheConstants.{BUFFER_WORDS}
use Rattle.nook_data.specs.declared.memory_map.TheConstants.{OBJECT_WORDS}

-- The addresses of the regions of a context and of a kernel object in a domain's memory.

-- the first address after a context's stack page
abbrev pub stack_end : ℕ → ℕ
stack_end context = DATA_END + STACK_WORDS * (context + 1)

-- the first address of a context's buffer
abbrev pub buffer_start : ℕ → ℕ
buffer_start context = STACKS_END + BUFFER_WORDS * context

-- the first address of a kernel object
abbrev pub object_start : ℕ → ℕ
object_start object = BUFFERS_END + OBJECT_WORDS * object
