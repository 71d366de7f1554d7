use Rattle.std.specs.Prelude.{ℕ, List, map, codes}
use Rattle.nook_data.specs.declared.classes.Class.{Class}
use Rattle.nook_data.specs.declared.calls.Op.{Op}
use Rattle.nook_data.specs.declared.calls.Op.TheVariants.{Read, Write, Send, Recv, Open, Play, Close, Get, Set}
use Rattle.asm_defs.specs.Keys.{entry_keys, key_text}

-- the name of the entry that serves an operation
abbrev pub entry_name : Op → List ℕ
entry_name (Read first count) = codes "read"
entry_name (Write first words) = codes "write"
entry_name (Send frame) = codes "send"
entry_name Recv = codes "poll"
entry_name Open = codes "open"
entry_name (Play samples) = codes "play"
entry_name Close = codes "close"
entry_name (Get key) = codes "get"
entry_name (Set key value) = codes "set"

-- the names of a class's entries, in its order
abbrev pub entry_names : Class → List (List ℕ)
entry_names class = map key_text (entry_keys class)
