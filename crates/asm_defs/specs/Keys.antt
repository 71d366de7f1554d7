use Rattle.std.specs.Prelude.{ℕ, ◌+◌, if◌then◌else◌, List, [], ◌∷◌, codes}
use denote.Enum.Bare.{sameb}
use Rattle.asm_defs.specs.contracts.keys.Key.{the_type}
use Rattle.nook_data.specs.Types.{Class}
use Rattle.asm_defs.specs.Types.{Key}
use Rattle.nook_data.specs.declared.classes.Class.TheVariants as class
use Rattle.asm_defs.specs.declared.keys.Key.TheVariants as key

-- the text of a key
abbrev pub key_text : Key → List ℕ
key_text key.Address = codes "address"
key_text key.After = codes "after"
key_text key.Arrivals = codes "arrivals"
key_text key.Asm = codes "asm"
key_text key.Bad = codes "bad"
key_text key.Base = codes "base"
key_text key.Block = codes "block"
key_text key.Blocks = codes "blocks"
key_text key.Burst = codes "burst"
key_text key.Class = codes "class"
key_text key.Close = codes "close"
key_text key.Count = codes "count"
key_text key.Data = codes "data"
key_text key.Detail = codes "detail"
key_text key.Driver = codes "driver"
key_text key.Entries = codes "entries"
key_text key.Every = codes "every"
key_text key.Faults = codes "faults"
key_text key.First = codes "first"
key_text key.Frame = codes "frame"
key_text key.Get = codes "get"
key_text key.Guard = codes "guard"
key_text key.Image = codes "image"
key_text key.Init = codes "init"
key_text key.Key = codes "key"
key_text key.Kind = codes "kind"
key_text key.Limit = codes "limit"
key_text key.Members = codes "members"
key_text key.Name = codes "name"
key_text key.Op = codes "op"
key_text key.Open = codes "open"
key_text key.Ops = codes "ops"
key_text key.Part = codes "part"
key_text key.Parts = codes "parts"
key_text key.Picks = codes "picks"
key_text key.Play = codes "play"
key_text key.Poll = codes "poll"
key_text key.Read = codes "read"
key_text key.Register = codes "register"
key_text key.Samples = codes "samples"
key_text key.Schedule = codes "schedule"
key_text key.Send = codes "send"
key_text key.Set = codes "set"
key_text key.Start = codes "start"
key_text key.Text = codes "text"
key_text key.Threads = codes "threads"
key_text key.Value = codes "value"
key_text key.Version = codes "version"
key_text key.Write = codes "write"

-- the entries of a class, in the class's order
abbrev pub entry_keys : Class → List Key
entry_keys class.Block = key.Init ∷ key.Read ∷ key.Write ∷ key.Get ∷ key.Set ∷ []
entry_keys class.Net = key.Init ∷ key.Send ∷ key.Poll ∷ key.Get ∷ key.Set ∷ []
entry_keys class.Sound = key.Init ∷ key.Open ∷ key.Play ∷ key.Close ∷ key.Get ∷ key.Set ∷ []

-- the index of a key in a list whose first index is given, or the index after its last
abbrev pub index_among : ℕ → Key → List Key → ℕ
index_among index key [] = index
index_among index key (known ∷ more) = if sameb the_type known key then index else index_among (index + 1) key more
