use Rattle.std.specs.Prelude.{◌≡◌, ◌≢◌, ℕ, ◌≤◌, Option, Some, None, List, [], ◌∷◌, length, IsSome, false}
use Rattle.slab.specs.Slab.{Slab, get, slab_len}
use Rattle.nook_data.specs.declared.entries.Entry.{Entry}
use Rattle.nook_data.specs.declared.entries.Entry.TheVariants as entry

-- How a slab holds a list of entries: a list of keys gives the order.

abbrev pub found : Option Entry → Entry
found None = entry.Registration false
found (Some e) = e

-- the entry under a key
abbrev pub entry_at : Slab Entry → ℕ → Entry
entry_at slab key = found (get slab key)

-- the key is not in the list
abbrev pub AreOther : ℕ → List ℕ → Type 0
AreOther key [] = Unit {0}
AreOther key (k ∷ keys) = (k ≢ key) × AreOther key keys

-- each key has its entry, and no key comes twice
abbrev pub AreKeys : Slab Entry → List ℕ → Type 0
AreKeys slab [] = Unit {0}
AreKeys slab (k ∷ keys) = IsSome (get slab k) × AreOther k keys × AreKeys slab keys

-- the list has all keys of the slab, and both have room for 82
pub record IsOrdered (slab : Slab Entry) (keys : List ℕ) (room : ℕ) : Type 0 where
  pub keyed : AreKeys slab keys
  pub counted : slab_len slab ≡ length keys
  pub slab_room : 82 ≤ slab.capacity
  pub key_room : 82 ≤ room
