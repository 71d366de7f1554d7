-- A list of entries under keys of a slab, after one key is added or removed.
use Rattle.std.proofs.Common.{◌≡◌, ◌≢◌, ℕ, zero, suc, ◌+◌, ◌<◌, ◌≤◌, List, [], ◌∷◌, map, length, get_or, Option, Some, None, IsSome, insert, remove, arith, refl, sym, ap, subst, ◌∙◌}
use Rattle.std.proofs.lemmas.List.{get_or-map}
use Rattle.std.proofs.lemmas.List.Edits.{length-insert, length-remove}
use Rattle.slab.specs.Slab.{Slab, get, Updates, slab_len}
use Rattle.nook_data.specs.declared.entries.Entry.{Entry}
use Rattle.object_tracker.specs.Ordered.{found, entry_at, AreOther, AreKeys, IsOrdered}

-- the other keys still have their entries
pub others_map : (old new : Slab Entry) (key : ℕ) (slot : Option Entry) (keys : List ℕ) → Updates old new key slot → AreOther key keys → map (entry_at new) keys ≡ map (entry_at old) keys
others_map old new key slot [] u o = refl
others_map old new key slot (k ∷ keys) u o = rw (u.others k o.0, others_map old new key slot keys u o.1) refl

none_some : (o : Option Entry) → o ≡ None → IsSome o → ⊥
none_some o absent here = grind arith

-- a key that was vacant is not in the list
pub absent_other : (slab : Slab Entry) (key : ℕ) (keys : List ℕ) → get slab key ≡ None → AreKeys slab keys → AreOther key keys
absent_other slab key [] absent a = tt
absent_other slab key (k ∷ keys) absent a = (λ same. none_some (get slab k) (rw same absent) a.0, absent_other slab key keys absent a.2)

pub keys_kept : (old new : Slab Entry) (key : ℕ) (slot : Option Entry) (keys : List ℕ) → Updates old new key slot → AreOther key keys → AreKeys old keys → AreKeys new keys
keys_kept old new key slot [] u o a = tt
keys_kept old new key slot (k ∷ keys) u o a = (rw (u.others k o.0) a.0, a.1, keys_kept old new key slot keys u o.1 a.2)

-- a key is added

other_insert : (key k : ℕ) (keys : List ℕ) (index : ℕ) → AreOther key keys → k ≢ key → AreOther key (insert keys index k)
other_insert key k keys zero o differs = (differs, o)
other_insert key k [] (suc index) o differs = (differs, tt)
other_insert key k (j ∷ keys) (suc index) o differs = (o.0, other_insert key k keys index o.1 differs)

keys_insert : (slab : Slab Entry) (key : ℕ) (keys : List ℕ) (index : ℕ) → AreKeys slab keys → AreOther key keys → IsSome (get slab key) → AreKeys slab (insert keys index key)
keys_insert slab key keys zero a o here = (here, o, a)
keys_insert slab key [] (suc index) a o here = (here, tt, tt)
keys_insert slab key (k ∷ keys) (suc index) a o here =
    (a.0, other_insert k key keys index a.1 (λ same. o.0 (sym same)), keys_insert slab key keys index a.2 o.1 here)

map_insert : (f : ℕ → Entry) (keys : List ℕ) (index key : ℕ) → map f (insert keys index key) ≡ insert (map f keys) index (f key)
map_insert f keys zero key = refl
map_insert f [] (suc index) key = refl
map_insert f (k ∷ keys) (suc index) key = ap (λ es. f k ∷ es) (map_insert f keys index key)

-- a key is removed

other_remove : (key : ℕ) (keys : List ℕ) (index : ℕ) → AreOther key keys → AreOther key (remove keys index)
other_remove key [] zero o = tt
other_remove key [] (suc index) o = tt
other_remove key (j ∷ keys) zero o = o.1
other_remove key (j ∷ keys) (suc index) o = (o.0, other_remove key keys index o.1)

pub keys_remove : (slab : Slab Entry) (keys : List ℕ) (index : ℕ) → AreKeys slab keys → AreKeys slab (remove keys index)
keys_remove slab [] zero a = tt
keys_remove slab [] (suc index) a = tt
keys_remove slab (k ∷ keys) zero a = a.2
keys_remove slab (k ∷ keys) (suc index) a = (a.0, other_remove k keys index a.1, keys_remove slab keys index a.2)

other_at : (key : ℕ) (keys : List ℕ) (index d : ℕ) → index < length keys → AreOther key keys → get_or keys index d ≢ key
other_at key [] index d within o = absurd (omega (arith, within))
other_at key (k ∷ keys) zero d within o = o.0
other_at key (k ∷ keys) (suc index) d within o = other_at key keys index d (omega (arith, within)) o.1

-- the removed key is not in the rest of the list
pub removed_other : (slab : Slab Entry) (keys : List ℕ) (index d : ℕ) → index < length keys → AreKeys slab keys → AreOther (get_or keys index d) (remove keys index)
removed_other slab [] index d within a = absurd (omega (arith, within))
removed_other slab (k ∷ keys) zero d within a = a.1
removed_other slab (k ∷ keys) (suc index) d within a =
    let here : index < length keys = omega (arith, within) in
    (λ same. other_at k keys index d here a.1 (sym same), removed_other slab keys index d here a.2)

map_remove : (f : ℕ → Entry) (keys : List ℕ) (index : ℕ) → map f (remove keys index) ≡ remove (map f keys) index
map_remove f [] zero = refl
map_remove f [] (suc index) = refl
map_remove f (k ∷ keys) zero = refl
map_remove f (k ∷ keys) (suc index) = ap (λ es. f k ∷ es) (map_remove f keys index)

-- each key has its entry
pub key_at : (slab : Slab Entry) (keys : List ℕ) (index d : ℕ) → index < length keys → AreKeys slab keys → IsSome (get slab (get_or keys index d))
key_at slab [] index d within a = absurd (omega (arith, within))
key_at slab (k ∷ keys) zero d within a = a.0
key_at slab (k ∷ keys) (suc index) d within a = key_at slab keys index d (omega (arith, within)) a.2

pub ordered_insert : (old new : Slab Entry) (keys : List ℕ) (index key room now : ℕ) (e : Entry) → index ≤ length keys → IsOrdered old keys room → get old key ≡ None → Updates old new key (Some e) → slab_len new ≡ slab_len old + 1 → new.capacity ≡ old.capacity → 82 ≤ now → IsOrdered new (insert keys index key) now × (map (entry_at new) (insert keys index key) ≡ insert (map (entry_at old) keys) index e)
ordered_insert old new keys index key room now e within o absent u more capacity roomy =
    let other = absent_other old key keys absent o.keyed in
    let here : IsSome (get new key) = rw u.changed refl in (
      record {
        keyed = keys_insert new key keys index (keys_kept old new key (Some e) keys u other o.keyed) other here;
        counted = more ∙ ap (λ n. n + 1) o.counted ∙ sym (length-insert keys index key within);
        slab_room = omega (arith, capacity, o.slab_room);
        key_room = roomy;
      },
      rw (map_insert (entry_at new) keys index key, others_map old new key (Some e) keys u other, u.changed) refl,
    )

pub ordered_remove : (old new : Slab Entry) (keys : List ℕ) (index key room now : ℕ) → index < length keys → IsOrdered old keys room → key ≡ get_or keys index key → Updates old new key None → slab_len new + 1 ≡ slab_len old → new.capacity ≡ old.capacity → now ≡ room → IsOrdered new (remove keys index) now × (map (entry_at new) (remove keys index) ≡ remove (map (entry_at old) keys) index)
ordered_remove old new keys index key room now within o at_position u less capacity roomy =
    let rest = remove keys index in
    let other : AreOther key rest = subst (λ k. AreOther k rest) (sym at_position) (removed_other old keys index key within o.keyed) in (
      record {
        keyed = keys_kept old new key None rest u other (keys_remove old keys index o.keyed);
        counted = omega (arith, less, o.counted, length-remove keys index within);
        slab_room = omega (arith, capacity, o.slab_room);
        key_room = omega (arith, roomy, o.key_room);
      },
      others_map old new key None rest u other ∙ map_remove (entry_at old) keys index,
    )

-- the entry at an index
pub entry_there : (slab : Slab Entry) (keys : List ℕ) (index d : ℕ) (e : Entry) → index < length keys → get slab (get_or keys index d) ≡ Some e → get_or (map (entry_at slab) keys) index e ≡ e
entry_there slab keys index d e within here = get_or-map (entry_at slab) keys index d e within ∙ ap found here
