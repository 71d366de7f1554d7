-- A page map lets a driver write what the entry list lets it write.
use Rattle.std.proofs.Common.{◌≡◌, ◌⊎◌, inl, inr, ℕ, ◌-◌, ◌/◌, ◌<◌, ◌≤◌, Bool, false, List, arith, refl, slice_index_or}
use Rattle.std.proofs.lemmas.Bool.{cases_lt}
use Rattle.std.proofs.lemmas.List.FromFn.{get_or-map-range_with_len}
use Rattle.nook_data.specs.declared.entries.Entry.{Entry}
use Rattle.machine_defs.specs.Pages.{is_lent, may_write}
use Rattle.machine_defs.specs.Views.PageMap.{may_change, lent_contexts}

lent_at : (entries : List Entry) (context : ℕ) → context < 17 → slice_index_or (lent_contexts entries) context false ≡ is_lent entries context
lent_at entries context few = get_or-map-range_with_len (is_lent entries) 0 17 context context false few (omega arith)

-- the map lends exactly the buffers that the entries lend for writing
pub rights_same : (entries : List Entry) (lent : List Bool) (address : ℕ) → lent ≡ lent_contexts entries → may_change lent address ≡ may_write entries address
rights_same entries lent address same = rw same (by_position (cases_lt address 7360))
  where
    by_position : (address < 7360) ⊎ (7360 ≤ address) → may_change (lent_contexts entries) address ≡ may_write entries address
    by_position (inl low) = rw (lent_at entries ((address - 5184) / 128) (omega arith)) refl
    by_position (inr high) = grind arith
