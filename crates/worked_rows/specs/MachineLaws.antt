use Rattle.std.specs.Prelude.{◌≡◌, true, false, [], ◌∷◌}
use Rattle.nook_data.specs.declared.entries.Entry.TheVariants as entry
use Rattle.machine_defs.specs.Pages.{may_write}

-- what a driver may write, at the edges of the table of pages: the text, the data, the stacks, the buffer of context 0,
-- whose last word is 5,311, the last buffer, and the kernel objects
abbrev pub IsPageTable : Type 0
IsPageTable =
    (may_write [] 0 ≡ false) × (may_write [] 2047 ≡ false) × (may_write [] 2048 ≡ true) × (may_write [] 4095 ≡ true)
    × (may_write [] 4096 ≡ true) × (may_write [] 5183 ≡ true) × (may_write [] 5184 ≡ false)
    × (may_write [] 7359 ≡ false)
    × (may_write [] 7360 ≡ false) × (may_write [] 8191 ≡ false) × (may_write [] 8192 ≡ false)
    × (may_write [] 4294967295 ≡ false)

-- a buffer lent for writing may be written, one lent for reading may not, and no other becomes writable
abbrev pub IsLentBuffer : Type 0
IsLentBuffer =
    (may_write (entry.Buffer 0 true ∷ []) 5183 ≡ true) × (may_write (entry.Buffer 0 true ∷ []) 5184 ≡ true)
    × (may_write (entry.Buffer 0 true ∷ []) 5311 ≡ true) × (may_write (entry.Buffer 0 true ∷ []) 5312 ≡ false)
    × (may_write (entry.Buffer 0 false ∷ []) 5184 ≡ false) × (may_write (entry.Buffer 16 true ∷ []) 7231 ≡ false)
    × (may_write (entry.Buffer 16 true ∷ []) 7232 ≡ true) × (may_write (entry.Buffer 16 true ∷ []) 7359 ≡ true)
    × (may_write (entry.Buffer 16 true ∷ []) 7360 ≡ false)
