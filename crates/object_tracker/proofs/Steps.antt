-- One step of the loops over the entries and over the starts of a run.
use Rattle.std.proofs.Common.{◌≡◌, ℕ, zero, suc, ◌+◌, ◌<◌, Bool, true, false, Some, None, List, [], ◌∷◌, ◌++◌, length, get_or, take, drop, filter, insert, remove, arith, refl, sym, ap, ◌∙◌}
use Rattle.std.proofs.lemmas.Option.{same_Some}
use Rattle.nook_data.specs.declared.entries.Entry.{Entry}
use Rattle.machine_defs.specs.Entries.{with_live, registered, is_free_run, lowest_run}

-- an entry that ends is removed
pub end_one : (p : Entry → Bool) (es : List Entry) (index : ℕ) (d : Entry) → index < length es → p (get_or es index d) ≡ false → take index (remove es index) ++ filter p (drop index (remove es index)) ≡ take index es ++ filter p (drop index es)
end_one p [] index d within ends = absurd (omega (arith, within))
end_one p (x ∷ es) zero d within ends = rw ends refl
end_one p (x ∷ es) (suc index) d within ends = ap (λ l. x ∷ l) (end_one p es index d (omega (arith, within)) ends)

-- an entry is inserted again with its registration live or not
live_at : (live : Bool) (es : List Entry) (index : ℕ) (d : Entry) → index < length es → insert (remove (registered live (take index es) ++ drop index es) index) index (with_live live (get_or (registered live (take index es) ++ drop index es) index d)) ≡ registered live (take (suc index) es) ++ drop (suc index) es
live_at live [] index d within = absurd (omega (arith, within))
live_at live (x ∷ es) zero d within = refl
live_at live (x ∷ es) (suc index) d within = ap (λ l. with_live live x ∷ l) (live_at live es index d (omega (arith, within)))

pub live_one : (live : Bool) (es now : List Entry) (index next : ℕ) (x : Entry) → index < length es → next ≡ suc index → now ≡ registered live (take index es) ++ drop index es → get_or now index x ≡ x → insert (remove now index) index (with_live live x) ≡ registered live (take next es) ++ drop next es
live_one live es now index next x within step same here =
    let done = live_at live es index x within in
    rw step (ap (λ y. insert (remove now index) index (with_live live y)) (sym here) ∙ rw same done)

-- the search for a run of free words
pub run_found : (left : ℕ) (es : List Entry) (start n : ℕ) → 0 < left → is_free_run es start n ≡ true → Some start ≡ lowest_run left es start n
unfolding lowest_run
run_found zero es start n some free = absurd (omega (arith, some))
run_found (suc left) es start n some free = rw (lowest_run, free) refl

pub run_more : (left rest : ℕ) (es : List Entry) (start n : ℕ) → left ≡ suc rest → is_free_run es start n ≡ false → lowest_run rest es (start + 1) n ≡ lowest_run left es start n
unfolding lowest_run
run_more left rest es start n one blocked = rw (one, lowest_run, blocked) refl

pub run_none : (left : ℕ) (es : List Entry) (start n : ℕ) → left ≡ 0 → None ≡ lowest_run left es start n
unfolding lowest_run
run_none left es start n none = rw none refl

within_case : (left : ℕ) (es : List Entry) (start n found : ℕ) (b : Bool) → is_free_run es start n ≡ b → (Some found ≡ lowest_run left es (start + 1) n → found < start + 1 + left) → Some found ≡ lowest_run (suc left) es start n → found < start + suc left
unfolding lowest_run
within_case left es start n found true free later same = let here : Some found ≡ Some start = same ∙ rw (lowest_run, free) refl in omega (arith, same_Some found start here)
within_case left es start n found false blocked later same = let there : Some found ≡ lowest_run left es (start + 1) n = same ∙ rw (lowest_run, blocked) refl in omega (arith, later there)

pub run_within : (left : ℕ) (es : List Entry) (start n found : ℕ) → Some found ≡ lowest_run left es start n → found < start + left
unfolding lowest_run
run_within zero es start n found same = grind arith
run_within (suc left) es start n found same = within_case left es start n found (is_free_run es start n) refl (run_within left es (start + 1) n found) same

pub run_some : (left : ℕ) (es : List Entry) (start n found : ℕ) → Some found ≡ lowest_run left es start n → 0 < left
unfolding lowest_run
run_some zero es start n found same = grind arith
run_some (suc left) es start n found same = omega arith
