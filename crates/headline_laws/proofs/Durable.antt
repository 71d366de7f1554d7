use Rattle.std.proofs.Common.{◌≡◌, ◌⊎◌, ℕ, zero, suc, ◌&&◌, nat_lt, bytes_eq, Bool, true, false, List, [], ◌∷◌}
use Rattle.std.proofs.Common.{slice_index_or, sym, ap, subst, ◌∙◌, inl, inr}
use Rattle.std.specs.List.{list_any}
use Rattle.std.proofs.lemmas.Bool.{and_from, lt-ltb, or_left, or_right}
use Rattle.nook_data.specs.declared.calls.CallEntry.{CallEntry}
use Rattle.nook_data.specs.declared.scenario.PartSpec.{PartSpec}
use Rattle.nook_data.specs.declared.steps.Event.{Event}
use Rattle.nook_data.specs.Classes.{covers, is_write}
use Rattle.machine_defs.specs.Devices.{medium_of}
use Rattle.promise_defs.specs.Blocks.{words_for}
use Rattle.promise_defs.specs.Ideal.{Ideal}
use Rattle.part_defs.specs.Runs.{state_of}
use Rattle.part_defs.specs.State.{PartState}
use Rattle.part_laws.proofs.Indices.{some_same}
use Rattle.part_laws.proofs.ReadAloud.{kept_facts}
use Rattle.part_laws.proofs.Subs.{bytes_same}
use Rattle.part_laws.specs.Facts.{At, Facts, IsStored}
use Rattle.part_laws.specs.Recovery.{HasFacts, IsKeptRun, ShowsDevice}
use Rattle.part_laws.specs.Views.{Core, Past, cores, entry_of, ideal_of, keep_waiting, open_from, view_of}
use Rattle.headline_laws.specs.Durable.{IsDurable, has_words}

-- The facts of the recovery theorem, read block by block.

-- a call that waits is among the open calls
open_any : (test : CallEntry → Bool) (first : ℕ) (cs : List Core) (k : ℕ) (c : Core) → At cs k c → c.waits ≡ true
    → ((number : ℕ) → test (entry_of number c) ≡ true) → list_any test (open_from first cs) ≡ true
open_any test first [] k c at waits passes = absurd cc
open_any test first (d ∷ cs) zero c at waits passes =
    ap (λ v. list_any test (keep_waiting v (entry_of first d) (open_from (suc first) cs)))
    (ap (λ (x : Core). x.waits) (some_same d c at) ∙ waits)
    ∙ or_left (test (entry_of first d)) (list_any test (open_from (suc first) cs))
    (ap (λ (x : Core). test (entry_of first x)) (some_same d c at) ∙ passes first)
open_any test first (d ∷ cs) (suc k) c at waits passes =
    by_waits d.waits (open_any test (suc first) cs k c at waits passes)
  where
    by_waits : (v : Bool) → list_any test (open_from (suc first) cs) ≡ true
        → list_any test (keep_waiting v (entry_of first d) (open_from (suc first) cs)) ≡ true
    by_waits true e = or_right (test (entry_of first d)) (list_any test (open_from (suc first) cs)) e
    by_waits false e = e

-- a Write that stored a block has its words
stored_words : (cs : List Core) (n : ℕ) (held : List ℕ) (s : IsStored cs n held) (number : ℕ)
    → has_words n held (entry_of number s.call) ≡ true
stored_words cs n held s number =
    let o = s.call.op in
    and_from (is_write o) (nat_lt 0 s.call.attempts && (covers o n && bytes_eq held (words_for o n))) s.writes
    (and_from (nat_lt 0 s.call.attempts) (covers o n && bytes_eq held (words_for o n))
    (lt-ltb 0 s.call.attempts s.entered)
    (and_from (covers o n) (bytes_eq held (words_for o n)) s.covered (bytes_same held (words_for o n) s.words)))

facts_durable : (p : PartState) (b : Past) → Facts (view_of p) b
    → IsDurable p.log.pending b.blocks (medium_of p.domain.device)
facts_durable p b f = record { size = f.disk.size; blocks = λ n. by_block n (f.disk.blocks n) }
  where
    held : ℕ → List ℕ
    held n = slice_index_or (medium_of p.domain.device) n []

    by_block : (n : ℕ) → (held n ≡ slice_index_or b.blocks n []) ⊎ IsStored (cores b) n (held n)
        → (held n ≡ slice_index_or b.blocks n []) ⊎ (list_any (has_words n (held n)) p.log.pending ≡ true)
    by_block n (inl same) = inl same
    by_block n (inr s) = inr (ap (list_any (has_words n (held n))) f.pending
        ∙ open_any (has_words n (held n)) 1 (cores b) s.index s.call s.at s.waits (stored_words (cores b) n (held n) s))

-- after a journal that kept the contract
pub kept_durable : (spec : PartSpec) (journal : List Event) (device : Ideal) → IsKeptRun spec journal
    → ShowsDevice spec journal device
    → IsDurable (state_of spec journal).log.pending device.blocks (medium_of (state_of spec journal).domain.device)
kept_durable spec journal device kept shown =
    let p : PartState = state_of spec journal in
    let h : HasFacts spec journal = kept_facts spec journal kept in
    subst (λ (d : Ideal). IsDurable p.log.pending d.blocks (medium_of p.domain.device))
    (some_same (ideal_of (view_of p) h.past) device (sym h.shown ∙ shown)) (facts_durable p h.past h.facts)
