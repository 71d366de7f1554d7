-- The words of a domain at first.
use Rattle.std.proofs.Common.{◌≡◌, ◌∙◌, ℕ, ◌+◌, ◌-◌, ◌≤◌, List, [], ◌++◌, drop, take, length, length-append, replicate, arith, refl, sym, ap}
use Rattle.std.proofs.Math.Seq.{take-append_seam, drop-append_seam, drop-append-add}
use Rattle.std.proofs.lemmas.List.{length-replicate}
use Rattle.nook_data.specs.declared.scenario.BadBlock.{BadBlock}
use Rattle.nook_data.specs.declared.classes.Class.{Class}
use Rattle.nook_data.specs.declared.classes.Class.TheVariants as class
use Rattle.machine_defs.specs.Devices.{opening_device}
use Rattle.machine_defs.specs.Entries.{opening_entries}
use Rattle.machine_defs.proofs.Padded.{length-padded_words}
use Rattle.machine_defs.specs.Views.PageMap.{lent_contexts, none_lent}
use Rattle.machine_defs.specs.Views.Ports.{class_of}
use Rattle.machine_defs.specs.Pages.{opening_memory, opening_objects, padded_words, with_words}

-- words overwrite as many words
replaced : (before old new rest : List ℕ) (start : ℕ) → start ≡ length before → length new ≡ length old → with_words start new (before ++ (old ++ rest)) ≡ before ++ (new ++ rest)
replaced before old new rest start at same =
    rw (at, same, take-append_seam before (old ++ rest), drop-append-add before (old ++ rest) (length old), drop-append_seam old rest) refl

-- object 0 gets the class's defaults
pub opening_words : (defaults : List ℕ) → length defaults ≤ 64 → with_words 7360 (padded_words 64 defaults) (opening_memory []) ≡ opening_memory defaults
unfolding opening_memory
opening_words defaults fits =
    replaced (replicate 7360 0) (padded_words 64 []) (padded_words 64 defaults) (opening_objects 1 12) 7360
    (sym (length-replicate {A = ℕ} 7360 0)) (length-padded_words 64 defaults fits ∙ sym (length-padded_words 64 [] (omega arith)))

-- no buffer is lent at first
pub lent_opening : none_lent ≡ lent_contexts opening_entries
unfolding none_lent
lent_opening = refl

-- the device is the class's
pub opening_class : (c : Class) (blocks : ℕ) (bad : List BadBlock) (defaults : List ℕ) → class_of (opening_device c blocks bad defaults) ≡ c
unfolding opening_device
opening_class class.Block blocks bad defaults = refl
opening_class class.Net blocks bad defaults = refl
opening_class class.Sound blocks bad defaults = refl
