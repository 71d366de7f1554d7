use Rattle.std.proofs.Common.{◌≡◌, ℕ, ◌+◌, ◌<◌, ◌≤◌, false, Option, Some, None, List, ◌∷◌, ◌++◌, length, replicate, slice_set, refl, ap, ◌∙◌, arith}
use Rattle.std.specs.List.{AllByRecursion}
use Rattle.std.proofs.lemmas.List.{length-set}
use Rattle.nook_data.specs.declared.classes.Class.{Class}
use Rattle.nook_data.specs.declared.classes.Class.TheVariants as class
use Rattle.nook_data.specs.declared.entries.Entry.{Entry}
use Rattle.nook_data.specs.declared.entries.Entry.TheVariants as entry
use Rattle.nook_data.specs.declared.scenario.Fault.{Fault}
use Rattle.nook_data.specs.declared.calls.Op.{Op}
use Rattle.nook_data.specs.declared.calls.Op.TheVariants as op
use Rattle.nook_data.specs.declared.scenario.PartSpec.{PartSpec}
use Rattle.nook_data.specs.declared.machine.Context.{Context}
use Rattle.nook_data.specs.Classes.{static_check, defaults_of, is_set}
use Rattle.part_defs.specs.Crossing.{noted_set}
use Rattle.part_defs.specs.Domain.{Lent, buffer_of, lent_memory, lent_entries, entered_domain, plainly_entered}
use Rattle.part_defs.specs.Domain.{context_of, DomainBurst, machine_of, domain_burst, result_set, left_domain}
use Rattle.part_defs.specs.Domain.{stopped_domain, collected_domain, loaded_domain, noted, opening_domain}
use Rattle.machine_defs.specs.Entries.{is_registration}
use Rattle.part_defs.proofs.PartCases.{burst_by, config_after, no_context}
use Rattle.machine_defs.specs.Pages.{object_words, opening_memory}
use Rattle.nook_data.specs.Layout.{object_start}
use Rattle.part_defs.specs.State.{DomainState}
use Rattle.part_laws.proofs.EntriesFit.{with_entry_fits, filter_fits, registered_fits, with_entry_ordered, registered_ordered, without_buffer_ordered, collected_ordered}
use Rattle.part_laws.proofs.Objects.{SameObjects, nothing_changed, FitsBuffer, lent_keeps, set_key, load_keeps, burst_keeps_objects, kernel_word, kernel_word_elsewhere, set_reported}
use Rattle.part_laws.specs.Fit.{IsFitSpec, IsFitEntry, IsOrdered, IsFitDomain}

-- What each change of a domain keeps.

-- the domain fits, and the kernel's objects do not change
pub record DomainKept (heap : ℕ) (d e : DomainState) : Type 0 where
  pub fit : IsFitDomain heap e
  pub objects : SameObjects d.memory e.memory

lent_entries_fit : (heap context : ℕ) (o : Option Lent) (entries : List Entry) → context ≤ 16
    → AllByRecursion (IsFitEntry heap) entries → AllByRecursion (IsFitEntry heap) (lent_entries context o entries)
lent_entries_fit heap context None entries c all = all
lent_entries_fit heap context (Some l) entries c all = with_entry_fits heap (entry.Buffer context l.writable) entries c all

lent_entries_ordered : (context : ℕ) (o : Option Lent) (entries : List Entry) → IsOrdered entries → IsOrdered (lent_entries context o entries)
lent_entries_ordered context None entries ordered = ordered
lent_entries_ordered context (Some l) entries ordered = with_entry_ordered (entry.Buffer context l.writable) entries refl ordered

pub entered_kept : (heap context index : ℕ) (o : Op) (d : DomainState) → IsFitDomain heap d → context ≤ 16 → FitsBuffer (buffer_of o)
    → DomainKept heap d (entered_domain context index o d)
unfolding entered_domain
entered_kept heap context index o d f c b =
    let s : SameObjects d.memory (lent_memory context (buffer_of o) d.memory) = lent_keeps context (buffer_of o) d.memory f.memory c b in
    record {
      fit = record {
        memory = s.lengths ∙ f.memory;
        contexts = length-set d.contexts context _ ∙ f.contexts;
        entries = lent_entries_fit heap context (buffer_of o) d.entries c f.entries;
        ordered = lent_entries_ordered context (buffer_of o) d.entries f.ordered;
      };
      objects = s;
    }

pub plainly_kept : (heap context index : ℕ) (d : DomainState) → IsFitDomain heap d → DomainKept heap d (plainly_entered context index d)
unfolding plainly_entered
plainly_kept heap context index d f = record {
  fit = record { memory = f.memory; contexts = length-set d.contexts context _ ∙ f.contexts; entries = f.entries; ordered = f.ordered };
  objects = nothing_changed d.memory;
}

pub left_kept : (heap context : ℕ) (d : DomainState) → IsFitDomain heap d → DomainKept heap d (left_domain context d)
unfolding left_domain
left_kept heap context d f = record {
  fit = record {
    memory = f.memory;
    contexts = length-set d.contexts context no_context ∙ f.contexts;
    entries = filter_fits (IsFitEntry heap) _ d.entries f.entries;
    ordered = without_buffer_ordered context d.entries f.ordered;
  };
  objects = nothing_changed d.memory;
}

pub stopped_kept : (heap : ℕ) (d : DomainState) → IsFitDomain heap d → DomainKept heap d (stopped_domain d)
unfolding stopped_domain
stopped_kept heap d f = record {
  fit = record {
    memory = f.memory;
    contexts = refl;
    entries = registered_fits heap false d.entries f.entries;
    ordered = registered_ordered false d.entries f.ordered;
  };
  objects = nothing_changed d.memory;
}

pub collected_kept : (heap : ℕ) (d : DomainState) → IsFitDomain heap d → DomainKept heap d (collected_domain d)
unfolding collected_domain
collected_kept heap d f = record {
  fit = record {
    memory = f.memory;
    contexts = f.contexts;
    entries = filter_fits (IsFitEntry heap) is_registration d.entries f.entries;
    ordered = collected_ordered d.entries f.ordered;
  };
  objects = nothing_changed d.memory;
}

pub loaded_kept : (heap : ℕ) (spec : PartSpec) (d : DomainState) → IsFitSpec spec → IsFitDomain heap d
    → DomainKept heap d (loaded_domain spec.image d)
unfolding loaded_domain
loaded_kept heap spec d s f =
    let o = load_keeps spec.image d.memory f.memory s.text s.initial in
    record {
      fit = record { memory = o.lengths ∙ f.memory; contexts = f.contexts; entries = f.entries; ordered = f.ordered };
      objects = o;
    }

pub result_kept : (heap context word : ℕ) (d : DomainState) → IsFitDomain heap d → DomainKept heap d (result_set context word d)
unfolding result_set
result_kept heap context word d f = record {
  fit = record { memory = f.memory; contexts = length-set d.contexts context _ ∙ f.contexts; entries = f.entries; ordered = f.ordered };
  objects = nothing_changed d.memory;
}

-- a burst

pub record BurstKept (heap : ℕ) (d : DomainState) (b : DomainBurst) : Type 0 where
  pub fit : IsFitDomain heap b.domain
  pub objects : SameObjects d.memory b.domain.memory
  pub entries : b.domain.entries ≡ d.entries

burst_by_kept : (heap context : ℕ) (faults : List Fault) (d : DomainState) (o : Option Context) → IsFitDomain heap d
    → BurstKept heap d (burst_by context faults d o)
burst_by_kept heap context faults d None f = record { fit = f; objects = nothing_changed d.memory; entries = refl }
burst_by_kept heap context faults d (Some x) f =
    let o = burst_keeps_objects d.entries faults (machine_of x d) in
    record {
      fit = record {
        memory = o.lengths ∙ f.memory;
        contexts = length-set d.contexts context _ ∙ f.contexts;
        entries = f.entries;
        ordered = f.ordered;
      };
      objects = o;
      entries = refl;
    }

pub burst_kept : (heap context : ℕ) (faults : List Fault) (d : DomainState) → IsFitDomain heap d
    → BurstKept heap d (domain_burst context faults d)
unfolding domain_burst
burst_kept heap context faults d f = burst_by_kept heap context faults d (context_of context d.contexts) f

-- a word of object 0

pub noted_fit : (heap word value : ℕ) (d : DomainState) → IsFitDomain heap d → IsFitDomain heap (noted word value d)
unfolding noted
noted_fit heap word value d f = record {
  memory = length-set d.memory (object_start 0 + word) value ∙ f.memory;
  contexts = f.contexts;
  entries = f.entries;
  ordered = f.ordered;
}

pub noted_set_fit : (heap : ℕ) (o : Op) (d : DomainState) → IsFitDomain heap d → IsFitDomain heap (noted_set o d)
noted_set_fit heap (op.Set key value) d f = noted_fit heap key value d f
noted_set_fit heap _ d f = f

pub noted_elsewhere : (object word value : ℕ) (d : DomainState) → 1 ≤ object → word < 64
    → object_words object (noted word value d).memory ≡ object_words object d.memory
unfolding noted
noted_elsewhere object word value d one w = kernel_word_elsewhere object word value d.memory one w

pub noted_there : (word value : ℕ) (d : DomainState) → object_words 0 (noted word value d).memory ≡ slice_set (object_words 0 d.memory) word value
unfolding noted
noted_there word value d = kernel_word word value d.memory

pub noted_set_elsewhere : (c : Class) (blocks object : ℕ) (o : Op) (d : DomainState) → static_check c blocks o ≡ None → 1 ≤ object
    → object_words object (noted_set o d).memory ≡ object_words object d.memory
noted_set_elsewhere c blocks object (op.Set key value) d h one =
    let k : key < 4 = set_key c blocks key value h in
    noted_elsewhere object key value d one (omega arith)
noted_set_elsewhere c blocks object _ d h one = refl

pub noted_set_reported : (c : Class) (blocks : ℕ) (o : Op) (d : DomainState) (config rest : List ℕ) → static_check c blocks o ≡ None
    → length config ≡ 4 → object_words 0 d.memory ≡ config ++ rest
    → object_words 0 (noted_set o d).memory ≡ config_after o config ++ rest
noted_set_reported c blocks (op.Set key value) d config rest h n reported =
    noted_there key value d ∙ ap (λ (xs : List ℕ). slice_set xs key value) reported ∙ set_reported config key value rest n (set_key c blocks key value h)
noted_set_reported c blocks _ d config rest h n reported = reported

pub noted_set_kernel : (o : Op) (d : DomainState) → is_set o ≡ false → object_words 0 (noted_set o d).memory ≡ object_words 0 d.memory
noted_set_kernel (op.Set key value) d h = cc
noted_set_kernel _ d h = refl

pub config_length : (o : Op) (config : List ℕ) → length config ≡ 4 → length (config_after o config) ≡ 4
config_length (op.Set key value) config n = length-set config key value ∙ n
config_length _ config n = n

-- the opening

opening_length : (c : Class) → length (opening_memory (defaults_of c)) ≡ 8192
unfolding opening_memory
opening_length class.Block = refl
opening_length class.Net = refl
opening_length class.Sound = refl

pub opening_reported : (c : Class) → object_words 0 (opening_memory (defaults_of c)) ≡ defaults_of c ++ (0 ∷ replicate 59 0)
unfolding opening_memory
opening_reported class.Block = refl
opening_reported class.Net = refl
opening_reported class.Sound = refl

pub opening_domain_fit : (heap : ℕ) (spec : PartSpec) → IsFitDomain heap (opening_domain spec)
unfolding opening_domain
opening_domain_fit heap spec = record {
  memory = opening_length spec.class;
  contexts = refl;
  entries = (tt, tt);
  ordered = refl;
}
