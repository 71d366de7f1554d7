-- The scenario of each member of a valid campaign is within every limit: the struck part has room for one more fault.
use Rattle.std.proofs.Common.{◌≡◌, ◌∙◌, refl, sym, subst, ap, ℕ, zero, suc, ◌≤◌, true, List, [], ◌∷◌, ◌++◌, length, Option, Some, None, arith, length-append}
use Rattle.std.specs.Prelude.{All, slice_get}
use Rattle.std.proofs.lemmas.List.Elements.{All-cons, All-head, All-push, All-same, All-tail}
use Rattle.nook_data.specs.Members.{IsValidCampaign, faults_at, member, struck_parts, with_fault, with_struck}
use Rattle.nook_data.specs.Valid.{part_names}
use Rattle.nook_data.specs.Valid.{FitsClass, IsValidFault, IsValidPart, IsValidScenario, IsValidThread, are_distinct}
use Rattle.nook_data.specs.declared.campaign.Campaign.{Campaign}
use Rattle.nook_data.specs.declared.classes.Class.{Class}
use Rattle.nook_data.specs.declared.classes.Class.TheVariants as class
use Rattle.nook_data.specs.declared.scenario.Fault.{Fault}
use Rattle.nook_data.specs.declared.scenario.PartSpec.{PartSpec}

-- ---- the struck part

still_fits : (c : Class) (fault : Fault) (part : PartSpec) → FitsClass c part → FitsClass c (with_fault fault part)
still_fits class.Block fault part h = h
still_fits class.Net fault part h = h
still_fits class.Sound fault part h = h

still_valid : (fault : Fault) (part : PartSpec) → IsValidPart part → length part.faults ≤ 63 → IsValidFault fault → IsValidPart (with_fault fault part)
still_valid fault part h few f = record {
  name = h.name;
  fits = still_fits part.class fault part h.fits;
  bad_count = h.bad_count;
  bad = h.bad;
  limit = h.limit;
  class = h.class;
  image = h.image;
  fault_count = omega (arith, few, length-append part.faults (fault ∷ []));
  faults = All-push IsValidFault part.faults fault h.faults f;
}

-- ---- all parts

struck_after : (part : PartSpec) (more : List PartSpec) (index : ℕ) (fault : Fault) (o : Option PartSpec)
    → with_struck (part ∷ more) (suc index) fault o ≡ part ∷ with_struck more index fault o
struck_after part more index fault None = refl
struck_after part more index fault (Some x) = refl

parts_valid : (parts : List PartSpec) (index : ℕ) (fault : Fault) → All IsValidPart parts → length (faults_at parts index) ≤ 63 → IsValidFault fault
    → All IsValidPart (struck_parts parts index fault)
parts_valid [] index fault h few f = h
parts_valid (part ∷ more) zero fault h few f =
    All-cons IsValidPart (with_fault fault part) more (still_valid fault part (All-head IsValidPart part more h) few f) (All-tail IsValidPart part more h)
parts_valid (part ∷ more) (suc index) fault h few f =
    All-same IsValidPart (struck_parts (part ∷ more) (suc index) fault) (part ∷ struck_parts more index fault)
    (struck_after part more index fault (slice_get more index))
    (All-cons IsValidPart part (struck_parts more index fault) (All-head IsValidPart part more h)
    (parts_valid more index fault (All-tail IsValidPart part more h) few f))

same_names : (parts : List PartSpec) (index : ℕ) (fault : Fault) → part_names (struck_parts parts index fault) ≡ part_names parts
same_names [] index fault = refl
same_names (part ∷ more) zero fault = refl
same_names (part ∷ more) (suc index) fault =
    ap part_names (struck_after part more index fault (slice_get more index)) ∙ ap (λ names. part.name ∷ names) (same_names more index fault)

pub same_count : (parts : List PartSpec) (index : ℕ) (fault : Fault) → length (struck_parts parts index fault) ≡ length parts
same_count [] index fault = refl
same_count (part ∷ more) zero fault = refl
same_count (part ∷ more) (suc index) fault =
    ap length (struck_after part more index fault (slice_get more index)) ∙ ap suc (same_count more index fault)

-- ---- the scenario

pub member_is_valid : (campaign : Campaign) (fault : Fault) → IsValidCampaign campaign → IsValidFault fault → IsValidScenario (member campaign fault)
member_is_valid campaign fault h f =
    let parts = campaign.base.parts in
    let count : length (struck_parts parts campaign.part fault) ≡ length parts = same_count parts campaign.part fault in
    record {
      schedule = h.base.schedule;
      part_count = (omega (arith, count, h.base.part_count.0), omega (arith, count, h.base.part_count.1));
      parts = parts_valid parts campaign.part fault h.base.parts h.room f;
      part_names = ap are_distinct (same_names parts campaign.part fault) ∙ h.base.part_names;
      thread_count = h.base.thread_count;
      threads = subst (λ n. All (IsValidThread n) campaign.base.threads) (sym count) h.base.threads;
      thread_names = h.base.thread_names;
    }
