-- What a call adds to what a side's only seat has seen.
use Rattle.std.proofs.Common.{◌≡◌, ℕ, zero, suc, ◌+◌, ◌<◌, ◌≤◌, Bool, Option, Some, List, [], ◌∷◌, ◌++◌, length, drop, slice_get, subst, sym, refl, ap, ◌∙◌, arith, append-nil, length-append}
use Rattle.std.proofs.Math.Seq.{drop-append_seam}
use Rattle.std.proofs.lemmas.List.Elements.{All-contains, All-from_recursion}
use Rattle.std.proofs.lemmas.Map.Made.{Contains-tail}
use Rattle.std.proofs.lemmas.Option.{slice_get_within}
use Rattle.std.specs.List.{AllByRecursion, Contains}
use Rattle.nook_data.specs.declared.calls.Answer.{Answer}
use Rattle.nook_data.specs.declared.steps.Event.{Event}
use Rattle.nook_data.specs.declared.steps.Event.TheVariants as event
use Rattle.nook_data.specs.declared.calls.Op.{Op}
use Rattle.nook_data.specs.declared.scenario.PartSpec.{PartSpec}
use Rattle.nook_data.specs.Numbered.{at_number}
use Rattle.part_laws.proofs.Indices.{get_mid, some_same}
use Rattle.shares.specs.Shares.{Share}
use Rattle.desk_like.specs.Desks.{AddsNothing, DeskView, Invokes, IsAlone, IsAt, IsInvoke, IsOther, IsRisingFrom}
use Rattle.mirror_block.specs.Sides.{IsSide, KnowsSame, gained}

pub gained_is : (old new : DeskView) (more : List Event) → old.seen ++ more ≡ new.seen → gained old new ≡ more
gained_is old new more e = ap (drop (length old.seen)) (sym e) ∙ drop-append_seam old.seen more

-- ---- seats that know the same

pub same_as : (old new : DeskView) → new ≡ old → KnowsSame old new
same_as old new e = record {
  seen = ap (λ (v : DeskView). v.seen) e;
  made = ap (λ (v : DeskView). v.made) e;
  share = ap (λ (v : DeskView). v.share) e;
}

-- a seat's view with other events and another share, but with its own stamps and clock
abbrev view : DeskView → List Event → List ℕ → Share → DeskView
view v seen made share = record v { seen = seen; made = made; share = share }

same_view : (old new : DeskView) → KnowsSame old new → view old new.seen new.made new.share ≡ old
same_view old new k =
    ap (λ (s : List Event). view old s new.made new.share) k.seen
    ∙ ap (λ (m : List ℕ). view old old.seen m new.share) k.made
    ∙ ap (λ (s : Share). view old old.seen old.made s) k.share

pub same_side : (spec : PartSpec) (n : ℕ) (b : Bool) (old new : DeskView) → KnowsSame old new → IsSide spec n b old → IsSide spec n b new
same_side spec n b old new k s =
    let t : IsSide spec n b (view old new.seen new.made new.share) = subst (IsSide spec n b) (sym (same_view old new k)) s in
    record {
      class = t.class;
      size = t.size;
      alone = t.alone;
      accounts = record { within = t.accounts.within; all = t.accounts.all };
      run = t.run;
      none_open = t.none_open;
      idle = t.idle;
    }

-- ---- event numbers

position_is : (n k : ℕ) (xs : List Event) → n ≡ k → slice_get xs n ≡ slice_get xs k
position_is n k xs e = ap (λ (m : ℕ). slice_get xs m) e

-- past the end of a list, an index finds the items of the list that follows
pub position_after : (xs ys : List Event) (i : ℕ) → slice_get (xs ++ ys) (length xs + i) ≡ slice_get ys i
position_after [] ys i = position_is (0 + i) i ys (omega arith)
position_after (x ∷ xs) ys i = position_is (suc (length xs) + i) (suc (length xs + i)) (x ∷ xs ++ ys) (omega arith) ∙ position_after xs ys i

rising_from : (low last : ℕ) (indices : List ℕ) → low ≤ last → IsRisingFrom last indices → AllByRecursion (λ (q : ℕ). low ≤ q) indices
rising_from low last [] l r = tt
rising_from low last (index ∷ indices) l r =
    let first : last < index = r.0 in
    (omega arith, rising_from low index indices (omega arith) r.1)

-- the number of an event in a list is at most the list's length
within : (index : ℕ) (xs : List Event) (e : Event) → at_number index xs ≡ Some e → index ≤ length xs
within zero xs e h = absurd cc
within (suc index) xs e h = let l : index < length xs = slice_get_within xs index e h in omega arith

all_by_position : (P : Event → Type 0) (events : List Event) → ((i : ℕ) (e : Event) → slice_get events i ≡ Some e → P e) → AllByRecursion P events
all_by_position P [] h = tt
all_by_position P (e ∷ events) h = (h 0 e refl, all_by_position P events (λ i x at. h (suc i) x at))

-- ---- nothing was added

none_contained : (index : ℕ) → Contains [] index → ⊥
none_contained index c = let l = c.1 in absurd (omega arith)

-- if nothing was added through the only seat, it knows the same
pub nothing_added : (old new : DeskView) → IsAlone old → AddsNothing old new → KnowsSame old new
nothing_added old new alone a = record { seen = seen a.seen.0 a.seen.1; made = a.made ∙ append-nil old.made; share = a.share }
  where
    seen : (more : List Event) → old.seen ++ more ≡ new.seen → new.seen ≡ old.seen
    seen [] e = sym e ∙ append-nil old.seen
    seen (x ∷ more) e =
        let long : length old.seen + suc (length more) ≡ length new.seen = sym (length-append old.seen (x ∷ more)) ∙ ap length e in
        absurd (none_contained (suc (length old.seen)) (a.own alone (suc (length old.seen)) (omega arith) (omega arith)))

-- ---- a call was added

-- one invocation of thread 0 was added, followed by no other invocation and no arrival
pub record IsCalled (old new : DeskView) (call : ℕ) (o : Op) : Type 0 where
  pub answer : Option Answer
  pub tail : List Event
  pub seen : old.seen ++ event.Invoke call 0 o answer ∷ tail ≡ new.seen
  pub others : AllByRecursion IsOther tail

-- what was added through the only seat, by the number of the invocation
module _ (old new : DeskView) (call : ℕ) (o : Op) (at : ℕ) (alone : IsAlone old) (h : Invokes old new call 0 o at) where
  contained : (index : ℕ) → length old.seen < index → index ≤ length new.seen → Contains (at ∷ h.others) index
  contained index l m = h.adds.own alone index l m

  -- an event whose number is not the invocation's is neither an invocation nor an arrival
  other_position : (index : ℕ) → (at ≡ index → ⊥) → Contains (at ∷ h.others) index → IsAt new.seen index IsOther
  other_position index n c =
      All-contains (λ (q : ℕ). IsAt new.seen q IsOther) h.others index h.rest (Contains-tail at h.others index n c)

  -- the invocation comes right after what was seen
  first_position : at ≡ suc (length old.seen)
  first_position =
      let low : length old.seen < at = h.adds.rising.0 in
      let high : at ≤ length new.seen = within at new.seen h.invoked.event h.invoked.there in
      let above : AllByRecursion (λ (q : ℕ). at ≤ q) (at ∷ h.others) = (omega arith, rising_from at at h.others (omega arith) h.adds.rising.1) in
      let least : at ≤ suc (length old.seen) =
      All-contains (λ (q : ℕ). at ≤ q) (at ∷ h.others) (suc (length old.seen)) (All-from_recursion (λ (q : ℕ). at ≤ q) (at ∷ h.others) above)
      (contained (suc (length old.seen)) (omega arith) (omega arith)) in
      omega arith

  -- the other events that were added
  later : (first : Event) (tail : List Event) → old.seen ++ first ∷ tail ≡ new.seen → AllByRecursion IsOther tail
  later first tail e = all_by_position IsOther tail by_position
    where
      by_position : (i : ℕ) (x : Event) → slice_get tail i ≡ Some x → IsOther x
      by_position i x there =
          let index : ℕ = suc (length old.seen + suc i) in
          let found : at_number index new.seen ≡ Some x =
          ap (λ (l : List Event). at_number index l) (sym e) ∙ position_after old.seen (first ∷ tail) (suc i) ∙ there in
          let high : index ≤ length new.seen = within index new.seen x found in
          let same : at ≡ suc (length old.seen) = first_position in
          let other : IsAt new.seen index IsOther = other_position index (λ q. absurd (omega arith)) (contained index (omega arith) high) in
          subst IsOther (some_same other.event x (sym other.there ∙ found)) other.is

  by_first : (first : Event) (tail : List Event) → old.seen ++ first ∷ tail ≡ new.seen → IsInvoke call 0 o first → AllByRecursion IsOther tail
      → IsCalled old new call o
  by_first (event.Invoke c t p answer) tail e is others = record {
    answer = answer;
    tail = tail;
    seen = ap (λ (x : Event). old.seen ++ x ∷ tail)
        (sym (ap (λ (n : ℕ). event.Invoke n t p answer) is.0 ∙ ap (λ (n : ℕ). event.Invoke call n p answer) is.1 ∙ ap (λ (q : Op). event.Invoke call 0 q answer) is.2))
        ∙ e;
    others = others;
  }
  by_first (event.Enter c t attempt answer) tail e is others = absurd is
  by_first (event.Burst context c burst count end acts answer failure) tail e is others = absurd is
  by_first (event.Stage stage answers released) tail e is others = absurd is
  by_first (event.Arrive frame kept) tail e is others = absurd is

  pub called : IsCalled old new call o
  called = by_more h.adds.seen.0 h.adds.seen.1
    where
      by_more : (more : List Event) → old.seen ++ more ≡ new.seen → IsCalled old new call o
      by_more [] e =
          let low : length old.seen < at = h.adds.rising.0 in
          let high : at ≤ length new.seen = within at new.seen h.invoked.event h.invoked.there in
          let same : length old.seen ≡ length new.seen = ap length (sym (append-nil old.seen) ∙ e) in
          absurd (omega arith)
      by_more (first ∷ tail) e =
          let found : at_number at new.seen ≡ Some first =
          ap (λ (n : ℕ). at_number n new.seen) first_position ∙ ap (λ (l : List Event). slice_get l (length old.seen)) (sym e) ∙ get_mid old.seen tail first in
          let is : IsInvoke call 0 o first =
          subst (IsInvoke call 0 o) (some_same h.invoked.event first (sym h.invoked.there ∙ found)) h.invoked.is in
          by_first first tail e is (later first tail e)
