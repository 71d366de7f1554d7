-- What workers leave, in the terms of a run by threads.
use Rattle.std.proofs.Common.{◌≡◌, ℕ, zero, suc, ◌+◌, ◌<◌, ◌≤◌, ◌==◌, ◌⊎◌, inl, inr, Bool, true, false, Option, Some, None, is_some, List, [], ◌∷◌, length, map, get_or, slice_get, slice_index_or, refl, sym, ap, ◌∙◌, subst, arith}
use Rattle.std.specs.Prelude.{All}
use Rattle.std.specs.List.{filter}
use Rattle.std.proofs.lemmas.Bool.{cases_lt, ne_eqb}
use Rattle.std.proofs.lemmas.List.{length-map}
use Rattle.std.proofs.lemmas.Option.{get_or_from_slice_get, slice_get_within}
use Rattle.app_threads.proofs.Grown.{rising_filter}
use Rattle.app_threads.specs.Ends.{AreFinished, HasArrived}
use Rattle.app_threads.specs.Workers.{AreArrivals, AreFrames, AreReceipts, AreRising, AreScripts, IsNetAt, KeepAccounts, StayAlone, frame_of, frames_at, invokes_of}
use Rattle.desk_like.specs.Desks.{Accounts, DeskView, IsAlone, IsReceipt, IsRisingFrom}
use Rattle.nook_data.specs.Classes.{same_class}
use Rattle.nook_data.specs.declared.classes.Class.{Class}
use Rattle.nook_data.specs.declared.classes.Class.TheVariants as class
use Rattle.nook_data.specs.declared.steps.Event.{Event}
use Rattle.nook_data.specs.declared.steps.Event.TheVariants as event
use Rattle.nook_data.specs.declared.calls.Op.{Op}
use Rattle.nook_data.specs.declared.scenario.PartSpec.{PartSpec}
use Rattle.nook_data.specs.declared.desks.Receipt.{Receipt}
use Rattle.nook_data.specs.declared.scenario.Scenario.{Scenario}
use Rattle.nook_data.specs.declared.scenario.ThreadSpec.{ThreadSpec}
use Rattle.nook_data.specs.Numbered.{at_number}
use Rattle.nook_data.specs.Valid.{FitsClass, IsValidPart, IsValidScenario, IsValidThread}
use Rattle.part_laws.proofs.Indices.{some_same}
use Rattle.part_server.specs.Turns.{opening_view}
use Rattle.threaded_run.proofs.Counted.{added_all, has_no_others, invoked_same, no_others_from}
use Rattle.threaded_run.specs.Leaving.{AreAlone, AreNew, HaveRows, HaveWorked}
use Rattle.threaded_run.specs.Others.{HasNoOthers}
use Rattle.threaded_run.specs.Threaded.{ArriveAt, HasArrivals, HaveArrivals, HaveReceipts, invoked_on, journal_at}

abbrev pub seens_of : List DeskView → List (List Event)
seens_of views = map (λ v. v.seen) views

-- ---- receipts

seen_at : (views : List DeskView) (part : ℕ) (view : DeskView) → slice_get views part ≡ Some view → journal_at (seens_of views) part ≡ view.seen
seen_at [] part view e = cc
seen_at (v ∷ views) zero view e = ap (λ (x : DeskView). x.seen) (inner e)
  where
    inner : {a b : DeskView} → Some a ≡ Some b → a ≡ b
    inner h = cc
seen_at (v ∷ views) (suc part) view e = seen_at views part view e

receipts_of : (views : List DeskView) (thread : ℕ) (ops : List (ℕ × Op)) (receipts : List Receipt) → AreReceipts views thread ops receipts
    → HaveReceipts (seens_of views) thread ops receipts
receipts_of views thread [] [] h = tt
receipts_of views thread [] (receipt ∷ receipts) h = absurd h
receipts_of views thread (o ∷ ops) [] h = absurd h
receipts_of views thread ((part, op) ∷ ops) (receipt ∷ receipts) h = (
  subst (λ seen. IsReceipt seen thread op receipt) (sym (seen_at views part h.0.view h.0.there)) h.0.is,
  receipts_of views thread ops receipts h.1,
)

-- ---- rising numbers

rise_from_start : (n : ℕ) (numbers : List ℕ) → IsRisingFrom n numbers → IsRisingFrom 0 numbers
rise_from_start n [] h = tt
rise_from_start n (number ∷ numbers) h = (let low : n < number = h.0 in omega arith, h.1)

-- no operation is on a part that has no desk
invoked_nowhere : (views : List DeskView) (thread part : ℕ) (ops : List (ℕ × Op)) (receipts : List Receipt) → AreReceipts views thread ops receipts
    → length views ≤ part → invoked_on part ops receipts ≡ []
invoked_nowhere views thread part [] receipts h far = refl
invoked_nowhere views thread part (o ∷ ops) [] h far = refl
invoked_nowhere views thread part ((p, op) ∷ ops) (receipt ∷ receipts) h far =
    let near : p < length views = slice_get_within views p h.0.view h.0.there in
    let other : (p == part) ≡ false = ne_eqb p part (λ e. absurd (omega arith)) in
    rw other (invoked_nowhere views thread part ops receipts h.1 far)

some_view : (views : List DeskView) (part : ℕ) → part < length views → (view : DeskView) × (slice_get views part ≡ Some view)
some_view [] part near = absurd (omega arith)
some_view (v ∷ views) zero near = (v, refl)
some_view (v ∷ views) (suc part) near = some_view views part (omega arith)

rising_near : (olds views : List DeskView) (thread part : ℕ) (ops : List (ℕ × Op)) (receipts : List Receipt) → length views ≡ length olds
    → AreReceipts views thread ops receipts → AreRising olds ops receipts
    → (part < length olds) ⊎ (length olds ≤ part) → IsRisingFrom 0 (invoked_on part ops receipts)
rising_near olds views thread part ops receipts same h r (inl near) =
    let old = some_view olds part near in
    subst (IsRisingFrom 0) (invoked_same part ops receipts)
    (rise_from_start (length old.0.seen) (invokes_of part ops receipts) (r part old.0 old.1))
rising_near olds views thread part ops receipts same h r (inr far) =
    subst (IsRisingFrom 0) (sym (invoked_nowhere views thread part ops receipts h (omega arith))) tt

rows_from : (olds views : List DeskView) (thread : ℕ) (threads : List ThreadSpec) (rows : List (List Receipt)) → length views ≡ length olds
    → length rows ≡ length threads
    → ((t : ℕ) (script : ThreadSpec) (row : List Receipt) → slice_get threads t ≡ Some script → slice_get rows t ≡ Some row
    → AreReceipts views (thread + t) script.ops row × AreRising olds script.ops row)
    → HaveRows (seens_of views) thread threads rows
rows_from olds views thread [] [] same l h = tt
rows_from olds views thread [] (row ∷ rows) same l h = absurd (omega arith)
rows_from olds views thread (t ∷ threads) [] same l h = absurd (omega arith)
rows_from olds views thread (t ∷ threads) (row ∷ rows) same l h =
    let own = h 0 t row refl refl in
    let first : AreReceipts views thread t.ops row = subst (λ n. AreReceipts views n t.ops row) (omega arith) own.0 in (
      (
        receipts_of views thread t.ops row first,
        λ part. rising_near olds views thread part t.ops row same first own.1 (cases_lt part (length olds)),
      ),
      rows_from olds views (suc thread) threads rows same (omega arith)
          (λ k script r a b.
          let more = h (suc k) script r a b in
          (subst (λ n. AreReceipts views n script.ops r) (omega arith) more.0, more.1)),
    )

-- ---- arrivals

arrives_at : List Event → ℕ → Bool
arrives_at seen number = is_some (frame_of (at_number number seen))

arrive_at_one : (seen : List Event) (number : ℕ) (numbers : List ℕ) (o : Option Event) → at_number number seen ≡ o
    → ArriveAt seen (frames_at seen numbers) (filter (arrives_at seen) numbers)
    → ArriveAt seen (frames_at seen (number ∷ numbers)) (filter (arrives_at seen) (number ∷ numbers))
unfolding arrives_at
arrive_at_one seen number numbers None e h = rw e h
arrive_at_one seen number numbers (Some (event.Arrive frame kept)) e h =
    rw e ((kept, record { event = event.Arrive frame kept; there = e; is = (refl, refl) }), h)
arrive_at_one seen number numbers (Some (event.Invoke call thread op answer)) e h = rw e h
arrive_at_one seen number numbers (Some (event.Enter call thread attempt answer)) e h = rw e h
arrive_at_one seen number numbers (Some (event.Burst context call burst count end acts answer failure)) e h = rw e h
arrive_at_one seen number numbers (Some (event.Stage stage answers released)) e h = rw e h

arrive_at : (seen : List Event) (numbers : List ℕ) → ArriveAt seen (frames_at seen numbers) (filter (arrives_at seen) numbers)
arrive_at seen [] = tt
arrive_at seen (number ∷ numbers) = arrive_at_one seen number numbers (at_number number seen) refl (arrive_at seen numbers)

arrivals_of_one : (old view : DeskView) (frames : List (List ℕ)) → HasArrived old view frames → HasArrivals view.seen frames
arrivals_of_one old view frames h = record {
  numbers = filter (arrives_at view.seen) h.numbers;
  rising = rise_from_start (length old.seen) (filter (arrives_at view.seen) h.numbers)
      (rising_filter (arrives_at view.seen) (length old.seen) h.numbers h.rising);
  arrive = subst (λ xs. ArriveAt view.seen xs (filter (arrives_at view.seen) h.numbers)) h.arrived (arrive_at view.seen h.numbers);
}

arrivals_from : (parts : List PartSpec) (views : List DeskView) → length views ≡ length parts
    → ((d : ℕ) (spec : PartSpec) (view : DeskView) → slice_get parts d ≡ Some spec → slice_get views d ≡ Some view → HasArrivals view.seen spec.arrivals)
    → HaveArrivals parts (seens_of views)
arrivals_from [] [] l h = tt
arrivals_from [] (view ∷ views) l h = tt
arrivals_from (spec ∷ parts) [] l h = absurd (omega arith)
arrivals_from (spec ∷ parts) (view ∷ views) l h = (
  h 0 spec view refl refl,
  arrivals_from parts views (omega arith) (λ d s v a b. h (suc d) s v a b),
)

frames_of_part : (parts : List PartSpec) (d : ℕ) (spec : PartSpec) → slice_get parts d ≡ Some spec
    → slice_index_or (map (λ (s : PartSpec). s.arrivals) parts) d [] ≡ spec.arrivals
frames_of_part [] d spec h = cc
frames_of_part (p ∷ parts) zero spec h = ap (λ (s : PartSpec). s.arrivals) (inner h)
  where
    inner : {a b : PartSpec} → Some a ≡ Some b → a ≡ b
    inner h = cc
frames_of_part (p ∷ parts) (suc d) spec h = frames_of_part parts d spec h

-- ---- seats that were new

pub new_at : (olds : List DeskView) (d : ℕ) (view : DeskView) → AreNew olds → slice_get olds d ≡ Some view → view ≡ opening_view
new_at [] d view new h = cc
new_at (v ∷ olds) zero view new h = sym (some_same v view h) ∙ new.0
new_at (v ∷ olds) (suc d) view new h = new_at olds d view new.1 h

-- the first seat of a new desk accounts for all that was added through it, and is alone
pub new_accounts : Accounts opening_view
new_accounts = record { within = λ k d within. absurd (omega arith); all = λ alone number low high. absurd (omega arith) }

pub new_alone : IsAlone opening_view
new_alone point = refl

-- all that was done at the seat's desk was done through this seat, which is the only one
pub record DidAll (view : DeskView) : Type 0 where
  pub accounts : Accounts view
  pub alone : IsAlone view

-- seats that were new and the only ones, and stayed so during the work of others
pub did_all : (olds views : List DeskView) → AreNew olds → KeepAccounts olds views → StayAlone olds views
    → (d : ℕ) (view : DeskView) → slice_get views d ≡ Some view → DidAll view
did_all olds views new keep stay d view there =
    let within = slice_get_within views d view there in
    let old = some_view olds d (let same = keep.0 in omega arith) in
    let is : old.0 ≡ opening_view = new_at olds d old.0 new old.1 in
    record {
      accounts = (keep.1 d old.0 view old.1 there).still (subst Accounts (sym is) new_accounts);
      alone = (stay.1 d old.0 view old.1 there).still (subst IsAlone (sym is) new_alone);
    }

pub all_alone : (views : List DeskView) → ((d : ℕ) (view : DeskView) → slice_get views d ≡ Some view → DidAll view) → AreAlone views
all_alone [] h = tt
all_alone (v ∷ views) h = ((h 0 v refl).alone, all_alone views (λ d w there. h (suc d) w there))

-- ---- all together

finished_part : (specs parts : List PartSpec) (threads : List ThreadSpec) (olds views : List DeskView) (rows : List (List Receipt)) (d : ℕ) (spec : PartSpec) (old view : DeskView)
    → AreFinished specs threads (map (λ (s : PartSpec). s.arrivals) parts) olds views rows → HaveRows (seens_of views) 0 threads rows → old ≡ opening_view → DidAll view
    → slice_get parts d ≡ Some spec → slice_get olds d ≡ Some old → slice_get views d ≡ Some view → HasArrivals view.seen spec.arrivals → HasNoOthers threads d spec view.seen
finished_part specs parts threads olds views rows d spec old view h served new did at_part at_old at_view arrived =
    let g = h.gains.1 d old view at_old at_view in
    has_no_others view g.numbers
    (added_all old view g.numbers (ap (λ (v : DeskView). v.made) new) g.grows.made did.accounts did.alone)
    (seens_of views) threads rows served d (seen_at views d view at_view) g.invoked spec
    (g.arrived ∙ frames_of_part parts d spec at_part) arrived

pub have_worked : (specs parts : List PartSpec) (threads : List ThreadSpec) (olds views : List DeskView) (rows : List (List Receipt)) → length olds ≡ length parts
    → AreNew olds → KeepAccounts olds views → StayAlone olds views
    → AreFinished specs threads (map (λ (s : PartSpec). s.arrivals) parts) olds views rows → HaveWorked parts threads (seens_of views) rows
have_worked specs parts threads olds views rows long new keep stay h =
    let served : HaveRows (seens_of views) 0 threads rows =
    rows_from olds views 0 threads rows h.arrived.0 h.rows.0
    (λ t script row a b. (subst (λ n. AreReceipts views n script.ops row) (omega arith) (h.rows.1 t script row a b), h.rising t script row a b)) in
    let arrived : (d : ℕ) (spec : PartSpec) (view : DeskView) → slice_get parts d ≡ Some spec → slice_get views d ≡ Some view → HasArrivals view.seen spec.arrivals =
    λ d spec view a b.
    let within = slice_get_within parts d spec a in
    let old = some_view olds d (omega arith) in
    arrivals_of_one old.0 view spec.arrivals
    (subst (HasArrived old.0 view) (frames_of_part parts d spec a) (h.arrived.1 d old.0 view old.1 b)) in
    record {
      served = served;
      arrived = arrivals_from parts views (let n = h.arrived.0 in omega arith) arrived;
      no_others = no_others_from threads 0 parts views (let n = h.arrived.0 in omega arith)
          (λ d spec view a b.
          let within = slice_get_within parts d spec a in
          let old = some_view olds d (omega arith) in
          subst (λ (n : ℕ). HasNoOthers threads n spec view.seen) (omega arith)
          (finished_part specs parts threads olds views rows d spec old.0 view h served (new_at olds d old.0 new old.1)
          (did_all olds views new keep stay d view b) a old.1 b (arrived d spec view a b)));
    }

-- ---- what workers are given

script_fits : (count : ℕ) (thread : ThreadSpec) → IsValidThread count thread → (length thread.ops ≤ 256) × All (λ (o : ℕ × Op). o.0 < count) thread.ops
script_fits count thread v = (v.op_count, λ k d within. (v.ops k d within).0)

pub scripts_fit : (scenario : Scenario) (count : ℕ) → IsValidScenario scenario → count ≡ length scenario.parts → AreScripts count scenario.threads
scripts_fit scenario count v e =
    subst (λ n. AreScripts n scenario.threads) (sym e)
    (v.thread_count, λ k d within. script_fits (length scenario.parts) (get_or scenario.threads k d) (v.threads k d within))

frames_fit : (c : Class) (spec : PartSpec) → spec.class ≡ c → FitsClass c spec
    → (length spec.arrivals ≤ 256) × AreFrames spec.arrivals × (0 < length spec.arrivals → same_class c class.Net ≡ true)
frames_fit class.Block spec e f = rw f.2 (omega arith, (λ k d within. absurd (omega arith)), λ some. absurd (omega arith))
frames_fit class.Net spec e f = (f.2, (λ k d within. let v = f.3 k d within in (v.0, v.1.0)), λ some. refl)
frames_fit class.Sound spec e f = rw f.2 (omega arith, (λ k d within. absurd (omega arith)), λ some. absurd (omega arith))

part_at : (parts : List PartSpec) (d : ℕ) (frames : List (List ℕ)) → slice_get (map (λ (s : PartSpec). s.arrivals) parts) d ≡ Some frames
    → (spec : PartSpec) × (slice_get parts d ≡ Some spec) × (spec.arrivals ≡ frames)
part_at [] d frames h = cc
part_at (p ∷ parts) zero frames h = (p, refl, inner h)
  where
    inner : {a b : List (List ℕ)} → Some a ≡ Some b → a ≡ b
    inner h = cc
part_at (p ∷ parts) (suc d) frames h = part_at parts d frames h

pub valid_at : (parts : List PartSpec) (d : ℕ) (spec : PartSpec) → All IsValidPart parts → slice_get parts d ≡ Some spec → IsValidPart spec
valid_at parts d spec v h =
    let within = slice_get_within parts d spec h in
    subst IsValidPart (get_or_from_slice_get parts d spec spec h) (v d spec within)

net_at : (parts : List PartSpec) (d : ℕ) (spec : PartSpec) → slice_get parts d ≡ Some spec → same_class spec.class class.Net ≡ true → IsNetAt parts d
net_at parts d spec h e other k = subst (λ (s : PartSpec). same_class s.class class.Net ≡ true) (inner (sym h ∙ k)) e
  where
    inner : {a b : PartSpec} → Some a ≡ Some b → a ≡ b
    inner h = cc

pub arrivals_fit : (parts specs : List PartSpec) → All IsValidPart parts → specs ≡ parts → AreArrivals specs (map (λ (s : PartSpec). s.arrivals) parts)
arrivals_fit parts specs v e = subst (λ x. AreArrivals x (map (λ (s : PartSpec). s.arrivals) parts)) (sym e) (
  length-map parts (λ (s : PartSpec). s.arrivals),
  λ d frames h.
      let p = part_at parts d frames h in
      let fits = frames_fit p.0.class p.0 refl (valid_at parts d p.0 v p.1).fits in
      let own : (length frames ≤ 256) × AreFrames frames × (0 < length frames → same_class p.0.class class.Net ≡ true) =
      subst (λ fs. (length fs ≤ 256) × AreFrames fs × (0 < length fs → same_class p.0.class class.Net ≡ true)) p.2 fits in
      (own.0, own.1, λ some. net_at parts d p.0 p.1 (own.2 some)),
)

-- what the seats have seen
pub seens_are : {S : Type 0} (view : S → DeskView) (seats : List S) → map (λ s. (view s).seen) seats ≡ seens_of (map view seats)
seens_are view [] = refl
seens_are view (seat ∷ seats) = ap (λ xs. (view seat).seen ∷ xs) (seens_are view seats)

pub gathered : {S : Type 0} (view : S → DeskView) (specs parts : List PartSpec) (threads : List ThreadSpec) (olds news all : List S) (frames : List (List (List ℕ))) (rows : List (List Receipt))
    → all ≡ news → frames ≡ map (λ (s : PartSpec). s.arrivals) parts → length olds ≡ length parts
    → AreNew (map view olds) → KeepAccounts (map view olds) (map view news) → StayAlone (map view olds) (map view news)
    → AreFinished specs threads frames (map view olds) (map view news) rows → HaveWorked parts threads (map (λ s. (view s).seen) all) rows
gathered view specs parts threads olds news all frames rows a f l new keep stay h =
    subst (λ seens. HaveWorked parts threads seens rows) (sym (ap (map (λ s. (view s).seen)) a ∙ seens_are view news))
    (have_worked specs parts threads (map view olds) (map view news) rows (length-map olds view ∙ l) new keep stay
    (subst (λ x. AreFinished specs threads x (map view olds) (map view news) rows) f h))

pub left_alone : {S : Type 0} (view : S → DeskView) (olds news all : List S) → all ≡ news
    → AreNew (map view olds) → KeepAccounts (map view olds) (map view news) → StayAlone (map view olds) (map view news) → AreAlone (map view all)
left_alone view olds news all a new keep stay =
    subst (λ seats. AreAlone (map view seats)) (sym a) (all_alone (map view news) (did_all (map view olds) (map view news) new keep stay))
