use Rattle.std.proofs.Common.{◌≡◌, ℕ, ◌+◌, ◌&&◌, not, cond, eqb, Bool, true, false, Option, Some, None, Result, Ok, Err, List, sym, refl, ap, ◌∙◌, nat_le, nat_lt, length}
use Rattle.std.proofs.lemmas.Bool.{eqb-true}
use Rattle.nook_data.specs.declared.classes.Class.{Class}
use Rattle.nook_data.specs.declared.classes.Class.TheVariants as class
use Rattle.nook_data.specs.declared.entries.Entry.{Entry}
use Rattle.nook_data.specs.declared.machine.BadParam.{BadParam}
use Rattle.nook_data.specs.declared.machine.Service.{Service}
use Rattle.nook_data.specs.declared.machine.Service.TheVariants as service
use Rattle.nook_data.specs.Classes.{same_class}
use Rattle.machine_defs.specs.Entries.{borrow_start, free_start}
use Rattle.machine_defs.specs.Services.{needs, is_frame_length, tested_length, checked_frame, checked, served}
use Rattle.machine_defs.specs.Services.{alloc_served, borrow_served, give_back_served}
use Rattle.part_laws.proofs.Crossings.{taken_up}

-- Only service 6 changes the kernel's queue.

abbrev pub is_rx : Service → Bool
is_rx (service.NetRx start len) = true
is_rx s = false

test_of : (t : Bool) (x y : Result Service BadParam) (s : Service) (G : Type 0) → cond t x y ≡ Ok s → (t ≡ true → x ≡ Ok s → G) → (t ≡ false → y ≡ Ok s → G) → G
test_of true x y s G h f g = f refl h
test_of false x y s G h f g = g refl h

abbrev or_service : Service → Result Service BadParam → Service
or_service d (Ok s) = s
or_service d (Err bad) = d

needed : (t : Bool) (number argument : ℕ) (x s : Service) → needs t number argument x ≡ Ok s → s ≡ x
needed true number argument x s h = sym (ap (or_service x) h)
needed false number argument x s h = absurd cc

frame_rx : (first second : ℕ) (c : Class) (s : Service) → checked_frame first second c ≡ Ok s → is_rx s ≡ true
frame_rx first second c s h = test_of (not (same_class c class.Net)) _ _ s (is_rx s ≡ true) h
    (λ t i. absurd cc)
    (λ t i. test_of (not (nat_le 2048 first && nat_le (first + tested_length second) 7360)) _ _ s (is_rx s ≡ true) i
    (λ u j. absurd cc)
    (λ u j. ap is_rx (needed (is_frame_length second) 6 2 (service.NetRx first second) s j)))

-- the number determines the service
pub checked_rx : (number first second : ℕ) (c : Class) (entries : List Entry) (s : Service) → checked number first second c entries ≡ Ok s
    → is_rx s ≡ eqb number 6
checked_rx number first second c entries s h =
    test_of (eqb number 1) _ _ s Same h (λ t i. other 1 t (ap is_rx (needed _ 1 1 (service.Alloc first) s i)) refl)
    (λ t1 h1. test_of (eqb number 2) _ _ s Same h1 (λ t i. other 2 t (ap is_rx (needed _ 2 1 (service.Free first) s i)) refl)
    (λ t2 h2. test_of (eqb number 3) _ _ s Same h2 (λ t i. other 3 t (ap is_rx (needed _ 3 1 service.Register s i)) refl)
    (λ t3 h3. test_of (eqb number 4) _ _ s Same h3 (λ t i. other 4 t (ap is_rx (needed _ 4 1 (service.Borrow first) s i)) refl)
    (λ t4 h4. test_of (eqb number 5) _ _ s Same h4 (λ t i. other 5 t (ap is_rx (needed _ 5 1 (service.GiveBack first) s i)) refl)
    (λ t5 h5. test_of (eqb number 6) _ _ s Same h5 (λ t i. frame_rx first second c s i ∙ sym t)
    (λ t6 h6. test_of (eqb number 7) _ _ s Same h6 (λ t i. other 7 t (sym (ap (λ r. is_rx (or_service s r)) i)) refl)
    (λ t7 h7. test_of (eqb number 8) _ _ s Same h7 (λ t i. other 8 t (sym (ap (λ r. is_rx (or_service s r)) i)) refl)
    (λ t8 h8. absurd cc))))))))
  where
    Same : Type 0
    Same = is_rx s ≡ eqb number 6

    other : (n : ℕ) → eqb number n ≡ true → is_rx s ≡ false → eqb n 6 ≡ false → is_rx s ≡ eqb number 6
    other n t r e = r ∙ sym (ap (λ m. eqb m 6) (eqb-true number n t) ∙ e)

alloc_queue : (n : ℕ) (o : Option ℕ) (memory : List ℕ) (entries : List Entry) (queue : List (List ℕ)) → (alloc_served n o memory entries queue).queue ≡ queue
alloc_queue n None memory entries queue = refl
alloc_queue n (Some start) memory entries queue = refl

borrow_queue : (n : ℕ) (o : Option ℕ) (memory : List ℕ) (entries : List Entry) (queue : List (List ℕ)) → (borrow_served n o memory entries queue).queue ≡ queue
borrow_queue n None memory entries queue = refl
borrow_queue n (Some start) memory entries queue = refl

give_back_queue : (n : ℕ) (o : Option ℕ) (memory : List ℕ) (entries : List Entry) (queue : List (List ℕ)) → (give_back_served n o memory entries queue).queue ≡ queue
give_back_queue n None memory entries queue = refl
give_back_queue n (Some start) memory entries queue = refl

-- the other services do not change the queue
pub queue_stays : (heap : ℕ) (s : Service) (memory : List ℕ) (entries : List Entry) (queue : List (List ℕ)) → is_rx s ≡ false
    → (served heap s memory entries queue).queue ≡ queue
unfolding served
queue_stays heap (service.Alloc n) memory entries queue h = alloc_queue n (free_start heap n entries) memory entries queue
queue_stays heap (service.Free address) memory entries queue h = refl
queue_stays heap service.Register memory entries queue h = refl
queue_stays heap (service.Borrow object) memory entries queue h = borrow_queue object (free_start heap 64 entries) memory entries queue
queue_stays heap (service.GiveBack object) memory entries queue h = give_back_queue object (borrow_start object entries) memory entries queue
queue_stays heap (service.NetRx start len) memory entries queue h = absurd cc
queue_stays heap service.Log memory entries queue h = refl
queue_stays heap service.Yield memory entries queue h = refl

-- service 6 appends the frame that it moved to the queue, if there is room
pub queue_takes : (heap : ℕ) (s : Service) (memory : List ℕ) (entries : List Entry) (queue : List (List ℕ)) → is_rx s ≡ true
    → (served heap s memory entries queue).queue ≡ taken_up (served heap s memory entries queue).moved queue
unfolding served
queue_takes heap (service.NetRx start len) memory entries queue h = refl
queue_takes heap (service.Alloc n) memory entries queue h = absurd cc
queue_takes heap (service.Free address) memory entries queue h = absurd cc
queue_takes heap service.Register memory entries queue h = absurd cc
queue_takes heap (service.Borrow object) memory entries queue h = absurd cc
queue_takes heap (service.GiveBack object) memory entries queue h = absurd cc
queue_takes heap service.Log memory entries queue h = absurd cc
queue_takes heap service.Yield memory entries queue h = absurd cc

-- its result says whether there was room
pub takes_answer : (heap : ℕ) (s : Service) (memory : List ℕ) (entries : List Entry) (queue : List (List ℕ)) → is_rx s ≡ true
    → (served heap s memory entries queue).answer ≡ cond (nat_lt (length queue) 64) 1 0
unfolding served
takes_answer heap (service.NetRx start len) memory entries queue h = refl
takes_answer heap (service.Alloc n) memory entries queue h = absurd cc
takes_answer heap (service.Free address) memory entries queue h = absurd cc
takes_answer heap service.Register memory entries queue h = absurd cc
takes_answer heap (service.Borrow object) memory entries queue h = absurd cc
takes_answer heap (service.GiveBack object) memory entries queue h = absurd cc
takes_answer heap service.Log memory entries queue h = absurd cc
takes_answer heap service.Yield memory entries queue h = absurd cc
