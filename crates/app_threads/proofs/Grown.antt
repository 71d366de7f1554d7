-- What a longer list of events keeps, and what seats gain in consecutive steps.
use Rattle.std.proofs.Common.{◌≡◌, ℕ, zero, suc, ◌<◌, ◌≤◌, Bool, true, false, cond, Option, Some, None, is_some, List, [], ◌∷◌, ◌++◌, length, slice_get, subst, sym, refl, ap, ◌∙◌, arith, append_assoc, append-nil}
use Rattle.std.specs.Prelude.{All}
use Rattle.std.specs.List.{cons_option, filter}
use Rattle.std.proofs.lemmas.List.Elements.{All-head, All-tail, All-cons, All-nil, All-append, All-weaker, filter-append, filter_map-append}
use Rattle.std.proofs.lemmas.Option.{slice_get_within}
use mathlib.Core.List.{IsPrefix}
use Rattle.nook_data.specs.declared.steps.Event.{Event}
use Rattle.nook_data.specs.declared.steps.Event.TheVariants as event
use Rattle.nook_data.specs.declared.calls.Op.{Op}
use Rattle.nook_data.specs.declared.desks.Receipt.{Receipt}
use Rattle.nook_data.specs.Numbered.{at_number}
use Rattle.desk_like.specs.Desks.{Adds, AddsNothing, AreOthers, DeskView, Invokes, IsArrive, IsAt, IsInvoke, IsOther, IsReceipt, IsRisingFrom, Joins, IsReply}
use Rattle.app_threads.specs.Workers.{Does, Gains, Grows, frame_of, frames_at, invokes_at, is_invoke}
use Rattle.app_threads.proofs.Listed.{filter_map_none, filter_map_same, filter_none, filter_same, get_append, prefix_length, prefix_refl, prefix_trans}

-- ---- one event number

pub at_grows : (seen more : List Event) (number : ℕ) (e : Event) → at_number number seen ≡ Some e → IsPrefix seen more → at_number number more ≡ Some e
at_grows seen more zero e h p = absurd cc
at_grows seen more (suc number) e h p = subst (λ (l : List Event). slice_get l number ≡ Some e) p.1 (get_append seen p.0 number e h)

pub is_at_grows : (seen more : List Event) (number : ℕ) (Is : Event → Type 0) → IsPrefix seen more → IsAt seen number Is → IsAt more number Is
is_at_grows seen more number Is p h = record { event = h.event; there = at_grows seen more number h.event h.there p; is = h.is }

pub position_within : (seen : List Event) (number : ℕ) (e : Event) → at_number number seen ≡ Some e → number ≤ length seen
position_within seen zero e h = omega arith
position_within seen (suc number) e h = omega (arith, slice_get_within seen number e h)

abbrev pub There : List Event → ℕ → Type 0
There seen number = is_some (at_number number seen) ≡ true

some_of : (o : Option Event) → is_some o ≡ true → (e : Event) × (o ≡ Some e)
some_of None h = absurd cc
some_of (Some e) h = (e, refl)

pub event_there : (seen : List Event) (number : ℕ) → There seen number → (e : Event) × (at_number number seen ≡ Some e)
event_there seen number h = some_of (at_number number seen) h

pub there_is : (seen : List Event) (number : ℕ) (Is : Event → Type 0) → IsAt seen number Is → There seen number
there_is seen number Is h = ap is_some h.there

pub same_event : (seen more : List Event) (number : ℕ) → IsPrefix seen more → There seen number → at_number number more ≡ at_number number seen
same_event seen more number p h =
    let e = event_there seen number h in at_grows seen more number e.0 e.1 p ∙ sym e.1

-- ---- several event numbers

pub all_there_grow : (seen more : List Event) (numbers : List ℕ) → IsPrefix seen more → All (There seen) numbers → All (There more) numbers
all_there_grow seen more numbers p h =
    All-weaker (There seen) (There more) (λ number t. ap is_some (same_event seen more number p t) ∙ t) numbers h

pub all_within : (seen : List Event) (numbers : List ℕ) → All (There seen) numbers → All (λ number. number ≤ length seen) numbers
all_within seen numbers h =
    All-weaker (There seen) (λ number. number ≤ length seen) (λ number t. let e = event_there seen number t in position_within seen number e.0 e.1) numbers h

pub invokes_grow : (seen more : List Event) (numbers : List ℕ) → IsPrefix seen more → All (There seen) numbers → invokes_at more numbers ≡ invokes_at seen numbers
invokes_grow seen more numbers p h =
    filter_same (λ number. is_invoke (at_number number more)) (λ number. is_invoke (at_number number seen)) numbers
    (All-weaker (There seen) (λ number. is_invoke (at_number number more) ≡ is_invoke (at_number number seen)) (λ number t. ap is_invoke (same_event seen more number p t)) numbers h)

pub frames_grow : (seen more : List Event) (numbers : List ℕ) → IsPrefix seen more → All (There seen) numbers → frames_at more numbers ≡ frames_at seen numbers
frames_grow seen more numbers p h =
    filter_map_same (λ number. frame_of (at_number number more)) (λ number. frame_of (at_number number seen)) numbers
    (All-weaker (There seen) (λ number. frame_of (at_number number more) ≡ frame_of (at_number number seen)) (λ number t. ap frame_of (same_event seen more number p t)) numbers h)

other_invoke : (e : Event) → IsOther e → is_invoke (Some e) ≡ false
other_invoke (event.Invoke call thread op answer) h = absurd h
other_invoke (event.Enter call thread attempt answer) h = refl
other_invoke (event.Burst context call burst count end acts answer failure) h = refl
other_invoke (event.Stage stage answers released) h = refl
other_invoke (event.Arrive frame kept) h = absurd h

other_frame : (e : Event) → IsOther e → frame_of (Some e) ≡ None
other_frame (event.Invoke call thread op answer) h = absurd h
other_frame (event.Enter call thread attempt answer) h = refl
other_frame (event.Burst context call burst count end acts answer failure) h = refl
other_frame (event.Stage stage answers released) h = refl
other_frame (event.Arrive frame kept) h = absurd h

pub others_there : (seen : List Event) (numbers : List ℕ) → AreOthers seen numbers → All (There seen) numbers
others_there seen numbers h = All-weaker (λ number. IsAt seen number IsOther) (There seen) (λ number t. there_is seen number IsOther t) numbers h

pub others_invoke : (seen : List Event) (numbers : List ℕ) → AreOthers seen numbers → invokes_at seen numbers ≡ []
others_invoke seen numbers h =
    filter_none (λ number. is_invoke (at_number number seen)) numbers
    (All-weaker (λ number. IsAt seen number IsOther) (λ number. is_invoke (at_number number seen) ≡ false) (λ number t. ap is_invoke t.there ∙ other_invoke t.event t.is) numbers h)

pub others_frame : (seen : List Event) (numbers : List ℕ) → AreOthers seen numbers → frames_at seen numbers ≡ []
others_frame seen numbers h =
    filter_map_none (λ number. frame_of (at_number number seen)) numbers
    (All-weaker (λ number. IsAt seen number IsOther) (λ number. frame_of (at_number number seen) ≡ None) (λ number t. ap frame_of t.there ∙ other_frame t.event t.is) numbers h)

-- ---- rising numbers

pub rising_later : (a b : ℕ) (numbers : List ℕ) → a ≤ b → IsRisingFrom b numbers → IsRisingFrom a numbers
rising_later a b [] h r = r
rising_later a b (number ∷ numbers) h r = (let l = r.0 in omega arith, r.1)

pub rising_append : (a b : ℕ) (ps qs : List ℕ) → a ≤ b → IsRisingFrom a ps → All (λ number. number ≤ b) ps → IsRisingFrom b qs → IsRisingFrom a (ps ++ qs)
rising_append a b [] qs h r w s = rising_later a b qs h s
rising_append a b (p ∷ ps) qs h r w s =
    (r.0, rising_append p b ps qs (All-head (λ number. number ≤ b) p ps w) r.1 (All-tail (λ number. number ≤ b) p ps w) s)

pub rising_filter : (f : ℕ → Bool) (a : ℕ) (numbers : List ℕ) → IsRisingFrom a numbers → IsRisingFrom a (filter f numbers)
rising_filter f a [] r = r
rising_filter f a (p ∷ ps) r =
    let rest = rising_filter f p ps r.1 in
    let above : a < p = r.0 in
    elim (f p) as (λ b. IsRisingFrom a (cond b (p ∷ filter f ps) (filter f ps))) [ true ↦ (above, rest) | false ↦ rising_later a p (filter f ps) (omega arith) rest ]

-- ---- gains

abbrev pub grows_none : (v : DeskView) → Grows v v []
grows_none v = record { seen = prefix_refl v.seen; made = sym (append-nil v.made); there = All-nil (There v.seen) }

abbrev pub grows_more : (u v w : DeskView) (ps qs : List ℕ) → Grows u v ps → Grows v w qs → Grows u w (ps ++ qs)
grows_more u v w ps qs g h = record {
  seen = prefix_trans u.seen v.seen w.seen g.seen h.seen;
  made = h.made ∙ (ap (λ (m : List ℕ). m ++ qs) g.made ∙ append_assoc u.made ps qs);
  there = All-append (There w.seen) ps qs (all_there_grow v.seen w.seen ps h.seen g.there) h.there;
}

abbrev pub gains_none : (v : DeskView) → Gains v v [] []
gains_none v = record { numbers = []; grows = grows_none v; invoked = refl; arrived = refl }

abbrev pub gains_more : (u v w : DeskView) (is js : List ℕ) (fs gs : List (List ℕ)) → Gains u v is fs → Gains v w js gs → Gains u w (is ++ js) (fs ++ gs)
gains_more u v w is js fs gs g h = record {
  numbers = g.numbers ++ h.numbers;
  grows = grows_more u v w g.numbers h.numbers g.grows h.grows;
  invoked =
      filter-append (λ number. is_invoke (at_number number w.seen)) g.numbers h.numbers
      ∙ (ap (λ (m : List ℕ). m ++ invokes_at w.seen h.numbers) (invokes_grow v.seen w.seen g.numbers h.grows.seen g.grows.there ∙ g.invoked)
      ∙ ap (λ (m : List ℕ). is ++ m) h.invoked);
  arrived =
      filter_map-append (λ number. frame_of (at_number number w.seen)) g.numbers h.numbers
      ∙ (ap (λ (m : List (List ℕ)). m ++ frames_at w.seen h.numbers) (frames_grow v.seen w.seen g.numbers h.grows.seen g.grows.there ∙ g.arrived)
      ∙ ap (λ (m : List (List ℕ)). fs ++ m) h.arrived);
}

pub does_none : (v : DeskView) → Does v v [] []
does_none v = record { gains = gains_none v; rising = tt }

pub does_more : (u v w : DeskView) (is js : List ℕ) (fs gs : List (List ℕ)) → Does u v is fs → Does v w js gs → Does u w (is ++ js) (fs ++ gs)
does_more u v w is js fs gs g h = record {
  gains = gains_more u v w is js fs gs g.gains h.gains;
  rising = rising_append (length u.seen) (length v.seen) g.gains.numbers h.gains.numbers (prefix_length u.seen v.seen g.gains.grows.seen) g.rising (all_within v.seen g.gains.numbers g.gains.grows.there) h.rising;
}

-- ---- what the desk's calls add

pub nothing_does : (v w : DeskView) → AddsNothing v w → Does v w [] []
nothing_does v w a = record {
  gains = record { numbers = []; grows = record { seen = a.seen; made = a.made; there = All-nil (There w.seen) }; invoked = refl; arrived = refl };
  rising = tt;
}

invoke_is : (call thread : ℕ) (op : Op) (e : Event) → IsInvoke call thread op e → is_invoke (Some e) ≡ true
invoke_is call thread op (event.Invoke c t o answer) h = refl
invoke_is call thread op (event.Enter c t attempt answer) h = absurd h
invoke_is call thread op (event.Burst context c burst count end acts answer failure) h = absurd h
invoke_is call thread op (event.Stage stage answers released) h = absurd h
invoke_is call thread op (event.Arrive frame kept) h = absurd h

invoke_no_frame : (call thread : ℕ) (op : Op) (e : Event) → IsInvoke call thread op e → frame_of (Some e) ≡ None
invoke_no_frame call thread op (event.Invoke c t o answer) h = refl
invoke_no_frame call thread op (event.Enter c t attempt answer) h = refl
invoke_no_frame call thread op (event.Burst context c burst count end acts answer failure) h = refl
invoke_no_frame call thread op (event.Stage stage answers released) h = refl
invoke_no_frame call thread op (event.Arrive frame kept) h = absurd h

pub invokes_does : (v w : DeskView) (call thread : ℕ) (op : Op) (at : ℕ) → Invokes v w call thread op at → Does v w (at ∷ []) []
invokes_does v w call thread op at h = record {
  gains = record {
    numbers = at ∷ h.others;
    grows = record {
      seen = h.adds.seen;
      made = h.adds.made;
      there = All-cons (There w.seen) at h.others (there_is w.seen at (IsInvoke call thread op) h.invoked) (others_there w.seen h.others h.rest);
    };
    invoked =
        ap (λ b. cond b (at ∷ invokes_at w.seen h.others) (invokes_at w.seen h.others)) (ap is_invoke h.invoked.there ∙ invoke_is call thread op h.invoked.event h.invoked.is)
        ∙ ap (λ (m : List ℕ). at ∷ m) (others_invoke w.seen h.others h.rest);
    arrived =
        ap (λ o. cons_option o (frames_at w.seen h.others)) (ap frame_of h.invoked.there ∙ invoke_no_frame call thread op h.invoked.event h.invoked.is)
        ∙ others_frame w.seen h.others h.rest;
  };
  rising = h.adds.rising;
}

arrive_frame : (frame : List ℕ) (kept : Bool) (e : Event) → IsArrive frame kept e → frame_of (Some e) ≡ Some frame
arrive_frame frame kept (event.Invoke c t o answer) h = absurd h
arrive_frame frame kept (event.Enter c t attempt answer) h = absurd h
arrive_frame frame kept (event.Burst context c burst count end acts answer failure) h = absurd h
arrive_frame frame kept (event.Stage stage answers released) h = absurd h
arrive_frame frame kept (event.Arrive f k) h = ap Some h.0

arrive_no_invoke : (frame : List ℕ) (kept : Bool) (e : Event) → IsArrive frame kept e → is_invoke (Some e) ≡ false
arrive_no_invoke frame kept (event.Invoke c t o answer) h = absurd h
arrive_no_invoke frame kept (event.Enter c t attempt answer) h = refl
arrive_no_invoke frame kept (event.Burst context c burst count end acts answer failure) h = refl
arrive_no_invoke frame kept (event.Stage stage answers released) h = refl
arrive_no_invoke frame kept (event.Arrive f k) h = refl

pub arrives_does : (v w : DeskView) (frame : List ℕ) (kept : Bool) → ((number : ℕ) × Adds v w (number ∷ []) × IsAt w.seen number (IsArrive frame kept)) → Does v w [] (frame ∷ [])
arrives_does v w frame kept h = record {
  gains = record {
    numbers = h.0 ∷ [];
    grows = record {
      seen = h.1.seen;
      made = h.1.made;
      there = All-cons (There w.seen) h.0 [] (there_is w.seen h.0 (IsArrive frame kept) h.2) (All-nil (There w.seen));
    };
    invoked = ap (λ b. cond b (h.0 ∷ []) []) (ap is_invoke h.2.there ∙ arrive_no_invoke frame kept h.2.event h.2.is);
    arrived = ap (λ o. cons_option o []) (ap frame_of h.2.there ∙ arrive_frame frame kept h.2.event h.2.is);
  };
  rising = h.1.rising;
}

pub receipt_grows : (seen more : List Event) (thread : ℕ) (op : Op) (receipt : Receipt) → IsPrefix seen more → IsReceipt seen thread op receipt → IsReceipt more thread op receipt
receipt_grows seen more thread op receipt p h = record {
  invoked = is_at_grows seen more receipt.at_invoke (IsInvoke receipt.call thread op) p h.invoked;
  answered = is_at_grows seen more receipt.at_reply (IsReply receipt.call receipt.answer) p h.answered;
  ordered = h.ordered;
}

-- ---- joined seats

pub joins_gains : (s o v w : DeskView) (is : List ℕ) (fs : List (List ℕ)) → s.made ≡ [] → Joins v o w → Gains s o is fs → Gains v w is fs
joins_gains s o v w is fs none j g = record {
  numbers = g.numbers;
  grows = record {
    seen = j.seen;
    made = j.made ∙ ap (λ (m : List ℕ). v.made ++ m) (g.grows.made ∙ ap (λ (m : List ℕ). m ++ g.numbers) none);
    there = all_there_grow o.seen w.seen g.numbers j.other_seen g.grows.there;
  };
  invoked = invokes_grow o.seen w.seen g.numbers j.other_seen g.grows.there ∙ g.invoked;
  arrived = frames_grow o.seen w.seen g.numbers j.other_seen g.grows.there ∙ g.arrived;
}
