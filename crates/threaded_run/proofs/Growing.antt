-- An item of a list has the same index in every list that begins with it.
use Rattle.std.proofs.Common.{◌≡◌, ℕ, zero, suc, Some, List, [], ◌∷◌, ◌++◌, slice_get, subst}
use mathlib.Core.List.{IsPrefix}
use Rattle.desk_like.specs.Desks.{IsAt, IsReceipt}
use Rattle.nook_data.specs.declared.steps.Event.{Event}
use Rattle.nook_data.specs.declared.calls.Op.{Op}
use Rattle.nook_data.specs.declared.desks.Receipt.{Receipt}
use Rattle.nook_data.specs.Numbered.{at_number}
use Rattle.threaded_run.specs.Threaded.{ArriveAt, HasArrivals, HaveReceipts, journal_at}

got_before : {X : Type 0} (i : ℕ) (a c : List X) (x : X) → slice_get a i ≡ Some x → slice_get (a ++ c) i ≡ Some x
got_before i [] c x h = cc
got_before zero (y ∷ a) c x h = h
got_before (suc i) (y ∷ a) c x h = got_before i a c x h

at_grown : {X : Type 0} (number : ℕ) (a b : List X) (x : X) → IsPrefix a b → at_number number a ≡ Some x → at_number number b ≡ Some x
at_grown zero a b x p h = h
at_grown (suc number) a b x p h = subst (λ z. slice_get z number ≡ Some x) p.1 (got_before number a p.0 x h)

pub is_at_grown : (seen journal : List Event) (number : ℕ) (Is : Event → Type 0) → IsPrefix seen journal → IsAt seen number Is → IsAt journal number Is
is_at_grown seen journal number Is p h = record {
  event = h.event;
  there = at_grown number seen journal h.event p h.there;
  is = h.is;
}

receipt_grown : (seen journal : List Event) (thread : ℕ) (op : Op) (receipt : Receipt) → IsPrefix seen journal
    → IsReceipt seen thread op receipt → IsReceipt journal thread op receipt
receipt_grown seen journal thread op receipt p h = record {
  invoked = is_at_grown seen journal receipt.at_invoke _ p h.invoked;
  answered = is_at_grown seen journal receipt.at_reply _ p h.answered;
  ordered = h.ordered;
}

pub receipts_grown : (seens journals : List (List Event)) (thread : ℕ) (ops : List (ℕ × Op)) (receipts : List Receipt)
    → ((part : ℕ) → IsPrefix (journal_at seens part) (journal_at journals part))
    → HaveReceipts seens thread ops receipts → HaveReceipts journals thread ops receipts
receipts_grown seens journals thread [] [] begin h = h
receipts_grown seens journals thread [] (receipt ∷ receipts) begin h = h
receipts_grown seens journals thread (o ∷ ops) [] begin h = absurd h
receipts_grown seens journals thread ((part, op) ∷ ops) (receipt ∷ receipts) begin h = (
  receipt_grown (journal_at seens part) (journal_at journals part) thread op receipt (begin part) h.0,
  receipts_grown seens journals thread ops receipts begin h.1,
)

pub arrive_grown : (seen journal : List Event) (frames : List (List ℕ)) (numbers : List ℕ) → IsPrefix seen journal
    → ArriveAt seen frames numbers → ArriveAt journal frames numbers
arrive_grown seen journal [] [] p h = h
arrive_grown seen journal [] (number ∷ numbers) p h = h
arrive_grown seen journal (frame ∷ frames) [] p h = h
arrive_grown seen journal (frame ∷ frames) (number ∷ numbers) p h = (
  (h.0.0, is_at_grown seen journal number _ p h.0.1),
  arrive_grown seen journal frames numbers p h.1,
)

pub arrivals_grown : (seen journal : List Event) (frames : List (List ℕ)) → IsPrefix seen journal
    → HasArrivals seen frames → HasArrivals journal frames
arrivals_grown seen journal frames p h = record {
  numbers = h.numbers;
  rising = h.rising;
  arrive = arrive_grown seen journal frames h.numbers p h.arrive;
}
