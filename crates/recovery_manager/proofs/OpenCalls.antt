-- Stop processes the open calls from the first to the last.
use Rattle.std.proofs.Common.{◌≡◌, ℕ, zero, suc, ◌+◌, ◌≤◌, Option, Some, None, List, [], ◌∷◌, ◌++◌, length, drop, slice_get, refl, sym, ap, ◌∙◌, append_assoc, length-append, arith}
use Rattle.nook_data.specs.declared.calls.Answer.{Answer}
use Rattle.nook_data.specs.declared.calls.Answer.TheVariants as answer
use Rattle.nook_data.specs.declared.calls.CallEntry.{CallEntry}
use Rattle.nook_data.specs.declared.calls.Op.{Op}
use Rattle.nook_data.specs.declared.calls.Op.TheVariants as op
use Rattle.nook_data.specs.declared.steps.Stage.{Stage}
use Rattle.nook_data.specs.declared.steps.Stage.TheVariants as stage
use Rattle.part_defs.specs.Log.{shadow_answer, frame_or_empty, queue_after, with_answer, stop_answers, stop_queue}
use Rattle.part_defs.specs.Log.{gone_answers}
use Rattle.nook_data.specs.Frames.{front_of}
use Rattle.shadow_proxy.specs.Front.{front_for}
use Rattle.shadow_proxy.specs.Table.{queue_of}

-- the first frame decides what the queue decides

front_decides : (queue : List (List ℕ)) → frame_or_empty (queue_of (front_of queue)) ≡ frame_or_empty queue
front_decides [] = refl
front_decides (frame ∷ queue) = refl

same_answer : (o : Op) (thread : ℕ) (config : List ℕ) (holder : Option ℕ) (s : Stage) (queue : List (List ℕ))
    → shadow_answer o thread config holder s (queue_of (front_for o queue)) ≡ shadow_answer o thread config holder s queue
unfolding shadow_answer
same_answer (op.Read first count) thread config holder s queue = refl
same_answer (op.Write first words) thread config holder s queue = refl
same_answer (op.Send frame) thread config holder s queue = refl
same_answer op.Recv thread config holder s queue = ap Some (front_decides queue)
same_answer op.Open thread config holder s queue = refl
same_answer (op.Play samples) thread config holder s queue = refl
same_answer op.Close thread config holder s queue = refl
same_answer (op.Get key) thread config holder s queue = refl
same_answer (op.Set key value) thread config holder s queue = refl

pub answered_by_front : (o : Op) (thread : ℕ) (config : List ℕ) (holder : Option ℕ) (s : Stage) (queue : List (List ℕ)) (front : Option (List ℕ)) (a : Option Answer)
    → front ≡ front_for o queue → a ≡ shadow_answer o thread config holder s (queue_of front) → a ≡ shadow_answer o thread config holder s queue
answered_by_front o thread config holder s queue front a e h = h ∙ (ap (λ z. shadow_answer o thread config holder s (queue_of z)) e ∙ same_answer o thread config holder s queue)

-- the call at an index, and the calls after it

split_at : (xs : List CallEntry) (i n : ℕ) (x : CallEntry) → slice_get xs i ≡ Some x → n ≡ suc i → drop i xs ≡ x ∷ drop n xs
split_at [] i n x e k = let h : None ≡ Some x = e in absurd (cc)
split_at (y ∷ xs) zero n x e k = let h : Some y ≡ Some x = e in let same : y ≡ x = cc in rw (k, same) refl
split_at (y ∷ xs) (suc i) n x e k = rw k (split_at xs i (suc i) x e refl)

answer_first : (call : ℕ) (a : Option Answer) (rest : List (ℕ × Answer)) → with_answer call a [] ++ rest ≡ with_answer call a rest
answer_first call None rest = refl
answer_first call (Some a) rest = refl

pub stop_more : (xs : List CallEntry) (i n : ℕ) (x : CallEntry) (config : List ℕ) (holder : Option ℕ) (queue left : List (List ℕ))
    (made more whole : List (ℕ × Answer)) (a : Option Answer)
    → slice_get xs i ≡ Some x → n ≡ suc i → a ≡ shadow_answer x.op x.thread config holder stage.Stop queue → left ≡ queue_after x.op queue
    → more ≡ made ++ with_answer x.call a [] → made ++ stop_answers (drop i xs) config holder queue ≡ whole
    → more ++ stop_answers (drop n xs) config holder left ≡ whole
stop_more xs i n x config holder queue left made more whole a e k h q m w =
    ap (λ z. z ++ stop_answers (drop n xs) config holder left) m
    ∙ (append_assoc made (with_answer x.call a []) (stop_answers (drop n xs) config holder left)
    ∙ (ap (λ z. made ++ z) (answer_first x.call a (stop_answers (drop n xs) config holder left)
    ∙ rw (split_at xs i n x e k, h, q) refl) ∙ w))

pub queue_more : (xs : List CallEntry) (i n : ℕ) (x : CallEntry) (queue left : List (List ℕ)) → slice_get xs i ≡ Some x → n ≡ suc i → left ≡ queue_after x.op queue
    → stop_queue (drop n xs) left ≡ stop_queue (drop i xs) queue
queue_more xs i n x queue left e k q = rw (split_at xs i n x e k, q) refl

answer_long : (call : ℕ) (a : Option Answer) → length (with_answer call a []) ≤ 1
answer_long call None = omega arith
answer_long call (Some a) = omega arith

pub long_more : (made more : List (ℕ × Answer)) (call i : ℕ) (a : Option Answer) → more ≡ made ++ with_answer call a [] → length made ≤ i → length more ≤ i + 1
long_more made more call i a e l = rw e (omega (arith, length-append made (with_answer call a []), answer_long call a, l))

pub gone_more : (failures : ℕ) (xs : List CallEntry) (i n : ℕ) (x : CallEntry) (made more : List (ℕ × Answer)) → slice_get xs i ≡ Some x → n ≡ suc i
    → made ++ gone_answers failures (drop i xs) ≡ gone_answers failures xs → more ≡ made ++ (x.call, answer.Gone failures) ∷ []
    → more ++ gone_answers failures (drop n xs) ≡ gone_answers failures xs
gone_more failures xs i n x made more e k h m =
    ap (λ z. z ++ gone_answers failures (drop n xs)) m
    ∙ (append_assoc made ((x.call, answer.Gone failures) ∷ []) (gone_answers failures (drop n xs))
    ∙ (ap (λ z. made ++ gone_answers failures z) (sym (split_at xs i n x e k)) ∙ h))
