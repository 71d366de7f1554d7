-- Known bytes of a source that was read in pieces, and of a sink that was written to in pieces.
use Rattle.std.proofs.Common.{ℕ, ◌+◌, ◌<◌, ◌≤◌, List, [], ◌++◌, length, take, drop, refl, sym, ◌∙◌, ap, append_assoc, length-append, Option, None, Some, arith}
use Rattle.std.proofs.lemmas.List.{take-append-drop, take_all}
use Rattle.std.proofs.Math.Seq.{take-add}
use Rattle.std.proofs.lemmas.Grind.{common_steps}
use Rattle.std.specs.Io.KnownBytes.{Appends, Consumes, IsAtEnd, Keeps}
use Rattle.nook_io.specs.Causes.{AppendsPrefix, HoldsMore, ReadsAll, TakesAtMost}

-- no bytes are consumed from unchanged known bytes
pub consumes_none : (old : Option (List ℕ)) → Consumes old old []
consumes_none None = tt
consumes_none (Some xs) = refl

-- bytes are consumed, and then more
pub consumes_more : (old mid new : Option (List ℕ)) (xs ys : List ℕ) → Consumes old mid xs → Consumes mid new ys → Consumes old new (xs ++ ys)
consumes_more None mid new xs ys p q = tt
consumes_more (Some a) None new xs ys p q = absurd p
consumes_more (Some a) (Some b) None xs ys p q = absurd q
consumes_more (Some a) (Some b) (Some c) xs ys p q = grind (arith, common_steps)

-- if no bytes are left, all were read
pub reads_all : (old new : Option (List ℕ)) (xs : List ℕ) → Consumes old new xs → IsAtEnd new → ReadsAll old new xs
reads_all None new xs p q = tt
reads_all (Some a) None xs p q = absurd p
reads_all (Some a) (Some b) xs p q = (grind (arith, common_steps), q)

-- more bytes were read than the limit allows
pub holds_more : (old new : Option (List ℕ)) (xs : List ℕ) (limit : ℕ) → Consumes old new xs → limit < length xs → HoldsMore old limit
holds_more None new xs limit p q = tt
holds_more (Some a) None xs limit p q = absurd p
holds_more (Some a) (Some b) xs limit p q = grind (arith, common_steps)

-- at most n bytes were taken
pub takes_front : (old new : Option (List ℕ)) (xs : List ℕ) (n : ℕ) → Consumes old new xs → length xs ≤ n → TakesAtMost old new n
takes_front old new xs n p few = record { front = xs; taken = p; few = few }

-- bytes are taken, and then more, at most n together
pub takes_more : (old mid new : Option (List ℕ)) (xs ys : List ℕ) (n : ℕ) → Consumes old mid xs → Consumes mid new ys → length xs + length ys ≤ n → TakesAtMost old new n
takes_more old mid new xs ys n p q few = record {
  front = xs ++ ys;
  taken = consumes_more old mid new xs ys p q;
  few = rw (length-append xs ys) few;
}

-- at most n bytes are taken, and then none
pub takes_kept : (old mid new : Option (List ℕ)) (xs : List ℕ) (n : ℕ) → Consumes old mid xs → Keeps mid new → length xs ≤ n → TakesAtMost old new n
takes_kept None mid new xs n p q few = record { front = xs; taken = tt; few = few }
takes_kept (Some a) None new xs n p q few = absurd p
takes_kept (Some a) (Some b) None xs n p q few = absurd q
takes_kept (Some a) (Some b) (Some c) xs n p q few = record { front = xs; taken = p ∙ ap (λ rest. xs ++ rest) (sym q); few = few }

-- unchanged known bytes grow by no bytes
pub appends_none : (old : Option (List ℕ)) → Appends old old []
appends_none None = tt
appends_none (Some xs) = grind (arith, common_steps)

-- a prefix of a text is appended, and then more of it
pub appends_next : (old mid new : Option (List ℕ)) (text : List ℕ) (at n : ℕ) → Appends old mid (take at text) → Appends mid new (take n (drop at text)) → Appends old new (take (at + n) text)
appends_next None mid new text at n p q = tt
appends_next (Some a) None new text at n p q = absurd p
appends_next (Some a) (Some b) None text at n p q = absurd q
appends_next (Some a) (Some b) (Some c) text at n p q = rw (take-add at n text, q, p) (append_assoc a (take at text) (take n (drop at text)))

-- a prefix of a text is appended, and then nothing
pub appends_front : (old mid new : Option (List ℕ)) (text : List ℕ) (at : ℕ) → Appends old mid (take at text) → Keeps mid new → AppendsPrefix old new text
appends_front None mid new text at p q = record { front = take at text; rest = drop at text; gained = tt; whole = take-append-drop at text }
appends_front (Some a) None new text at p q = absurd p
appends_front (Some a) (Some b) None text at p q = absurd q
appends_front (Some a) (Some b) (Some c) text at p q = record { front = take at text; rest = drop at text; gained = q ∙ p; whole = take-append-drop at text }

-- a prefix as long as the text is the whole text
pub appends_whole : (old new : Option (List ℕ)) (text : List ℕ) (at : ℕ) → Appends old new (take at text) → length text ≤ at → Appends old new text
appends_whole None new text at p q = tt
appends_whole (Some a) None text at p q = absurd p
appends_whole (Some a) (Some b) text at p q = p ∙ ap (λ front. a ++ front) (take_all at text q)
