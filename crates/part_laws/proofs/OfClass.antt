use Rattle.std.proofs.Common.{◌≡◌, ℕ, true, Option, Some, None, List, refl}
use Rattle.std.proofs.lemmas.Bool.{cond-true, cond-false}
use Rattle.nook_data.specs.declared.calls.Answer.TheVariants as answered
use Rattle.nook_data.specs.declared.classes.Class.{Class}
use Rattle.nook_data.specs.declared.classes.Class.TheVariants.{Block, Net, Sound}
use Rattle.nook_data.specs.declared.calls.Op.{Op}
use Rattle.nook_data.specs.declared.calls.Op.TheVariants.{Read, Write, Send, Recv, Open, Play, Close, Get, Set}
use Rattle.nook_data.specs.Classes.{check_op, is_of_class, is_of_stream, is_play, same_class, sends, static_check}
use Rattle.part_laws.proofs.Indices.{split}

-- An open call passed the static check, so it fits the part's class: only a link sends a frame, and only a stream plays
-- a sample.

pub of_class : (class : Class) (size : ℕ) (o : Op) → static_check class size o ≡ None → is_of_class class o ≡ true
of_class class size o h = split (is_of_class class o)
    (λ t. t)
    (λ t. absurd cc (cond-false (is_of_class class o) (check_op class size o) (Some answered.BadClass) t, h))

pub sends_net : (class : Class) (frame : List ℕ) (o : Op) → sends frame o ≡ true → is_of_class class o ≡ true
    → same_class class Net ≡ true
sends_net class frame (Send own) s h = h
sends_net class frame (Read first count) s h = absurd cc
sends_net class frame (Write first words) s h = absurd cc
sends_net class frame Recv s h = absurd cc
sends_net class frame Open s h = absurd cc
sends_net class frame (Play samples) s h = absurd cc
sends_net class frame Close s h = absurd cc
sends_net class frame (Get key) s h = absurd cc
sends_net class frame (Set key value) s h = absurd cc

pub plays_sound : (class : Class) (o : Op) → is_play o ≡ true → is_of_class class o ≡ true → same_class class Sound ≡ true
plays_sound class (Play samples) s h = h
plays_sound class (Read first count) s h = absurd cc
plays_sound class (Write first words) s h = absurd cc
plays_sound class (Send frame) s h = absurd cc
plays_sound class Recv s h = absurd cc
plays_sound class Open s h = absurd cc
plays_sound class Close s h = absurd cc
plays_sound class (Get key) s h = absurd cc
plays_sound class (Set key value) s h = absurd cc

streams_sound : (class : Class) (o : Op) → is_of_stream o ≡ true → is_of_class class o ≡ true → same_class class Sound ≡ true
streams_sound class Open s h = h
streams_sound class (Play samples) s h = h
streams_sound class Close s h = h
streams_sound class (Read first count) s h = absurd cc
streams_sound class (Write first words) s h = absurd cc
streams_sound class (Send frame) s h = absurd cc
streams_sound class Recv s h = absurd cc
streams_sound class (Get key) s h = absurd cc
streams_sound class (Set key value) s h = absurd cc

is_net : (class : Class) → same_class class Net ≡ true → class ≡ Net
is_net Net h = refl
is_net Block h = absurd cc
is_net Sound h = absurd cc

is_sound : (class : Class) → same_class class Sound ≡ true → class ≡ Sound
is_sound Sound h = refl
is_sound Block h = absurd cc
is_sound Net h = absurd cc

pub recv_class : (class : Class) (size : ℕ) → static_check class size Recv ≡ None → class ≡ Net
recv_class class size h = is_net class (of_class class size Recv h)

pub stream_class : (class : Class) (size : ℕ) (o : Op) → is_of_stream o ≡ true → static_check class size o ≡ None → class ≡ Sound
stream_class class size o s h = is_sound class (streams_sound class o s (of_class class size o h))
