-- What a call's reply breaks, by its operation and its answer.
use Rattle.std.proofs.Common.{◌≡◌, ℕ, ◌||◌, ◌&&◌, not, Bool, true, false, Option, Some, None, List, [], ◌∷◌, length, refl, ap, ◌∙◌, arith, nat_lt}
use Rattle.std.specs.Prelude.{◌==◌, bytes_eq, slice_index}
use Rattle.std.proofs.lemmas.Bool.Decides.{nat_tests}
use Rattle.nook_data.specs.declared.calls.Answer.{Answer}
use Rattle.nook_data.specs.declared.calls.Answer.TheVariants as answer
use Rattle.nook_data.specs.declared.calls.Op.{Op}
use Rattle.nook_data.specs.declared.calls.Op.TheVariants as op
use Rattle.promise_defs.specs.Blocks.{get_blocks, has_block, holds_from}
use Rattle.part_laws.specs.Watch.{Watch, Watched, owes, required}
use Rattle.nook_data.specs.Frames.{is_empty, is_empty as was_empty}
use Rattle.nook_data.specs.Clauses.{all_clauses}
use Rattle.promise_defs.specs.Contract.{breaks, replies}
use Rattle.part_laws.proofs.Known.{known_of}
use Rattle.part_laws.proofs.Picked.{opened_call}
use Rattle.part_laws.proofs.Smallest.{smallest_or}

pub not_twice : (b : Bool) → not (not b) ≡ b
not_twice true = refl
not_twice false = refl

sent_some : (n : ℕ) → not (n == 0) ≡ nat_lt 0 n
sent_some n = grind (arith, nat_tests)

left_in : (a b : Bool) → not (not a && not b) ≡ (a || b)
left_in true b = refl
left_in false true = refl
left_in false false = refl

pub same_empty : (frames : List (List ℕ)) → is_empty frames ≡ was_empty frames
same_empty [] = refl
same_empty (x ∷ frames) = refl

pub reply_broken : (n : ℕ) (flags : List Bool) (w : Watch) (c : Watched) (o : Op) (a : Answer)
    → smallest_or all_clauses (λ clause. breaks clause (known_of flags w) (Some (opened_call n (record c { op = o }))) (replies a)) w.clause
    ≡ owes c o a w
reply_broken n flags w c (op.Read first count) answer.Done = refl
reply_broken n flags w c (op.Write first words) answer.Done = ap (λ b. required b 3 w.clause) (not_twice (holds_from 0 (op.Write first words) w.medium))
reply_broken n flags w c (op.Send frame) answer.Done = ap (λ b. required b 7 w.clause) (sent_some c.sent)
reply_broken n flags w c op.Recv answer.Done = ap (λ b. required b 9 w.clause) (left_in (is_empty w.ring) c.handed ∙ ap (λ e. e || c.handed) (same_empty w.ring))
reply_broken n flags w c op.Open answer.Done = refl
reply_broken n flags w c (op.Play samples) answer.Done = ap (λ b. required b 11 w.clause) (not_twice (c.played == length samples))
reply_broken n flags w c op.Close answer.Done = refl
reply_broken n flags w c (op.Get key) answer.Done = refl
reply_broken n flags w c (op.Set key value) answer.Done = ap (λ b. required b 13 w.clause) (not_twice (slice_index w.registers key == value))
reply_broken n flags w c (op.Read first count) (answer.Blocks reported) = ap (λ b. required b 4 w.clause) (not_twice (bytes_eq reported (get_blocks w.medium first count)))
reply_broken n flags w c (op.Write first words) (answer.Blocks reported) = refl
reply_broken n flags w c (op.Send frame) (answer.Blocks reported) = refl
reply_broken n flags w c op.Recv (answer.Blocks reported) = ap (λ b. required b 9 w.clause) (left_in (is_empty w.ring) c.handed ∙ ap (λ e. e || c.handed) (same_empty w.ring))
reply_broken n flags w c op.Open (answer.Blocks reported) = refl
reply_broken n flags w c (op.Play samples) (answer.Blocks reported) = refl
reply_broken n flags w c op.Close (answer.Blocks reported) = refl
reply_broken n flags w c (op.Get key) (answer.Blocks reported) = refl
reply_broken n flags w c (op.Set key value) (answer.Blocks reported) = refl
reply_broken n flags w c (op.Read first count) (answer.Value word) = refl
reply_broken n flags w c (op.Write first words) (answer.Value word) = refl
reply_broken n flags w c (op.Send frame) (answer.Value word) = refl
reply_broken n flags w c op.Recv (answer.Value word) = ap (λ b. required b 9 w.clause) (left_in (is_empty w.ring) c.handed ∙ ap (λ e. e || c.handed) (same_empty w.ring))
reply_broken n flags w c op.Open (answer.Value word) = refl
reply_broken n flags w c (op.Play samples) (answer.Value word) = refl
reply_broken n flags w c op.Close (answer.Value word) = refl
reply_broken n flags w c (op.Get key) (answer.Value word) = ap (λ b. required b 14 w.clause) (not_twice (slice_index w.registers key == word))
reply_broken n flags w c (op.Set key value) (answer.Value word) = refl
reply_broken n flags w c (op.Read first count) (answer.Frame reported) = refl
reply_broken n flags w c (op.Write first words) (answer.Frame reported) = refl
reply_broken n flags w c (op.Send frame) (answer.Frame reported) = refl
reply_broken n flags w c op.Recv (answer.Frame reported) = ap (λ b. required b 9 w.clause) (left_in (is_empty w.ring) c.handed ∙ ap (λ e. e || c.handed) (same_empty w.ring))
reply_broken n flags w c op.Open (answer.Frame reported) = refl
reply_broken n flags w c (op.Play samples) (answer.Frame reported) = refl
reply_broken n flags w c op.Close (answer.Frame reported) = refl
reply_broken n flags w c (op.Get key) (answer.Frame reported) = refl
reply_broken n flags w c (op.Set key value) (answer.Frame reported) = refl
reply_broken n flags w c (op.Read first count) answer.Empty = refl
reply_broken n flags w c (op.Write first words) answer.Empty = refl
reply_broken n flags w c (op.Send frame) answer.Empty = refl
reply_broken n flags w c op.Recv answer.Empty = ap (λ b. required b 9 w.clause) (left_in (is_empty w.ring) c.handed ∙ ap (λ e. e || c.handed) (same_empty w.ring))
reply_broken n flags w c op.Open answer.Empty = refl
reply_broken n flags w c (op.Play samples) answer.Empty = refl
reply_broken n flags w c op.Close answer.Empty = refl
reply_broken n flags w c (op.Get key) answer.Empty = refl
reply_broken n flags w c (op.Set key value) answer.Empty = refl
reply_broken n flags w c (op.Read first count) (answer.Busy s) = refl
reply_broken n flags w c (op.Write first words) (answer.Busy s) = refl
reply_broken n flags w c (op.Send frame) (answer.Busy s) = refl
reply_broken n flags w c op.Recv (answer.Busy s) = ap (λ b. required b 9 w.clause) (left_in (is_empty w.ring) c.handed ∙ ap (λ e. e || c.handed) (same_empty w.ring))
reply_broken n flags w c op.Open (answer.Busy s) = refl
reply_broken n flags w c (op.Play samples) (answer.Busy s) = refl
reply_broken n flags w c op.Close (answer.Busy s) = refl
reply_broken n flags w c (op.Get key) (answer.Busy s) = refl
reply_broken n flags w c (op.Set key value) (answer.Busy s) = refl
reply_broken n flags w c (op.Read first count) (answer.InUse holder) = refl
reply_broken n flags w c (op.Write first words) (answer.InUse holder) = refl
reply_broken n flags w c (op.Send frame) (answer.InUse holder) = refl
reply_broken n flags w c op.Recv (answer.InUse holder) = ap (λ b. required b 9 w.clause) (left_in (is_empty w.ring) c.handed ∙ ap (λ e. e || c.handed) (same_empty w.ring))
reply_broken n flags w c op.Open (answer.InUse holder) = refl
reply_broken n flags w c (op.Play samples) (answer.InUse holder) = refl
reply_broken n flags w c op.Close (answer.InUse holder) = refl
reply_broken n flags w c (op.Get key) (answer.InUse holder) = refl
reply_broken n flags w c (op.Set key value) (answer.InUse holder) = refl
reply_broken n flags w c (op.Read first count) answer.NotOpen = refl
reply_broken n flags w c (op.Write first words) answer.NotOpen = refl
reply_broken n flags w c (op.Send frame) answer.NotOpen = refl
reply_broken n flags w c op.Recv answer.NotOpen = ap (λ b. required b 9 w.clause) (left_in (is_empty w.ring) c.handed ∙ ap (λ e. e || c.handed) (same_empty w.ring))
reply_broken n flags w c op.Open answer.NotOpen = refl
reply_broken n flags w c (op.Play samples) answer.NotOpen = refl
reply_broken n flags w c op.Close answer.NotOpen = refl
reply_broken n flags w c (op.Get key) answer.NotOpen = refl
reply_broken n flags w c (op.Set key value) answer.NotOpen = refl
reply_broken n flags w c (op.Read first count) answer.BadRange = refl
reply_broken n flags w c (op.Write first words) answer.BadRange = refl
reply_broken n flags w c (op.Send frame) answer.BadRange = refl
reply_broken n flags w c op.Recv answer.BadRange = ap (λ b. required b 9 w.clause) (left_in (is_empty w.ring) c.handed ∙ ap (λ e. e || c.handed) (same_empty w.ring))
reply_broken n flags w c op.Open answer.BadRange = refl
reply_broken n flags w c (op.Play samples) answer.BadRange = refl
reply_broken n flags w c op.Close answer.BadRange = refl
reply_broken n flags w c (op.Get key) answer.BadRange = refl
reply_broken n flags w c (op.Set key value) answer.BadRange = refl
reply_broken n flags w c (op.Read first count) answer.BadLength = refl
reply_broken n flags w c (op.Write first words) answer.BadLength = refl
reply_broken n flags w c (op.Send frame) answer.BadLength = refl
reply_broken n flags w c op.Recv answer.BadLength = ap (λ b. required b 9 w.clause) (left_in (is_empty w.ring) c.handed ∙ ap (λ e. e || c.handed) (same_empty w.ring))
reply_broken n flags w c op.Open answer.BadLength = refl
reply_broken n flags w c (op.Play samples) answer.BadLength = refl
reply_broken n flags w c op.Close answer.BadLength = refl
reply_broken n flags w c (op.Get key) answer.BadLength = refl
reply_broken n flags w c (op.Set key value) answer.BadLength = refl
reply_broken n flags w c (op.Read first count) answer.BadKey = refl
reply_broken n flags w c (op.Write first words) answer.BadKey = refl
reply_broken n flags w c (op.Send frame) answer.BadKey = refl
reply_broken n flags w c op.Recv answer.BadKey = ap (λ b. required b 9 w.clause) (left_in (is_empty w.ring) c.handed ∙ ap (λ e. e || c.handed) (same_empty w.ring))
reply_broken n flags w c op.Open answer.BadKey = refl
reply_broken n flags w c (op.Play samples) answer.BadKey = refl
reply_broken n flags w c op.Close answer.BadKey = refl
reply_broken n flags w c (op.Get key) answer.BadKey = refl
reply_broken n flags w c (op.Set key value) answer.BadKey = refl
reply_broken n flags w c (op.Read first count) answer.BadValue = refl
reply_broken n flags w c (op.Write first words) answer.BadValue = refl
reply_broken n flags w c (op.Send frame) answer.BadValue = refl
reply_broken n flags w c op.Recv answer.BadValue = ap (λ b. required b 9 w.clause) (left_in (is_empty w.ring) c.handed ∙ ap (λ e. e || c.handed) (same_empty w.ring))
reply_broken n flags w c op.Open answer.BadValue = refl
reply_broken n flags w c (op.Play samples) answer.BadValue = refl
reply_broken n flags w c op.Close answer.BadValue = refl
reply_broken n flags w c (op.Get key) answer.BadValue = refl
reply_broken n flags w c (op.Set key value) answer.BadValue = refl
reply_broken n flags w c (op.Read first count) answer.BadClass = refl
reply_broken n flags w c (op.Write first words) answer.BadClass = refl
reply_broken n flags w c (op.Send frame) answer.BadClass = refl
reply_broken n flags w c op.Recv answer.BadClass = ap (λ b. required b 9 w.clause) (left_in (is_empty w.ring) c.handed ∙ ap (λ e. e || c.handed) (same_empty w.ring))
reply_broken n flags w c op.Open answer.BadClass = refl
reply_broken n flags w c (op.Play samples) answer.BadClass = refl
reply_broken n flags w c op.Close answer.BadClass = refl
reply_broken n flags w c (op.Get key) answer.BadClass = refl
reply_broken n flags w c (op.Set key value) answer.BadClass = refl
reply_broken n flags w c (op.Read first count) (answer.IoError block) = ap (λ b. required b 15 w.clause) (not_twice (has_block block c.failed))
reply_broken n flags w c (op.Write first words) (answer.IoError block) = ap (λ b. required b 15 w.clause) (not_twice (has_block block c.failed))
reply_broken n flags w c (op.Send frame) (answer.IoError block) = refl
reply_broken n flags w c op.Recv (answer.IoError block) = ap (λ b. required b 9 w.clause) (left_in (is_empty w.ring) c.handed ∙ ap (λ e. e || c.handed) (same_empty w.ring))
reply_broken n flags w c op.Open (answer.IoError block) = refl
reply_broken n flags w c (op.Play samples) (answer.IoError block) = refl
reply_broken n flags w c op.Close (answer.IoError block) = refl
reply_broken n flags w c (op.Get key) (answer.IoError block) = refl
reply_broken n flags w c (op.Set key value) (answer.IoError block) = refl
reply_broken n flags w c (op.Read first count) (answer.Gone failures) = refl
reply_broken n flags w c (op.Write first words) (answer.Gone failures) = refl
reply_broken n flags w c (op.Send frame) (answer.Gone failures) = refl
reply_broken n flags w c op.Recv (answer.Gone failures) = ap (λ b. required b 9 w.clause) (left_in (is_empty w.ring) c.handed ∙ ap (λ e. e || c.handed) (same_empty w.ring))
reply_broken n flags w c op.Open (answer.Gone failures) = refl
reply_broken n flags w c (op.Play samples) (answer.Gone failures) = refl
reply_broken n flags w c op.Close (answer.Gone failures) = refl
reply_broken n flags w c (op.Get key) (answer.Gone failures) = refl
reply_broken n flags w c (op.Set key value) (answer.Gone failures) = refl
