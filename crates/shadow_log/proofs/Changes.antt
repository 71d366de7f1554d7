-- One call of the log changes.
use Rattle.std.proofs.Common.{◌≡◌, ℕ, Bool, None, List, map, slice_set, slice_index_or, filter, not, refl, ap, sym}
use Rattle.nook_data.specs.declared.calls.Answer.{Answer}
use Rattle.nook_data.specs.declared.calls.CallEntry.{CallEntry}
use Rattle.part_defs.specs.State.{CallLog}
use Rattle.part_defs.specs.Log.{after_entering, held_call, open_call, is_call, after_answering}
use Rattle.part_defs.proofs.PartCases.{entered_call}
use Rattle.part_defs.specs.Views.CallLogs.{IsNumbered, after_holding}
use Rattle.shadow_log.specs.Indices.{IsPosition}
use Rattle.shadow_log.specs.Stopped.{is_unanswered, after_answers}
use Rattle.shadow_log.proofs.Numbers.{changed_at, changed_nowhere, numbered_map, numbered_filter}

with_pending : CallLog → List CallEntry → CallLog
with_pending log pending = record log { pending = pending }

pub entered_at : (log : CallLog) (call index : ℕ) (x : CallEntry) → IsNumbered 0 log.count log.pending → IsPosition call index log.pending
    → x ≡ slice_index_or log.pending index x → record log { pending = slice_set log.pending index (entered_call x) } ≡ after_entering call log
unfolding after_entering with_pending
entered_at log call index x n p e = ap (with_pending log) (changed_at call log.count entered_call log.pending index x n p e)

pub entered_nowhere : (log : CallLog) (call : ℕ) → open_call call log.pending ≡ None → log ≡ after_entering call log
unfolding after_entering with_pending
entered_nowhere log call e = ap (with_pending log) (sym (changed_nowhere call entered_call log.pending e))

pub held_at : (log : CallLog) (call index : ℕ) (x : CallEntry) → IsNumbered 0 log.count log.pending → IsPosition call index log.pending
    → x ≡ slice_index_or log.pending index x → record log { pending = slice_set log.pending index (held_call x) } ≡ after_holding call log
unfolding after_holding with_pending
held_at log call index x n p e = ap (with_pending log) (changed_at call log.count held_call log.pending index x n p e)

pub held_nowhere : (log : CallLog) (call : ℕ) → open_call call log.pending ≡ None → log ≡ after_holding call log
unfolding after_holding with_pending
held_nowhere log call e = ap (with_pending log) (sym (changed_nowhere call held_call log.pending e))

pub answered_is : (log : CallLog) (call : ℕ) (pending : List CallEntry) → pending ≡ filter (λ c. not (is_call call c)) log.pending
    → record log { pending = pending } ≡ after_answering call log
unfolding after_answering with_pending
answered_is log call pending e = ap (with_pending log) e

pub after_answers_is : (log : CallLog) (answers : List (ℕ × Answer)) (pending : List CallEntry)
    → pending ≡ map held_call (filter (is_unanswered answers) log.pending) → record log { pending = pending } ≡ after_answers answers log
unfolding with_pending
after_answers_is log answers pending e = ap (with_pending log) e

pub numbered_stop : (count : ℕ) (test : CallEntry → Bool) (xs ys : List CallEntry) → ys ≡ map held_call (filter test xs)
    → IsNumbered 0 count xs → IsNumbered 0 count ys
numbered_stop count test xs ys e n = rw e (numbered_map 0 count held_call (filter test xs) (λ c. refl) (numbered_filter 0 count test xs n))
