use Rattle.std.proofs.Common.{◌≡◌, List, [], ℕ, map, take, slice_index_or}
use Rattle.nook_data.specs.declared.calls.Answer.{Answer}
use Rattle.journal_audit.proofs.last.Given.new.Given as goal

abbrev pub invariant-loop-section : goal.invariant-loop-section
invariant-loop-section l =
    map (λ x. x.now) l.lists.items
    ≡ map (λ (answers : List (List (ℕ × Answer))). slice_index_or answers l.thread []) (take l.section-index l.sections)
