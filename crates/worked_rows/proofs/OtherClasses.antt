use Rattle.std.specs.Prelude.{◌≡◌, ℕ, refl, true, false}
use Rattle.worked_rows.proofs.TraceOnLiterals.{trace_on_literals}
use Rattle.nook_data.specs.declared.calls.Answer.TheVariants.{BadClass, Done}
use Rattle.nook_data.specs.declared.classes.Class.TheVariants.{Block, Net, Sound}
use Rattle.promise_defs.specs.Ideal.{class_run}
use Rattle.worked_rows.specs.OtherClasses.{frame_arrives, frame_is_sent, sample_is_played}

pub arrivals_of_a_link : (class_run Net 0 frame_arrives ≡ true) × (class_run Block 1 frame_arrives ≡ false)
    × (class_run Sound 0 frame_arrives ≡ false)
unfolding trace_on_literals
arrivals_of_a_link = (refl, refl, refl)

pub frames_of_a_link : (class_run Net 0 (frame_is_sent Done) ≡ true)
    × (class_run Block 1 (frame_is_sent BadClass) ≡ false)
    × (class_run Sound 0 (frame_is_sent BadClass) ≡ false)
unfolding trace_on_literals
frames_of_a_link = (refl, refl, refl)

pub samples_of_a_stream : (class_run Sound 0 (sample_is_played Done 8000 5) ≡ true)
    × (class_run Block 1 (sample_is_played BadClass 0 0) ≡ false) × (class_run Net 0 (sample_is_played BadClass 100 1) ≡ false)
unfolding trace_on_literals
samples_of_a_stream = (refl, refl, refl)
