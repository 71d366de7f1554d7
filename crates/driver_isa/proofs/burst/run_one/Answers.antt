use Rattle.std.proofs.Common.{refl, sym, arith}
use Rattle.driver_isa.proofs.Bursts.{few_left, run_crosses, run_goes_on, run_pauses}
use Rattle.driver_isa.proofs.burst.run_one.Goals as goal

pub returns-in-Next-clause-went : goal.returns-in-Next-clause-went
returns-in-Next-clause-went g c pending quiet =
    rw c.run_to.ensures
    (sym
    (run_goes_on c.args.count _ _ _ _ _ _ _ _ _ c.requires.within quiet refl c.in-Next.ensures.turned refl
    (few_left _ _ (c.in-Next.ensures.quiet refl) c.requires.room) c.take_turn.ensures.entries))

pub returns-in-Acted-clause-went : goal.returns-in-Acted-clause-went
returns-in-Acted-clause-went g c pending quiet =
    rw c.run_to-in-Acted.ensures
    (run_pauses c.args.count _ _ _ _ _ _ _ _ c.requires.within quiet refl c.in-Acted.ensures.turned refl (grind arith))

pub returns-in-Acted-2-clause-went : goal.returns-in-Acted-2-clause-went
returns-in-Acted-2-clause-went g c pending quiet =
    rw c.run_to-in-Acted-2.ensures
    (sym
    (run_goes_on c.args.count _ _ _ _ _ _ _ _ _ c.requires.within quiet refl c.in-Acted-2.ensures.turned refl (grind arith)
    c.take_turn.ensures.entries))

pub returns-in-To-clause-went : goal.returns-in-To-clause-went
returns-in-To-clause-went g c pending quiet =
    rw c.run_to-in-To.ensures
    (sym
    (run_goes_on c.args.count _ _ _ _ _ _ _ _ _ c.requires.within quiet refl c.in-To.ensures.turned refl
    (few_left _ _ (c.in-To.ensures.quiet refl) c.requires.room) c.take_turn.ensures.entries))

pub returns-in-Ended-clause-went : goal.returns-in-Ended-clause-went
returns-in-Ended-clause-went g c pending quiet =
    rw c.run_to-in-Ended.ensures
    (run_crosses c.args.count _ _ _ _ _ _ _ _ _ c.requires.within quiet refl c.in-Ended.ensures.turned refl)
