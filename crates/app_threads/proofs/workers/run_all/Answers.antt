use Rattle.std.proofs.Common.{◌≡◌, get_or, subst, sym, ◌∙◌, rules}
use Rattle.std.proofs.lemmas.Option.{get_or_from_slice_get, slice_get_within}
use Rattle.app_threads.specs.Hired.{IsDone}
use Rattle.app_threads.proofs.workers.run_all.Goals as goal

pub returns : goal.returns
returns g c = (
  search rules,
  λ i x y a b.
      let R = IsDone g.D.DeskLike.is_seat g.D.DeskLike.spec g.D.DeskLike.view c.args.access.now.desks.now c.args.tasks.now.scripts.now c.args.tasks.now.arrivals.now in
      let e = (c.in_ok-done.ensures.each i y (slice_get_within c.args.workers.items i x a)).1 in
      let done : R e.job (get_or c.in_ok-done.done.items i y) = e.call.met in
      let job_is : e.job ≡ x = sym (e.job_is x) ∙ get_or_from_slice_get c.args.workers.items i x x a in
      let done_is : get_or c.in_ok-done.done.items i y ≡ y = get_or_from_slice_get c.in_ok-done.done.items i y y b in
      subst (λ z. R z y) job_is (subst (R e.job) done_is done),
)
