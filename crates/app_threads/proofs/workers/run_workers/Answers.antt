use Rattle.std.proofs.Common.{◌≡◌, ◌∙◌, map, take, length, ap, sym, subst}
use Rattle.std.proofs.lemmas.Result.{err_from_is_err_and}
use Rattle.app_threads.specs.Ends.{AreFinished}
use Rattle.app_threads.specs.Order.{AllFollow, all_stamps}
use Rattle.app_threads.proofs.Ending.{all_alone, all_back, all_ended, all_finished, all_follow, all_ready, all_seen_runs, all_stopped, ended_with, spread_worked}
use Rattle.app_threads.proofs.Splitting.{accounts_twice, clocked_twice}
use Rattle.app_threads.proofs.workers.run_workers.Goals as goal

pub run_all-requires-clause-ready : goal.run_all-requires-clause-ready
run_all-requires-clause-ready g c κs within =
    all_ready g.D.DeskLike.is_seat g.D.DeskLike.spec g.D.DeskLike.view c.args.desks.now c.args.scripts.now c.args.arrivals.now (map g.D.DeskLike.view c.args.seats.now)
    c.as_slice.result.now c.in_ok-workers.workers.items (c.as_slice.ensures.value ∙ c.in_ok-works.ensures) c.in_ok-workers.ensures.hired

pub take_in-requires-clause-workers : goal.take_in-requires-clause-workers
take_in-requires-clause-workers g c κs within =
    all_back g.D.DeskLike.is_seat g.D.DeskLike.spec g.D.DeskLike.view c.args.desks.now c.args.scripts.now c.args.arrivals.now c.in_ok-workers.workers.items c.in_ok-done.done.items c.in_ok-done.ensures

pub returns-in_err-rows_of-clause-ends : goal.returns-in_err-rows_of-clause-ends
returns-in_err-rows_of-clause-ends g c =
    let view = g.D.DeskLike.view in
    let specs = map g.D.DeskLike.spec c.args.desks.now in
    let olds = map view c.args.seats.now in
    let dones = c.in_ok-done.done.items in
    let q = err_from_is_err_and c.from_residual-in_err-rows_of.result c.from_residual-in_err-rows_of.ensures.1 in
    let ended = all_ended g.D.DeskLike.is_seat g.D.DeskLike.spec view c.args.desks.now c.args.scripts.now c.args.arrivals.now olds c.as_slice.result.now c.in_ok-workers.workers.items dones c.in_ok-workers.ensures.hired c.in_ok-done.ensures in
    let spread = spread_worked g.D.DeskLike.is_seat g.D.DeskLike.spec view c.args.desks.now c.args.scripts.now c.args.arrivals.now olds (map view c.hire.new.seats) c.in_ok-workers.workers.items dones c.in_ok-done.ensures c.in_ok-workers.ensures.spread in
    let all = ended_with specs c.args.scripts.now c.args.arrivals.now _ c.as_slice.result.now _ _ _ c.in_ok-ends.ends.items (c.as_slice.ensures.value ∙ c.in_ok-works.ensures) c.in_ok-ends.ensures.ends ended in
    rw (q.1, q.2)
    (all_stopped specs c.args.scripts.now c.args.arrivals.now olds (map view c.hire.new.seats) (map view c.take_in.new.seats) _ c.in_ok-ends.ends.items c.hire.ensures.same spread c.in_ok-ends.ensures.joins all
    c.in_err-rows_of.field-0.0 c.requires.scripts.0 c.in_err-rows_of.ensures)

pub returns-in_err-ends-clause-accounts : goal.returns-in_err-ends-clause-accounts
returns-in_err-ends-clause-accounts g c =
    accounts_twice (map g.D.DeskLike.view c.args.seats.now) (map g.D.DeskLike.view c.hire.new.seats) (map g.D.DeskLike.view c.take_in.new.seats) c.hire.ensures.accounts c.take_in.ensures.accounts

pub returns-in_err-ends-clause-clocked : goal.returns-in_err-ends-clause-clocked
returns-in_err-ends-clause-clocked g c =
    clocked_twice (map g.D.DeskLike.view c.args.seats.now) (map g.D.DeskLike.view c.hire.new.seats) (map g.D.DeskLike.view c.take_in.new.seats) c.hire.ensures.clocked c.take_in.ensures.clocked

pub returns-in_err-rows_of-clause-accounts : goal.returns-in_err-rows_of-clause-accounts
returns-in_err-rows_of-clause-accounts g c =
    accounts_twice (map g.D.DeskLike.view c.args.seats.now) (map g.D.DeskLike.view c.hire.new.seats) (map g.D.DeskLike.view c.take_in.new.seats) c.hire.ensures.accounts c.take_in.ensures.accounts

pub returns-in_err-rows_of-clause-clocked : goal.returns-in_err-rows_of-clause-clocked
returns-in_err-rows_of-clause-clocked g c =
    clocked_twice (map g.D.DeskLike.view c.args.seats.now) (map g.D.DeskLike.view c.hire.new.seats) (map g.D.DeskLike.view c.take_in.new.seats) c.hire.ensures.clocked c.take_in.ensures.clocked

pub returns-clause-accounts : goal.returns-clause-accounts
returns-clause-accounts g c =
    accounts_twice (map g.D.DeskLike.view c.args.seats.now) (map g.D.DeskLike.view c.hire.new.seats) (map g.D.DeskLike.view c.take_in.new.seats) c.hire.ensures.accounts c.take_in.ensures.accounts

pub returns-clause-clocked : goal.returns-clause-clocked
returns-clause-clocked g c =
    clocked_twice (map g.D.DeskLike.view c.args.seats.now) (map g.D.DeskLike.view c.hire.new.seats) (map g.D.DeskLike.view c.take_in.new.seats) c.hire.ensures.clocked c.take_in.ensures.clocked

pub returns-clause-ends : goal.returns-clause-ends
returns-clause-ends g c =
    let view = g.D.DeskLike.view in
    let specs = map g.D.DeskLike.spec c.args.desks.now in
    let olds = map view c.args.seats.now in
    let mids = map view c.hire.new.seats in
    let news = map view c.take_in.new.seats in
    let scripts = c.args.scripts.now in
    let arrivals = c.args.arrivals.now in
    let dones = c.in_ok-done.done.items in
    let rows = c.in_ok-rows_of.field-0 in
    let ended = all_ended g.D.DeskLike.is_seat g.D.DeskLike.spec view c.args.desks.now scripts arrivals olds c.as_slice.result.now c.in_ok-workers.workers.items dones c.in_ok-workers.ensures.hired c.in_ok-done.ensures in
    let spread = spread_worked g.D.DeskLike.is_seat g.D.DeskLike.spec view c.args.desks.now scripts arrivals olds mids c.in_ok-workers.workers.items dones c.in_ok-done.ensures c.in_ok-workers.ensures.spread in
    let all = ended_with specs scripts arrivals _ c.as_slice.result.now _ _ _ c.in_ok-ends.ends.items (c.as_slice.ensures.value ∙ c.in_ok-works.ensures) c.in_ok-ends.ensures.ends ended in
    let cut : c.from_vec.result ≡ take (length scripts) rows =
    c.from_vec.ensures ∙ (c.truncate.ensures.items ∙ (ap (λ n. take n c.into_vec-rows.result.items) c.len.ensures ∙ ap (take (length scripts)) c.into_vec-rows.ensures)) in (
      subst (AreFinished specs scripts arrivals olds news) (sym cut)
          (all_finished specs scripts arrivals olds mids news _ c.in_ok-ends.ends.items c.hire.ensures.same spread c.in_ok-ends.ensures.joins all rows c.in_ok-rows_of.ensures),
      all_seen_runs specs scripts arrivals olds mids news _ c.in_ok-ends.ends.items c.hire.ensures.same spread c.in_ok-ends.ensures.joins all,
      all_alone specs scripts arrivals olds mids news _ c.in_ok-ends.ends.items c.hire.ensures.same spread c.in_ok-ends.ensures.joins all,
    )

pub returns-clause-order : goal.returns-clause-order
returns-clause-order g c =
    let view = g.D.DeskLike.view in
    let specs = map g.D.DeskLike.spec c.args.desks.now in
    let olds = map view c.args.seats.now in
    let mids = map view c.hire.new.seats in
    let news = map view c.take_in.new.seats in
    let scripts = c.args.scripts.now in
    let arrivals = c.args.arrivals.now in
    let dones = c.in_ok-done.done.items in
    let rows = c.in_ok-rows_of.field-0 in
    let ended = all_ended g.D.DeskLike.is_seat g.D.DeskLike.spec view c.args.desks.now scripts arrivals olds c.as_slice.result.now c.in_ok-workers.workers.items dones c.in_ok-workers.ensures.hired c.in_ok-done.ensures in
    let spread = spread_worked g.D.DeskLike.is_seat g.D.DeskLike.spec view c.args.desks.now scripts arrivals olds mids c.in_ok-workers.workers.items dones c.in_ok-done.ensures c.in_ok-workers.ensures.spread in
    let all = ended_with specs scripts arrivals _ c.as_slice.result.now _ _ _ c.in_ok-ends.ends.items (c.as_slice.ensures.value ∙ c.in_ok-works.ensures) c.in_ok-ends.ensures.ends ended in
    let cut : c.from_vec.result ≡ take (length scripts) rows =
    c.from_vec.ensures ∙ (c.truncate.ensures.items ∙ (ap (λ n. take n c.into_vec-rows.result.items) c.len.ensures ∙ ap (take (length scripts)) c.into_vec-rows.ensures)) in
    subst (AllFollow (all_stamps news) scripts) (sym cut)
    (all_follow specs scripts arrivals olds mids news _ c.in_ok-ends.ends.items c.hire.ensures.same spread c.in_ok-ends.ensures.joins all rows c.in_ok-rows_of.ensures)
