use denote.Param.Send.{sendable}
use Rattle.std.proofs.Common.{◌≡◌, ◌∙◌, ap, length, ◌++◌, map, subst, sym, drop, take}
use Rattle.std.specs.Prelude.{All}
use Rattle.std.proofs.lemmas.List.{length-map}
use Rattle.app_threads.specs.Order.{AllFollow, all_stamps}
use Rattle.app_threads.specs.Workers.{AreArrivals, AreSeats}
use Rattle.nook_data.specs.declared.scenario.PartSpec.{PartSpec}
use Rattle.part_server.specs.Desk.{IsDeskSeat, desk_spec, desk_view}
use Rattle.nook_data.specs.Valid.{IsValidPart}
use Rattle.threaded_run.proofs.Closed.{lent_whole}
use Rattle.threaded_run.proofs.Refusing.{only_for_memory}
use Rattle.threaded_run.proofs.Sending.{desk_sync, seat_send}
use Rattle.threaded_run.proofs.Working.{arrivals_fit, gathered, left_alone, scripts_fit}
use Rattle.threaded_run.specs.Leaving.{AreNew}
use Rattle.threaded_run.proofs.running.run_unheard.Goals as goal

pub run_workers-worked-requires-clause-seats : goal.run_workers-worked-requires-clause-seats
run_workers-worked-requires-clause-seats g c κs l =
    subst (λ desks. AreSeats IsDeskSeat desks c.as_mut_slice.result.now) (sym c.as_slice-3.ensures.value)
    (subst (AreSeats IsDeskSeat c.in_ok-opened.opened.desks.items) (sym c.as_mut_slice.ensures.value) c.in_ok-opened.ensures.seats)

pub run_workers-worked-requires-clause-scripts : goal.run_workers-worked-requires-clause-scripts
run_workers-worked-requires-clause-scripts g c κs l =
    let specs : map desk_spec c.in_ok-opened.opened.desks.items ≡ c.args.scenario.now.parts = c.in_ok-opened.ensures.specs ∙ c.as_slice-2.ensures in
    scripts_fit c.args.scenario.now (length c.as_slice-3.result.now) c.requires
    (ap length c.as_slice-3.ensures.value ∙ sym (length-map c.in_ok-opened.opened.desks.items desk_spec) ∙ ap length specs)

pub run_workers-worked-requires-clause-arrivals : goal.run_workers-worked-requires-clause-arrivals
run_workers-worked-requires-clause-arrivals g c κs l =
    let specs : map desk_spec c.as_slice-3.result.now ≡ c.args.scenario.now.parts =
    ap (map desk_spec) c.as_slice-3.ensures.value ∙ c.in_ok-opened.ensures.specs ∙ c.as_slice-2.ensures in
    let frames : c.as_slice-4.result.now ≡ map (λ (s : PartSpec). s.arrivals) c.args.scenario.now.parts =
    c.as_slice-4.ensures.value ∙ c.in_ok-arrivals.ensures ∙ ap (map (λ (s : PartSpec). s.arrivals)) c.as_slice.ensures in
    subst (AreArrivals (map desk_spec c.as_slice-3.result.now)) (sym frames)
    (arrivals_fit c.args.scenario.now.parts (map desk_spec c.as_slice-3.result.now) c.requires.parts specs)

-- the seats that are returned are those in the slice that was lent
seats_back : (g : _) (c : goal.In-Ok g) → take c.in_ok-opened.opened.seats.len (c.run_workers-worked.new.seats ++ drop (length c.run_workers-worked.new.seats) c.in_ok-opened.opened.seats.items)
    ≡ c.run_workers-worked.new.seats
seats_back g c =
    let seated : length c.in_ok-opened.opened.seats.items ≡ length c.in_ok-opened.opened.desks.items = c.in_ok-opened.ensures.seats.0 in
    lent_whole c.in_ok-opened.opened.seats.len c.run_workers-worked.new.seats (drop (length c.run_workers-worked.new.seats) c.in_ok-opened.opened.seats.items)
    (sym c.as_mut_slice.ensures.len ∙ ap length c.as_mut_slice.ensures.value ∙ seated ∙ sym (ap length c.as_slice-3.ensures.value) ∙ sym c.in-Ok.ensures.seats.0)

-- the seats that were lent are new
seats_new : (g : _) (c : goal.In-Ok g) → AreNew (map desk_view c.as_mut_slice.result.now)
seats_new g c = subst (λ seats. AreNew (map desk_view seats)) (sym c.as_mut_slice.ensures.value) c.in_ok-opened.ensures.new

pub gather-requires-clause-alone : goal.gather-requires-clause-alone
gather-requires-clause-alone g c =
    left_alone desk_view c.as_mut_slice.result.now c.run_workers-worked.new.seats
    (take c.in_ok-opened.opened.seats.len (c.run_workers-worked.new.seats ++ drop (length c.run_workers-worked.new.seats) c.in_ok-opened.opened.seats.items))
    (seats_back g c) (seats_new g c) c.in-Ok.ensures.accounts c.in-Ok.ensures.ends.2

pub gather-requires-clause-seats : goal.gather-requires-clause-seats
gather-requires-clause-seats g c =
    subst (λ seats. AreSeats IsDeskSeat c.in_ok-opened.opened.desks.items seats) (sym (seats_back g c))
    (subst (λ desks. AreSeats IsDeskSeat desks c.run_workers-worked.new.seats) c.as_slice-3.ensures.value c.in-Ok.ensures.seats)

pub gather-requires-clause-order : goal.gather-requires-clause-order
gather-requires-clause-order g c =
    subst (λ seats. AllFollow (all_stamps (map desk_view seats)) c.args.scenario.now.threads c.in-Ok.table) (sym (seats_back g c)) c.in-Ok.ensures.order

pub gather-requires-clause-worked : goal.gather-requires-clause-worked
gather-requires-clause-worked g c =
    let frames : c.as_slice-4.result.now ≡ map (λ (s : PartSpec). s.arrivals) c.args.scenario.now.parts =
    c.as_slice-4.ensures.value ∙ c.in_ok-arrivals.ensures ∙ ap (map (λ (s : PartSpec). s.arrivals)) c.as_slice.ensures in
    let specs : map desk_spec c.in_ok-opened.opened.desks.items ≡ c.args.scenario.now.parts = c.in_ok-opened.ensures.specs ∙ c.as_slice-2.ensures in
    let seated : length c.in_ok-opened.opened.seats.items ≡ length c.in_ok-opened.opened.desks.items = c.in_ok-opened.ensures.seats.0 in
    let long : length c.as_mut_slice.result.now ≡ length c.args.scenario.now.parts =
    ap length c.as_mut_slice.ensures.value ∙ seated ∙ sym (length-map c.in_ok-opened.opened.desks.items desk_spec) ∙ ap length specs in
    gathered desk_view (map desk_spec c.as_slice-3.result.now) c.args.scenario.now.parts c.args.scenario.now.threads
    c.as_mut_slice.result.now c.run_workers-worked.new.seats
    (take c.in_ok-opened.opened.seats.len (c.run_workers-worked.new.seats ++ drop (length c.run_workers-worked.new.seats) c.in_ok-opened.opened.seats.items))
    c.as_slice-4.result.now c.in-Ok.table
    (seats_back g c)
    frames long (seats_new g c) c.in-Ok.ensures.accounts c.in-Ok.ensures.ends.2 c.in-Ok.ensures.ends.0

pub out_of_memory-requires : goal.out_of_memory-requires
out_of_memory-requires g c =
    let specs : map desk_spec c.as_slice-3.result.now ≡ c.args.scenario.now.parts =
    ap (map desk_spec) c.as_slice-3.ensures.value ∙ c.in_ok-opened.ensures.specs ∙ c.as_slice-2.ensures in
    let frames : c.as_slice-4.result.now ≡ map (λ (s : PartSpec). s.arrivals) c.args.scenario.now.parts =
    c.as_slice-4.ensures.value ∙ c.in_ok-arrivals.ensures ∙ ap (map (λ (s : PartSpec). s.arrivals)) c.as_slice.ensures in
    only_for_memory (map desk_spec c.as_slice-3.result.now) c.args.scenario.now.threads c.as_slice-4.result.now
    (map desk_view c.as_mut_slice.result.now) (map desk_view c.run_workers-worked.new.seats) (length c.as_slice-3.result.now) c.in-Err.stop
    (subst (All IsValidPart) (sym specs) c.requires.parts)
    (scripts_fit c.args.scenario.now (length c.as_slice-3.result.now) c.requires (sym (length-map c.as_slice-3.result.now desk_spec) ∙ ap length specs))
    (subst (AreArrivals (map desk_spec c.as_slice-3.result.now)) (sym frames)
    (arrivals_fit c.args.scenario.now.parts (map desk_spec c.as_slice-3.result.now) c.requires.parts specs))
    (subst (λ seats. AreNew (map desk_view seats)) (sym c.as_mut_slice.ensures.value) c.in_ok-opened.ensures.new)
    c.in-Err.ensures.accounts c.in-Err.ensures.ends

pub run_workers-worked-requires-send-D-Seat : goal.run_workers-worked-requires-send-D-Seat
run_workers-worked-requires-send-D-Seat g c κs within = search (sendable, seat_send)

pub run_workers-worked-requires-sync-D : goal.run_workers-worked-requires-sync-D
run_workers-worked-requires-sync-D g c κs within = search (sendable, desk_sync)
