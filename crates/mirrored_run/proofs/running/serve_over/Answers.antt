use denote.Param.Send.{sendable}
use Rattle.std.proofs.Common.{◌∙◌, ap, subst}
use Rattle.mirror_block.specs.Mirrors.{MirrorView}
use Rattle.part_server.specs.Desk.{IsDeskSeat, desk_spec}
use Rattle.part_server.specs.declared.desk.PartDesk.{PartDesk}
use Rattle.mirrored_run.specs.Mirrors.{ops_of_thread}
use Rattle.mirrored_run.proofs.Following.{exchanged_by, same_sides}
use Rattle.threaded_run.proofs.Sending.{desk_sync, seat_send}
use Rattle.mirrored_run.proofs.running.serve_over.Goals as goal

pub returns-clause-left : goal.returns-clause-left
returns-clause-left g c =
    let e = exchanged_by desk_spec c.new-mirror.result (ops_of_thread c.args.threads.now) c.in_ok-answers.answers c.serve_first.new.mirror c.in_ok-answers.ensures in
    let same = same_sides desk_spec c.new-mirror.result e.exchanges c.serve_first.new.mirror e.exchanged in
    subst (λ (d : PartDesk). IsDeskSeat d c.seats-left.result.0) (same.left_desk ∙ ap (λ (m : MirrorView PartDesk). m.left_desk) c.new-mirror.ensures.made) c.seats-left.ensures.left

pub returns-clause-right : goal.returns-clause-right
returns-clause-right g c =
    let e = exchanged_by desk_spec c.new-mirror.result (ops_of_thread c.args.threads.now) c.in_ok-answers.answers c.serve_first.new.mirror c.in_ok-answers.ensures in
    let same = same_sides desk_spec c.new-mirror.result e.exchanges c.serve_first.new.mirror e.exchanged in
    subst (λ (d : PartDesk). IsDeskSeat d c.seats-left.result.1) (same.right_desk ∙ ap (λ (m : MirrorView PartDesk). m.right_desk) c.new-mirror.ensures.made) c.seats-left.ensures.right

pub new-mirror-requires-send-D-Seat : goal.new-mirror-requires-send-D-Seat
new-mirror-requires-send-D-Seat g c κs = search (sendable, seat_send)

pub new-mirror-requires-sync-D : goal.new-mirror-requires-sync-D
new-mirror-requires-sync-D g c κs = search (sendable, desk_sync)

pub serve_first-requires-send-D-Seat : goal.serve_first-requires-send-D-Seat
serve_first-requires-send-D-Seat g c κs within = search (sendable, seat_send)

pub serve_first-requires-sync-D : goal.serve_first-requires-sync-D
serve_first-requires-sync-D g c κs within = search (sendable, desk_sync)

pub seats-left-requires-send-D-Seat : goal.seats-left-requires-send-D-Seat
seats-left-requires-send-D-Seat g c κs = search (sendable, seat_send)

pub seats-left-requires-sync-D : goal.seats-left-requires-sync-D
seats-left-requires-sync-D g c κs = search (sendable, desk_sync)
