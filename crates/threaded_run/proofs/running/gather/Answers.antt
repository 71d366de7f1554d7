use Rattle.std.proofs.Common.{◌∙◌, ap, List, map}
use Rattle.app_threads.specs.Order.{all_stamps}
use Rattle.nook_data.specs.declared.scenario.ThreadSpec.{ThreadSpec}
use Rattle.part_server.specs.Desk.{desk_spec, desk_view}
use Rattle.threaded_run.proofs.Threading.{made_by_threads}
use Rattle.threaded_run.specs.Leaving.{answers_in}
use Rattle.threaded_run.proofs.running.gather.Goals as goal

pub returns : goal.returns
returns g c =
    made_by_threads c.args.scenario.now (map desk_spec c.args.opened.desks.items) (map (λ s. (desk_view s).seen) c.args.opened.seats.items)
    (all_stamps (map desk_view c.args.opened.seats.items)) c.args.table
    record { journals = c.in_ok-left.left.journals; answers = c.in_ok-answers.answers; ends = c.in_ok-left.left.ends }
    c.requires.specs c.requires.worked c.requires.order c.in_ok-left.ensures.left c.in_ok-left.ensures.stamped
    (c.in_ok-answers.ensures ∙ ap (λ (threads : List ThreadSpec). answers_in threads c.args.table) c.as_slice.ensures)
