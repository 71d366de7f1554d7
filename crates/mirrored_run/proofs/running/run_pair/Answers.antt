use Rattle.std.proofs.Common.{◌≡◌, ◌≤◌, List, [], ◌∷◌, length, refl, subst, sym, true}
use Rattle.nook_data.specs.declared.scenario.ThreadSpec.{ThreadSpec}
use Rattle.part_server.specs.Desk.{desk_spec, desk_view}
use Rattle.mirrored_run.specs.Mirrors.{is_single, ops_of_thread}
use Rattle.mirrored_run.specs.Serving.{HasServed}
use Rattle.mirrored_run.specs.Unheard.{IsWholeRun}
use Rattle.mirrored_run.proofs.Whole.{all_ok, both_valid, few_ops, new_side, served_alone, served_pair, served_single, whole_run}
use Rattle.mirrored_run.proofs.running.run_pair.Goals as goal

pub open_desk-requires : goal.open_desk-requires
open_desk-requires g c = (both_valid c.args.scenario.now c.args.left.now c.args.right.now c.requires.parts c.requires.valid).0

pub open_desk-requires-2 : goal.open_desk-requires-2
open_desk-requires-2 g c = (both_valid c.args.scenario.now c.args.left.now c.args.right.now c.requires.parts c.requires.valid).1

pub serve_over-requires-clause-single : goal.serve_over-requires-clause-single
serve_over-requires-clause-single g c =
    subst (λ threads. is_single threads ≡ true) (sym c.as_slice-threads.ensures) (served_single c.args.scenario.now c.requires.served)

pub serve_over-requires-clause-few : goal.serve_over-requires-clause-few
serve_over-requires-clause-few g c =
    subst (λ threads. length (ops_of_thread threads) ≤ 256) (sym c.as_slice-threads.ensures) (few_ops c.args.scenario.now c.requires.valid)

pub serve_over-requires-clause-left : goal.serve_over-requires-clause-left
serve_over-requires-clause-left g c =
    let p = served_pair c.args.scenario.now c.args.left.now c.args.right.now c.requires.parts c.requires.served in
    new_side (desk_spec c.in_ok-left_desk.left_desk) c.args.left.now c.args.left.now.blocks (desk_view c.in_ok-left_desk.left_seat)
    c.in_ok-left_desk.ensures.spec p.left_class refl c.in_ok-left_desk.ensures.view

pub serve_over-requires-clause-right : goal.serve_over-requires-clause-right
serve_over-requires-clause-right g c =
    let p = served_pair c.args.scenario.now c.args.left.now c.args.right.now c.requires.parts c.requires.served in
    new_side (desk_spec c.in_ok-right_desk.right_desk) c.args.right.now c.args.left.now.blocks (desk_view c.in_ok-right_desk.right_seat)
    c.in_ok-right_desk.ensures.spec p.right_class p.size c.in_ok-right_desk.ensures.view

pub leave-requires-clause-alone : goal.leave-requires-clause-alone
leave-requires-clause-alone g c =
    let p = served_pair c.args.scenario.now c.args.left.now c.args.right.now c.requires.parts c.requires.served in
    (served_alone desk_spec c.in_ok-left_desk.left_desk c.in_ok-right_desk.right_desk (desk_view c.in_ok-left_desk.left_seat) (desk_view c.in_ok-right_desk.right_seat)
    c.args.left.now.blocks (ops_of_thread c.as_slice-threads.result.now) c.in_ok-served.served.answers (desk_view c.in_ok-served.served.left) (desk_view c.in_ok-served.served.right)
    (new_side (desk_spec c.in_ok-left_desk.left_desk) c.args.left.now c.args.left.now.blocks (desk_view c.in_ok-left_desk.left_seat)
    c.in_ok-left_desk.ensures.spec p.left_class refl c.in_ok-left_desk.ensures.view)
    (new_side (desk_spec c.in_ok-right_desk.right_desk) c.args.right.now c.args.left.now.blocks (desk_view c.in_ok-right_desk.right_seat)
    c.in_ok-right_desk.ensures.spec p.right_class p.size c.in_ok-right_desk.ensures.view)
    c.in_ok-served.ensures.served).0

pub leave-requires-2-clause-alone : goal.leave-requires-2-clause-alone
leave-requires-2-clause-alone g c =
    let p = served_pair c.args.scenario.now c.args.left.now c.args.right.now c.requires.parts c.requires.served in
    (served_alone desk_spec c.in_ok-left_desk.left_desk c.in_ok-right_desk.right_desk (desk_view c.in_ok-left_desk.left_seat) (desk_view c.in_ok-right_desk.right_seat)
    c.args.left.now.blocks (ops_of_thread c.as_slice-threads.result.now) c.in_ok-served.served.answers (desk_view c.in_ok-served.served.left) (desk_view c.in_ok-served.served.right)
    (new_side (desk_spec c.in_ok-left_desk.left_desk) c.args.left.now c.args.left.now.blocks (desk_view c.in_ok-left_desk.left_seat)
    c.in_ok-left_desk.ensures.spec p.left_class refl c.in_ok-left_desk.ensures.view)
    (new_side (desk_spec c.in_ok-right_desk.right_desk) c.args.right.now c.args.left.now.blocks (desk_view c.in_ok-right_desk.right_seat)
    c.in_ok-right_desk.ensures.spec p.right_class p.size c.in_ok-right_desk.ensures.view)
    c.in_ok-served.ensures.served).1

pub returns : goal.returns
returns g c =
    let p = served_pair c.args.scenario.now c.args.left.now c.args.right.now c.requires.parts c.requires.served in
    all_ok c.gather.result (λ made. made.journals ≡ c.in_ok-left_part.left_part.journal ∷ c.in_ok-right_part.right_part.journal ∷ [])
    (λ made. made.ends ≡ c.in_ok-left_part.left_part.end ∷ c.in_ok-right_part.right_part.end ∷ []) (λ made. made.answers ≡ c.in_ok-served.served.answers)
    (IsWholeRun c.args.scenario.now)
    (λ made journals ends answers. whole_run desk_spec c.args.scenario.now c.args.left.now c.args.right.now c.in_ok-left_desk.left_desk c.in_ok-right_desk.right_desk
    (desk_view c.in_ok-left_desk.left_seat) (desk_view c.in_ok-right_desk.right_seat) (desk_view c.in_ok-served.served.left) (desk_view c.in_ok-served.served.right)
    c.in_ok-served.served.answers c.in_ok-left_part.left_part.journal c.in_ok-right_part.right_part.journal c.in_ok-left_part.left_part.end c.in_ok-right_part.right_part.end made
    c.requires.parts c.in_ok-left_desk.ensures.spec c.in_ok-right_desk.ensures.spec
    (new_side (desk_spec c.in_ok-left_desk.left_desk) c.args.left.now c.args.left.now.blocks (desk_view c.in_ok-left_desk.left_seat)
    c.in_ok-left_desk.ensures.spec p.left_class refl c.in_ok-left_desk.ensures.view)
    (new_side (desk_spec c.in_ok-right_desk.right_desk) c.args.right.now c.args.left.now.blocks (desk_view c.in_ok-right_desk.right_seat)
    c.in_ok-right_desk.ensures.spec p.right_class p.size c.in_ok-right_desk.ensures.view)
    (subst (λ (threads : List ThreadSpec). HasServed desk_spec c.in_ok-left_desk.left_desk c.in_ok-right_desk.right_desk (desk_view c.in_ok-left_desk.left_seat)
    (desk_view c.in_ok-right_desk.right_seat) c.args.left.now.blocks (ops_of_thread threads) c.in_ok-served.served.answers
    (desk_view c.in_ok-served.served.left) (desk_view c.in_ok-served.served.right)) c.as_slice-threads.ensures c.in_ok-served.ensures.served)
    c.in_ok-left_part.ensures.left c.in_ok-right_part.ensures.left journals ends answers)
    c.gather.ensures.journals c.gather.ensures.ends c.gather.ensures.answers
