use Rattle.std.proofs.Common.{ap}
use Rattle.mirror_block.proofs.Mirrored.{answered_by, cut_by}
use Rattle.mirror_block.proofs.mirror.Mirror.ask.Goals as goal

pub returns-in-Ok-clause-ends : goal.returns-in-Ok-clause-ends
returns-in-Ok-clause-ends g c =
    (answered_by g.D.DeskLike.spec c.self.inside.left.desk.now c.self.inside.right.desk.now (g.D.DeskLike.view c.self.inside.left.seat) (g.D.DeskLike.view c.ask_both.new.left.seat)
    (g.D.DeskLike.view c.self.inside.right.seat) (g.D.DeskLike.view c.ask_both.new.right.seat) c.self.inside.left.present c.self.inside.right.present c.self.inside.blocks c.self.inside.stopped
    c.args.op.now c.args.self.now c.self.view_is c.requires.mirror c.requires.goes c.requires.disk_op c.requires.checked c.in-Ok.left c.in-Ok.right c.in-Ok.ensures.ends
    c.ask_both.new.left.desk.now c.ask_both.new.right.desk.now c.after_asking-outcome.result.left c.after_asking-outcome.result.right c.ask_both.new.left.present c.ask_both.new.right.present
    c.after_asking-outcome.result.answer (ap (λ s. s.desk.now) c.in-Ok.ensures.left_same) (ap (λ s. s.desk.now) c.in-Ok.ensures.right_same)
    (ap (λ s. s.present) c.in-Ok.ensures.left_same) (ap (λ s. s.present) c.in-Ok.ensures.right_same)
    c.after_asking-outcome.ensures.left c.after_asking-outcome.ensures.right c.after_asking-outcome.ensures.answer).0

pub returns-in-Ok-clause-mirror : goal.returns-in-Ok-clause-mirror
returns-in-Ok-clause-mirror g c =
    (answered_by g.D.DeskLike.spec c.self.inside.left.desk.now c.self.inside.right.desk.now (g.D.DeskLike.view c.self.inside.left.seat) (g.D.DeskLike.view c.ask_both.new.left.seat)
    (g.D.DeskLike.view c.self.inside.right.seat) (g.D.DeskLike.view c.ask_both.new.right.seat) c.self.inside.left.present c.self.inside.right.present c.self.inside.blocks c.self.inside.stopped
    c.args.op.now c.args.self.now c.self.view_is c.requires.mirror c.requires.goes c.requires.disk_op c.requires.checked c.in-Ok.left c.in-Ok.right c.in-Ok.ensures.ends
    c.ask_both.new.left.desk.now c.ask_both.new.right.desk.now c.after_asking-outcome.result.left c.after_asking-outcome.result.right c.ask_both.new.left.present c.ask_both.new.right.present
    c.after_asking-outcome.result.answer (ap (λ s. s.desk.now) c.in-Ok.ensures.left_same) (ap (λ s. s.desk.now) c.in-Ok.ensures.right_same)
    (ap (λ s. s.present) c.in-Ok.ensures.left_same) (ap (λ s. s.present) c.in-Ok.ensures.right_same)
    c.after_asking-outcome.ensures.left c.after_asking-outcome.ensures.right c.after_asking-outcome.ensures.answer).1

pub returns-in-Err-clause-ends : goal.returns-in-Err-clause-ends
returns-in-Err-clause-ends g c =
    (cut_by g.D.DeskLike.spec c.self.inside.left.desk.now c.self.inside.right.desk.now (g.D.DeskLike.view c.self.inside.left.seat) (g.D.DeskLike.view c.ask_both.new.left.seat)
    (g.D.DeskLike.view c.self.inside.right.seat) (g.D.DeskLike.view c.ask_both.new.right.seat) c.self.inside.left.present c.self.inside.right.present c.self.inside.blocks c.self.inside.stopped
    c.args.op.now c.args.self.now c.self.view_is c.requires.mirror c.requires.goes c.requires.disk_op c.requires.checked c.in-Err.why c.in-Err.ensures.ends
    c.ask_both.new.left.desk.now c.ask_both.new.right.desk.now c.ask_both.new.left.present c.ask_both.new.right.present
    (ap (λ s. s.desk.now) c.in-Err.ensures.left_same) (ap (λ s. s.desk.now) c.in-Err.ensures.right_same)
    (ap (λ s. s.present) c.in-Err.ensures.left_same) (ap (λ s. s.present) c.in-Err.ensures.right_same)).0

pub returns-in-Err-clause-mirror : goal.returns-in-Err-clause-mirror
returns-in-Err-clause-mirror g c =
    (cut_by g.D.DeskLike.spec c.self.inside.left.desk.now c.self.inside.right.desk.now (g.D.DeskLike.view c.self.inside.left.seat) (g.D.DeskLike.view c.ask_both.new.left.seat)
    (g.D.DeskLike.view c.self.inside.right.seat) (g.D.DeskLike.view c.ask_both.new.right.seat) c.self.inside.left.present c.self.inside.right.present c.self.inside.blocks c.self.inside.stopped
    c.args.op.now c.args.self.now c.self.view_is c.requires.mirror c.requires.goes c.requires.disk_op c.requires.checked c.in-Err.why c.in-Err.ensures.ends
    c.ask_both.new.left.desk.now c.ask_both.new.right.desk.now c.ask_both.new.left.present c.ask_both.new.right.present
    (ap (λ s. s.desk.now) c.in-Err.ensures.left_same) (ap (λ s. s.desk.now) c.in-Err.ensures.right_same)
    (ap (λ s. s.present) c.in-Err.ensures.left_same) (ap (λ s. s.present) c.in-Err.ensures.right_same)).1
