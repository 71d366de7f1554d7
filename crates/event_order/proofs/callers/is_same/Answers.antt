use Rattle.std.proofs.Common.{◌≡◌, refl}
use Rattle.std.specs.Bool.{Decides}
use Rattle.event_order.proofs.SameOps.{always, other_kind, same_get, same_play, same_read, same_send, same_set, same_write}
use Rattle.event_order.proofs.callers.is_same.Goals as goal
use Rattle.event_order.proofs.callers.is_same.Goals.{After-eq}
use Rattle.nook_data.specs.declared.calls.Op.{Op}
use Rattle.nook_data.specs.declared.calls.Op.TheVariants as op

same_op : (c : After-eq) (x y : Op) → c.args.op.now ≡ x → c.args.other.now ≡ y → Decides c.eq.result (x ≡ y)
same_op c (op.Read f n) (op.Read g m) ea eb = same_read c.eq.result f n g m (rw (ea, eb) at c.eq.ensures)
same_op c (op.Write f n) (op.Write g m) ea eb = same_write c.eq.result f g n m (rw (ea, eb) at c.eq.ensures)
same_op c (op.Send n) (op.Send m) ea eb = same_send c.eq.result n m (rw (ea, eb) at c.eq.ensures)
same_op c op.Recv op.Recv ea eb = always c.eq.result op.Recv (rw (ea, eb) at c.eq.ensures)
same_op c op.Open op.Open ea eb = always c.eq.result op.Open (rw (ea, eb) at c.eq.ensures)
same_op c (op.Play n) (op.Play m) ea eb = same_play c.eq.result n m (rw (ea, eb) at c.eq.ensures)
same_op c op.Close op.Close ea eb = always c.eq.result op.Close (rw (ea, eb) at c.eq.ensures)
same_op c (op.Get f) (op.Get g) ea eb = same_get c.eq.result f g (rw (ea, eb) at c.eq.ensures)
same_op c (op.Set f n) (op.Set g m) ea eb = same_set c.eq.result f n g m (rw (ea, eb) at c.eq.ensures)
same_op c x y ea eb = other_kind c.eq.result x y (rw (ea, eb) at c.eq.ensures) refl

pub returns : goal.returns
returns c = same_op c c.args.op.now c.args.other.now refl refl
