use Rattle.std.proofs.Common.{refl, rules}
use Rattle.mirror_block.proofs.Asked.{full, no_memory, said, why_refused}
use Rattle.mirror_block.proofs.side.ask.Goals as goal

pub returns-in-Ok-clause-ends : goal.returns-in-Ok-clause-ends
returns-in-Ok-clause-ends g c =
    let k = said (g.D.DeskLike.spec c.args.side.now.desk.now) (g.D.DeskLike.view c.args.side.now.seat) (g.D.DeskLike.view c.call.new.seat) c.args.op.now c.requires.side c.call.ensures.run c.call.ensures.accounts
    c.in-Ok.receipt c.requires.disk_op c.in-Ok.ensures.ends in
    (c.if-not-asked.false, k.0, k.1, k.2, k.3, k.4)

pub returns-in-Err-NoMemory-clause-ends : goal.returns-in-Err-NoMemory-clause-ends
returns-in-Err-NoMemory-clause-ends g c =
    let k = no_memory (g.D.DeskLike.spec c.args.side.now.desk.now) (g.D.DeskLike.view c.args.side.now.seat) (g.D.DeskLike.view c.call.new.seat) c.args.op.now c.requires.side c.call.ensures.run c.call.ensures.accounts
    c.in-Err-NoMemory.field-0-0 (rw c.in-Err-NoMemory.field-0-is at c.in-Err-NoMemory.ensures.ends) in
    (c.if-not-asked.false, refl, k.0, k.1)

pub returns-in-Err-TooManyCalls-clause-ends : goal.returns-in-Err-TooManyCalls-clause-ends
returns-in-Err-TooManyCalls-clause-ends g c = (
  c.if-not-asked.false,
  refl,
  full (g.D.DeskLike.spec c.args.side.now.desk.now) (g.D.DeskLike.view c.args.side.now.seat) (g.D.DeskLike.view c.call.new.seat) c.args.op.now c.requires.side c.call.ensures.run c.call.ensures.accounts
      (rw c.in-Err-TooManyCalls.field-0-is at c.in-Err-TooManyCalls.ensures.ends),
)

pub unreachable-requires : goal.unreachable-requires
unreachable-requires g c =
    let k = why_refused (g.D.DeskLike.spec c.args.side.now.desk.now) (g.D.DeskLike.view c.args.side.now.seat) (g.D.DeskLike.view c.call.new.seat) c.args.op.now c.requires.side c.call.ensures.run c.call.ensures.accounts
    c.in-Err.field-0 c.in-Err.ensures.ends in
    search rules
