use Rattle.part_server.proofs.Entries.{made_is_seen_view}
use Rattle.part_server.proofs.Turning.{added_entry, added_seen, added_stamps, added_view, listed_short, same_entries, same_seen, same_stamps, same_view}
use Rattle.part_server.proofs.desk.PartDesk.end_turn.Goals as goal

pub commit_and_give-requires-clause-entry : goal.commit_and_give-requires-clause-entry
commit_and_give-requires-clause-entry c l =
    added_entry c.args.seat.now.me.0 c.args.seat.now.me.0 c.args.dated c.requires.stamped c.args.is_added c.if-is_added.true c.requires.grown

pub commit_and_give-requires-clause-short : goal.commit_and_give-requires-clause-short
commit_and_give-requires-clause-short c l =
    listed_short c.args.seat.now.me.0 c.args.seat.now.me.0 c.args.dated c.requires.stamped c.requires.kept

pub returns-then-is_added-clause-view : goal.returns-then-is_added-clause-view
returns-then-is_added-clause-view c =
    added_view c.args.seat.now.me.0 c.commit_and_give.new.seat.me.0 c.args.dated c.requires.stamped c.args.is_added c.if-is_added.true c.requires.grown c.commit_and_give.ensures.view

pub returns-then-is_added-clause-seen : goal.returns-then-is_added-clause-seen
returns-then-is_added-clause-seen c =
    added_seen c.args.seat.now.me.0 c.commit_and_give.new.seat.me.0 c.args.dated c.requires.stamped c.args.is_added c.if-is_added.true c.requires.grown c.commit_and_give.ensures.view

pub returns-then-is_added-clause-stamps : goal.returns-then-is_added-clause-stamps
returns-then-is_added-clause-stamps c =
    added_stamps c.args.seat.now.me.0 c.commit_and_give.new.seat.me.0 c.args.dated c.requires.stamped c.args.is_added c.if-is_added.true c.requires.grown c.commit_and_give.ensures.view

pub returns-then-is_added-clause-made : goal.returns-then-is_added-clause-made
returns-then-is_added-clause-made c = made_is_seen_view c.commit_and_give.new.seat.me.0 c.commit_and_give.ensures.made

pub give_back-requires-clause-same : goal.give_back-requires-clause-same
give_back-requires-clause-same c l =
    same_entries c.args.seat.now.me.0 c.args.seat.now.me.0 c.args.dated c.requires.stamped c.args.is_added c.if-is_added.false c.requires.grown

pub returns-else-is_added-clause-view : goal.returns-else-is_added-clause-view
returns-else-is_added-clause-view c =
    same_view c.args.seat.now.me.0 c.give_back.new.seat.me.0 c.args.dated c.requires.stamped c.args.is_added c.if-is_added.false c.requires.grown c.give_back.ensures.view

pub returns-else-is_added-clause-seen : goal.returns-else-is_added-clause-seen
returns-else-is_added-clause-seen c =
    same_seen c.args.seat.now.me.0 c.give_back.new.seat.me.0 c.args.dated c.requires.stamped c.args.is_added c.if-is_added.false c.requires.grown c.give_back.ensures.view

pub returns-else-is_added-clause-stamps : goal.returns-else-is_added-clause-stamps
returns-else-is_added-clause-stamps c =
    same_stamps c.args.seat.now.me.0 c.give_back.new.seat.me.0 c.args.dated c.requires.stamped c.args.is_added c.if-is_added.false c.requires.grown c.give_back.ensures.view

pub returns-else-is_added-clause-made : goal.returns-else-is_added-clause-made
returns-else-is_added-clause-made c = made_is_seen_view c.give_back.new.seat.me.0 c.give_back.ensures.made
