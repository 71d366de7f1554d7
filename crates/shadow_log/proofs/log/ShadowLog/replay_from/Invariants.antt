use Rattle.std.proofs.Common.{◌≡◌, ◌-◌}
use Rattle.part_defs.specs.Log.{next_replay}
use Rattle.shadow_log.proofs.log.ShadowLog.replay_from.Given as goal

abbrev pub invariant-loop-key : goal.invariant-loop-key
invariant-loop-key l =
    next_replay l.key (4 - l.key) l.self.config l.self.defaults l.self.holder
    ≡ next_replay l.first (4 - l.first) l.self.config l.self.defaults l.self.holder
