use Rattle.std.proofs.Common.{◌≡◌, ◌≤◌, ℕ, true, vec_len}
use Rattle.claim_index.specs.Indexed.{HasRoomAt, is_within, numbers_at}
use Rattle.claim_index.proofs.by_block.ByBlock.make_rooms.Given as goal

abbrev pub invariant-loop-block : goal.invariant-loop-block
invariant-loop-block l = record {
  same : (q : ℕ) → numbers_at q l.self ≡ numbers_at q l.initial.self;
  room : (q : ℕ) → is_within l.first l.block q ≡ true → HasRoomAt q l.self;
  size : l.end ≤ vec_len l.self.numbers;
}
