use Rattle.std.proofs.Common.{◌≡◌, ℕ, true, ◌&&◌, nat_lt, [], ◌∷◌, ◌++◌, if◌then◌else◌}
use Rattle.claim_index.specs.Indexed.{HasRoomAt, is_within, numbers_at}
use Rattle.claim_index.proofs.by_block.ByBlock.push.Given as goal

abbrev pub invariant-loop-block : goal.invariant-loop-block
invariant-loop-block l = record {
  pushed : (q : ℕ) → numbers_at q l.self
      ≡ (if is_within l.first l.end q && nat_lt q l.block then numbers_at q l.initial.self ++ l.call ∷ [] else numbers_at q l.initial.self);
  room : (q : ℕ) → is_within l.block l.end q ≡ true → HasRoomAt q l.self;
}
