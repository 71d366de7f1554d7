use Rattle.std.proofs.Common.{◌≡◌, Some}
use Rattle.claim_index.specs.Claims.{claim_by}
use Rattle.claim_index.proofs.Claims.{claim_has_blocks}
use Rattle.claim_index.proofs.Firsts.{not_all}
use Rattle.claim_index.proofs.index.ClaimIndex.first_claimant.Goals as goal

pub first_conflict-requires : goal.first_conflict-requires
first_conflict-requires c =
    let known : claim_by c.args.claim.call c.self.inside.open.items ≡ Some c.args.claim = rw c.self.view_is c.requires in
    record {
      all = not_all c.args.claim.on c.in_default.not-Everything;
      blocks = claim_has_blocks c.args.claim.call c.self.inside.open.items c.args.claim c.self.invariant.1 known;
    }
