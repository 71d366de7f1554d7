use Rattle.std.proofs.Common.{arith}
use Rattle.domain_pages.proofs.Decoded.{put_both, put_past}
use Rattle.domain_pages.proofs.decoding.put_decoded.Goals as goal

pub returns-then-address-lt-TEXT_LEN : goal.returns-then-address-lt-TEXT_LEN
returns-then-address-lt-TEXT_LEN c =
    λ text size same.
    put_both c.args.decoded.now text c.args.address c.args.word c.entry_of.result c.if-address-lt-TEXT_LEN.true size c.entry_of.ensures same

pub returns-else-address-lt-TEXT_LEN : goal.returns-else-address-lt-TEXT_LEN
returns-else-address-lt-TEXT_LEN c =
    λ text size same.
    put_past c.args.decoded.now text c.args.address c.args.word (omega (arith, c.if-address-lt-TEXT_LEN.false)) size same
