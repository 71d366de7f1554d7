use Rattle.std.proofs.Common.{◌≡◌, length, sym, arith}
use Rattle.std.proofs.lemmas.List.{length-map}
use Rattle.object_tracker.proofs.Keys.{entry_there, key_at}
use Rattle.object_tracker.specs.Ordered.{entry_at}
use Rattle.object_tracker.proofs.ordered.Ordered.get.Goals as goal

pub index-requires-2 : goal.index-requires-2
index-requires-2 c =
    let p = c.self.inside in
    let keys = p.keys.items in
    let long : length keys ≡ length c.args.self.now = rw (← c.self.view_is) (sym (length-map keys (entry_at p.slab))) in
    rw c.index.ensures (key_at p.slab keys c.args.index _ (omega (arith, long, c.requires)) c.self.invariant.keyed)

pub returns : goal.returns
returns c =
    let p = c.self.inside in
    let keys = p.keys.items in
    let long : length keys ≡ length c.args.self.now = rw (← c.self.view_is) (sym (length-map keys (entry_at p.slab))) in
    let here = rw c.index.ensures at c.index-2.ensures in
    rw (← c.self.view_is) (entry_there p.slab keys c.args.index _ _ (omega (arith, long, c.requires)) here)
