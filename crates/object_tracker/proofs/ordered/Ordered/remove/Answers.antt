use Rattle.std.proofs.Common.{◌≡◌, ◌<◌, length, map, sym, ap, ◌∙◌, arith}
use Rattle.std.proofs.lemmas.List.{length-map}
use Rattle.object_tracker.proofs.Keys.{key_at, ordered_remove}
use Rattle.object_tracker.specs.Ordered.{entry_at}
use Rattle.object_tracker.proofs.ordered.Ordered.remove.Goals as goal

pub remove-gone-requires : goal.remove-gone-requires
remove-gone-requires c =
    let p = c.self.inside in
    let keys = p.keys.items in
    let long : length keys ≡ length c.args.self.now = rw (← c.self.view_is) (sym (length-map keys (entry_at p.slab))) in
    rw c.remove-key.ensures.value (key_at p.slab keys c.args.index _ (omega (arith, long, c.requires)) c.self.invariant.keyed)

pub invariant_of-self : goal.invariant_of-self
invariant_of-self c =
    let p = c.self.inside in
    let keys = p.keys.items in
    let long : length keys ≡ length c.args.self.now = rw (← c.self.view_is) (sym (length-map keys (entry_at p.slab))) in
    let within : c.args.index < length keys = omega (arith, long, c.requires) in
    let gone = c.remove-gone.ensures in
    let all = ordered_remove p.slab c.remove-gone.new.self keys c.args.index c.remove-key.result _ _ within c.self.invariant
    c.remove-key.ensures.value gone.updates gone.len gone.capacity c.remove-key.ensures.capacity in
    rw c.remove-key.ensures.items all.0

pub returns : goal.returns
returns c =
    let p = c.self.inside in
    let keys = p.keys.items in
    let long : length keys ≡ length c.args.self.now = rw (← c.self.view_is) (sym (length-map keys (entry_at p.slab))) in
    let within : c.args.index < length keys = omega (arith, long, c.requires) in
    let gone = c.remove-gone.ensures in
    let all = ordered_remove p.slab c.remove-gone.new.self keys c.args.index c.remove-key.result _ _ within c.self.invariant
    c.remove-key.ensures.value gone.updates gone.len gone.capacity c.remove-key.ensures.capacity in
    rw (← c.self.view_is) (ap (map (entry_at c.remove-gone.new.self)) c.remove-key.ensures.items ∙ all.1)
