use Rattle.std.proofs.Common.{◌≡◌, ◌≤◌, length, map, sym, ap, ◌∙◌, arith, vec_capacity}
use Rattle.std.proofs.lemmas.List.{length-map}
use Rattle.object_tracker.proofs.Keys.{ordered_insert}
use Rattle.object_tracker.specs.Ordered.{entry_at}
use Rattle.object_tracker.proofs.ordered.Ordered.insert.Goals as goal

pub invariant_of-self : goal.invariant_of-self
invariant_of-self c =
    let p = c.self.inside in
    let keys = p.keys.items in
    let long : length keys ≡ length c.args.self.now = rw (← c.self.view_is) (sym (length-map keys (entry_at p.slab))) in
    let items = rw c.unwrap.ensures at c.insert.ensures.items in
    let within : c.args.index ≤ length keys = omega (arith, long, c.requires.index) in
    let roomy : 82 ≤ vec_capacity c.insert.new.self = omega (arith, c.insert.ensures.capacity, c.self.invariant.key_room) in
    let all = ordered_insert p.slab c.insert_reserved-key.new.self keys c.args.index c.insert_reserved-key.result _ _ c.args.entry within c.self.invariant
    c.insert_reserved-key.ensures.was_vacant c.insert_reserved-key.ensures.updates c.insert_reserved-key.ensures.len c.insert_reserved-key.ensures.capacity roomy in
    rw items all.0

pub returns : goal.returns
returns c =
    let p = c.self.inside in
    let keys = p.keys.items in
    let long : length keys ≡ length c.args.self.now = rw (← c.self.view_is) (sym (length-map keys (entry_at p.slab))) in
    let items = rw c.unwrap.ensures at c.insert.ensures.items in
    let within : c.args.index ≤ length keys = omega (arith, long, c.requires.index) in
    let roomy : 82 ≤ vec_capacity c.insert.new.self = omega (arith, c.insert.ensures.capacity, c.self.invariant.key_room) in
    let all = ordered_insert p.slab c.insert_reserved-key.new.self keys c.args.index c.insert_reserved-key.result _ _ c.args.entry within c.self.invariant
    c.insert_reserved-key.ensures.was_vacant c.insert_reserved-key.ensures.updates c.insert_reserved-key.ensures.len c.insert_reserved-key.ensures.capacity roomy in
    rw (← c.self.view_is) (ap (map (entry_at c.insert_reserved-key.new.self)) items ∙ all.1)
