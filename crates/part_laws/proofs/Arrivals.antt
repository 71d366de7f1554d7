use Rattle.std.proofs.Common.{◌≡◌, ℕ, ◌+◌, ◌&&◌, cond, true, option_and_then, List, [], ◌∷◌, ◌++◌, length, sym, refl, ap, subst, ◌∙◌, nat_lt, nat_le, append_assoc, length-append, arith}
use Rattle.std.proofs.lemmas.Bool.{and_parts, cond-true, cond-false}
use Rattle.nook_data.specs.declared.classes.Class.TheVariants as class
use Rattle.nook_data.specs.declared.devices.DeviceKind.{DeviceKind}
use Rattle.nook_data.specs.declared.devices.DeviceKind.TheVariants as kind
use Rattle.nook_data.specs.Classes.{same_class}
use Rattle.machine_defs.specs.Devices.{has_room, with_arrival}
use Rattle.promise_defs.specs.Ideal.{ran}
use Rattle.part_defs.specs.State.{PartState}
use Rattle.part_defs.specs.Steps.{can_arrive, after_arrival}
use Rattle.promise_defs.specs.Losses.{one_if}
use Rattle.part_laws.specs.Counts.{count_event}
use Rattle.part_laws.specs.Balance.{held_at, Balanced}
use Rattle.part_laws.specs.ActsOn.{dev_of, is_link}
use Rattle.part_laws.specs.Facts.{Sub, Facts}
use Rattle.part_laws.specs.Views.{View, Past, stage_of, view_of, watch_of, ideal_of}
use Rattle.part_laws.proofs.Acts.{when_true}
use Rattle.part_laws.proofs.Balances.{arrived_balance, one_of}
use Rattle.part_laws.proofs.Indices.{split}
use Rattle.part_laws.specs.Recovery.{StepKeeps}
use Rattle.part_laws.proofs.Subs.{sub_lost, sub_push}

-- A frame arrives and is delivered or lost.

abbrev ring_with : List ℕ → List (List ℕ) → List (List ℕ)
ring_with frame ring = cond (nat_lt (length ring) 16) (ring ++ frame ∷ []) ring

abbrev arrival_view : List ℕ → View → View
arrival_view frame v = record v { dev = record v.dev { ring = ring_with frame v.dev.ring } }

arrival_seen : (frame : List ℕ) (registers : List ℕ) (k : DeviceKind) → is_link k ≡ true
    → record (dev_of (record { registers = registers; kind = k })) { ring = ring_with frame (dev_of (record { registers = registers; kind = k })).ring }
    ≡ dev_of (with_arrival frame (record { registers = registers; kind = k }))
unfolding with_arrival
arrival_seen frame registers (kind.Link k) h = refl
arrival_seen frame registers (kind.Disk k) h = absurd cc
arrival_seen frame registers kind.Speaker h = absurd cc

ring_length : (frame : List ℕ) (ring : List (List ℕ)) → length (ring_with frame ring) ≡ length ring + one_if (nat_lt (length ring) 16)
ring_length frame ring = split (nat_lt (length ring) 16)
    (λ t. ap length (cond-true (nat_lt (length ring) 16) (ring ++ frame ∷ []) ring t) ∙ omega (arith, length-append ring (frame ∷ []))
    ∙ ap (λ b. length ring + one_if b) (sym t))
    (λ t. ap length (cond-false (nat_lt (length ring) 16) (ring ++ frame ∷ []) ring t) ∙ omega arith ∙ ap (λ b. length ring + one_if b) (sym t))

arrival_chain : (front mid ring frames : List (List ℕ)) (frame : List ℕ) → Sub (front ++ (mid ++ ring)) frames
    → Sub (front ++ (mid ++ ring_with frame ring)) (frames ++ frame ∷ [])
arrival_chain front mid ring frames frame h = split (nat_lt (length ring) 16)
    (λ t. subst (λ l. Sub (front ++ (mid ++ l)) (frames ++ frame ∷ [])) (sym (cond-true (nat_lt (length ring) 16) (ring ++ frame ∷ []) ring t))
    (subst (λ l. Sub l (frames ++ frame ∷ []))
    (append_assoc front (mid ++ ring) (frame ∷ []) ∙ ap (λ l. front ++ l) (append_assoc mid ring (frame ∷ [])))
    (sub_push (front ++ (mid ++ ring)) frames frame h)))
    (λ t. subst (λ l. Sub (front ++ (mid ++ l)) (frames ++ frame ∷ [])) (sym (cond-false (nat_lt (length ring) 16) (ring ++ frame ∷ []) ring t))
    (sub_lost (front ++ (mid ++ ring)) frames frame h))

arrival_facts : (v : View) (b : Past) (frame : List ℕ) → Facts v b → Facts (arrival_view frame v) (record b { frames = b.frames ++ frame ∷ [] })
arrival_facts v b frame f = record {
  linked = f.linked;
  width = f.width;
  keys = f.keys;
  defaults = f.defaults;
  pending = f.pending;
  count = f.count;
  calls = f.calls;
  disk = f.disk;
  holders = f.holders;
  registers = f.registers;
  replay = f.replay;
  booting = f.booting;
  chain = arrival_chain v.queue b.rest v.dev.ring b.frames frame f.chain;
  handed_up = f.handed_up;
  insides = f.insides;
  driving = f.driving;
}

pub arrive_ok : (p : PartState) (b : Past) (frame : List ℕ) → Facts (view_of p) b → length p.domain.contexts ≡ 17 → can_arrive p frame ≡ true
    → StepKeeps p b (after_arrival frame p)
unfolding after_arrival ran
arrive_ok p b frame f l h = record {
  counted = λ n x. subst (λ v. Balanced v past (count_event n (after_arrival frame p).event)) seen
      (arrived_balance (length (view_of p).dev.ring) (length (ring_with frame (view_of p).dev.ring)) (length p.queue) (held_at (stage_of p.mode) b.rest)
      (has_room p.domain.device) n (ring_length frame (view_of p).dev.ring) (one_of (has_room p.domain.device)) x);
  after = past;
  facts = subst (λ v. Facts v past) seen (arrival_facts (view_of p) b frame f);
  contexts = l;
  seen = ap (λ v. watch_of v past) seen;
  tracked = refl;
  shown = λ more. ap (option_and_then (λ after. ran after more))
      (when_true (same_class p.spec.class class.Net) (ideal_of (view_of p) past) net)
      ∙ ap (λ v. ran (ideal_of v past) more) seen;
  licensed = refl;
}
  where
    past : Past
    past = record b { frames = b.frames ++ frame ∷ [] }

    net : same_class p.spec.class class.Net ≡ true
    net = (and_parts (same_class p.spec.class class.Net) (nat_le 1 (length frame) && nat_le (length frame) 64)
        (and_parts (same_class p.spec.class class.Net && (nat_le 1 (length frame) && nat_le (length frame) 64)) (nat_lt p.arrived 100000) h).0).0

    seen : arrival_view frame (view_of p) ≡ view_of (after_arrival frame p).state
    seen = ap (λ d. record (view_of p) { dev = d }) (arrival_seen frame p.domain.device.registers p.domain.device.kind (f.linked ∙ net))
