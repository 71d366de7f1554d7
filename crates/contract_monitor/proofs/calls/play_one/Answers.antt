use Rattle.std.proofs.Common.{◌<◌, ◌≡◌, ◌+◌, true, length, map, refl, sym, ap, subst, ◌∙◌, arith}
use Rattle.promise_defs.specs.Contract.{change_first, is_playing, played_more}
use Rattle.contract_monitor.specs.Calls.{open_of, effects_of}
use Rattle.contract_monitor.proofs.Changes.{first_at, length_seen, none_first, none_more, on_ok, same_at, same_item}
use Rattle.contract_monitor.proofs.calls.play_one.Goals as goal

pub returns-then-is_playing-clause-opened : goal.returns-then-is_playing-clause-opened
returns-then-is_playing-clause-opened c =
    let within : c.loop-i.i < length c.loop-i.calls.items =
    omega (arith, c.loop-i-test.true, c.len-i-end.ensures, c.args.calls.now.ok.0, ap (λ v. length v.items) c.loop-i.invariant.same) in
    let same = same_item c.loop-i.i c.loop-i.calls.items c.index.result.now c.index_mut.result.now within c.index.ensures c.index_mut.ensures.value in
    on_ok c.play_more.result
    (λ e. first_at is_playing played_more c.loop-i.i c.loop-i.calls.items c.index_mut.result.now c.play_more.new.call within
    c.loop-i.invariant.none c.index_mut.ensures.value
    (subst (λ x. is_playing (open_of x) ≡ true) same (sym c.is_playing.ensures ∙ c.if-is_playing.true)) e
    ∙ ap (λ v. change_first is_playing played_more (map open_of v.items)) c.loop-i.invariant.same) c.play_more.ensures.opened

pub returns-then-is_playing-clause-tallied : goal.returns-then-is_playing-clause-tallied
returns-then-is_playing-clause-tallied c =
    on_ok c.play_more.result
    (λ e. same_at effects_of c.loop-i.i c.loop-i.calls.items c.index_mut.result.now c.play_more.new.call c.index_mut.ensures.value e
    ∙ ap (λ v. map effects_of v.items) c.loop-i.invariant.same) c.play_more.ensures.tallied

pub loop-i-preserved : goal.loop-i-preserved
loop-i-preserved c =
    let within : c.loop-i.i < length c.loop-i.calls.items =
    omega (arith, c.loop-i-test.true, c.len-i-end.ensures, c.args.calls.now.ok.0, ap (λ v. length v.items) c.loop-i.invariant.same) in
    record {
      same = c.loop-i.invariant.same;
      none = none_more is_playing c.loop-i.i (c.loop-i.i + 1) c.loop-i.calls.items c.index.result.now refl within c.loop-i.invariant.none
          c.index.ensures (sym c.is_playing.ensures ∙ c.if-is_playing.false);
    }

pub returns-clause-opened : goal.returns-clause-opened
returns-clause-opened c =
    sym (none_first is_playing played_more c.loop-i.i (map open_of c.loop-i.calls.items)
    (length_seen open_of c.loop-i.i c.len-i-end.result c.loop-i.calls.items c.loop-i-test.false
    (omega (arith, c.len-i-end.ensures, c.args.calls.now.ok.0, ap (λ v. length v.items) c.loop-i.invariant.same)))
    c.loop-i.invariant.none)
    ∙ ap (λ v. change_first is_playing played_more (map open_of v.items)) c.loop-i.invariant.same
