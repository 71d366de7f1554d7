use Rattle.std.proofs.Common.{◌<◌, ap, ◌∙◌, sym, List, [], ℕ, length, get_or, set, Bor, arith}
use Rattle.std.proofs.lemmas.List.{get_or-map, map-set}
use Rattle.nook_data.specs.declared.calls.Answer.{Answer}
use Rattle.journal_audit.proofs.last.Given.take.Goals as goal

pub returns : goal.returns
returns c =
    let now = λ (x : Bor (List (ℕ × Answer))). x.now in
    let less : c.args.part < length c.self.inside.lists.items = omega arith in (
      c.in_ok-answer.more.now,
      ap (λ (l : List (List (ℕ × Answer))). get_or l c.args.part []) (sym c.self.view_is)
          ∙ (get_or-map now c.self.inside.lists.items c.args.part c.index.result.now [] less
          ∙ (ap now (sym c.index.ensures) ∙ c.in_ok-answer.ensures.cases.0)),
      map-set now c.self.inside.lists.items c.args.part c.in_ok-answer.more
          ∙ ap (λ (l : List (List (ℕ × Answer))). set l c.args.part c.in_ok-answer.more.now) c.self.view_is,
    )
