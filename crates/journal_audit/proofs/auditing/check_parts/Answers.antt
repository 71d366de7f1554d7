-- The sections are past one after another.
use Rattle.std.proofs.Common.{ℕ, ◌+◌, ◌<◌, ◌≤◌, Option, List, drop, length, refl, take, arith}
use Rattle.std.proofs.lemmas.Result.{err_from_is_err_and}
use Rattle.run_laws.specs.Audit.{opening_audit}
use Rattle.nook_data.specs.declared.scenario.PartSpec.{PartSpec as Spec}
use Rattle.journal_audit.proofs.Finding.{passed}
use Rattle.journal_audit.proofs.Sections.{part_coming, part_past, parts_before, parts_begun, parts_past}
use Rattle.journal_audit.proofs.auditing.check_parts.Goals as goal
use Rattle.journal_audit.specs.Found.{found_from}

pub loop-index-init : goal.loop-index-init
loop-index-init c =
    parts_begun c.args.scenario.now c.as_slice-specs.result.now c.args.cursor.now c.args.past.now c.as_slice-specs.ensures c.requires.none
    c.requires.no_ends

pub returns-in_err-check_part : goal.returns-in_err-check_part
returns-in_err-check_part c =
    let i : ℕ = c.loop-index.index in
    let specs : List Spec = c.as_slice-specs.result.now in
    let first = c.args.cursor.now in
    let found : Option ℕ = found_from c.args.scenario.now (opening_audit c.args.scenario.now) first in
    let less : i < length specs = omega arith in
    let p = err_from_is_err_and c.from_residual.result c.from_residual.ensures.1 in
    rw (p.1, p.2)
    (passed (Unit {0}) (Unit {0}) c.in_err-check_part.field-0.0 found found _ _
    (c.in_err-check_part.ensures first (take i specs) (drop (i + 1) specs)
    (parts_before c.args.scenario.now specs i first c.loop-index.cursor c.loop-index.past less)
    (part_coming c.args.scenario.now specs i first c.loop-index.cursor c.loop-index.past c.index-specs-index.result less c.index-specs-index.is
    c.loop-index.invariant)) refl)

pub loop-index-preserved : goal.loop-index-preserved
loop-index-preserved c =
    let i : ℕ = c.loop-index.index in
    let specs : List Spec = c.as_slice-specs.result.now in
    let first = c.args.cursor.now in
    let less : i < length specs = omega arith in
    part_past c.args.scenario.now specs i first c.check_part.new.cursor c.check_part.new.past c.index-specs-index.result less c.index-specs-index.is
    (c.in_ok-check_part.ensures first (take i specs) (drop (i + 1) specs)
    (parts_before c.args.scenario.now specs i first c.loop-index.cursor c.loop-index.past less)
    (part_coming c.args.scenario.now specs i first c.loop-index.cursor c.loop-index.past c.index-specs-index.result less c.index-specs-index.is
    c.loop-index.invariant))

pub returns : goal.returns
returns c =
    let i : ℕ = c.loop-index.index in
    let specs : List Spec = c.as_slice-specs.result.now in
    let all : length specs ≤ i = omega arith in
    parts_past c.args.scenario.now specs i c.args.cursor.now c.loop-index.cursor c.loop-index.past c.args.scenario.now.parts c.as_slice-specs.ensures all
    c.loop-index.invariant
