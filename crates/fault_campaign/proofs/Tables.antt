-- Each valid campaign has exactly one list of rows.
use Rattle.std.proofs.Common.{◌≡◌, ◌∙◌, refl, sym, ap, List, [], ◌∷◌, ◌++◌, length}
use Rattle.std.specs.Prelude.{All}
use Rattle.std.specs.List.{AllByRecursion, AllZip}
use Rattle.std.proofs.lemmas.List.Elements.{recursion_from_All}
use Rattle.std.proofs.lemmas.Slice.Zip.{AllZip-long}
use Rattle.report_defs.specs.Campaigns.{AreRows, IsRowOf, IsTable, row_of}
use Rattle.nook_data.specs.Members.{IsValidCampaign, member}
use Rattle.run_defs.specs.Simulation.{answer_table, journals_of}
use Rattle.nook_data.specs.Valid.{IsValidFault, IsValidScenario}
use Rattle.nook_data.specs.declared.campaign.Campaign.{Campaign}
use Rattle.nook_data.specs.declared.scenario.Fault.{Fault}
use Rattle.nook_data.specs.declared.campaign.MemberRow.{MemberRow}
use Rattle.nook_data.specs.declared.scenario.Scenario.{Scenario}
use Rattle.reading_laws.proofs.Members.{member_is_valid}
use Rattle.sim_run.proofs.Ending.{scheduled_ends, scheduled_once}

-- ---- one row

row_once : (scenario : Scenario) (a b : MemberRow) → IsRowOf scenario a → IsRowOf scenario b → a ≡ b
row_once scenario a b h k =
    h.same ∙ (ap (λ s. row_of scenario.parts (journals_of s) (answer_table s))
    (scheduled_once scenario h.simulation k.simulation h.scheduled k.scheduled) ∙ sym k.same)

row_exists : (scenario : Scenario) → IsValidScenario scenario → (row : MemberRow) × IsRowOf scenario row
row_exists scenario valid =
    let run = scheduled_ends scenario valid in (
      row_of scenario.parts (journals_of run.0) (answer_table run.0),
      record { simulation = run.0; scheduled = run.1; same = refl },
    )

-- ---- rows

pub rows_once : (campaign : Campaign) (faults : List Fault) (rows others : List MemberRow) → AreRows campaign faults rows
    → AreRows campaign faults others → rows ≡ others
rows_once campaign [] [] [] h k = refl
rows_once campaign [] [] (other ∷ others) h k = absurd k
rows_once campaign [] (row ∷ rows) others h k = absurd h
rows_once campaign (fault ∷ faults) [] others h k = absurd h
rows_once campaign (fault ∷ faults) (row ∷ rows) [] h k = absurd k
rows_once campaign (fault ∷ faults) (row ∷ rows) (other ∷ others) h k =
    ap (λ first. first ∷ rows) (row_once (member campaign fault) row other h.0 k.0)
    ∙ ap (λ rest. other ∷ rest) (rows_once campaign faults rows others h.1 k.1)

rows_exist : (campaign : Campaign) (faults : List Fault) → IsValidCampaign campaign → AllByRecursion IsValidFault faults
    → (rows : List MemberRow) × AreRows campaign faults rows
rows_exist campaign [] valid faulty = ([], tt)
rows_exist campaign (fault ∷ faults) valid faulty =
    let first = row_exists (member campaign fault) (member_is_valid campaign fault valid faulty.0) in
    let rest = rows_exist campaign faults valid faulty.1 in
    (first.0 ∷ rest.0, (first.1, rest.1))

pub rows_exist_for : (campaign : Campaign) (faults : List Fault) → IsValidCampaign campaign → All IsValidFault faults
    → (rows : List MemberRow) × AreRows campaign faults rows
rows_exist_for campaign faults valid faulty = rows_exist campaign faults valid (recursion_from_All IsValidFault faults faulty)

pub table_exists : (campaign : Campaign) → IsValidCampaign campaign → (rows : List MemberRow) × IsTable campaign rows
table_exists campaign valid = rows_exist_for campaign campaign.faults valid valid.faults

pub table_once : (campaign : Campaign) (rows others : List MemberRow) → IsTable campaign rows → IsTable campaign others → rows ≡ others
table_once campaign rows others h k = rows_once campaign campaign.faults rows others h k

-- the rows of the first faults and those of the others
pub record AreSplit (campaign : Campaign) (front more : List Fault) (rows : List MemberRow) : Type 0 where
  pub first : List MemberRow
  pub rest : List MemberRow
  pub whole : rows ≡ first ++ rest
  pub before : AreRows campaign front first
  pub after : AreRows campaign more rest

pub rows_split : (campaign : Campaign) (front more : List Fault) (rows : List MemberRow) → AreRows campaign (front ++ more) rows
    → AreSplit campaign front more rows
rows_split campaign [] more rows h = record { first = []; rest = rows; whole = refl; before = tt; after = h }
rows_split campaign (fault ∷ front) more [] h = absurd h
rows_split campaign (fault ∷ front) more (row ∷ rows) h =
    let s = rows_split campaign front more rows h.1 in
    record { first = row ∷ s.first; rest = s.rest; whole = ap (λ t. row ∷ t) s.whole; before = (h.0, s.before); after = s.after }

pub as_many : (campaign : Campaign) (faults : List Fault) (rows : List MemberRow) → AreRows campaign faults rows → length rows ≡ length faults
as_many campaign faults rows h = AllZip-long (λ fault row. IsRowOf (member campaign fault) row) faults rows h
