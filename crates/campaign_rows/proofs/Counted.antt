-- Counting rows.
use Rattle.std.proofs.Common.{◌≡◌, ◌∙◌, refl, sym, ap, ℕ, ◌+◌, ◌<◌, ◌==◌, Bool, true, false, cond, List, [], ◌∷◌, ◌++◌, length, take, get_or, add_assoc, append_assoc, arith}
use Rattle.std.proofs.lemmas.List.{length_push, take_more}
use Rattle.std.proofs.lemmas.List.Sums.{sum_by-append}
use Rattle.campaign_defs.specs.TableText.{counts_of, traps_count, traps_in}
use Rattle.campaign_defs.specs.Types.{Row}
use Rattle.campaign_rows.specs.Counting.{with_row}
use Rattle.campaign_rows.specs.CampaignCounts.{campaign_counts_of}
use Rattle.nook_data.specs.Types.{MemberRow}
use Rattle.promise_defs.specs.Losses.{one_if}
use Rattle.report_defs.specs.Campaigns.{status_count}

-- rows counted earlier, rows so far, and one more of them
pub one_more : (done rows : List Row) (i : ℕ) (row : Row) → i < length rows
    → (done ++ take i rows) ++ get_or rows i row ∷ [] ≡ done ++ take (i + 1) rows
one_more done rows i row h =
    append_assoc done (take i rows) (get_or rows i row ∷ []) ∙ ap (λ more. done ++ more) (sym (take_more rows i row h))

one_is : (b : Bool) → cond b 1 0 ≡ one_if b
one_is true = refl
one_is false = refl

counts_more : (done : List Row) (row : Row) → counts_of (done ++ row ∷ []) ≡ counts_of done ++ row.counts ∷ []
counts_more [] row = refl
counts_more (first ∷ done) row = ap (λ more. first.counts ∷ more) (counts_more done row)

count_one : (status : ℕ) (counts : MemberRow) → status_count status (counts ∷ []) ≡ one_if (counts.status == status)
count_one status counts = omega (arith, one_is (counts.status == status))

count_more : (status : ℕ) (done : List Row) (row : Row)
    → status_count status (counts_of (done ++ row ∷ [])) ≡ status_count status (counts_of done) + one_if (row.counts.status == status)
count_more status done row =
    ap (status_count status) (counts_more done row)
    ∙ (sum_by-append (λ (counts : MemberRow). cond (counts.status == status) 1 0) (counts_of done) (row.counts ∷ [])
    ∙ ap (λ n. status_count status (counts_of done) + n) (count_one status row.counts))

traps_more : (done : List Row) (row : Row) → traps_count (done ++ row ∷ []) ≡ traps_count done + traps_in row.traps
traps_more [] row = omega arith
traps_more (first ∷ done) row =
    ap (λ n. traps_in first.traps + n) (traps_more done row)
    ∙ sym (add_assoc (traps_in first.traps) (traps_count done) (traps_in row.traps))

pub row_more : (done : List Row) (row : Row) → with_row row (campaign_counts_of done) ≡ campaign_counts_of (done ++ row ∷ [])
unfolding with_row
row_more done row = rw (
  length_push done row,
  count_more 0 done row,
  count_more 1 done row,
  count_more 7 done row,
  traps_more done row,
) refl
