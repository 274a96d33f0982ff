-- Lines whose rows are made one after another.
use Rattle.std.proofs.Common.{◌≡◌, inl, inr, ℕ, suc, ◌+◌, Bool, List, [], ◌∷◌, ◌++◌, All, length, Option, None, Some, ◌≤◌, IsPermutation, refl, ap, subst, arith}
use Rattle.std.proofs.lemmas.List.Elements.{All-push}
use Rattle.std.proofs.lemmas.List.Sorted.{All-permutation}
use Rattle.cvss_vector.specs.Answers.{score_of_tenths}
use Rattle.cvss_vector.specs.Complete.{missing_by}
use Rattle.cvss_vector.specs.Evaluation.{IsScoreAs}
use Rattle.cvss_vector.specs.declared.metric_type.MetricType.{MetricType}
use Rattle.cvss_vector.specs.declared.rejection.ReadError.TheVariants.{Invalid}
use Rattle.cvss_vector.specs.declared.rejection.Rejection.TheVariants.{Missing}
use Rattle.cvss_vector.specs.declared.scoring.Scoring.{Scoring}
use Rattle.cvss_vector.specs.declared.vector.Cvss.{Cvss}
use Rattle.cvss_triage.specs.Lines.{Line}
use Rattle.cvss_triage.specs.Overrides.{IsWithOwn}
use Rattle.cvss_triage.specs.Reading.{IsChosen, IsReason}
use Rattle.cvss_triage.specs.declared.reading.Reason.TheVariants.{Rejected}
use Rattle.cvss_triage.specs.Ranking.{AreRead, IsBad, IsRow}
use Rattle.cvss_triage.specs.declared.overrides.Override.{Override}
use Rattle.cvss_triage.specs.declared.preferring.Preference.{Preference}
use Rattle.cvss_triage.specs.declared.ranking.BadLine.{BadLine}
use Rattle.cvss_triage.specs.declared.ranking.Rules.{Rules}
use Rattle.cvss_triage.specs.declared.row.Row.{Row}
use Rattle.cvss_triage.specs.private.Steps.{AreOwnMetrics, IsReadBy, IsToTen}

module _ (prefer : Option Preference) (overrides : List Override) (scoring : Scoring) (allow_incomplete : Bool) (line : Line) where
  -- one line more that has a row
  AreRead_row : (number : ℕ) (lines : List (Option Line)) (rows : List Row) (bad : List BadLine) (row : Row) → AreRead prefer overrides scoring allow_incomplete number lines rows bad → IsRow prefer overrides scoring allow_incomplete (number + length lines) line row
      → AreRead prefer overrides scoring allow_incomplete number (lines ++ Some line ∷ []) (rows ++ row ∷ []) bad
  AreRead_row number [] rows bad row are is =
      inl (row, [], ap (λ each. each ++ row ∷ []) are.0, subst (λ each. IsRow prefer overrides scoring allow_incomplete each line row) (omega arith) is, (refl, are.1))
  AreRead_row number (None ∷ lines) rows bad row are is =
      AreRead_row (suc number) lines rows bad row are (subst (λ each. IsRow prefer overrides scoring allow_incomplete each line row) (omega arith) is)
  AreRead_row number (Some first ∷ lines) rows bad row (inl (it, more, same, own, are)) is =
      inl (it, more ++ row ∷ [], ap (λ each. each ++ row ∷ []) same, own, AreRead_row (suc number) lines more bad row are (subst (λ each. IsRow prefer overrides scoring allow_incomplete each line row) (omega arith) is))
  AreRead_row number (Some first ∷ lines) rows bad row (inr (it, more, same, own, are)) is =
      inr (it, more, same, own, AreRead_row (suc number) lines rows more row are (subst (λ each. IsRow prefer overrides scoring allow_incomplete each line row) (omega arith) is))

  -- one line more that is bad
  AreRead_bad : (number : ℕ) (lines : List (Option Line)) (rows : List Row) (bad : List BadLine) (it : BadLine) → AreRead prefer overrides scoring allow_incomplete number lines rows bad → IsBad prefer overrides scoring allow_incomplete (number + length lines) line it
      → AreRead prefer overrides scoring allow_incomplete number (lines ++ Some line ∷ []) rows (bad ++ it ∷ [])
  AreRead_bad number [] rows bad it are is =
      inr (it, [], ap (λ each. each ++ it ∷ []) are.1, subst (λ each. IsBad prefer overrides scoring allow_incomplete each line it) (omega arith) is, (are.0, refl))
  AreRead_bad number (None ∷ lines) rows bad it are is =
      AreRead_bad (suc number) lines rows bad it are (subst (λ each. IsBad prefer overrides scoring allow_incomplete each line it) (omega arith) is)
  AreRead_bad number (Some first ∷ lines) rows bad it (inl (row, more, same, own, are)) is =
      inl (row, more, same, own, AreRead_bad (suc number) lines more bad it are (subst (λ each. IsBad prefer overrides scoring allow_incomplete each line it) (omega arith) is))
  AreRead_bad number (Some first ∷ lines) rows bad it (inr (other, more, same, own, are)) is =
      inr (other, more ++ it ∷ [], ap (λ each. each ++ it ∷ []) same, own, AreRead_bad (suc number) lines rows more it are (subst (λ each. IsBad prefer overrides scoring allow_incomplete each line it) (omega arith) is))

-- one line more that is left out
AreRead_none : (prefer : Option Preference) (overrides : List Override) (scoring : Scoring) (allow_incomplete : Bool) (number : ℕ) (lines : List (Option Line)) (rows : List Row) (bad : List BadLine)
    → AreRead prefer overrides scoring allow_incomplete number lines rows bad → AreRead prefer overrides scoring allow_incomplete number (lines ++ None ∷ []) rows bad
AreRead_none prefer overrides scoring allow_incomplete number [] rows bad are = are
AreRead_none prefer overrides scoring allow_incomplete number (None ∷ lines) rows bad are = AreRead_none prefer overrides scoring allow_incomplete (suc number) lines rows bad are
AreRead_none prefer overrides scoring allow_incomplete number (Some first ∷ lines) rows bad (inl (it, more, same, own, are)) =
    inl (it, more, same, own, AreRead_none prefer overrides scoring allow_incomplete (suc number) lines more bad are)
AreRead_none prefer overrides scoring allow_incomplete number (Some first ∷ lines) rows bad (inr (it, more, same, own, are)) =
    inr (it, more, same, own, AreRead_none prefer overrides scoring allow_incomplete (suc number) lines rows more are)

pub reads_none : (rules : Rules) (lines : List (Option Line)) (rows : List Row) (bad : List BadLine) → IsReadBy rules lines rows bad → IsReadBy rules (lines ++ None ∷ []) rows bad
reads_none rules lines rows bad read = record {
  read = λ overrides own. AreRead_none rules.prefer overrides rules.scoring rules.allow_incomplete 1 lines rows bad (read.read overrides own);
  to_ten = read.to_ten;
}

module _ (rules : Rules) (number : ℕ) (line : Line) (lines : List (Option Line)) (count : length lines + 1 ≡ number) (rows : List Row) (bad : List BadLine) (read : IsReadBy rules lines rows bad) where
  -- the line of the next number, which has a row
  pub reads_row : (row : Row) → ((overrides : List Override) → AreOwnMetrics overrides rules.own → IsRow rules.prefer overrides rules.scoring rules.allow_incomplete number line row) → IsToTen row → IsReadBy rules (lines ++ Some line ∷ []) (rows ++ row ∷ []) bad
  reads_row row is to_ten = record {
    read = λ overrides own.
        AreRead_row rules.prefer overrides rules.scoring rules.allow_incomplete line 1 lines rows bad row (read.read overrides own)
        (subst (λ each. IsRow rules.prefer overrides rules.scoring rules.allow_incomplete each line row) (omega (arith, count)) (is overrides own));
    to_ten = All-push IsToTen rows row read.to_ten to_ten;
  }

  -- or is bad
  pub reads_bad : (it : BadLine) → ((overrides : List Override) → AreOwnMetrics overrides rules.own → IsBad rules.prefer overrides rules.scoring rules.allow_incomplete number line it) → IsReadBy rules (lines ++ Some line ∷ []) rows (bad ++ it ∷ [])
  reads_bad it is = record {
    read = λ overrides own.
        AreRead_bad rules.prefer overrides rules.scoring rules.allow_incomplete line 1 lines rows bad it (read.read overrides own)
        (subst (λ each. IsBad rules.prefer overrides rules.scoring rules.allow_incomplete each line it) (omega (arith, count)) (is overrides own));
    to_ten = read.to_ten;
  }

module _ (prefer : Option Preference) (overrides : List Override) (scoring : Scoring) (allow_incomplete : Bool) (line : Line) (cvss : Cvss) (is_vector : IsChosen prefer overrides scoring allow_incomplete line.searched cvss) where
  -- the row of a line whose vector after the overrides is complete
  pub row_by : (number : ℕ) (row : Row) → row.number ≡ number → row.line.now ≡ line.bytes → IsWithOwn overrides cvss row.vector → missing_by allow_incomplete row.vector ≡ None → IsScoreAs scoring row.vector (score_of_tenths row.tenths) → row.tenths ≤ 100 → IsRow prefer overrides scoring allow_incomplete number line row
  row_by number row number_is line_is with_own complete scored bound = record {
    number_is = number_is;
    line_is = line_is;
    cvss = cvss;
    is_vector = is_vector;
    with_own = with_own;
    complete = complete;
    scored = scored;
    bound = bound;
  }

  -- why it has none where the vector is not
  pub reason_by : (new : Cvss) (metric : MetricType) → IsWithOwn overrides cvss new → missing_by allow_incomplete new ≡ Some metric → IsReason prefer overrides scoring allow_incomplete line.searched (Rejected (Invalid (Missing metric)))
  reason_by new metric with_own missing = inr (record { cvss = cvss; is_vector = is_vector; new = new; with_own = with_own; metric = metric; missing = missing; is = refl })

-- rows in another order
pub to_ten_ranked : (rows ranked : List Row) → IsPermutation rows ranked → All IsToTen rows → All IsToTen ranked
to_ten_ranked = All-permutation IsToTen
