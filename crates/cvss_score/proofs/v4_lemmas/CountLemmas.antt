-- What holds of scores in tenths, of their counts of 10^-24.
use Rattle.std.proofs.Common.{arith, ℤ, ◌≤ℤ◌}
use Rattle.std.proofs.lemmas.Int.{ints}
use Rattle.cvss_base.specs.Exact.{◌over◌, ◌⊕◌}
use Rattle.cvss_base.specs.Rounding.{IsRoundedV4}
use Rattle.cvss_base.specs.Tenths.{IsInTenths}
use Rattle.cvss_score.specs.v4.AsSevere.{IsAsSevere}
use Rattle.cvss_score.specs.v4.Scores.{number, IsScore}
use Rattle.cvss_score.specs.declared.v4.scoring.effective.Effective.{Effective}
use Rattle.cvss_score.proofs.v4_lemmas.ScoreLawLemmas.{lifted_score}
use Rattle.cvss_score.proofs.v4_lemmas.SevereLemmas.{severe_score}

-- values with no level below that of others score no more
pub severe_count : (v less : Effective) (count other : ℤ) → IsInTenths (IsScore v) count → IsAsSevere v less
    → IsInTenths (IsScore less) other → other ≤ℤ count
severe_count v less count other is_score severe is_other =
    let order = severe_score v less is_score.number is_other.number severe is_score.is_number is_other.is_number in
    omega (arith, ints, order, is_score.is_count, is_other.is_count)

-- a millionth changes no count
pub lifted_count : (v : Effective) (count : ℤ) → IsInTenths (IsScore v) count
    → IsInTenths (IsRoundedV4 (number v ⊕ 1 over 1_000_000)) count
lifted_count v count is_score = record {
  number = is_score.number;
  is_number = (lifted_score v is_score.number).0 is_score.is_number;
  is_count = is_score.is_count;
}
