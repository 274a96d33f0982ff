-- Roundings that the specifications print, and some at their ties, so that a wrong rule does not check.
use Rattle.std.proofs.Common.{pos, negsuc, rules}
use Rattle.cvss_base.specs.Exact.{ratio, ◌over◌}
use Rattle.cvss_base.specs.Rounding.{IsRoundedV2, IsRoundedV30, IsRoundedV4}
use Rattle.cvss_base.specs.laws.Rounding.{IsNearestEven}

-- v3.0 specification, 8.1: Round up (4.02) is 4.1, and Round up (4.00) is 4.0
pub v30_examples : IsRoundedV30 (402 over 100) (pos 41) × IsRoundedV30 (400 over 100) (pos 40)
v30_examples = (search rules, search rules)

-- v2: halves go away from zero, once 10^-6 has been added
pub v2_ties : IsRoundedV2 (855 over 100) (pos 86) × IsRoundedV2 (8_549_995 over 1_000_000) (pos 85)
    × IsRoundedV2 (49_999 over 1_000_000) (pos 1) × IsRoundedV2 (49_998 over 1_000_000) (pos 0)
    × IsRoundedV2 (ratio (negsuc 4) 100) (pos 0) × IsRoundedV2 (ratio (negsuc 50_000) 1_000_000) (negsuc 0)
v2_ties = (search rules, search rules, search rules, search rules, search rules, search rules)

-- v4: halves go up, and nothing is added before
pub v4_ties : IsRoundedV4 (15 over 100) (pos 2) × IsRoundedV4 (ratio (negsuc 14) 100) (negsuc 0)
    × IsRoundedV4 (145 over 100) (pos 15) × IsRoundedV4 (512_345 over 100_000) (pos 51)
    × IsRoundedV4 (8_549_995 over 1_000_000) (pos 85)
v4_ties = (search rules, search rules, search rules, search rules, search rules)

-- printing: halves go to the even tenth
pub even_ties : IsNearestEven (15 over 100) (pos 2) × IsNearestEven (25 over 100) (pos 2)
    × IsNearestEven (ratio (negsuc 14) 100) (negsuc 1)
even_ties = (search rules, search rules, search rules)
