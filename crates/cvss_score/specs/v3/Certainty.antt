-- That an error of a millionth changes no rounding of a number, as long as the number stays at most 10: v3.1
-- specification, Appendix A, on numbers that are computed in floating point. It is promised where there is impact, of
-- the numbers of the base score and of the first rounding of the environmental score. Without impact the number is 0,
-- and a millionth more is rounded to 0.1 in v3.0. The number of the temporal score can lie on a jump: that of
-- CVSS:3.0/AV:N/AC:L/PR:N/UI:N/S:C/C:H/I:H/A:H/E:H/RL:U/RC:U is exactly 9.2, and with a millionth added its rounding
-- is 9.3.
use Rattle.std.specs.Prelude.{ℕ, ◌<◌, ℤ}
use Rattle.cvss_base.specs.Exact.{Exact, ◌over◌, whole, ◌⊕◌, ◌⊖◌, ◌⊑◌}
use Rattle.cvss_score.specs.v3.Scores.{IsRounded}

-- each number from n - 10^-6 to n + 10^-6 that is not above 10 has the rounding of n
pub record IsCertain (minor : ℕ) (n : Exact) : Type 0 where
  pub rounding : ℤ
  pub is_rounding : IsRounded minor n rounding
  pub same_rounding : (x : Exact) → 0 < x.bottom
      → n ⊖ 1 over 1_000_000 ⊑ x → x ⊑ n ⊕ 1 over 1_000_000 → x ⊑ whole 10 → IsRounded minor x rounding
