-- What the code computes in whole numbers of small units, of weights in hundredths: v3.1 specification, 7.1 to 7.3. The
-- contracts of calls that `cvss` has no path to cite these.
use Rattle.std.specs.Prelude.{◌≡◌, ◌⊎◌, ℕ, ◌+◌, ◌-◌, ◌*◌, ◌/◌, ◌^◌, ℤ, pos, negsuc, min, Bool, true, false, if◌then◌else◌}
use Rattle.std.specs.List.{Contains}
use Rattle.cvss_score.specs.declared.v3.equations.Parts.{Parts}
use Rattle.cvss_score.specs.declared.v3.rules.Exponent.{Exponent}
use Rattle.cvss_score.specs.declared.v3.rules.Exponent.TheVariants.{Fifteen, Thirteen}
use Rattle.cvss_score.specs.declared.v3.weights.Weights.{Weights}
use Rattle.cvss_score.specs.v3.private.SubScores.{IsSubScore, exploitabilities}

-- a sub-score in millionths
abbrev pub millionths_of : ℕ → ℕ → ℕ → ℕ
millionths_of c i a = 1_000_000 - (100 - c) * (100 - i) * (100 - a)

-- a product in nine decimals
abbrev pub product : ℕ → ℕ → ℕ
product x y = x * y / 10 ^ 9

-- the third and the twelfth power in nine decimals
abbrev pub cube : ℕ → ℕ
cube x = product (product x x) x

abbrev pub twelfth : ℕ → ℕ
twelfth x = product (product (cube x) (cube x)) (product (cube x) (cube x))

-- an impact with the scope changed in 10^-11
unfoldable pub changed_units : ℕ → ℕ
changed_units s = 752_000 * (s - 29_000) - 325 * product (twelfth ((s - 20_000) * 1000)) (cube ((s - 20_000) * 1000))

unfoldable pub changed_modified_units : ℕ → ℕ
changed_modified_units s =
    752_000 * (s - 29_000) - 325 * product (twelfth (s * 9731 / 10 - 20_000_000)) (s * 9731 / 10 - 20_000_000)

-- an impact by its exponent and whether the scope is changed
abbrev pub impact_units : Exponent → Bool → ℕ → ℕ
impact_units exponent false s = 642_000 * s
impact_units Fifteen true s = changed_units s
impact_units Thirteen true s = changed_modified_units s

-- what a score is the rounding of, in 10^-13, of an impact and an exploitability in 10^-10
abbrev pub total_units : Bool → ℕ → ℕ → ℕ
total_units false impact exploitability = min (100 * (impact + 10 * exploitability)) (10 ^ 14)
total_units true impact exploitability = min (108 * (impact + 10 * exploitability)) (10 ^ 14)

-- the parts of the number of the base score, and of that of the first rounding of the environmental score
abbrev pub base_parts : Weights → Parts
base_parts w = record {
  sub_score = millionths_of w.c w.i w.a;
  exploitability = 822 * w.av * w.ac * w.pr * w.ui;
  changed = w.changed;
}

abbrev pub modified_parts : Weights → Parts
modified_parts w = record {
  sub_score = min (millionths_of (w.cr * w.mc / 100) (w.ir * w.mi / 100) (w.ar * w.ma / 100)) 915_000;
  exploitability = 822 * w.mav * w.mac * w.mpr * w.mui;
  changed = w.modified_changed;
}

-- parts that weights of the tables can have
pub record ArePossible (p : Parts) : Type 0 where
  pub sub_score : (p.sub_score ≡ 0) ⊎ IsSubScore p.sub_score
  pub listed : Contains (exploitabilities p.changed) p.exploitability

-- n is an impact in 10^-11
pub record IsImpact (exponent : Exponent) (p : Parts) (n : ℤ) : Type 0 where
  pub none : p.sub_score ≡ 0 → n ≡ (if p.changed then negsuc 21_807_999_999 else pos 0)
  pub some : IsSubScore p.sub_score → n ≡ pos (impact_units exponent p.changed p.sub_score)

-- n is what a score is the rounding of, in 10^-13
pub record IsNumber (exponent : Exponent) (p : Parts) (n : ℕ) : Type 0 where
  pub none : p.sub_score ≡ 0 → n ≡ 0
  pub some : IsSubScore p.sub_score → n ≡ total_units p.changed (impact_units exponent p.changed p.sub_score) p.exploitability
