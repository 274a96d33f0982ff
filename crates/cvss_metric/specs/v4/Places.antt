-- The values of the metrics of CVSS v4.0 by their places among those of a metric: v4.0 specification, sections 2 to 5.
use Rattle.std.specs.Prelude.{ℕ}
use Rattle.cvss_metric.specs.declared.v4.place.OneOfTwo.{OneOfTwo}
use Rattle.cvss_metric.specs.declared.v4.place.OneOfTwo.TheVariants as two
use Rattle.cvss_metric.specs.declared.v4.place.OneOfThree.{OneOfThree}
use Rattle.cvss_metric.specs.declared.v4.place.OneOfThree.TheVariants as three
use Rattle.cvss_metric.specs.declared.v4.place.OneOfFour.{OneOfFour}
use Rattle.cvss_metric.specs.declared.v4.place.OneOfFour.TheVariants as four
use Rattle.cvss_metric.specs.declared.v4.place.OneOfFive.{OneOfFive}
use Rattle.cvss_metric.specs.declared.v4.place.OneOfFive.TheVariants as five

abbrev pub two_rank : {number : ℕ} → OneOfTwo number → ℕ
two_rank = elim [ two.First ↦ 0 | two.Second ↦ 1 ]

abbrev pub three_rank : {number : ℕ} → OneOfThree number → ℕ
three_rank = elim [ three.First ↦ 0 | three.Second ↦ 1 | three.Third ↦ 2 ]

abbrev pub four_rank : {number : ℕ} → OneOfFour number → ℕ
four_rank = elim [ four.First ↦ 0 | four.Second ↦ 1 | four.Third ↦ 2 | four.Fourth ↦ 3 ]

abbrev pub five_rank : {number : ℕ} → OneOfFive number → ℕ
five_rank = elim [ five.First ↦ 0 | five.Second ↦ 1 | five.Third ↦ 2 | five.Fourth ↦ 3 | five.Fifth ↦ 4 ]
