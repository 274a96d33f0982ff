-- How many vectors of each severity there are, and how many texts are rejected; and how it is printed.
use Rattle.std.specs.Prelude.{ℕ, ◌+◌, ◌-◌, ◌^◌, min, List, ◌++◌, codes, decimal, Option, Some, None}
use Rattle.cvss_base.specs.declared.severity.Severity.{Severity}
use Rattle.cvss_base.specs.declared.severity.Severity.TheVariants as rating
use Rattle.cvss_report.specs.declared.tally.Tally.{Tally}

-- nothing is counted
abbrev pub no_tally : Tally
no_tally = record { critical = 0; high = 0; medium = 0; low = 0; none = 0; rejected = 0 }

-- up to the greatest number of 64 bits
abbrev pub at_most : ℕ → ℕ
at_most count = min count (2 ^ 64 - 1)

abbrev pub one_more : ℕ → ℕ
one_more count = at_most (count + 1)

-- one more text is counted, by the severity of its vector if it is accepted
abbrev pub with_one : Option Severity → Tally → Tally
with_one (Some rating.Critical) tally = record tally { critical = one_more tally.critical }
with_one (Some rating.High) tally = record tally { high = one_more tally.high }
with_one (Some rating.Medium) tally = record tally { medium = one_more tally.medium }
with_one (Some rating.Low) tally = record tally { low = one_more tally.low }
with_one (Some rating.None) tally = record tally { none = one_more tally.none }
with_one None tally = record tally { rejected = one_more tally.rejected }

-- a line for each of the upper severities, and for each of the others and for what is rejected
abbrev pub severe_text : Tally → List ℕ
severe_text tally =
    codes "critical " ++ (decimal tally.critical ++ (codes "\nhigh " ++ (decimal tally.high ++ (codes "\nmedium "
    ++ (decimal tally.medium ++ codes "\n")))))

abbrev pub others_text : Tally → List ℕ
others_text tally =
    codes "low " ++ (decimal tally.low ++ (codes "\nnone " ++ (decimal tally.none ++ (codes "\nrejected "
    ++ (decimal tally.rejected ++ codes "\n")))))

abbrev pub count_text : Tally → List ℕ
count_text tally = severe_text tally ++ others_text tally
