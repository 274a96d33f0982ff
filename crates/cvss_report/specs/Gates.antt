-- Which vectors a list shows, and which make it fail, by their scores.
use Rattle.std.specs.Prelude.{ℕ, Bool, true, false, ◌&&◌, Option, Some, None, leb, if◌then◌else◌}
use Rattle.cvss_report.specs.declared.gate.Gate.{Gate}

-- vectors that score less than the minimum are passed over
abbrev pub shows : Gate → ℕ → Bool
shows gate tenths = leb gate.minimum tenths

-- the score is at least this one, if there is one
abbrev pub is_from : Option ℕ → ℕ → Bool
is_from None tenths = false
is_from (Some least) tenths = leb least tenths

-- of the others those fail that score at least what the gate fails on
abbrev pub fails : Gate → ℕ → Bool
fails gate tenths = shows gate tenths && is_from gate.fail_on tenths

-- a text is passed over only for its score
abbrev pub is_passed_over : Gate → Option ℕ → Bool
is_passed_over gate None = false
is_passed_over gate (Some tenths) = if shows gate tenths then false else true

-- and made to fail only for its score
abbrev pub is_failing : Gate → Option ℕ → Bool
is_failing gate None = false
is_failing gate (Some tenths) = fails gate tenths
