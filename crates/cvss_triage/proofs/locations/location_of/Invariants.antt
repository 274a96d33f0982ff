use Rattle.std.proofs.Common.{◌≡◌, ◌++◌, ◌≤◌, ℕ, List, All, length}
use Rattle.cvss_triage.proofs.locations.location_of.Given as goal

-- the starts that are not left are of lines after the line of the number
abbrev pub invariant-loop-left : goal.invariant-loop-left
invariant-loop-left l = (later : List ℕ) × (l.fn.starts ≡ l.left ++ later) × All (λ other. l.fn.number ≤ other) later

abbrev pub decreases-loop-left : goal.decreases-loop-left
decreases-loop-left l = length l.left
