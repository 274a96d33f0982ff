use Rattle.std.proofs.Common.{◌≡◌, ℕ, ◌-◌, ◌<◌, ◌≤◌, length, get_or}
use Rattle.cvss_lines.proofs.search.either_or_len.Given as goal

abbrev pub invariant-loop-at : goal.invariant-loop-at
invariant-loop-at l = record {
  within : l.at ≤ length l.bytes;
  without_one : (k : ℕ) → k < l.at → get_or l.bytes k 0 ≡ l.one → ⊥;
  without_other : (k : ℕ) → k < l.at → get_or l.bytes k 0 ≡ l.other → ⊥;
}

abbrev pub decreases-loop-at : goal.decreases-loop-at
decreases-loop-at l = length l.bytes - l.at
