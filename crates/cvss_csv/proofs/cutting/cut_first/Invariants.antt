use Rattle.std.proofs.Common.{◌-◌, ◌≤◌, length, take}
use Rattle.cvss_csv.specs.private.Cutting.{IsWithin}
use Rattle.cvss_csv.proofs.cutting.cut_first.Given as goal

abbrev pub invariant-loop-at : goal.invariant-loop-at
invariant-loop-at l = record {
  within : l.at ≤ length l.bytes;
  passed : IsWithin l.delimiter l.fn.state (take l.at l.bytes) l.now;
}

abbrev pub decreases-loop-at : goal.decreases-loop-at
decreases-loop-at l = length l.bytes - l.at
