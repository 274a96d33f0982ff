use Rattle.std.proofs.Common.{◌≡◌, ◌+◌, ◌≤◌, length, take}
use Rattle.std.specs.List.{suffix_len}
use Rattle.cvss_matches.specs.Parts.{is_ending}
use Rattle.cvss_matches.proofs.part.without_dividers.Given as goal

abbrev pub invariant-loop-end : goal.invariant-loop-end
invariant-loop-end l = record {
  within : l.end ≤ length l.part;
  trims : l.end + suffix_len is_ending l.part ≡ length l.part + suffix_len is_ending (take l.end l.part);
}

abbrev pub decreases-loop-end : goal.decreases-loop-end
decreases-loop-end l = l.end
