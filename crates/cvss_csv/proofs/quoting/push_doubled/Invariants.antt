use Rattle.std.proofs.Common.{◌≡◌, ◌++◌, flat_map, take}
use Rattle.cvss_csv.specs.Quoting.{doubled}
use Rattle.cvss_csv.proofs.quoting.push_doubled.Given as goal

abbrev pub invariant-loop-byte : goal.invariant-loop-byte
invariant-loop-byte l = l.out.bytes.items ≡ l.fn.out.bytes.items ++ flat_map doubled (take l.byte-index l.text)
