use Rattle.std.proofs.Common.{◌≡◌, take, true}
use Rattle.cvss_json.specs.private.Clear.{are_clear}
use Rattle.cvss_json.proofs.escape.are_clear.Given as goal

abbrev pub invariant-loop-byte : goal.invariant-loop-byte
invariant-loop-byte l = are_clear (take l.byte-index l.text) ≡ true
