use Rattle.std.proofs.Common.{◌≡◌, ◌++◌, string_bytes, flat_map}
use Rattle.cvss_audit.specs.Locations.{escaped_char}
use Rattle.cvss_audit.proofs.locations.pointer.push_escaped.Given as goal

abbrev pub invariant-loop-char : goal.invariant-loop-char
invariant-loop-char l = string_bytes l.text ≡ string_bytes l.fn.text ++ flat_map escaped_char l.yielded
