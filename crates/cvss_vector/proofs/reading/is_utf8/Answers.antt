use Rattle.std.proofs.lemmas.Str.{IsUtf8-from_ascii}
use Rattle.cvss_vector.proofs.reading.is_utf8.Goals as goal

pub returns-then-is_ascii : goal.returns-then-is_ascii
returns-then-is_ascii c = (λ _. IsUtf8-from_ascii c.args.bytes.now (rw c.if-is_ascii.true at c.is_ascii.ensures.cases), λ _. c.if-is_ascii.true)
