-- What the private code of values does quote by quote. No public clause cites it.
use Rattle.std.specs.Prelude.{ℕ, ◌==◌, List, [], ◌∷◌, if◌then◌else◌}
use Rattle.cvss_csv.specs.Fields.{quote, unquoted}

-- what follows a quote in a quoted field: another, of which one stays, or what belongs to the value as it is
abbrev pub after_quote : List ℕ → List ℕ
after_quote [] = []
after_quote (byte ∷ bytes) = if byte == quote then quote ∷ unquoted bytes else byte ∷ bytes
