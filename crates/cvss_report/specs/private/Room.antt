-- The room that a member of a record needs.
use Rattle.std.specs.Prelude.{ℕ}
use Rattle.cvss_report.specs.declared.field.Field.{Field}
use Rattle.cvss_report.specs.declared.field.Field.TheVariants.{Text}

-- no more bytes than these are written for a member
abbrev pub field_room : Field → ℕ
field_room Text = 400
field_room _ = 100
