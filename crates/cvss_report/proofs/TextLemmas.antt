-- What JSON has of bytes that are a text or none.
use Rattle.std.proofs.Common.{◌≡◌, ℕ, List, IsUtf8, refl}
use Rattle.std.proofs.lemmas.Bool.{false_from_ne_true}
use Rattle.std.proofs.lemmas.Str.{IsUtf8-from_is_utf8, is_utf8-from_IsUtf8}
use Rattle.std.specs.Str.{is_utf8}
use Rattle.cvss_json.specs.Escapes.{quoted}
use Rattle.cvss_report.specs.Cells.{given_text, nothing}
use Rattle.cvss_report.specs.declared.format.Format.TheVariants.{Json}

pub given_if_text : (line : List ℕ) → IsUtf8 line → given_text Json line ≡ quoted line
given_if_text line is = rw (is_utf8-from_IsUtf8 line is) refl

pub given_if_none : (line : List ℕ) → ¬ (IsUtf8 line) → given_text Json line ≡ nothing Json
given_if_none line not_text = rw (false_from_ne_true (is_utf8 line) (λ is. not_text (IsUtf8-from_is_utf8 line is))) refl
