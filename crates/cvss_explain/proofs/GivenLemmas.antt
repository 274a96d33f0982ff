-- The line that an answer says as given.
use Rattle.std.proofs.Common.{◌≡◌, ℕ, List, [], ◌++◌, codes, refl}
use Rattle.std.specs.Str.{IsUtf8, is_utf8}
use Rattle.std.proofs.lemmas.Bool.{false_from_ne_true}
use Rattle.std.proofs.lemmas.Str.{IsUtf8-from_is_utf8, is_utf8-from_IsUtf8}
use Rattle.cvss_json.specs.Escapes.{quoted}
use Rattle.cvss_explain.specs.Json.{given_member}

-- a text is given
pub text_given : (line : List ℕ) → IsUtf8 line → given_member line ≡ codes ",\"given\":" ++ quoted line
text_given line utf8 = rw (is_utf8-from_IsUtf8 line utf8) refl

-- other bytes are not
pub nothing_given : (line : List ℕ) → (¬ (IsUtf8 line)) → given_member line ≡ []
nothing_given line never = rw (false_from_ne_true (is_utf8 line) (λ is. never (IsUtf8-from_is_utf8 line is))) refl
