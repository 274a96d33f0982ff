-- Which texts a value of CVSS v4.0 is read from.
use Rattle.std.proofs.Common.{◌≡◌, ◌∷◌, [], ℕ, List, inl, inr, refl, ap, sym, ◌∙◌}
use Rattle.std.proofs.lemmas.Str.Ascii.{uppercase-uppercase}
use Rattle.cvss_base.specs.Text.{uppercased}
use Rattle.cvss.specs.ReadingV4.{IsReading}

uppercased_twice : (text : List ℕ) → uppercased (uppercased text) ≡ uppercased text
uppercased_twice [] = refl
uppercased_twice (byte ∷ text) = rw (uppercase-uppercase byte) (rw (uppercased_twice text) refl)

-- a text that a value is read from is the value's spelling, in some case
pub read_alike : (spelling text : List ℕ) → IsReading spelling text → uppercased spelling ≡ uppercased text
read_alike spelling text (inl same) = ap uppercased same
read_alike spelling text (inr same) = sym (uppercased_twice spelling) ∙ ap uppercased same
