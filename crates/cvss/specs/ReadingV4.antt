-- Which texts a value is read from: CVSS v4.0 specification, section 7, in any ASCII case.
use Rattle.std.specs.Prelude.{◌≡◌, ◌⊎◌, ℕ, List}
use Rattle.cvss_base.specs.Text.{uppercased}

-- the text is the value's spelling, or that spelling in upper case
abbrev pub IsReading : List ℕ → List ℕ → Type 0
IsReading spelling text = (spelling ≡ text) ⊎ (uppercased spelling ≡ text)
