-- How the value of a metric is printed.
use Rattle.std.specs.Prelude.{List, ℕ, [], Option, option_map, unwrap_or}
use Rattle.cvss_base.specs.Text.{component}
use Rattle.cvss_text.specs.private.Printing.{with_slash}

-- a slash and the component of a value, and nothing where there is none
abbrev pub shown : {M : Type 0} → List ℕ → (M → List ℕ) → Option M → List ℕ
shown metric spelling value = unwrap_or (with_slash (option_map (component metric) (option_map spelling value))) []
