-- The severity of effective values of any MacroVector: CVSS v4.0 specification, sections 3 and 8.2.
use Rattle.std.specs.Prelude.{ℕ, List, ◌∷◌}
use Rattle.cvss_score.specs.v4.AsSevere.{levels}
use Rattle.cvss_score.specs.v4.Classes.{eq5}
use Rattle.cvss_score.specs.declared.v4.scoring.effective.Effective.{Effective}

-- the severity levels, and that of E, the most severe first: A, P, U
abbrev pub all_levels : Effective → List ℕ
all_levels v = eq5 v.e ∷ levels v
