-- Where the private code keeps the value of a class.
use Rattle.std.specs.Prelude.{ℕ, ◌+◌, ◌*◌, min}
use Rattle.cvss_score.specs.declared.v4.scoring.classes.MacroVector.{MacroVector}

-- the place among the values row by row, EQ3 with EQ6 being the five pairs in their order
abbrev pub place_of : MacroVector → ℕ
place_of m = (((2 * m.eq1 + m.eq2) * 5 + min (2 * m.eq3 + m.eq6) 4) * 3 + m.eq4) * 3 + m.eq5
