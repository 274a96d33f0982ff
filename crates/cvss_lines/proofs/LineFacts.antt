-- Lines of small inputs, by computation.
use Rattle.std.proofs.Common.{◌≡◌, [], ◌∷◌, refl}
use Rattle.cvss_lines.specs.Lines.{ended_lines, lines}

-- an empty input has no line
empty_input : lines [] ≡ []
empty_input = refl

-- an empty line is a line
empty_line : lines (10 ∷ []) ≡ [] ∷ []
empty_line = refl

-- a last piece without a byte 10 is a line, and a byte 13 at its end isn't part of it
last_line : lines (65 ∷ 10 ∷ 66 ∷ 13 ∷ []) ≡ (65 ∷ []) ∷ (66 ∷ []) ∷ []
last_line = refl

-- a byte 10 does not end it
not_ended : ended_lines (65 ∷ 10 ∷ 66 ∷ 13 ∷ []) ≡ (65 ∷ []) ∷ []
not_ended = refl

-- of two bytes 13 before the byte 10, and of one before other bytes, one and none is taken off
carriage_returns : lines (65 ∷ 13 ∷ 13 ∷ 10 ∷ 13 ∷ 66 ∷ 10 ∷ []) ≡ (65 ∷ 13 ∷ []) ∷ (13 ∷ 66 ∷ []) ∷ []
carriage_returns = refl
