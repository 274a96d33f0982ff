-- Rows, as the code has them.
use Rattle.std.specs.Prelude.{ℕ, List, [], ◌∷◌, ◌++◌, codes}
use Rattle.cvss_explain.specs.V4.{class_text, digits}
use Rattle.cvss_explain.specs.Lines.{TitledFigure}
use Rattle.cvss_explain.specs.V4.{contribution_text}
use Rattle.cvss_explain.specs.declared.lines.Figure.{Figure}
use Rattle.cvss_explain.specs.declared.lines.Figure.TheVariants.{Of, Contribution}
use Rattle.cvss_explain.specs.declared.lines.Title.{Title}
use Rattle.cvss_explain.specs.declared.lines.Title.TheVariants.{Words, Level, Levels, Class}
use Rattle.cvss_explain.specs.Steps.{amount_text}

-- the text of a title
abbrev pub title_text : Title → List ℕ
title_text (Words words) = words.now
title_text (Level name level) = name.now ++ digits (level ∷ [])
title_text (Levels name first second) = name.now ++ digits (first ∷ second ∷ [])
title_text (Class class) = codes "MacroVector " ++ class_text class.now

-- the text of what a row comes to
abbrev pub figure_text : Figure → List ℕ
figure_text (Of amount) = amount_text amount
figure_text (Contribution value group) = contribution_text value group.now

-- a row
abbrev pub row_view : Title × Figure → TitledFigure
row_view row = (title_text row.0, figure_text row.1)
