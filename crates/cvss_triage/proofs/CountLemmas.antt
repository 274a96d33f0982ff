-- Rows and lines that are counted one after another, by those that are left.
use Rattle.std.proofs.Common.{◌≡◌, ℕ, ◌<◌, ◌+◌, true, false, List, ◌∷◌, length, map, drop, get_or, cond, None, Some, sym, ap, ◌∙◌}
use Rattle.std.proofs.lemmas.List.{at_drop_more}
use Rattle.cvss_report.specs.Gates.{shows}
use Rattle.cvss_report.specs.Tallies.{with_one}
use Rattle.cvss_report.specs.declared.gate.Gate.{Gate}
use Rattle.cvss_report.specs.declared.tally.Tally.{Tally}
use Rattle.cvss_triage.specs.Counts.{severity_of, tally_after, with_bad}
use Rattle.cvss_triage.specs.Shown.{shown_rows}
use Rattle.cvss_triage.specs.declared.ranking.BadLine.{BadLine}
use Rattle.cvss_triage.specs.declared.row.Row.{Row}

-- the tally with the rows that are shown of those that are left
abbrev pub with_left : Gate → Tally → List Row → Tally
with_left gate tally rows = tally_after tally (map (λ row. Some (severity_of row)) (shown_rows gate rows))

module _ (gate : Gate) (tally : Tally) (rows : List Row) (index : ℕ) (d : Row) (below : index < length rows) where
  step : with_left gate tally (drop index rows) ≡ with_left gate tally (get_or rows index d ∷ drop (index + 1) rows)
  step = at_drop_more (with_left gate tally) rows index d below

  -- one row more, which is shown
  pub counted_row : shows gate (get_or rows index d).tenths ≡ true → with_left gate (with_one (Some (severity_of (get_or rows index d))) tally) (drop (index + 1) rows) ≡ with_left gate tally (drop index rows)
  counted_row passes =
      let row = get_or rows index d in
      let rest = shown_rows gate (drop (index + 1) rows) in
      sym (step ∙ ap (λ shown. tally_after tally (map (λ row. Some (severity_of row)) (cond shown (row ∷ rest) rest))) passes)

  -- and one that is not
  pub passed_row : shows gate (get_or rows index d).tenths ≡ false → with_left gate tally (drop (index + 1) rows) ≡ with_left gate tally (drop index rows)
  passed_row fails =
      let row = get_or rows index d in
      let rest = shown_rows gate (drop (index + 1) rows) in
      sym (step ∙ ap (λ shown. tally_after tally (map (λ row. Some (severity_of row)) (cond shown (row ∷ rest) rest))) fails)

-- one line more without a row
pub counted_bad : (bad : List BadLine) (index : ℕ) (d : BadLine) (below : index < length bad) (tally : Tally) → with_bad (drop (index + 1) bad) (with_one None tally) ≡ with_bad (drop index bad) tally
counted_bad bad index d below tally = sym (at_drop_more (λ left. with_bad left tally) bad index d below)
