use Rattle.std.proofs.Common.{◌≡◌, ◌<◌, slice_index_or, ℕ, List, [], ◌∷◌, ◌++◌, length, subst, sym, take, get_or, Option, None, option_map, arith, ap, ◌∙◌}
use Rattle.std.proofs.lemmas.List.{length-map, length-take-le, get_or-map, take_more}
use Rattle.cvss_triage.specs.declared.lines.CutLine.{CutLine}
use Rattle.cvss_triage.specs.private.Steps.{IsReadBy, as_line, rows_of}
use Rattle.cvss_triage.proofs.ranking.Ranking.in_turn.Goals as goal

within : (lines : List (Option CutLine)) (index : ℕ) → index < length lines → index < length (rows_of lines)
within lines index below = omega (arith, length-map lines (option_map as_line), below)

-- the line of this turn
here : (lines : List (Option CutLine)) (index : ℕ) (d : Option CutLine) → index < length lines → get_or (rows_of lines) index None ≡ option_map as_line (slice_index_or lines index d)
here lines index d below = get_or-map (option_map as_line) lines index d None below

pub loop-index-preserved : goal.loop-index-preserved
loop-index-preserved c =
    let lines = c.args.lines.now in
    let index = c.loop-index.index in
    let below = c.loop-index-test.true in
    let item = c.index-lines-index.result in
    let before = take index (rows_of lines) in
    let ranking = c.add_if.new.self in
    let added = c.in_ok-add_if.ensures before (omega (arith, length-take-le index (rows_of lines) (omega (arith, within lines index below)))) c.loop-index.invariant in
    rw (take_more (rows_of lines) index None (within lines index below))
    (subst (λ line. IsReadBy c.args.rules.now (before ++ line ∷ []) ranking.rows.items ranking.bad.items) (sym (here lines index item below ∙ ap (option_map as_line) (sym c.index-lines-index.is))) added)
