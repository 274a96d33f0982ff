use Rattle.cvss_subcommands.proofs.score.serve_counted.Goals as goal

pub returns-then-flags : goal.returns-then-flags
returns-then-flags g c =
    rw (c.if-flags.true, ← c.scoring-scoring.ensures, ← c.counting_gate-gate.ensures) c.serve_lines.ensures

pub returns-else-flags : goal.returns-else-flags
returns-else-flags g c =
    rw (c.if-flags.false, ← c.scoring-scoring.ensures, ← c.counting_gate-gate.ensures) c.serve_lines-else-flags.ensures
