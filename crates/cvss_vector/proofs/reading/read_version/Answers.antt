use Rattle.cvss_vector.proofs.reading.read_version.Goals as goal

pub returns-in-Ok : goal.returns-in-Ok
returns-in-Ok g c = rw c.join.ensures (c.reads_by_its_rules.ensures.read.accepted _ _ c.in-Ok.ensures)

pub returns-in-Err : goal.returns-in-Err
returns-in-Err g c = c.reads_by_its_rules.ensures.read.rejected _ _ _ c.in-Err.ensures c.of_version.ensures
