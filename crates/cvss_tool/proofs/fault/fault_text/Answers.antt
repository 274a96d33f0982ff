use Rattle.std.specs.Prelude.{refl}
use Rattle.cvss_tool.proofs.fault.fault_text.Goals as goal

pub returns-in-Read : goal.returns-in-Read
returns-in-Read c = rw c.in-Read.is refl

pub returns-in-Write : goal.returns-in-Write
returns-in-Write c = rw c.in-Write.is refl

pub returns-in-Memory : goal.returns-in-Memory
returns-in-Memory c = rw c.in-Memory.is refl
