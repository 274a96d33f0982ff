use Rattle.cvss_vector.proofs.ReadLemmas.{read_v2}
use Rattle.cvss_vector.proofs.one_version.V2VectorOneVersion.reads_by_its_rules.Goals as goal

pub returns-clause-read : goal.returns-clause-read
returns-clause-read c =
    read_v2 c.args._text.now c.args._components.now c.args._minor c.requires.routed c.args._empty c.requires.front
