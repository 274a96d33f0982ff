use Rattle.std.proofs.Common.{◌≡◌, sym, subst}
use Rattle.cvss_score.proofs.v3_lemmas.CountLemmas.{base_parts, possible}
use Rattle.cvss_score.specs.v3.private.Units.{base_parts as parts_of_base, ArePossible}
use Rattle.cvss_score.proofs.v3.weights.Weights.base_parts.Goals as goal

pub returns-clause-possible : goal.returns-clause-possible
returns-clause-possible c =
    let w = c.args.self.now in
    let is : record { sub_score = c.sub_score.result; exploitability = c.exploitability.result; changed = w.changed } ≡ parts_of_base w = cc in
    subst ArePossible (sym is) (possible (base_parts w c.requires.tables))
