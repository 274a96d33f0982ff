use Rattle.std.proofs.Common.{◌≡◌, sym, subst}
use Rattle.cvss_score.proofs.v3_lemmas.CountLemmas.{modified_parts, possible}
use Rattle.cvss_score.specs.v3.private.Units.{modified_parts as parts_of_first, ArePossible}
use Rattle.cvss_score.proofs.v3.weights.Weights.modified_parts.Goals as goal

pub returns-clause-possible : goal.returns-clause-possible
returns-clause-possible c =
    let w = c.args.self.now in
    let is : record { sub_score = c.min.result; exploitability = c.exploitability.result; changed = w.modified_changed } ≡ parts_of_first w = cc in
    subst ArePossible (sym is) (possible (modified_parts w c.requires.tables))
