use Rattle.cvss_score.proofs.v4_lemmas.TableLemmas.{value_at_place}
use Rattle.cvss_score.proofs.v4.scoring.values.value_of.Goals as goal

pub returns : goal.returns
returns c =
    let placed = c.args.placed.now in
    rw placed.at_place (value_at_place placed.class placed.is_class)
