use Rattle.cvss_score.proofs.v4_lemmas.GroupLemmas.{table_value_listed, groups_sound}
use Rattle.cvss_laws.proofs.v4.RangeLemmas.{sound_fall}
use Rattle.cvss_score.specs.v4.Gap.{groups}
use Rattle.cvss_score.specs.v4.Values.{table_value}
use Rattle.cvss_laws.proofs.v4.gaps_are_not_negative.Goals as goal

pub returns : goal.returns
returns c = record {
  listed = table_value_listed;
  lower = λ v. sound_fall (table_value v) (groups v) (groups_sound v);
}
