use Rattle.cvss_score.specs.v4.Gap.{eq1_group, eq2_group, eq3_eq6_group, eq4_group, eq5_group}
use Rattle.cvss_score.proofs.v4_lemmas.ExplanationLemmas.{is_reported}
use Rattle.cvss_score.proofs.v4_lemmas.GroupLemmas as group
use Rattle.cvss_score.proofs.v4.scoring.explanation.GroupExplanations.of.Goals as goal

pub returns-clause-value : goal.returns-clause-value
returns-clause-value c =
    let v = c.args.values.now.effective in
    let reported = is_reported v c.args.values.now.value in
    let listed = c.args.values.now.listed in
    let eq1 = c.of.ensures in
    let eq2 = c.of-2.ensures in
    let eq3_eq6 = c.of-3.ensures in
    let eq4 = c.of-4.ensures in
    let eq5 = c.of-5.ensures in
    record {
      eq1 = reported (eq1_group v) _ _ listed (group.sound group.eq1 v) c.eq1_terms.ensures eq1.next eq1.distance eq1.depth eq1.taken;
      eq2 = reported (eq2_group v) _ _ listed (group.sound group.eq2 v) c.eq2_terms.ensures eq2.next eq2.distance eq2.depth eq2.taken;
      eq3_eq6 = reported (eq3_eq6_group v) _ _ listed (group.sound group.eq3_eq6 v) c.eq3_eq6_terms.ensures eq3_eq6.next eq3_eq6.distance eq3_eq6.depth eq3_eq6.taken;
      eq4 = reported (eq4_group v) _ _ listed (group.sound group.eq4 v) c.eq4_terms.ensures eq4.next eq4.distance eq4.depth eq4.taken;
      eq5 = reported (eq5_group v) _ _ listed (group.sound group.eq5 v) c.eq5_terms.ensures eq5.next eq5.distance eq5.depth eq5.taken;
    }
