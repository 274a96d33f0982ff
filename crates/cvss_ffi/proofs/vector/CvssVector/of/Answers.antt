use Rattle.std.proofs.Common.{refl, rules}
use Rattle.std.proofs.lemmas.Int.{to_z-of_z}
use mir.Syntax.{w32}
use Rattle.cvss_vector.specs.Evaluation.{IsGroupScore, IsOverallScore}
use Rattle.cvss_vector.specs.declared.group.Group.TheVariants.{Base}
use Rattle.cvss_ffi.proofs.RatedLemmas.{rated_base, rated_environmental, rated_score, rated_temporal}
use Rattle.cvss_ffi.proofs.vector.CvssVector.of.Goals as goal

pub returns : goal.returns
returns c =
    let cvss = c.args.cvss.now in
    let found = c.of-found.result in
    let is = c.of-found.ensures in
    record {
      size_is = refl;
      version_is = search rules;
      overall = rw (to_z-of_z w32 c.numbers_of-score.result.0 (search rules), to_z-of_z w32 c.numbers_of-score.result.1 (search rules))
          (rated_score cvss (IsOverallScore cvss) found.overall _ _ is.overall c.numbers_of-score.ensures);
      base = rw (to_z-of_z w32 c.numbers_of-base.result.0 (search rules), to_z-of_z w32 c.numbers_of-base.result.1 (search rules))
          (rated_base cvss _ _ (rated_score cvss (IsGroupScore cvss Base) found.base _ _ is.base c.numbers_of-base.ensures));
      temporal = rw (to_z-of_z w32 c.numbers_if-temporal.result.0 (search rules), to_z-of_z w32 c.numbers_if-temporal.result.1 (search rules))
          (rated_temporal cvss found.temporal _ _ is.temporal c.numbers_if-temporal.ensures);
      environmental = rw (to_z-of_z w32 c.numbers_if-environmental.result.0 (search rules), to_z-of_z w32 c.numbers_if-environmental.result.1 (search rules))
          (rated_environmental cvss found.environmental _ _ is.environmental c.numbers_if-environmental.ensures);
      nomenclature_is = search rules;
      by_nomenclature = c.scores_by.ensures;
      is_complete = search rules;
    }
