use Rattle.std.proofs.Common.{◌≡◌, ◌∙◌, [], ◌∷◌, pos, refl, rules, subst, sym, to_z, of_z}
use Rattle.std.proofs.lemmas.Int.{to_z-of_z}
use mir.Syntax.{w32}
use Rattle.cvss_score.specs.declared.v4.nomenclature.Nomenclature.TheVariants.{CvssB, CvssBE, CvssBT, CvssBTE}
use Rattle.cvss_vector.specs.Answers.{score_of_tenths}
use Rattle.cvss_vector.specs.Evaluation.{IsGroupScore, IsOverallScore}
use Rattle.cvss_vector.specs.declared.group.Group.TheVariants.{Base}
use Rattle.cvss_vector.specs.v4.Parts.{IsScoreBy}
use Rattle.cvss_vector.proofs.v4.AloneLemmas.{score_of_all}
use Rattle.cvss_ffi.proofs.NomenclatureLemmas.{scored_alone}
use Rattle.cvss_ffi.proofs.RatedLemmas.{in_tenths}
use Rattle.cvss_ffi.specs.Scores.{AreScoresByOf, nomenclature_of_any}
use Rattle.cvss_ffi.proofs.vector.scores_by.Goals as goal

pub returns-then-nomenclature-eq0 : goal.returns-then-nomenclature-eq0
returns-then-nomenclature-eq0 c =
    let vector = c.in-CvssV40.vector in
    let overall = c.args.overall in
    let zero : c.args.nomenclature ≡ pos 0 = search rules in
    let reported = subst (λ each. c.args.nomenclature ≡ nomenclature_of_any each) c.in-CvssV40.is c.requires.nomenclature in
    let alone = sym reported ∙ zero in
    let own = to_z-of_z w32 c.from-bte.result (search rules) ∙ c.from-bte.ensures in
    let scored = subst (λ each. IsOverallScore each (score_of_tenths overall)) c.in-CvssV40.is c.requires.overall in
    let same = to_z w32 (of_z w32 c.from-bte.result) in
    subst (λ each. AreScoresByOf each (same ∷ same ∷ same ∷ same ∷ [])) (sym c.in-CvssV40.is) (record {
      b = same;
      be = same;
      bt = same;
      bte = same;
      are = refl;
      base = in_tenths (IsScoreBy CvssB vector) overall _ own (scored_alone vector alone CvssB _ scored) c.requires.range;
      environmental = in_tenths (IsScoreBy CvssBE vector) overall _ own (scored_alone vector alone CvssBE _ scored) c.requires.range;
      threat = in_tenths (IsScoreBy CvssBT vector) overall _ own (scored_alone vector alone CvssBT _ scored) c.requires.range;
      all = in_tenths (IsScoreBy CvssBTE vector) overall _ own (scored_alone vector alone CvssBTE _ scored) c.requires.range;
    })

pub returns : goal.returns
returns c =
    let vector = c.in-CvssV40.vector in
    let b = to_z-of_z w32 c.from-b.result (search rules) ∙ c.from-b.ensures in
    let be = to_z-of_z w32 c.from.result (search rules) ∙ c.from.ensures in
    let bt = to_z-of_z w32 c.from-2.result (search rules) ∙ c.from-2.ensures in
    let bte = to_z-of_z w32 c.from-bte.result (search rules) ∙ c.from-bte.ensures in
    let base = subst (λ each. IsGroupScore each Base (score_of_tenths c.args.base)) c.in-CvssV40.is c.requires.base in
    let overall = subst (λ each. IsOverallScore each (score_of_tenths c.args.overall)) c.in-CvssV40.is c.requires.overall in
    subst (λ each. AreScoresByOf each (to_z w32 (of_z w32 c.from-b.result) ∷ to_z w32 (of_z w32 c.from.result) ∷ to_z w32 (of_z w32 c.from-2.result) ∷ to_z w32 (of_z w32 c.from-bte.result) ∷ [])) (sym c.in-CvssV40.is) (record {
      b = to_z w32 (of_z w32 c.from-b.result);
      be = to_z w32 (of_z w32 c.from.result);
      bt = to_z w32 (of_z w32 c.from-2.result);
      bte = to_z w32 (of_z w32 c.from-bte.result);
      are = refl;
      base = in_tenths (IsScoreBy CvssB vector) c.args.base _ b base c.requires.base_range;
      environmental = in_tenths (IsScoreBy CvssBE vector) c.tenths_by-be.result _ be c.tenths_by-be.ensures.value c.tenths_by-be.ensures.range;
      threat = in_tenths (IsScoreBy CvssBT vector) c.tenths_by-bt.result _ bt c.tenths_by-bt.ensures.value c.tenths_by-bt.ensures.range;
      all = in_tenths (IsScoreBy CvssBTE vector) c.args.overall _ bte (score_of_all vector _ overall) c.requires.range;
    })
