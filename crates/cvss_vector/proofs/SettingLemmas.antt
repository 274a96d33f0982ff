-- What is answered of a vector of any version, from what its version answers, where metrics are set; and a vector that is
-- built is what the text of its version and its components denotes.
use Rattle.std.proofs.Common.{◌≡◌, ℕ, ◌≤◌, List, Option, IfOk, Result, Ok, Err, length, refl, sym, ap, ◌∙◌, subst, arith, false, [], ◌∷◌, ◌++◌, codes, length-append, lit<, Contains}
use Rattle.std.proofs.lemmas.Option.{IfSome_then}
use Rattle.std.proofs.lemmas.Result.{IfOk-weaker}
use Rattle.cvss_base.specs.V4Types.{most_metrics}
use Rattle.cvss_base.specs.Rejection.{Rejection}
use Rattle.cvss_base.specs.Version.{numeral, version_piece}
use Rattle.cvss_text.specs.private.SettingSteps.{IsAnswered}
use Rattle.cvss_text.specs.private.Walk.{reason_of}
use Rattle.cvss_text.specs.declared.walk.Fault.{Fault}
use Rattle.cvss_vector.specs.Dispatch.{IsReasonOf, wrapped, DenotesCvss, DenotesV3}
use Rattle.cvss_vector.specs.Rejections.{rejection_of}
use Rattle.cvss_vector.specs.Answers.{HasScore}
use Rattle.cvss_vector.specs.Setting.{IsOf, IsWith, IsBuiltAs, text_with}
use Rattle.cvss_vector.specs.private.{IsAnsweredBy, front_of}
use Rattle.cvss_vector.specs.declared.metric_type.MetricType.{MetricType}
use Rattle.cvss_vector.specs.declared.rejection.Rejection as declared
use Rattle.cvss_vector.specs.declared.setting.SetError.{SetError}
use Rattle.cvss_vector.specs.declared.vector.Cvss.{Cvss}
use Rattle.cvss_vector.specs.declared.vector.Cvss.TheVariants.{CvssV40}
use Rattle.cvss_text.specs.Setting.{components_in, IsBuilt}
use Rattle.cvss_text.proofs.SettingLemmas.{IsComplete-set}
use Rattle.cvss_vector.specs.v4.Vector.{v4}
use Rattle.cvss_vector.specs.v4.private.VectorLaws.{v4_laws}
use Rattle.cvss_base.specs.Text.{has, pieces, slash}
use Rattle.cvss_base.specs.Version as base
use Rattle.cvss_vector.specs.declared.setting.Version.{Version}
use Rattle.cvss_vector.specs.declared.setting.Version.TheVariants.{V20, V30, V31, V40}
use Rattle.cvss_vector.proofs.ReadLemmas.{same_minor, scored}
use Rattle.cvss_text.proofs.PieceLemmas.{pieces_after}
use Rattle.cvss_text.proofs.FrontLemmas.{Denotes-pieces}
use Rattle.cvss_vector.specs.v2.Vector.{v2}
use Rattle.cvss_vector.specs.v3.Vector.{v3}

module _ {V K : Type 0} {version : base.Version V K} {IsIt : V → Type 0} {IsReason : Option ℕ → Rejection K → Type 0} (wrap : V → Cvss) (of_any : K → MetricType) where
  pub answered_ok : (v : V) → IsAnswered version IsIt IsReason (Ok v) → IsAnsweredBy (IsOf wrap IsIt) (λ index. IsReasonOf of_any (IsReason index)) (Ok (wrap v))
  answered_ok v is = record {
    accepted = record { own = v; holds = is.accepted; is = refl };
    accepts = λ cvss of. let same = is.accepts of.own of.holds in cc;
    rejected = tt;
    rejects = λ index reason of. is.rejects index of.own of.first;
    bound = tt;
  }

  pub answered_err : (index : Option ℕ) (fault : Fault K) (reason : declared.Rejection) → rejection_of reason ≡ wrapped of_any (reason_of version fault) → length version.printed ≤ most_metrics → IsAnswered version IsIt IsReason (Err (index, fault)) → IsAnsweredBy (IsOf wrap IsIt) (λ index. IsReasonOf of_any (IsReason index)) (Err (record { index = index; reason = reason }))
  answered_err index fault reason says most is = record {
    accepted = tt;
    accepts = λ cvss of. absurd (let no = is.accepts of.own of.holds in cc);
    rejected = record { own = reason_of version fault; first = is.rejected; is = says };
    rejects = λ other reason of.
        let same = is.rejects other of.own of.first in
        (same.0, says ∙ ap (wrapped of_any) same.1 ∙ sym of.is);
    bound = IfSome_then index is.bound (λ i within. omega (arith, within, most));
  }

-- a vector that has a score keeps one
keeps_score : (cvss new : Cvss) (metrics : List ℕ) → HasScore cvss → IsWith cvss metrics new → HasScore new
keeps_score (CvssV40 v) new metrics scored is = subst HasScore (sym is.is) (IsComplete-set v4 v4_laws v (components_in metrics) is.own is.holds scored)
keeps_score _ new metrics scored is = subst HasScore (sym is.is) tt

pub scored_with : (cvss : Cvss) (metrics : List ℕ) (answer : Result Cvss SetError) → IfOk answer (IsWith cvss metrics) → HasScore cvss → IfOk answer (λ new. HasScore new)
scored_with cvss metrics answer with scored = IfOk-weaker answer _ _ (λ new. keeps_score cvss new metrics scored) with

-- a text is denoted after the piece that says its version
denoted_after : {V K : Type 0} (version : base.Version V K) (text : List ℕ) (v : V) (reported : List ℕ) → has slash (version_piece reported) ≡ false → IsBuilt version (version_piece reported ∷ []) (pieces text) v → base.Denotes version (version_piece reported ++ slash ∷ text) v
denoted_after version text v reported plain built =
    Denotes-pieces version (version_piece reported ++ slash ∷ text) (version_piece reported ∷ []) (pieces text) (pieces_after (version_piece reported) text plain) v built.front_is built.components

built_v3 : (minor : ℕ) (text : List ℕ) (v : _) → Contains v3.supported (codes "3." ++ numeral minor) → has slash (version_piece (codes "3." ++ numeral minor)) ≡ false → IsBuilt v3 (front_of (codes "3.") minor) (pieces text) v → DenotesV3 (version_piece (codes "3." ++ numeral minor) ++ slash ∷ text) (version_piece (codes "3." ++ numeral minor)) minor v
built_v3 minor text v supported plain built = record {
  denoted = denoted_after v3 text v (codes "3." ++ numeral minor) plain built;
  well_formed = record { complete = built.complete; supported = record { reported = codes "3." ++ numeral minor; front_is = built.front_is; supported = supported } };
  version = same_minor v.minor_version minor [] [] built.front_is;
  more = λ same. omega (arith, ap length same, length-append (version_piece (codes "3." ++ numeral minor)) (slash ∷ text));
}

denotes_built : (version : Version) (new : Cvss) (text : List ℕ) → IsBuiltAs version text new → DenotesCvss (text_with version text) new
denotes_built V20 new text is = rw is.is (record { denoted = Denotes-pieces v2 text [] (pieces text) refl is.own is.holds.front_is is.holds.components; complete = is.holds.complete })
denotes_built V30 new text is = rw is.is (built_v3 0 text is.own (0, lit< tt, refl) refl is.holds)
denotes_built V31 new text is = rw is.is (built_v3 1 text is.own (1, lit< tt, refl) refl is.holds)
denotes_built V40 new text is = rw is.is (record {
  denoted = denoted_after v4 text is.own (codes "4.0") refl is.holds;
  well_formed = record { complete = is.holds.complete; supported = record { reported = codes "4.0"; front_is = is.holds.front_is; supported = (0, lit< tt, refl) } };
})

pub denoted_built : (version : Version) (text : List ℕ) (answer : Result Cvss SetError) → IfOk answer (IsBuiltAs version text) → IfOk answer (λ new. DenotesCvss (text_with version text) new)
denoted_built version text answer = IfOk-weaker answer _ _ (λ new. denotes_built version new text)

-- so it has a score
pub scored_built : (version : Version) (text : List ℕ) (answer : Result Cvss SetError) → IfOk answer (IsBuiltAs version text) → IfOk answer (λ new. HasScore new)
scored_built version text answer built = IfOk-weaker answer _ _ (scored (text_with version text)) (denoted_built version text answer built)
