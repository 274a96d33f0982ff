-- A text that denotes a vector is read by the rules of its version. It denotes at most one vector and has at most one first
-- rejection; what reading it answers follows from what the rules of its version read. And a vector has one score.
use Rattle.std.proofs.Common.{◌≡◌, ◌≢◌, ◌<◌, Bool, false, None, ℕ, zero, suc, List, [], ◌∷◌, ◌++◌, Ok, Err, codes, length, map, refl, sym, ap, ◌∙◌, subst, arith, lit<, Contains, IsUtf8}
use Rattle.std.specs.Prelude.{⊤}
use Rattle.std.proofs.lemmas.List.{length-map}
use Rattle.std.proofs.lemmas.List.Elements.{All-nil}
use Rattle.std.proofs.lemmas.List.Sorted.{length_permutation}
use Rattle.cvss_base.specs.Rejection.{Rejection, BadPiecesFirst, piece_at}
use Rattle.cvss_base.specs.Text.{pieces, component, has, dot}
use Rattle.cvss_base.specs.V2Types.{name_of}
use Rattle.cvss_base.specs.Version.{Version, numeral, version_piece, components_of, read, Denotes, IsComplete, IsWellFormed}
use Rattle.cvss_base.specs.declared.v2.MetricType.TheVariants as kind_v2
use Rattle.cvss_base.specs.declared.v4.MetricType.TheVariants as kind_v4
use Rattle.cvss_base.specs.laws.Rounding.{IsOneCount}
use Rattle.cvss_base.specs.private.Component.{delimiter_bytes}
use Rattle.cvss_base.proofs.TenthsLemmas.{in_tenths_once}
use Rattle.cvss_score.proofs.v2_lemmas.UniqueLemmas.{base_score_once}
use Rattle.cvss_score.proofs.v3_lemmas.LawLemmas as law_v3
use Rattle.cvss_score.proofs.v4_lemmas.ScoreLawLemmas.{one_score}
use Rattle.cvss_score.specs.v4.Scores.{IsScore}
use Rattle.cvss_text.proofs.CanonicalLemmas.{denoted_once}
use Rattle.cvss_text.proofs.ComponentLemmas.{piece_held, held_stands, value_from}
use Rattle.cvss_text.proofs.DenotesLemmas.{pieces_of_complete}
use Rattle.cvss_text.proofs.FrontLemmas.{IsDecided, Denotes-pieces, IsUtf8-left, decided_after, decided_bare, denoted_once_after, pieces_denoted_after, reason_after}
use Rattle.cvss_text.proofs.NumeralLemmas.{numeral-injective, numeral-plain}
use Rattle.cvss_text.proofs.TextLemmas.{IsPart}
use Rattle.cvss_text.specs.Route.{Route, ToV20, ToV30, ToV31, ToV40, ToNoVersion, route_of, route_of_pieces}
use Rattle.cvss_text.specs.private.Walk.{FrontLaws, IsFirstOfPieces, VersionLaws, reason_of}
use Rattle.cvss_metric.specs.v2.private.TableLaws.{undotted_spelling}
use Rattle.cvss_vector.specs.v2.Vector.{v2}
use Rattle.cvss_vector.specs.v2.Weights.{weights_of}
use Rattle.cvss_vector.specs.v2.private.VectorLaws.{v2_laws}
use Rattle.cvss_vector.specs.v3.Vector.{v3}
use Rattle.cvss_vector.specs.v3.VectorWeights as weights_v3
use Rattle.cvss_vector.specs.v3.private.VectorLaws.{v3_laws, v3_front_laws}
use Rattle.cvss_vector.specs.v4.Merging.{effective_of}
use Rattle.cvss_vector.specs.v4.Vector.{v4}
use Rattle.cvss_vector.specs.v4.private.VectorLaws.{v4_laws, v4_front_laws}
use Rattle.cvss_vector.specs.Answers.{HasScore, IsScoreOf, text_of}
use Rattle.cvss_vector.specs.Complete.{IsPublishedBy, missing_by}
use Rattle.cvss_vector.specs.Dispatch.{DenotesCvss, DenotesV2, DenotesV3, DenotesV4, IsFirstReasonAt, IsFirstRejectionCvss, IsReasonOf, wrapped}
use Rattle.cvss_vector.specs.Published.{IsPublished}
use Rattle.cvss_vector.specs.Rejections.{rejection_of}
use Rattle.cvss_vector.specs.declared.metric_type.MetricType.{MetricType}
use Rattle.cvss_vector.specs.declared.metric_type.MetricType.TheVariants.{V2, V3, V4}
use Rattle.cvss_vector.specs.declared.published.Published.{Published}
use Rattle.cvss_vector.specs.declared.scoring.Scoring.{Scoring}
use Rattle.cvss_vector.specs.declared.rejection.Rejection as declared
use Rattle.cvss_vector.specs.declared.vector.Cvss.{Cvss}
use Rattle.cvss_vector.specs.declared.vector.Cvss.TheVariants.{CvssV20, CvssV30, CvssV31, CvssV40}
use Rattle.cvss_vector.specs.private.{IsRead, IsReadByRules, IsReportable, IsRouted, IsRoutedV3, front_of, route_v3, wrapped_v3}

-- two pieces, the first of which says a version
two_pieces : (reported : List ℕ) (parts : List (List ℕ)) (to : Route) → parts ≢ [] → ((next : List ℕ) (more : List (List ℕ)) → route_of_pieces (version_piece reported ∷ next ∷ more) ≡ to) → route_of_pieces (version_piece reported ∷ parts) ≡ to
two_pieces reported [] to some routed = absurd (some refl)
two_pieces reported (next ∷ more) to some routed = routed next more

-- a text goes where they go, if it says the version and its vector has some component
routed_after : {V K : Type 0} (version : Version V K) (laws : VersionLaws version) (front_laws : FrontLaws version) (text : List ℕ) (vector : V) (denotes : Denotes version text vector) (reported : List ℕ) (to : Route) → version.front vector ≡ version_piece reported ∷ [] → delimiter_bytes reported ≡ 0 → denotes.parts ≢ [] → ((next : List ℕ) (more : List (List ℕ)) → route_of_pieces (version_piece reported ∷ next ∷ more) ≡ to) → route_of text ≡ to
routed_after version laws front_laws text vector denotes reported to front plain some routed =
    ap route_of_pieces (pieces_denoted_after version laws front_laws text vector denotes reported front plain)
    ∙ two_pieces reported denotes.parts to some routed

-- a vector that a text denotes with more than the version piece has some component
pub v3_parts : (text : List ℕ) (minor : ℕ) (vector : _) (denotes : DenotesV3 text (version_piece (codes "3." ++ numeral minor)) minor vector) → denotes.denoted.parts ≢ []
v3_parts text minor vector denotes none = denotes.more (denotes.denoted.text_is ∙ rw (none, denotes.version) refl)

v3_routed : (text : List ℕ) (minor : ℕ) (to : Route) (vector : _) → DenotesV3 text (version_piece (codes "3." ++ numeral minor)) minor vector → ((next : List ℕ) (more : List (List ℕ)) → route_of_pieces (version_piece (codes "3." ++ numeral minor) ∷ next ∷ more) ≡ to) → route_of text ≡ to
v3_routed text minor to vector denotes =
    let front = ap (λ each. version_piece (codes "3." ++ numeral each) ∷ []) denotes.version in
    routed_after v3 v3_laws v3_front_laws text vector denotes.denoted (codes "3." ++ numeral minor) to front (numeral-plain minor) (v3_parts text minor vector denotes)

-- the version that CVSS v4.0 supports
pub only_one : (reported other : List ℕ) → Contains (other ∷ []) reported → reported ≡ other
only_one reported other (zero, within, is) = sym is
only_one reported other (suc place, within, is) = absurd (omega (arith, within))

-- a vector of CVSS v4.0 with all base metrics has some component
pub v4_parts : (text : List ℕ) (vector : _) (denotes : DenotesV4 text vector) → denotes.denoted.parts ≢ []
v4_parts text vector denotes none =
    let value = value_from (v4.value_of vector kind_v4.AC) (denotes.well_formed.complete.present kind_v4.AC (0, lit< tt, refl)) in
    let stands = held_stands v4 v4_laws vector denotes.denoted.parts kind_v4.AC value.0 denotes.denoted.components value.1 in
    omega (arith, stands.within, ap length none)

v40_routed : (text : List ℕ) (vector : _) → DenotesV4 text vector → route_of text ≡ ToV40
v40_routed text vector denotes =
    let said = denotes.well_formed.supported in
    let front = said.front_is ∙ ap (λ each. version_piece each ∷ []) (only_one said.reported (codes "4.0") said.supported) in
    routed_after v4 v4_laws v4_front_laws text vector denotes.denoted (codes "4.0") ToV40 front refl (v4_parts text vector denotes) (λ next more. refl)

-- a first piece that is a component of CVSS v2 says no version
first_held_routed : (parts : List (List ℕ)) (kind : _) (spelling : List ℕ) → 1 < length parts → has dot spelling ≡ false → piece_at parts 0 ≡ component (name_of kind) spelling → route_of_pieces parts ≡ ToV20
first_held_routed [] kind spelling some undotted is = absurd (omega (arith, some))
first_held_routed (piece ∷ []) kind spelling some undotted is = absurd (omega (arith, some))
first_held_routed (piece ∷ next ∷ more) kind spelling some undotted is = ap (λ each. route_of_pieces (each ∷ next ∷ more)) is ∙ elim kind as (λ each. route_of_pieces (component (name_of each) spelling ∷ next ∷ more) ≡ ToV20) [
  | kind_v2.A ↦ rw undotted refl
  | _ ↦ rw undotted refl
]

-- a vector of CVSS v2 with all base metrics has two components
pub v2_parts : (text : List ℕ) (vector : _) (denotes : DenotesV2 text vector) → 1 < length denotes.denoted.parts
v2_parts text vector denotes =
    let parts = denotes.denoted.parts in
    let components = components_of v2 vector in
    let same = length_permutation (map (read v2) components) (map (read v2) parts) denotes.denoted.components.each_once in
    let av = value_from (v2.value_of vector kind_v2.AV) (denotes.complete.present kind_v2.AV (0, lit< tt, refl)) in
    let ac = value_from (v2.value_of vector kind_v2.AC) (denotes.complete.present kind_v2.AC (1, lit< tt, refl)) in
    let two : 1 < length components = rw (av.1, ac.1) (omega arith) in
    omega (arith, two, same, length-map parts (read v2), length-map components (read v2))

v20_routed : (text : List ℕ) (vector : _) → DenotesV2 text vector → route_of text ≡ ToV20
v20_routed text vector denotes =
    let parts = denotes.denoted.parts in
    let are : pieces text ≡ parts = pieces_of_complete v2 v2_laws vector text denotes.denoted (All-nil IsPart) denotes.complete in
    let some = v2_parts text vector denotes in
    let first = piece_held v2 v2_laws vector parts 0 denotes.denoted.components (omega (arith, some)) in
    ap route_of_pieces are ∙ first_held_routed parts first.kind (v2.spelling first.kind first.value) some (undotted_spelling first.kind first.value) first.is

-- one piece says one minor version of CVSS v3
pub same_minor : (minor other : ℕ) (left right : List (List ℕ)) → version_piece (codes "3." ++ numeral minor) ∷ left ≡ version_piece (codes "3." ++ numeral other) ∷ right → minor ≡ other
same_minor minor other left right same = let numerals : numeral minor ≡ numeral other = cc in numeral-injective minor other numerals

-- a text that says a minor version of CVSS v3 denotes vectors of that
pub v3_denoted : (text components : List ℕ) (minor : ℕ) (vector : _) → IsRoutedV3 text components minor → Denotes v3 text vector → IsWellFormed v3 vector → route_of (version_piece (codes "3." ++ numeral minor)) ≢ route_v3 minor → DenotesV3 text (version_piece (codes "3." ++ numeral minor)) minor vector
v3_denoted text components minor vector is denotes formed alone = record {
  denoted = denotes;
  well_formed = formed;
  version = same_minor vector.minor_version minor denotes.parts (pieces components) (sym (pieces_denoted_after v3 v3_laws v3_front_laws text vector denotes (codes "3." ++ numeral vector.minor_version) refl (numeral-plain vector.minor_version)) ∙ is.cut);
  more = λ same. alone (ap route_of (sym same) ∙ is.routed);
}

-- a text that denotes a vector is read by the rules of its version
abbrev pub route_for : Cvss → Route
route_for (CvssV20 vector) = ToV20
route_for (CvssV30 vector) = ToV30
route_for (CvssV31 vector) = ToV31
route_for (CvssV40 vector) = ToV40

pub denoted_routed : (text : List ℕ) (cvss : Cvss) → DenotesCvss text cvss → route_of text ≡ route_for cvss
denoted_routed text (CvssV20 vector) denotes = v20_routed text vector denotes
denoted_routed text (CvssV30 vector) denotes = v3_routed text 0 ToV30 vector denotes (λ next more. refl)
denoted_routed text (CvssV31 vector) denotes = v3_routed text 1 ToV31 vector denotes (λ next more. refl)
denoted_routed text (CvssV40 vector) denotes = v40_routed text vector denotes

pub one_vector : (text : List ℕ) (left right : Cvss) → DenotesCvss text left → DenotesCvss text right → left ≡ right
one_vector text (CvssV20 v) (CvssV20 w) left right = ap CvssV20 (denoted_once v2 v2_laws v w text refl left.denoted right.denoted)
one_vector text (CvssV30 v) (CvssV30 w) left right = ap CvssV30 (denoted_once_after v3 v3_laws v3_front_laws text v w left.denoted right.denoted)
one_vector text (CvssV31 v) (CvssV31 w) left right = ap CvssV31 (denoted_once_after v3 v3_laws v3_front_laws text v w left.denoted right.denoted)
one_vector text (CvssV40 v) (CvssV40 w) left right = ap CvssV40 (denoted_once_after v4 v4_laws v4_front_laws text v w left.denoted right.denoted)
one_vector text v w left right = let no : route_for v ≡ route_for w = sym (denoted_routed text v left) ∙ denoted_routed text w right in absurd cc

-- what a version decides of a text, of vectors and reasons as those of any version
module _ {V K : Type 0} {version : Version V K} {IsFormed : V → Type 0} {IsReason : Rejection K → Type 0} {text : List ℕ} (wrap : K → MetricType) (is : IsDecided version IsFormed IsReason text) where
  own_vector : (v : V) → Denotes version text v → IsFormed v → IsUtf8 text × ((reason : Rejection MetricType) → IsReasonOf wrap (BadPiecesFirst IsReason (pieces text)) reason → ⊥)
  own_vector v denotes formed = (is.utf8 v denotes formed, λ reason of. is.none v denotes formed of.own of.first)

  own_reason : (one other : Rejection MetricType) → IsReasonOf wrap (BadPiecesFirst IsReason (pieces text)) one → IsReasonOf wrap (BadPiecesFirst IsReason (pieces text)) other → one ≡ other
  own_reason one other first second =
      first.is ∙ (ap (wrapped wrap) (is.one_reason first.own second.own first.first second.first) ∙ sym second.is)

one_at : (route : Route) (text : List ℕ) (one other : Rejection MetricType) → IsFirstReasonAt route text one → IsFirstReasonAt route text other → one ≡ other
one_at ToV20 text = own_reason V2 (decided_bare v2 v2_laws text)
one_at ToV30 text = own_reason V3 (decided_after v3 v3_laws v3_front_laws text)
one_at ToV31 text = own_reason V3 (decided_after v3 v3_laws v3_front_laws text)
one_at ToV40 text = own_reason V4 (decided_after v4 v4_laws v4_front_laws text)
one_at (ToNoVersion why) text = λ one other first second. first ∙ sym second

pub one_rejection : (text : List ℕ) (one other : Rejection MetricType) → IsFirstRejectionCvss text one → IsFirstRejectionCvss text other → one ≡ other
one_rejection text = one_at (route_of text) text

pub score_once : (cvss : Cvss) → IsOneCount (IsScoreOf cvss)
score_once (CvssV20 v) = base_score_once (weights_of v)
score_once (CvssV30 v) = law_v3.base_score_once v.minor_version (weights_v3.weights_of v)
score_once (CvssV31 v) = law_v3.base_score_once v.minor_version (weights_v3.weights_of v)
score_once (CvssV40 v) = in_tenths_once (IsScore (effective_of v)) (one_score (effective_of v))

module _ (text : List ℕ) where
  decided : (cvss : Cvss) → DenotesCvss text cvss → IsUtf8 text × ((reason : Rejection MetricType) → IsFirstReasonAt (route_for cvss) text reason → ⊥)
  decided (CvssV20 v) is = own_vector V2 (decided_bare v2 v2_laws text) v is.denoted (record { frontless = refl; complete = is.complete })
  decided (CvssV30 v) is = own_vector V3 (decided_after v3 v3_laws v3_front_laws text) v is.denoted is.well_formed
  decided (CvssV31 v) is = own_vector V3 (decided_after v3 v3_laws v3_front_laws text) v is.denoted is.well_formed
  decided (CvssV40 v) is = own_vector V4 (decided_after v4 v4_laws v4_front_laws text) v is.denoted is.well_formed

  none : (cvss : Cvss) → DenotesCvss text cvss → (reason : Rejection MetricType) → IsFirstRejectionCvss text reason → ⊥
  none cvss denotes reason first = (decided cvss denotes).1 reason (subst (λ route. IsFirstReasonAt route text reason) (denoted_routed text cvss denotes) first)

  pub scored : (cvss : Cvss) → DenotesCvss text cvss → HasScore cvss
  scored (CvssV40 v) denotes = denotes.well_formed.complete
  scored _ denotes = tt

  -- so an answer is right that is such a vector or such a reason
  read_ok : (cvss : Cvss) → DenotesCvss text cvss → IsRead text (Ok cvss)
  read_ok cvss denotes = record {
    denoted = denotes;
    accepts = λ other also. ap Ok (one_vector text cvss other denotes also);
    scored = scored cvss denotes;
    utf8 = (decided cvss denotes).0;
    rejected = tt;
    rejects = λ reason first. absurd (none cvss denotes reason first);
    reportable = λ is. tt;
  }

  pub read_err : (rejection : declared.Rejection) → IsFirstRejectionCvss text (rejection_of rejection) → (IsUtf8 text → IsReportable rejection) → IsRead text (Err rejection)
  read_err rejection first reportable = record {
    denoted = tt;
    accepts = λ cvss denotes. absurd (none cvss denotes (rejection_of rejection) first);
    scored = tt;
    utf8 = tt;
    rejected = first;
    rejects = λ reason other. one_rejection text (rejection_of rejection) reason first other;
    reportable = reportable;
  }

  pub reason_at : (to : Route) → route_of text ≡ to → (reason : Rejection _) → IsFirstReasonAt to text reason → IsFirstRejectionCvss text reason
  reason_at to route reason = subst (λ each. IsFirstReasonAt each text reason) (sym route)

  -- what the rules of a version read of the components
  module _ {V K : Type 0} (version : Version V K) (join : V → Cvss) (wrap : K → MetricType) (to : Route) (front : List (List ℕ)) (components : List ℕ) where
    pub read_any : route_of text ≡ to → pieces text ≡ front ++ pieces components
        → ((v : V) → Denotes version text v → version.front v ≡ front → IsComplete version v → DenotesCvss text (join v))
        → ((own : Rejection K) → IsFirstOfPieces version (pieces components) own → IsFirstReasonAt to text (wrapped wrap own))
        → (empty : V) → version.front empty ≡ front → IsReadByRules version join wrap text components empty
    read_any routed cut denotes reasons empty is = record {
      accepted = λ done v read.
          let same = read.front ∙ is in
          read_ok (join v) (denotes v (Denotes-pieces version text front (pieces components) cut v same read.components) same read.complete);
      rejected = λ fault v rejection read for.
          read_err rejection (reason_at to routed (rejection_of rejection) (rw for.is (reasons (reason_of version fault) read.rejected)))
          (λ utf8. for.reportable (read.printable (IsUtf8-left text front (pieces components) cut utf8)));
    }

  -- those of each version
  module _ (components : List ℕ) where
    pub read_v2 : (minor : ℕ) → IsRouted (λ _. ⊤) (λ _. ToV20) (λ _. []) text components minor → (empty : _) → v2.front empty ≡ [] → IsReadByRules v2 CvssV20 V2 text components empty
    read_v2 minor is = read_any v2 CvssV20 V2 ToV20 [] components is.routed is.cut
        (λ v denotes _ complete. record { denoted = denotes; complete = complete })
        (λ own first. record { own = own; first = subst (λ parts. IsFirstOfPieces v2 parts own) (sym is.cut) first; is = refl })

    denoted_v3 : (minor : ℕ) → IsRoutedV3 text components minor → (v : _) → Denotes v3 text v → v3.front v ≡ front_of (codes "3.") minor → IsComplete v3 v → DenotesCvss text (wrapped_v3 minor v)
    denoted_v3 zero is v denotes front complete = v3_denoted text components 0 v is denotes (record { complete = complete; supported = record { reported = codes "3.0"; front_is = front; supported = (0, lit< tt, refl) } }) (λ no. cc)
    denoted_v3 (suc zero) is v denotes front complete = v3_denoted text components 1 v is denotes (record { complete = complete; supported = record { reported = codes "3.1"; front_is = front; supported = (1, lit< tt, refl) } }) (λ no. cc)
    denoted_v3 (suc (suc minor)) is v denotes front complete = absurd (omega (arith, is.known))

    reason_v3 : (minor : ℕ) → IsRoutedV3 text components minor → (own : Rejection _) → IsFirstOfPieces v3 (pieces components) own → IsFirstReasonAt (route_v3 minor) text (wrapped V3 own)
    reason_v3 zero is own first = record { own = own; first = reason_after v3 v3_laws v3_front_laws text (codes "3.0") (0, lit< tt, refl) (pieces components) is.cut own first; is = refl }
    reason_v3 (suc zero) is own first = record { own = own; first = reason_after v3 v3_laws v3_front_laws text (codes "3.1") (1, lit< tt, refl) (pieces components) is.cut own first; is = refl }
    reason_v3 (suc (suc minor)) is own first = absurd (omega (arith, is.known))

    pub read_v3 : (minor : ℕ) → IsRoutedV3 text components minor → (empty : _) → v3.front empty ≡ front_of (codes "3.") minor → IsReadByRules v3 (wrapped_v3 minor) V3 text components empty
    read_v3 minor is = read_any v3 (wrapped_v3 minor) V3 (route_v3 minor) (front_of (codes "3.") minor) components is.routed is.cut (denoted_v3 minor is) (reason_v3 minor is)

    pub read_v4 : (minor : ℕ) → IsRouted (λ minor. minor ≡ 0) (λ _. ToV40) (front_of (codes "4.")) text components minor → (empty : _) → v4.front empty ≡ front_of (codes "4.") minor → IsReadByRules v4 CvssV40 V4 text components empty
    read_v4 zero is = read_any v4 CvssV40 V4 ToV40 (front_of (codes "4.") 0) components is.routed is.cut
        (λ v denotes front complete. record { denoted = denotes; well_formed = record { complete = complete; supported = record { reported = codes "4.0"; front_is = front; supported = (0, lit< tt, refl) } } })
        (λ own first. record { own = own; first = reason_after v4 v4_laws v4_front_laws text (codes "4.0") (0, lit< tt, refl) (pieces components) is.cut own first; is = refl })
    read_v4 (suc minor) is = absurd (omega (arith, is.known))

-- what is published of a vector that was read, whose canonical text is given; it lacks no base metric, unless it may
pub IsPublishedBy-read : {text canonical : List ℕ} {scoring : Scoring} {cvss : Cvss} {published : Published} (allow_incomplete : Bool) → IsRead text (Ok cvss)
    → canonical ≡ text_of cvss → IsPublished scoring cvss published → missing_by allow_incomplete cvss ≡ None → IsPublishedBy scoring allow_incomplete text canonical published
IsPublishedBy-read {cvss = cvss} allow_incomplete read canonical_is is complete =
    record { of = record { cvss = cvss; canonical_is = canonical_is; denoted = read.denoted; utf8 = read.utf8; is = is }; complete = complete }
