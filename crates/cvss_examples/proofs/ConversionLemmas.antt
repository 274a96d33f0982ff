-- A vector that a text denotes is given back by its own text, and so by its JSON value.
use Rattle.std.proofs.Common.{◌≡◌, ◌≢◌, ◌↔◌, ℕ, List, [], ◌∷◌, ◌++◌, codes, length, map, refl, sym, ap, ◌∙◌, subst, arith}
use Rattle.std.specs.List.{join_with_byte}
use Rattle.std.specs.Prelude.{Result, IfErr, IsErrAnd, Ok, Err}
use Rattle.std.proofs.lemmas.List.{length-map}
use Rattle.std.proofs.lemmas.Result.{err_from_is_err_and}
use Rattle.std.proofs.lemmas.List.Sorted.{length_permutation}
use Rattle.cvss.specs.Answers.{text_of}
use Rattle.cvss.specs.Dispatch.{DenotesCvss, DenotesV3, IsFirstRejectionCvss, cvss_reason}
use Rattle.cvss.specs.ErrorType.{Error}
use Rattle.cvss.specs.ErrorType.TheVariants.{OutOfMemory}
use Rattle.cvss.specs.Json.{StandsFor, ReportsWhy, reported_as}
use Rattle.cvss.specs.laws.GivenBack.{IsGivenBack}
use Rattle.cvss.specs.Reported.{ReportsFirst}
use Rattle.cvss.specs.VectorTypeV3.{Vector}
use Rattle.cvss.specs.VectorV3.{v3}
use Rattle.cvss.specs.Version.{AreComponentsOf, components_of, read}
use Rattle.cvss.specs.CvssType.{Cvss}
use Rattle.cvss.specs.CvssType.TheVariants.{CvssV20, CvssV30, CvssV31, CvssV40}
use Rattle.cvss.specs.declared.json.JsonError.{JsonError}
use Rattle.cvss.specs.declared.json.JsonError.TheVariants.{NotAString, Invalid, OutOfMemory as NoMemory}
use Rattle.cvss_examples.specs.Conversions.{IsCanonicalText, IsTextOf, IsValueOf, ReportsNoText}
use Rattle.serde_json.specs.Data.{Data, string}

is_empty : {X : Type 0} (xs : List X) → length xs ≡ 0 → xs ≡ []
is_empty [] none = refl
is_empty (x ∷ xs) none = absurd (omega (arith, none))

-- a vector without metrics has no pieces
no_parts : (vector : Vector) (parts : List (List ℕ)) → AreComponentsOf v3 parts vector → components_of v3 vector ≡ [] → parts ≡ []
no_parts vector parts are none =
    is_empty parts
    (sym (length-map parts (read v3)) ∙ length_permutation _ _ are.each_once ∙ ap (λ components. length (map (read v3) components)) none)

-- a text that is more than its version piece denotes a vector with a metric
has_metric : (text piece : List ℕ) (minor : ℕ) (vector : Vector) → DenotesV3 text piece minor vector → v3.front vector ≡ piece ∷ [] → components_of v3 vector ≢ []
has_metric text piece minor vector is front = λ none. is.more (
    is.denoted.text_is
    ∙ ap (λ parts. join_with_byte 47 (v3.front vector ++ parts)) (no_parts vector is.denoted.parts is.denoted.components none)
    ∙ ap (λ pieces. join_with_byte 47 (pieces ++ [])) front)

-- the version piece is that of the minor version
front_of : (vector : Vector) (minor : ℕ) → vector.minor_version ≡ minor → v3.front vector ≡ v3.front (record vector { minor_version = minor })
front_of vector minor version = ap (λ each. v3.front (record vector { minor_version = each })) version

given_back : (text : List ℕ) (cvss : Cvss) → DenotesCvss text cvss → IsGivenBack cvss
given_back text (CvssV20 v) is = is.complete
given_back text (CvssV30 v) is = record {
  version = is.version;
  metric = has_metric text (codes "CVSS:3.0") 0 v is (front_of v 0 is.version);
}
given_back text (CvssV31 v) is = record {
  version = is.version;
  metric = has_metric text (codes "CVSS:3.1") 1 v is (front_of v 1 is.version);
}
given_back text (CvssV40 v) is = is.well_formed

-- the value of the vector that a text denotes stands for that vector
pub stands_for : ((cvss : Cvss) → (DenotesCvss (text_of cvss) cvss ↔ IsGivenBack cvss))
    → (text : List ℕ) (value : Data) → (is : IsValueOf text value) → StandsFor DenotesCvss value is.vector
stands_for own text value is = record {
  text = text_of is.vector;
  is_string = is.is;
  holds = (own is.vector).1 (given_back text is.vector is.denoted);
}

string_text : Data → List ℕ
string_text (string text) = text
string_text _ = []

pub converted : ((cvss : Cvss) → (DenotesCvss (text_of cvss) cvss ↔ IsGivenBack cvss))
    → ((text : List ℕ) (left right : Cvss) → DenotesCvss text left → DenotesCvss text right → left ≡ right)
    → (text : List ℕ) (value : Data) (back : List ℕ) → IsValueOf text value → IsTextOf value back → IsCanonicalText text back
unfolding string_text
converted own one text value back first second =
    let again = ap string_text (sym first.is ∙ second.stands.is_string) in
    let denoted = subst (λ each. DenotesCvss each second.vector) (sym again) second.stands.holds in
    let of_first = (own first.vector).1 (given_back text first.vector first.denoted) in
    let same = one (text_of first.vector) first.vector second.vector of_first denoted in
    record { vector = first.vector; denoted = first.denoted; is = second.is ∙ ap text_of (sym same) }

-- the string of a text is that of no other
one_string : {text other : List ℕ} → string text ≡ string other → text ≡ other
unfolding string_text
one_string same = ap string_text same

-- what the string of a text stands for, the text denotes
pub read_as : (text : List ℕ) (value : Data) (read : Cvss) → value ≡ string text → StandsFor DenotesCvss value read → DenotesCvss text read
read_as text value read is stands =
    subst (λ each. DenotesCvss each read) (one_string (sym stands.is_string ∙ is)) stands.holds

reports_no_text : (text : List ℕ) (value : Data) → value ≡ string text → (error : JsonError)
    → ReportsWhy (λ each. ReportsFirst cvss_reason (IsFirstRejectionCvss each)) value error → error ≢ Invalid OutOfMemory → ReportsNoText text error
reports_no_text text value is NotAString why reported = why text is
reports_no_text text value is (Invalid error) why reported = (
  subst (λ each. ReportsFirst cvss_reason (IsFirstRejectionCvss each) error) (one_string (sym why.is_string ∙ is)) why.holds,
  λ lacks. reported (ap Invalid lacks),
)
reports_no_text text value is NoMemory why reported = tt

-- why the string of a text stands for nothing is why the text denotes nothing
pub rejected_as : (result : Result Cvss JsonError) (text : List ℕ) (value : Data) → value ≡ string text
    → IfErr result (ReportsWhy (λ each. ReportsFirst cvss_reason (IsFirstRejectionCvss each)) value)
    → IfErr result (λ error. error ≢ Invalid OutOfMemory) → IfErr result (ReportsNoText text)
rejected_as (Ok read) text value is why reported = tt
rejected_as (Err error) text value is why reported = reports_no_text text value is error why reported

reported_as_reports : (text : List ℕ) (error : Error) → ReportsFirst cvss_reason (IsFirstRejectionCvss text) error → ReportsNoText text (reported_as error)
reported_as_reports text OutOfMemory first = tt
reported_as_reports text error first = (first, λ lacks. absurd cc)

-- the first reason why a text is rejected is reported
pub rejection_reported : {T : Type 0} (result : Result T JsonError) (text : List ℕ) (error : Error) → IsErrAnd result (λ reported. reported ≡ reported_as error)
    → ReportsFirst cvss_reason (IsFirstRejectionCvss text) error → IfErr result (ReportsNoText text)
rejection_reported result text error exit first =
    let reported = err_from_is_err_and result exit in
    rw (reported.1, reported.2) (reported_as_reports text error first)
