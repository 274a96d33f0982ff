-- Which vectors their own texts denote.
use Rattle.std.proofs.Common.{◌≡◌, ◌≢◌, ◌↔◌, ℕ, List, [], ◌∷◌, ◌++◌, codes, length, refl, sym, ap, ◌∙◌, arith, lit<}
use Rattle.std.specs.List.{Contains}
use Rattle.std.proofs.lemmas.List.{length-append}
use Rattle.cvss_base.specs.Version.{numeral, components_of, version_piece}
use Rattle.cvss_base.specs.Text.{slash, joined}
use Rattle.cvss_text.proofs.CanonicalLemmas.{canonical_text-denotes}
use Rattle.cvss_vector.specs.v2.Vector.{v2}
use Rattle.cvss_vector.specs.v2.private.VectorLaws.{v2_laws}
use Rattle.cvss_vector.specs.v3.Vector.{v3}
use Rattle.cvss_vector.specs.v3.private.VectorLaws.{v3_laws}
use Rattle.cvss_vector.specs.declared.v3.vector.Vector.{Vector}
use Rattle.cvss_vector.specs.v4.Vector.{v4}
use Rattle.cvss_vector.specs.v4.private.VectorLaws.{v4_laws}
use Rattle.cvss_vector.specs.Answers.{text_of}
use Rattle.cvss_vector.specs.Dispatch.{DenotesCvss, DenotesV3}
use Rattle.cvss_laws.specs.any.GivenBack.{IsGivenBack, HasVersionAndMetric}
use Rattle.cvss_vector.specs.declared.vector.Cvss.{Cvss}
use Rattle.cvss_vector.specs.declared.vector.Cvss.TheVariants.{CvssV20, CvssV30, CvssV31, CvssV40}

-- a version piece with more after it is longer than it is alone
longer : (piece : List ℕ) (parts : List (List ℕ)) → parts ≢ [] → joined (piece ∷ parts) ≡ piece → ⊥
longer piece [] some same = some refl
longer piece (part ∷ parts) some same = omega (arith, ap length same, length-append piece (slash ∷ joined (part ∷ parts)))

-- a vector of a supported minor version that has a metric is denoted by its own text
given : (minor : ℕ) (vector : Vector) → Contains v3.supported (codes "3." ++ numeral minor) → HasVersionAndMetric minor vector → DenotesV3 (text_of (CvssV30 vector)) (version_piece (codes "3." ++ numeral minor)) minor vector
given minor vector supported has = record {
  denoted = canonical_text-denotes v3 v3_laws vector;
  well_formed = record {
    complete = record { present = λ kind none. absurd (omega (arith, none.1)) };
    supported = record { reported = codes "3." ++ numeral minor; front_is = ap (λ each. version_piece (codes "3." ++ numeral each) ∷ []) has.version; supported = supported };
  };
  version = has.version;
  more = λ same. longer (version_piece (codes "3." ++ numeral vector.minor_version)) (components_of v3 vector) has.metric (same ∙ ap (λ each. version_piece (codes "3." ++ numeral each)) (sym has.version));
}

has_metric : (minor : ℕ) (vector : Vector) → DenotesV3 (text_of (CvssV30 vector)) (version_piece (codes "3." ++ numeral minor)) minor vector → HasVersionAndMetric minor vector
has_metric minor vector is = record {
  version = is.version;
  metric = λ none. is.more (ap (λ parts. joined (version_piece (codes "3." ++ numeral vector.minor_version) ∷ parts)) none ∙ ap (λ each. version_piece (codes "3." ++ numeral each)) is.version);
}

pub own_text : (cvss : Cvss) → (DenotesCvss (text_of cvss) cvss ↔ IsGivenBack cvss)
own_text (CvssV20 v) = (λ is. is.complete, λ complete. record { denoted = canonical_text-denotes v2 v2_laws v; complete = complete })
own_text (CvssV30 v) = (has_metric 0 v, given 0 v (0, lit< tt, refl))
own_text (CvssV31 v) = (has_metric 1 v, given 1 v (1, lit< tt, refl))
own_text (CvssV40 v) = (λ is. is.well_formed, λ well_formed. record { denoted = canonical_text-denotes v4 v4_laws v; well_formed = well_formed })
