-- What is accepted as a vector lacks no prefix.
use Rattle.std.proofs.Common.{◌≡◌, ℕ, ◌≤◌, Bool, true, false, ◌||◌, ◌&&◌, not, eqb, rules, List, [], ◌∷◌, ◌++◌, codes, length, refl, sym, ap, ap₂, ◌∙◌, subst, arith, All}
use Rattle.std.specs.List.{list_all, list_any}
use Rattle.std.proofs.lemmas.Bool.{and_parts, and_right, false≢true, not-true, or_from}
use Rattle.cvss_vector.specs.Dispatch.{DenotesCvss, DenotesV2, DenotesV3, DenotesV4}
use Rattle.cvss_base.specs.Text.{joined, slash}
use Rattle.cvss_base.specs.Version.{numeral, version_piece}
use Rattle.cvss_vector.specs.declared.vector.Cvss.{Cvss}
use Rattle.cvss_vector.specs.declared.vector.Cvss.TheVariants.{CvssV20, CvssV30, CvssV31, CvssV40}
use Rattle.cvss_base.specs.declared.v2.MetricType.{MetricType as KindV2}
use Rattle.cvss_base.specs.declared.v2.MetricType.TheVariants as kind_v2
use Rattle.cvss_vector.specs.v2.Vector.{v2}
use Rattle.cvss_vector.specs.v2.private.VectorLaws.{v2_laws}
use Rattle.cvss_vector.specs.declared.v2.vector.Vector as vector_v2
use Rattle.cvss_vector.specs.declared.v3.vector.Vector as vector_v3
use Rattle.cvss_vector.specs.declared.v4.vector.Vector as vector_v4
use Rattle.cvss_vector.proofs.ReadLemmas.{v2_parts}
use Rattle.cvss_matches.specs.Matches.{IsAccepted}
use Rattle.cvss_matches.specs.Parts.{begins_like, begins_like_any, begins_metrics, has_like_any, is_like, lacks_prefix, metrics_after_v2, percent}
use Rattle.cvss_matches.proofs.AcceptedLemmas.{all_parts, component_read}
use Rattle.cvss_matches.proofs.DecodingLemmas.{unlike_percent}
use Rattle.cvss_matches.proofs.PlainLemmas.{IsLocal, at_each, each_with_slash, joined_holds}
use Rattle.cvss_matches.proofs.PrefixLemmas.{starts_before}

-- the text begins as a metric that v2 does not have
abbrev later_names : List (List ℕ)
later_names = codes "PR:" ∷ codes "UI:" ∷ codes "PR%3A" ∷ codes "UI%3A" ∷ []

abbrev begins_later : List ℕ → Bool
begins_later text = list_any (λ name. begins_like name text) later_names

-- no such metric begins at the byte, which is no percent
abbrev earlier_at : ℕ → List ℕ → Bool
earlier_at byte rest = not (eqb byte percent) && not (begins_later (byte ∷ rest))

-- whether a text begins so does not depend on what follows a slash
likes_before_slash : (names : List (List ℕ)) (text rest : List ℕ) → list_all (λ name. not (list_any (λ byte. is_like byte slash) name)) names ≡ true
    → list_any (λ name. begins_like name (text ++ slash ∷ rest)) names ≡ list_any (λ name. begins_like name text) names
likes_before_slash [] text rest apart = refl
likes_before_slash (name ∷ names) text rest apart =
    let both = and_parts (not (list_any (λ byte. is_like byte slash) name)) (list_all (λ each. not (list_any (λ byte. is_like byte slash) each)) names) apart in
    ap₂ (λ (a b : Bool). a || b) (starts_before is_like name text slash rest (not-true (list_any (λ byte. is_like byte slash) name) both.0)) (likes_before_slash names text rest both.1)

earlier_local : IsLocal earlier_at
earlier_local = record {
  before = λ byte front rest. ap (λ later. not (eqb byte percent) && not later) (likes_before_slash later_names (byte ∷ front) rest refl);
  at_slash = λ rest. refl;
}

earlier_joined : (parts : List (List ℕ)) → 1 ≤ length parts → All (λ part. at_each earlier_at part ≡ true) parts → at_each earlier_at (joined parts) ≡ true
earlier_joined = joined_holds (λ text. at_each earlier_at text ≡ true) (each_with_slash earlier_at earlier_local)

earlier_v2 : (kind : KindV2) (value : v2.Value kind) → at_each earlier_at (component_read v2 kind value) ≡ true
earlier_v2 kind_v2.A = search rules
earlier_v2 _ = search rules

-- where each byte is so, none is sought with success
none_here : (is_slash is_percent a b c d w x y z : Bool) → is_percent ≡ false → (a || (b || (c || (d || false)))) ≡ false
    → ((is_slash && a) || ((is_slash && b) || ((is_slash && c) || ((is_slash && d) || ((is_percent && w) || ((is_percent && x) || ((is_percent && y) || ((is_percent && z) || false)))))))) ≡ false
none_here is_slash true a b c d w x y z is none = absurd (false≢true (sym is))
none_here true false a b c d w x y z is none = none
none_here false false a b c d w x y z is none = refl

none_later : (rest : List ℕ) → at_each earlier_at rest ≡ true → begins_later rest ≡ false
none_later [] each = refl
none_later (byte ∷ rest) each =
    not-true (begins_later (byte ∷ rest)) (and_parts (not (eqb byte percent)) _ (and_parts (earlier_at byte rest) (at_each earlier_at rest) each).0).1

none_like : (text : List ℕ) → at_each earlier_at text ≡ true → has_like_any metrics_after_v2 text ≡ false
none_like [] each = refl
none_like (byte ∷ rest) each =
    let both = and_parts (earlier_at byte rest) (at_each earlier_at rest) each in
    or_from (begins_like_any metrics_after_v2 (byte ∷ rest)) (has_like_any metrics_after_v2 rest)
    (none_here (is_like slash byte) (is_like percent byte) _ _ _ _ _ _ _ _
    (unlike_percent byte (not-true (eqb byte percent) (and_parts (not (eqb byte percent)) _ both.0).0)) (none_later rest both.1))
    (none_like rest both.1)

earlier_lacks : (text : List ℕ) → at_each earlier_at text ≡ true → lacks_prefix text ≡ false
earlier_lacks text each = and_right (begins_metrics text) (has_like_any metrics_after_v2 text) (none_like text each)

prefixed_v2 : (text : List ℕ) (vector : vector_v2.Vector) → DenotesV2 text vector → lacks_prefix text ≡ false
prefixed_v2 text vector denotes =
    let parts = denotes.denoted.parts in
    subst (λ each. lacks_prefix each ≡ false) (sym denotes.denoted.text_is)
    (earlier_lacks (joined parts)
    (earlier_joined parts (omega (arith, v2_parts text vector denotes))
    (all_parts v2 (λ piece. at_each earlier_at piece ≡ true) v2_laws earlier_v2 (λ piece is. is) vector parts denotes.denoted.components)))

-- a piece that begins with a C, before others
other_metrics : (piece : List ℕ) (parts : List (List ℕ)) → lacks_prefix (joined ((67 ∷ piece) ∷ parts)) ≡ false
other_metrics piece [] = refl
other_metrics piece (next ∷ parts) = refl

prefixed_v3 : (text : List ℕ) (minor : ℕ) (vector : vector_v3.Vector) → DenotesV3 text (version_piece (codes "3." ++ numeral minor)) minor vector → lacks_prefix text ≡ false
prefixed_v3 text minor vector denotes =
    subst (λ each. lacks_prefix each ≡ false) (sym denotes.denoted.text_is) (other_metrics _ denotes.denoted.parts)

prefixed_v4 : (text : List ℕ) (vector : vector_v4.Vector) → DenotesV4 text vector → lacks_prefix text ≡ false
prefixed_v4 text vector denotes =
    let parts = denotes.denoted.parts in
    subst (λ each. lacks_prefix each ≡ false) (sym (denotes.denoted.text_is ∙ ap (λ front. joined (front ++ parts)) denotes.well_formed.supported.front_is)) (other_metrics _ parts)

denoted_has_prefix : (text : List ℕ) (cvss : Cvss) → DenotesCvss text cvss → lacks_prefix text ≡ false
denoted_has_prefix text (CvssV20 vector) denotes = prefixed_v2 text vector denotes
denoted_has_prefix text (CvssV30 vector) denotes = prefixed_v3 text 0 vector denotes
denoted_has_prefix text (CvssV31 vector) denotes = prefixed_v3 text 1 vector denotes
denoted_has_prefix text (CvssV40 vector) denotes = prefixed_v4 text vector denotes

pub accepted_has_prefix : (text : List ℕ) → IsAccepted text → lacks_prefix text ≡ false
accepted_has_prefix text accepted = denoted_has_prefix text accepted.cvss accepted.denoted
