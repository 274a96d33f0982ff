-- What is accepted as a vector is whole.
use Rattle.std.proofs.Common.{◌≡◌, ◌≢◌, ℕ, ◌≤◌, true, eqb, rules, List, [], ◌∷◌, ◌++◌, codes, length, refl, sym, ap, ◌∙◌, subst, arith, All}
use Rattle.std.specs.Prelude.{unwrap_or}
use Rattle.std.proofs.Math.Bool.{or-true}
use Rattle.std.proofs.lemmas.Bool.{and_parts, cond-true, false≢true}
use Rattle.std.proofs.lemmas.List.Elements.{All-from_get_or}
use Rattle.std.proofs.lemmas.List.Folds.{list_any-append}
use Rattle.cvss_vector.specs.Dispatch.{DenotesCvss, DenotesV2, DenotesV3, DenotesV4}
use Rattle.cvss_base.specs.Text.{component, has, joined, read_as, slash}
use Rattle.cvss_base.specs.Version.{AreComponentsOf, Version, numeral, read, version_piece}
use Rattle.cvss_vector.specs.declared.vector.Cvss.{Cvss}
use Rattle.cvss_vector.specs.declared.vector.Cvss.TheVariants.{CvssV20, CvssV30, CvssV31, CvssV40}
use Rattle.cvss_base.specs.Rejection.{piece_at}
use Rattle.cvss_base.specs.declared.v2.MetricType.{MetricType as KindV2}
use Rattle.cvss_base.specs.declared.v2.MetricType.TheVariants as kind_v2
use Rattle.cvss_base.specs.declared.v3.MetricType.{MetricType as KindV3}
use Rattle.cvss_base.specs.declared.v3.MetricType.TheVariants as kind_v3
use Rattle.cvss_base.specs.declared.v4.MetricType.{MetricType as KindV4}
use Rattle.cvss_base.specs.declared.v4.MetricType.TheVariants as kind_v4
use Rattle.cvss_text.proofs.ComponentLemmas.{piece_held}
use Rattle.cvss_text.specs.private.Walk.{VersionLaws}
use Rattle.cvss_vector.specs.v2.Vector.{v2}
use Rattle.cvss_vector.specs.v2.private.VectorLaws.{v2_laws}
use Rattle.cvss_vector.specs.declared.v2.vector.Vector as vector_v2
use Rattle.cvss_vector.specs.v3.Vector.{v3}
use Rattle.cvss_vector.specs.v3.private.VectorLaws.{v3_laws}
use Rattle.cvss_vector.specs.declared.v3.vector.Vector as vector_v3
use Rattle.cvss_vector.specs.v4.Vector.{v4}
use Rattle.cvss_vector.specs.v4.private.VectorLaws.{v4_laws}
use Rattle.cvss_vector.specs.declared.v4.vector.Vector as vector_v4
use Rattle.cvss_vector.proofs.ReadLemmas.{only_one, v2_parts, v3_parts, v4_parts}
use Rattle.cvss_matches.specs.Matches.{IsAccepted, candidates_of}
use Rattle.cvss_matches.specs.Parts.{begins_with_prefix, is_vector_byte, label_length}
use Rattle.cvss_matches.specs.laws.Whole.{IsMatchedBetween, IsWhole}
use Rattle.cvss_matches.proofs.LabelLemmas.{free_at, free_joined, unlabelled}
use Rattle.cvss_matches.proofs.PlainLemmas.{IsPlain-joined, IsWhole-plain, at_each, ends_after, ends_whole, is_plain, plain_at, plain_read, plain_with_slash}
use Rattle.cvss_matches.proofs.WholeLemmas.{matched_alone, matched_between}

-- the component of a value, as it is read
abbrev pub component_read : {V K : Type 0} → (version : Version V K) → (kind : K) → version.Value kind → List ℕ
component_read version kind value = component (version.name kind) (read version (version.spelling kind value))

plain_v2 : (kind : KindV2) (value : v2.Value kind) → is_plain (component_read v2 kind value) ≡ true
plain_v2 kind_v2.A = search rules
plain_v2 _ = search rules

plain_v3 : (kind : KindV3) (value : v3.Value kind) → is_plain (component_read v3 kind value) ≡ true
plain_v3 kind_v3.A = search rules
plain_v3 _ = search rules

plain_v4 : (kind : KindV4) (value : v4.Value kind) → is_plain (component_read v4 kind value) ≡ true
plain_v4 kind_v4.AC = search rules
plain_v4 _ = search rules

free_v2 : (kind : KindV2) (value : v2.Value kind) → at_each free_at (component_read v2 kind value) ≡ true
free_v2 kind_v2.A = search rules
free_v2 _ = search rules

-- what holds of the components of a vector, as they are read, and so of the pieces
pub all_parts : {V K : Type 0} (version : Version V K) (P : List ℕ → Type 0) → VersionLaws version → ((kind : K) (value : version.Value kind) → P (component_read version kind value))
    → ((piece : List ℕ) → P (read_as version.any_case piece) → P piece) → (v : V) (parts : List (List ℕ)) → AreComponentsOf version parts v → All P parts
all_parts version P version_laws holds back v parts components =
    All-from_get_or P parts [] (λ place within.
    let held = piece_held version version_laws v parts place components within in
    back (piece_at parts place) (subst P (sym held.is) (holds held.kind held.value)))

-- the components of a vector, joined
plain_parts : {V K : Type 0} (version : Version V K) → VersionLaws version → ((kind : K) (value : version.Value kind) → is_plain (component_read version kind value) ≡ true)
    → (v : V) (parts : List (List ℕ)) → AreComponentsOf version parts v → 1 ≤ length parts → is_plain (joined parts) ≡ true
plain_parts version version_laws plain v parts components some =
    IsPlain-joined parts some (all_parts version (λ piece. is_plain piece ≡ true) version_laws plain (plain_read version.any_case) v parts components)

-- two pieces or more
joined_with_slash : (parts : List (List ℕ)) → 2 ≤ length parts → has slash (joined parts) ≡ true
joined_with_slash [] two = absurd (omega (arith, two))
joined_with_slash (piece ∷ []) two = absurd (omega (arith, two))
joined_with_slash (piece ∷ next ∷ more) two = list_any-append (λ each. eqb each slash) piece (slash ∷ joined (next ∷ more)) ∙ or-true (has slash piece)

whole_free : (text : List ℕ) → is_plain text ≡ true → has slash text ≡ true → at_each free_at text ≡ true → IsWhole text
whole_free [] plain slashed free = absurd (false≢true slashed)
whole_free (byte ∷ rest) plain slashed free =
    let both = and_parts (at_each plain_at (byte ∷ rest)) (ends_whole (byte ∷ rest)) plain in
    let each = and_parts (plain_at byte rest) (at_each plain_at rest) both.0 in
    IsWhole-plain byte rest (and_parts (is_vector_byte byte) _ each.0).0 each.1 both.1 slashed (unlabelled (byte ∷ rest) free)

whole_v2 : (text : List ℕ) (vector : vector_v2.Vector) → DenotesV2 text vector → IsWhole text
whole_v2 text vector denotes =
    let parts = denotes.denoted.parts in
    let components = denotes.denoted.components in
    let some : 1 ≤ length parts = omega (arith, v2_parts text vector denotes) in
    subst IsWhole (sym denotes.denoted.text_is)
    (whole_free (joined parts) (plain_parts v2 v2_laws plain_v2 vector parts components some)
    (joined_with_slash parts (omega (arith, v2_parts text vector denotes)))
    (free_joined parts some (all_parts v2 (λ piece. at_each free_at piece ≡ true) v2_laws free_v2 (λ piece is. is) vector parts components)))

-- pieces after one that says a version
whole_after : (byte : ℕ) (piece : List ℕ) (parts : List (List ℕ)) → is_vector_byte byte ≡ true → at_each plain_at piece ≡ true
    → ((rest : List ℕ) → begins_with_prefix (byte ∷ (piece ++ slash ∷ rest)) ≡ true) → parts ≢ [] → ((some : 1 ≤ length parts) → is_plain (joined parts) ≡ true) → IsWhole (joined ((byte ∷ piece) ∷ parts))
whole_after byte piece [] vector each begins some plain = absurd (some refl)
whole_after byte piece (next ∷ parts) vector each begins some plain =
    let rest = joined (next ∷ parts) in
    let both = and_parts (at_each plain_at rest) (ends_whole rest) (plain (omega arith)) in
    IsWhole-plain byte (piece ++ slash ∷ rest) vector (plain_with_slash piece rest each both.0) (ends_after (byte ∷ piece) rest both.1)
    (list_any-append (λ each. eqb each slash) (byte ∷ piece) (slash ∷ rest) ∙ or-true (has slash (byte ∷ piece)))
    (cond-true (begins_with_prefix (byte ∷ (piece ++ slash ∷ rest))) 0 (unwrap_or (label_length (byte ∷ (piece ++ slash ∷ rest))) 0) (begins rest))

whole_v3 : (text : List ℕ) (minor : ℕ) (vector : vector_v3.Vector) → DenotesV3 text (version_piece (codes "3." ++ numeral minor)) minor vector
    → ((parts : List (List ℕ)) → parts ≢ [] → ((some : 1 ≤ length parts) → is_plain (joined parts) ≡ true) → IsWhole (joined (version_piece (codes "3." ++ numeral minor) ∷ parts))) → IsWhole text
whole_v3 text minor vector denotes whole =
    let parts = denotes.denoted.parts in
    subst IsWhole (sym (denotes.denoted.text_is ∙ ap (λ n. joined (version_piece (codes "3." ++ numeral n) ∷ parts)) denotes.version))
    (whole parts (v3_parts text minor vector denotes) (plain_parts v3 v3_laws plain_v3 vector parts denotes.denoted.components))

whole_v4 : (text : List ℕ) (vector : vector_v4.Vector) → DenotesV4 text vector → IsWhole text
whole_v4 text vector denotes =
    let parts = denotes.denoted.parts in
    let supported = denotes.well_formed.supported in
    subst IsWhole (sym (denotes.denoted.text_is ∙ ap (λ front. joined (front ++ parts)) (supported.front_is ∙ ap (λ reported. version_piece reported ∷ []) (only_one supported.reported (codes "4.0") supported.supported))))
    (whole_after 67 (codes "VSS:4.0") parts refl refl (λ rest. refl) (v4_parts text vector denotes) (plain_parts v4 v4_laws plain_v4 vector parts denotes.denoted.components))

denoted_whole : (text : List ℕ) (cvss : Cvss) → DenotesCvss text cvss → IsWhole text
denoted_whole text (CvssV20 vector) denotes = whole_v2 text vector denotes
denoted_whole text (CvssV30 vector) denotes = whole_v3 text 0 vector denotes (λ parts. whole_after 67 (codes "VSS:3.0") parts refl refl (λ rest. refl))
denoted_whole text (CvssV31 vector) denotes = whole_v3 text 1 vector denotes (λ parts. whole_after 67 (codes "VSS:3.1") parts refl refl (λ rest. refl))
denoted_whole text (CvssV40 vector) denotes = whole_v4 text vector denotes

pub accepted_whole : (text : List ℕ) → IsAccepted text → IsWhole text
accepted_whole text accepted = denoted_whole text accepted.cvss accepted.denoted

pub accepted_between : (before text after : List ℕ) → IsAccepted text → IsMatchedBetween before text after
accepted_between before text after accepted = matched_between before text after (accepted_whole text accepted)

pub accepted_alone : (text : List ℕ) → IsAccepted text → candidates_of text ≡ record { offset = 0; text = text } ∷ []
accepted_alone text accepted = matched_alone text (accepted_whole text accepted)
