-- The names and words of members are short, need no escape in JSON, and are not the name of the vector's text.
use Rattle.std.proofs.Common.{◌≡◌, ◌≤◌, ℕ, Bool, true, false, not, ◌&&◌, ◌||◌, if◌then◌else◌, nat_eq, List, [], ◌∷◌, codes, length, Option, Some, None, bytes_eq, option_map, refl, sym, ap, ◌∙◌}
use Rattle.std.specs.List.{list_all}
use Rattle.std.specs.Prelude.{leb}
use Rattle.std.proofs.lemmas.Bool.{and_parts, leb-true}
use Rattle.cvss_vector.specs.declared.vector.Cvss.{Cvss}
use Rattle.cvss_vector.specs.declared.vector.Cvss.TheVariants.{CvssV20}
use Rattle.cvss_base.specs.declared.severity.Severity as base
use Rattle.cvss_base.specs.declared.severity.Severity.TheVariants as severity
use Rattle.cvss_base.specs.declared.v2.MetricType as type_v2
use Rattle.cvss_base.specs.declared.v2.MetricType.TheVariants as kind_v2
use Rattle.cvss_base.specs.declared.v3.MetricType as type_v3
use Rattle.cvss_base.specs.declared.v3.MetricType.TheVariants as kind_v3
use Rattle.cvss_base.specs.declared.v4.MetricType as type_v4
use Rattle.cvss_base.specs.declared.v4.MetricType.TheVariants as kind_v4
use Rattle.cvss_vector.specs.Evaluation.{version_of, version_text}
use Rattle.cvss_report.specs.Words.{ValueWord, word_in}
use Rattle.cvss_report.specs.WordsV2 as words_v2
use Rattle.cvss_report.specs.WordsV3 as words_v3
use Rattle.cvss_report.specs.WordsV4 as words_v4
use Rattle.cvss_report.specs.Fields.{name_of}
use Rattle.cvss_report.specs.Groups.{tenths_at}
use Rattle.cvss_report.specs.Record.{Expected, text, score, expected_of, severity_expected, severity_word, spelled_at, word_expected}
use Rattle.cvss_report.specs.declared.field.Field.{Field}
use Rattle.cvss_report.specs.declared.field.Field.TheVariants.{V2, V3, V4, Score, Severity, Text, Version}
use Rattle.cvss_vector.specs.declared.group.Group.TheVariants.{Base}
use Rattle.cvss_report.specs.declared.score.Scores.{Scores}

-- the byte is none that is escaped in JSON: no control character, no quotation mark and no backslash
abbrev pub is_clear : ℕ → Bool
is_clear byte = leb 32 byte && (not (nat_eq byte 34) && not (nat_eq byte 92))

-- the text needs no escape
abbrev pub is_plain : List ℕ → Bool
is_plain bytes = list_all is_clear bytes

-- and is not the name of the vector's text
abbrev pub is_other : List ℕ → Bool
is_other bytes = is_plain bytes && not (bytes_eq bytes (codes "vectorString"))

abbrev pub is_word : ℕ → List ℕ → Bool
is_word most word = leb (length word) most && is_other word

-- the name and the words of a metric's member
abbrev are_words : List ℕ × List ValueWord → Bool
are_words entry = is_word 40 entry.0 && list_all (λ word. is_word 16 word.1) entry.1

words_v2_fit : (kind : type_v2.MetricType) → are_words (words_v2.entry_of kind) ≡ true
words_v2_fit kind_v2.AV = refl
words_v2_fit _ = refl

words_v3_fit : (kind : type_v3.MetricType) → are_words (words_v3.entry_of kind) ≡ true
words_v3_fit kind_v3.AV = refl
words_v3_fit _ = refl

words_v4_fit : (kind : type_v4.MetricType) → are_words (words_v4.entry_of kind) ≡ true
words_v4_fit kind_v4.AV = refl
words_v4_fit _ = refl

-- what holds of both holds of either
pub either : {A : Type 0} (P : A → Type 0) (b : Bool) (one other : A) → P one → P other → P (if b then one else other)
either P true one other first second = first
either P false one other first second = second

-- a test that each word passes is passed by the word of a value, and by none
within : (test : List ℕ → Bool) (words : List ValueWord) (spelling : List ℕ) → test [] ≡ true → list_all (λ word. test word.1) words ≡ true → test (word_in words spelling) ≡ true
within test [] spelling none all = none
within test (word ∷ words) spelling none all =
    let both = and_parts (test word.1) (list_all (λ each. test each.1) words) all in
    either (λ each. test each ≡ true) (bytes_eq word.0 spelling) word.1 (word_in words spelling) both.0 (within test words spelling none both.1)

-- what a member may say
abbrev pub is_expected : Option Expected → Bool
is_expected (Some (text reported)) = is_word 16 reported
is_expected _ = true

word_fits : (entry : List ℕ × List ValueWord) (spelling : Option (List ℕ)) → are_words entry ≡ true → is_expected (Some (word_expected entry.1 spelling)) ≡ true
word_fits entry None fit = refl
word_fits entry (Some spelling) fit = within (is_word 16) entry.1 spelling refl (and_parts _ _ fit).1

severity_fits : (it : base.Severity) → is_word 16 (severity_word it) ≡ true
severity_fits severity.None = refl
severity_fits _ = refl

mapped_fits : (f : ℕ → Expected) (tenths : Option ℕ) → ((each : ℕ) → is_expected (Some (f each)) ≡ true) → is_expected (option_map f tenths) ≡ true
mapped_fits f None fits = refl
mapped_fits f (Some tenths) fits = fits tenths

version_fits : (cvss : Cvss) → is_word 16 (version_text (version_of cvss)) ≡ true
version_fits (CvssV20 _) = refl
version_fits _ = refl

pub expected_fits : (cvss : Cvss) (scores : Scores) (field : Field) → is_expected (expected_of cvss scores field) ≡ true
expected_fits cvss scores (V2 kind) = word_fits (words_v2.entry_of kind) (spelled_at cvss (V2 kind)) (words_v2_fit kind)
expected_fits cvss scores (V3 kind) = word_fits (words_v3.entry_of kind) (spelled_at cvss (V3 kind)) (words_v3_fit kind)
expected_fits cvss scores (V4 kind) = word_fits (words_v4.entry_of kind) (spelled_at cvss (V4 kind)) (words_v4_fit kind)
expected_fits cvss scores (Score group) = mapped_fits score (tenths_at scores group) (λ _. refl)
expected_fits cvss scores (Severity group) = mapped_fits (severity_expected cvss) (tenths_at scores group) (λ _. severity_fits _)
expected_fits cvss scores Text = refl
expected_fits cvss scores Version = version_fits cvss

-- the member is that of the vector's text
abbrev pub is_text : Field → Bool
is_text Text = true
is_text _ = false

-- no name is longer than 40 bytes
name_word : (field : Field) → (leb (length (name_of field)) 40 && (is_text field || is_other (name_of field))) ≡ true
name_word (V2 kind) = (and_parts _ _ (words_v2_fit kind)).0
name_word (V3 kind) = (and_parts _ _ (words_v3_fit kind)).0
name_word (V4 kind) = (and_parts _ _ (words_v4_fit kind)).0
name_word (Score Base) = refl
name_word (Score _) = refl
name_word (Severity Base) = refl
name_word _ = refl

pub name_fits : (field : Field) → is_text field ≡ false → is_other (name_of field) ≡ true
name_fits field other = ap (λ text. text || is_other (name_of field)) (sym other) ∙ (and_parts _ _ (name_word field)).1

pub name_short : (field : Field) → length (name_of field) ≤ 40
name_short field = leb-true _ _ (and_parts _ _ (name_word field)).0

-- no text that a member says, the vector's aside, is longer than 16 bytes
pub text_short : (cvss : Cvss) (scores : Scores) (field : Field) (reported : List ℕ) → Some (text reported) ≡ expected_of cvss scores field → length reported ≤ 16
text_short cvss scores field reported is =
    let fit : is_word 16 reported ≡ true = ap is_expected is ∙ expected_fits cvss scores field in
    leb-true _ _ (and_parts (leb (length reported) 16) (is_other reported) fit).0
