-- The members of a record beside the texts that are written for them.
use Rattle.std.proofs.Common.{◌≡◌, ◌≤◌, ◌&&◌, ℕ, Float, true, false, not, nat_eq, List, [], ◌∷◌, ◌++◌, length, map, Option, Some, None, Ordering, Less, Equal, Greater, nat_cmp, option_and_then, option_map, refl, sym, ap, ap₂, subst, leb-true}
use Rattle.std.specs.Cmp.Lexicographic.{slice_cmp}
use Rattle.std.specs.List.{AllByRecursion, cons_option, filter_map}
use Rattle.std.specs.List.Sorted.{IsStrictlySortedBy}
use Rattle.std.specs.Ordering.{match_ordering}
use Rattle.std.specs.Prelude.{IfSome, leb, ⊤}
use Rattle.std.proofs.lemmas.Bool.{and_parts}
use Rattle.std.proofs.lemmas.Cmp.{nat_list_cmp_total}
use Rattle.json.proofs.Printed.Strings.{escape_byte_plain}
use Rattle.json.specs.Print.{IsNumber, escape, escape_byte}
use Rattle.serde_json.specs.Data.{Data, float, number, string}
use Rattle.serde_json.specs.Read.{number_of}
use Rattle.cvss_vector.specs.Answers.{text_of}
use Rattle.cvss_vector.specs.declared.vector.Cvss.{Cvss}
use Rattle.cvss_json.specs.Json as object
use Rattle.cvss_json.specs.Json.{string_text, tenths_text}
use Rattle.cvss_audit.proofs.PlainLemmas.{plain_text}
use Rattle.cvss_report.proofs.WordLemmas.{either, expected_fits, is_clear, is_expected, is_other, is_plain, name_fits}
use Rattle.cvss_report.specs.Fields.{name_of}
use Rattle.cvss_report.specs.Record as written
use Rattle.cvss_report.specs.Record.{Expected, text, score, nothing, expected_of, expected_text, has_member, severity_expected, spelled_at, word_expected}
use Rattle.cvss_report.specs.declared.field.Field.{Field}
use Rattle.cvss_report.specs.declared.field.Field.TheVariants.{V2, V3, V4, Score, Severity, Text}
use Rattle.cvss_vector.specs.declared.group.Group.TheVariants.{Base, Temporal, Environmental}
use Rattle.cvss_report.specs.declared.score.Scores.{Scores}
use Rattle.cvss_report.specs.Groups.{tenths_at}
use Rattle.cvss_report.specs.laws.Members.{ascend}
use Rattle.cvss_report.specs.Words.{ValueWord}
use Rattle.cvss_report.specs.WordsV2 as words_v2
use Rattle.cvss_report.specs.WordsV3 as words_v3
use Rattle.cvss_report.specs.WordsV4 as words_v4
use Rattle.cvss_audit.specs.Members.{Member}
use Rattle.cvss_audit.specs.Texts.{IsTextOf}
use Rattle.cvss_audit.specs.laws.ObjectTexts.{AreInOrder, AreMemberTexts, IsUnescaped}
use Rattle.cvss_audit.specs.Scores.{score_number}
use Rattle.cvss_audit.specs.laws.Records.{AreInRange, member_at, value_at, value_of}
use Rattle.cvss_audit.proofs.ScoreLemmas.{is_number, nearest}

-- ---- what is plain needs no escape

differs : (byte other : ℕ) → not (nat_eq byte other) ≡ true → (not (nat_eq other other) ≡ true → ⊥) → byte ≡ other → ⊥
differs byte other test same is = same (subst (λ each. not (nat_eq each other) ≡ true) is test)

plain_byte : (byte : ℕ) → is_clear byte ≡ true → escape_byte byte ≡ byte ∷ []
plain_byte byte clear =
    let both = and_parts (leb 32 byte) (not (nat_eq byte 34) && not (nat_eq byte 92)) clear in
    let others = and_parts (not (nat_eq byte 34)) (not (nat_eq byte 92)) both.1 in
    escape_byte_plain byte (differs byte 34 others.0 (λ same. absurd (cc))) (differs byte 92 others.1 (λ same. absurd (cc))) (leb-true 32 byte both.0)

plain : (bytes : List ℕ) → is_plain bytes ≡ true → bytes ≡ escape bytes
plain [] all = refl
plain (byte ∷ bytes) all =
    let both = and_parts (is_clear byte) (is_plain bytes) all in
    ap₂ (λ first rest. first ++ rest) (sym (plain_byte byte both.0)) (plain bytes both.1)

unescaped : (bytes : List ℕ) → is_plain bytes ≡ true → IsUnescaped bytes
unescaped bytes all = ap (λ each. 34 ∷ (each ++ 34 ∷ [])) (plain bytes all)

name_unescaped : (field : Field) → is_plain (name_of field) ≡ true
name_unescaped Text = refl
name_unescaped field = (and_parts _ _ (name_fits field refl)).0

-- ---- each value, and the text that is written for it

-- there is a value exactly where there is a text, which is one of the value
abbrev AreSame : Option Data → Option (List ℕ) → Type 0
AreSame None None = ⊤
AreSame (Some value) (Some bytes) = IsTextOf value bytes
AreSame _ _ = ⊥

abbrev InRange : Option Expected → Type 0
InRange (Some (score tenths)) = tenths ≤ 100
InRange _ = ⊤

score_range : (tenths : Option ℕ) → IfSome tenths (λ each. each ≤ 100) → InRange (option_map score tenths)
score_range None within = tt
score_range (Some tenths) within = within

word_range : (words : List ValueWord) (spelling : Option (List ℕ)) → InRange (Some (word_expected words spelling))
word_range words None = tt
word_range words (Some spelling) = tt

severity_range : (cvss : Cvss) (tenths : Option ℕ) → InRange (option_map (severity_expected cvss) tenths)
severity_range cvss None = tt
severity_range cvss (Some tenths) = tt

range_of : (cvss : Cvss) (scores : Scores) → AreInRange scores → (field : Field) → InRange (expected_of cvss scores field)
range_of cvss scores range (V2 kind) = word_range (words_v2.words_of kind) (spelled_at cvss (V2 kind))
range_of cvss scores range (V3 kind) = word_range (words_v3.words_of kind) (spelled_at cvss (V3 kind))
range_of cvss scores range (V4 kind) = word_range (words_v4.words_of kind) (spelled_at cvss (V4 kind))
range_of cvss scores range (Score Base) = range.base
range_of cvss scores range (Score Temporal) = score_range scores.temporal range.temporal
range_of cvss scores range (Score Environmental) = score_range scores.environmental range.environmental
range_of cvss scores range (Severity group) = severity_range cvss (tenths_at scores group)
range_of cvss scores range _ = tt

more : (name : List ℕ) (value : Option Data) (bytes : Option (List ℕ)) (members : List Member) (texts : List object.Member) → IsUnescaped name → AreSame value bytes → AreMemberTexts members texts
    → AreMemberTexts (cons_option (option_map (λ each. (name, each)) value) members) (cons_option (option_map (λ each. (name, each)) bytes) texts)
more name None None members texts named same are = are
more name (Some value) (Some bytes) members texts named same are = (record { name = refl; unescaped = named; value = same }, are)
more name None (Some bytes) members texts named same are = absurd same
more name (Some value) None members texts named same are = absurd same

module _ (string_reads : (bytes : List ℕ) → IsUnescaped bytes → IsTextOf (string bytes) (string_text bytes))
    (float_reads : (value : Float) (bytes : List ℕ) → IsNumber bytes → number_of bytes ≡ Some (float value) → IsTextOf (number (float value)) bytes)
    (cvss : Cvss) (scores : Scores) (range : AreInRange scores) where
  expected_same : (expected : Option Expected) → is_expected expected ≡ true → InRange expected → AreSame (option_and_then value_of expected) (option_and_then expected_text expected)
  expected_same None fits within = tt
  expected_same (Some (text reported)) fits within = string_reads reported (unescaped reported (and_parts _ _ (and_parts (leb (length reported) 16) (is_other reported) fits).1).0)
  expected_same (Some (score tenths)) fits within = float_reads (score_number tenths) (tenths_text tenths) (is_number tenths within) (nearest tenths within)
  expected_same (Some nothing) fits within = tt

  value_same : (field : Field) → AreSame (value_at cvss scores field) (written.value_at cvss scores field)
  value_same Text = string_reads (text_of cvss) (unescaped (text_of cvss) (plain_text cvss))
  value_same field =
      let expected = expected_of cvss scores field in
      either (λ said. AreSame (option_and_then value_of said) (option_and_then expected_text said)) (has_member cvss field) expected None
      (expected_same expected (expected_fits cvss scores field) (range_of cvss scores range field)) tt

  pub are_texts : (fields : List Field) → AreMemberTexts (filter_map (member_at cvss scores) fields) (filter_map (written.member_at cvss scores) fields)
  are_texts [] = tt
  are_texts (field ∷ fields) = more (name_of field) (value_at cvss scores field) (written.value_at cvss scores field) _ _ (unescaped (name_of field) (name_unescaped field)) (value_same field) (are_texts fields)

-- ---- the members are in the order of their names

abbrev below : List ℕ → List ℕ → Type 0
below first name = slice_cmp nat_cmp first name ≡ Less

is_less : (o : Ordering) → match_ordering o true false false ≡ true → o ≡ Less
is_less Less is = refl
is_less Equal is = absurd (cc)
is_less Greater is = absurd (cc)

below_more : (first second : List ℕ) → below first second → (names : List (List ℕ)) → AllByRecursion (below second) names → AllByRecursion (below first) names
below_more first second less [] all = tt
below_more first second less (name ∷ names) all = (nat_list_cmp_total.trans first second name less all.0, below_more first second less names all.1)

-- a list that ascends, without its first
rest_ascends : (first : List ℕ) (names : List (List ℕ)) → ascend (first ∷ names) ≡ true → ascend names ≡ true
rest_ascends first [] up = refl
rest_ascends first (second ∷ names) up = (and_parts (match_ordering (slice_cmp nat_cmp first second) true false false) (ascend (second ∷ names)) up).1

below_all : (first : List ℕ) (names : List (List ℕ)) → ascend (first ∷ names) ≡ true → AllByRecursion (below first) names
below_all first [] up = tt
below_all first (second ∷ names) up =
    let less = is_less (slice_cmp nat_cmp first second) (and_parts (match_ordering (slice_cmp nat_cmp first second) true false false) (ascend (second ∷ names)) up).0 in
    (less, below_more first second less names (below_all second names (rest_ascends first (second ∷ names) up)))

below_next : (first name : List ℕ) (value : Option Data) (members : List Member) → below first name → AllByRecursion (below first) (map (λ member. member.0) members)
    → AllByRecursion (below first) (map (λ member. member.0) (cons_option (option_map (λ each. (name, each)) value) members))
below_next first name None members less all = all
below_next first name (Some value) members less all = (less, all)

in_order_next : (name : List ℕ) (value : Option Data) (members : List Member) → AllByRecursion (below name) (map (λ member. member.0) members) → AreInOrder members
    → AreInOrder (cons_option (option_map (λ each. (name, each)) value) members)
unfolding IsStrictlySortedBy
in_order_next name None members all sorted = sorted
in_order_next name (Some value) members all sorted = (all, sorted)

module _ (cvss : Cvss) (scores : Scores) where
  below_members : (first : List ℕ) (fields : List Field) → AllByRecursion (below first) (map name_of fields) → AllByRecursion (below first) (map (λ member. member.0) (filter_map (member_at cvss scores) fields))
  below_members first [] all = tt
  below_members first (field ∷ fields) all = below_next first (name_of field) (value_at cvss scores field) (filter_map (member_at cvss scores) fields) all.0 (below_members first fields all.1)

  pub in_order : (fields : List Field) → ascend (map name_of fields) ≡ true → AreInOrder (filter_map (member_at cvss scores) fields)
  unfolding IsStrictlySortedBy
  in_order [] up = tt
  in_order (field ∷ fields) up =
      in_order_next (name_of field) (value_at cvss scores field) (filter_map (member_at cvss scores) fields)
      (below_members (name_of field) fields (below_all (name_of field) (map name_of fields) up)) (in_order fields (rest_ascends (name_of field) (map name_of fields) up))
