-- A record's text gives the text of its vector: it is the string after the name `vectorString`.
use Rattle.std.proofs.Common.{◌≡◌, ◌↔◌, ℕ, Bool, true, false, not, ◌&&◌, if◌then◌else◌, nat_eq, List, [], ◌∷◌, ◌++◌, codes, All, Option, Some, None, bytes_eq, option_and_then, option_map, refl, sym, ap, ◌∙◌, append_assoc}
use Rattle.std.specs.List.{cons_option, filter_map, list_any, slice_split}
use Rattle.std.specs.Prelude.{leb}
use Rattle.std.proofs.lemmas.Bool.{and_parts, not-true}
use Rattle.std.proofs.lemmas.List.Splits.{slice_split_at}
use Rattle.std.proofs.lemmas.List.Elements.{All-cons, All-nil}
use Rattle.std.proofs.lemmas.List.Folds.{list_all-append}
use Rattle.cvss_vector.specs.Answers.{text_of}
use Rattle.cvss_vector.specs.Dispatch.{DenotesCvss}
use Rattle.cvss_vector.specs.declared.vector.Cvss.{Cvss}
use Rattle.cvss_vector.specs.declared.vector.Cvss.TheVariants.{CvssV20}
use Rattle.cvss_laws.specs.any.GivenBack.{IsGivenBack}
use Rattle.cvss_json.specs.Json.{Member, comma_if, member_text, rest_of_object, string_text, tenths_text}
use Rattle.cvss_report.specs.Fields.{fields_of, name_of}
use Rattle.cvss_report.specs.Record.{Expected, text, score, nothing, IsRecordText, expected_of, expected_text, has_member, member_at}
use Rattle.cvss_report.specs.declared.field.Field.{Field}
use Rattle.cvss_report.specs.declared.field.Field.TheVariants.{Text}
use Rattle.cvss_report.specs.declared.score.Scores.{Scores}
use Rattle.cvss_audit.proofs.PlainLemmas.{plain_text, plain_tenths}
use Rattle.cvss_report.proofs.WordLemmas.{either, expected_fits, is_clear, is_expected, is_other, is_plain, is_text, name_fits}

abbrev is_quote : ℕ → Bool
is_quote byte = nat_eq byte 34

without_quotes : (bytes : List ℕ) → is_plain bytes ≡ true → All (λ byte. is_quote byte ≡ false) bytes
without_quotes [] plain = All-nil (λ each. is_quote each ≡ false)
without_quotes (byte ∷ bytes) plain =
    let both = and_parts (is_clear byte) (is_plain bytes) plain in
    let unquoted = and_parts (not (is_quote byte)) (not (nat_eq byte 92)) (and_parts (leb 32 byte) _ both.0).1 in
    All-cons (λ each. is_quote each ≡ false) byte bytes (not-true (is_quote byte) unquoted.0) (without_quotes bytes both.1)

-- the part after the next
abbrev second : List (List ℕ) → Option (List ℕ)
second (one ∷ two ∷ rest) = Some two
second _ = None

-- of what is between quotation marks, the second after the name of the vector's text
abbrev after_name : List (List ℕ) → Option (List ℕ)
after_name [] = None
after_name (part ∷ parts) = if bytes_eq part (codes "vectorString") then second parts else after_name parts

abbrev text_in : List ℕ → Option (List ℕ)
text_in record_text = after_name (slice_split is_quote record_text)

-- another part is passed over
pass : (part rest : List ℕ) → is_other part ≡ true → text_in (part ++ 34 ∷ rest) ≡ text_in rest
pass part rest other =
    let both = and_parts (is_plain part) (not (bytes_eq part (codes "vectorString"))) other in
    ap after_name (slice_split_at is_quote part 34 rest (without_quotes part both.0) refl)
    ∙ ap (λ b. if b then second (slice_split is_quote rest) else text_in rest) (not-true _ both.1)

found : (reported rest : List ℕ) → is_plain reported ≡ true → text_in (codes "vectorString" ++ 34 ∷ (58 ∷ 34 ∷ (reported ++ 34 ∷ rest))) ≡ Some reported
found reported rest plain =
    ap after_name (slice_split_at is_quote (codes "vectorString") 34 (58 ∷ 34 ∷ (reported ++ 34 ∷ rest)) (without_quotes (codes "vectorString") refl) refl)
    ∙ ap second (slice_split_at is_quote (58 ∷ []) 34 (reported ++ 34 ∷ rest) (without_quotes (58 ∷ []) refl) refl)
    ∙ ap (λ parts. second ((58 ∷ []) ∷ parts)) (slice_split_at is_quote reported 34 rest (without_quotes reported plain) refl)

-- a member whose value is a string, or has no quotation mark
string_cut : (front comma name word rest : List ℕ) → front ++ (comma ++ (member_text (name, string_text word) ++ rest)) ≡ (front ++ comma) ++ 34 ∷ (name ++ 34 ∷ (58 ∷ 34 ∷ (word ++ 34 ∷ rest)))
string_cut front comma name word rest = simp append_assoc refl

number_cut : (front comma name number rest : List ℕ) → front ++ (comma ++ (member_text (name, number) ++ rest)) ≡ (front ++ comma) ++ 34 ∷ (name ++ 34 ∷ ((58 ∷ number) ++ rest))
number_cut front comma name number rest = simp append_assoc refl

-- what is before the next quotation mark
number_front : (number : List ℕ) → is_plain number ≡ true → is_other ((58 ∷ number) ++ comma_if true) ≡ true
number_front number plain = ap (λ b. b && true) (list_all-append is_clear number (44 ∷ []) ∙ ap (λ b. b && true) plain)

-- the text is found after this front and these members
abbrev Finds : List ℕ → List Member → Type 0
Finds reported members = (front : List ℕ) (later : Bool) → is_other (front ++ comma_if later) ≡ true → text_in (front ++ rest_of_object later members) ≡ Some reported

found_later : (reported name : List ℕ) (said : Option Expected) (members : List Member) → is_other name ≡ true → is_expected said ≡ true → Finds reported members
    → Finds reported (cons_option (option_map (λ each. (name, each)) (option_and_then expected_text said)) members)
found_later reported name None members named fits finds front later other = finds front later other
found_later reported name (Some nothing) members named fits finds front later other = finds front later other
found_later reported name (Some (text word)) members named fits finds front later other =
    ap text_in (string_cut front (comma_if later) name word (rest_of_object true members))
    ∙ pass (front ++ comma_if later) (name ++ 34 ∷ (58 ∷ 34 ∷ (word ++ 34 ∷ rest_of_object true members))) other
    ∙ pass name (58 ∷ 34 ∷ (word ++ 34 ∷ rest_of_object true members)) named ∙ pass (58 ∷ []) (word ++ 34 ∷ rest_of_object true members) refl
    ∙ pass word (rest_of_object true members) (and_parts _ _ fits).1 ∙ finds [] true refl
found_later reported name (Some (score tenths)) members named fits finds front later other =
    let digits = tenths_text tenths in
    ap text_in (number_cut front (comma_if later) name digits (rest_of_object true members))
    ∙ pass (front ++ comma_if later) (name ++ 34 ∷ ((58 ∷ digits) ++ rest_of_object true members)) other
    ∙ pass name ((58 ∷ digits) ++ rest_of_object true members) named
    ∙ finds (58 ∷ digits) true (number_front digits (plain_tenths tenths))

module _ (cvss : Cvss) (scores : Scores) where
  abbrev members_of : List Field → List Member
  members_of fields = filter_map (member_at cvss scores) fields

  -- another member than the vector's text
  found_after : (field : Field) (fields : List Field) → is_text field ≡ false → Finds (text_of cvss) (members_of fields) → Finds (text_of cvss) (members_of (field ∷ fields))
  found_after Text fields other finds = absurd (cc)
  found_after field fields other finds =
      either (λ said. Finds (text_of cvss) (cons_option (option_map (λ each. (name_of field, each)) (option_and_then expected_text said)) (members_of fields)))
      (has_member cvss field) (expected_of cvss scores field) None
      (found_later (text_of cvss) (name_of field) (expected_of cvss scores field) (members_of fields) (name_fits field other) (expected_fits cvss scores field) finds) finds

  found_in : (fields : List Field) → list_any is_text fields ≡ true → Finds (text_of cvss) (members_of fields)
  found_in [] has = λ front later other. absurd (cc)
  found_in (Text ∷ fields) has = λ front later other.
      ap text_in (string_cut front (comma_if later) (codes "vectorString") (text_of cvss) (rest_of_object true (members_of fields)))
      ∙ pass (front ++ comma_if later) (codes "vectorString" ++ 34 ∷ (58 ∷ 34 ∷ (text_of cvss ++ 34 ∷ rest_of_object true (members_of fields)))) other
      ∙ found (text_of cvss) (rest_of_object true (members_of fields)) (plain_text cvss)
  found_in (field ∷ fields) has = found_after field fields refl (found_in fields has)

has_text : (cvss : Cvss) → list_any is_text (fields_of cvss) ≡ true
has_text (CvssV20 _) = refl
has_text _ = refl

text_found : (cvss : Cvss) (record_text : List ℕ) → IsRecordText cvss record_text → text_in record_text ≡ Some (text_of cvss)
text_found cvss record_text is =
    ap text_in is.is ∙ found_in cvss is.scores (fields_of cvss) (has_text cvss) (123 ∷ []) false refl

pub reported_vector : ((cvss : Cvss) → (DenotesCvss (text_of cvss) cvss ↔ IsGivenBack cvss))
    → ((bytes : List ℕ) (left right : Cvss) → DenotesCvss bytes left → DenotesCvss bytes right → left ≡ right)
    → (left right : Cvss) (record_text : List ℕ) → IsGivenBack left → IsGivenBack right → IsRecordText left record_text → IsRecordText right record_text → left ≡ right
reported_vector own one left right record_text left_back right_back of_left of_right =
    let found : Some (text_of left) ≡ Some (text_of right) = sym (text_found left record_text of_left) ∙ text_found right record_text of_right in
    let same : text_of left ≡ text_of right = cc in
    one (text_of left) left right ((own left).1 left_back) (rw same ((own right).1 right_back))
