-- Canonical texts and decimals need no escape in JSON.
use Rattle.std.proofs.Common.{◌≡◌, ◌+◌, ◌/◌, ◌%◌, ◌<◌, ℕ, zero, suc, Bool, true, false, ◌&&◌, if◌then◌else◌, ◌==◌, ◌*◌, List, [], ◌∷◌, ◌++◌, codes, map, nat_eq, Option, Some, None, decimal, option_map, pos, int_lt, unsigned_abs, refl, lt-ltb, ap, ap₂, ◌∙◌, arith, rules}
use Rattle.std.specs.List.{cons_option, filter_map, list_all}
use Rattle.std.specs.Fmt.{digits, digits_onto, digit_glyph}
use Rattle.std.specs.Int.Digits.{AllBelowBase, digits_of}
use Rattle.std.proofs.lemmas.Bool.{agree_below_at, and_parts}
use Rattle.std.proofs.lemmas.Int.Digits.{all_below_base_digits_of}
use Rattle.std.proofs.lemmas.List.Folds.{list_all-append}
use Rattle.cvss_vector.specs.Answers.{text_of}
use Rattle.cvss_vector.specs.declared.vector.Cvss.{Cvss}
use Rattle.cvss_vector.specs.declared.vector.Cvss.TheVariants.{CvssV20, CvssV30, CvssV31, CvssV40}
use Rattle.cvss_base.specs.Text.{component, joined, slash}
use Rattle.cvss_base.specs.Version.{Version, canonical_text, component_of, components_of, numeral}
use Rattle.cvss_base.specs.declared.v2.MetricType.TheVariants as metric_v2
use Rattle.cvss_base.specs.declared.v3.MetricType.TheVariants as metric_v3
use Rattle.cvss_base.specs.declared.v4.MetricType.TheVariants as metric_v4
use Rattle.cvss_json.specs.Json.{decimal_text, place_units, places, places_text, tenths_text}
use Rattle.cvss_vector.specs.v2.Vector.{v2}
use Rattle.cvss_vector.specs.v3.Vector.{v3}
use Rattle.cvss_vector.specs.v4.Vector.{v4}
use Rattle.cvss_report.proofs.WordLemmas.{either, is_clear, is_plain}

both : (one other : List ℕ) → is_plain one ≡ true → is_plain other ≡ true → is_plain (one ++ other) ≡ true
both one other first second = list_all-append is_clear one other ∙ ap₂ (λ (a b : Bool). a && b) first second

-- ---- decimals

digit_more : (d : ℕ) (digits : List ℕ) → d < 10 → is_plain digits ≡ true → is_plain ((48 + d) ∷ digits) ≡ true
digit_more d digits small plain = ap₂ (λ (a b : Bool). a && b) (agree_below_at (λ x. is_clear (48 + x)) (λ _. true) 10 d refl small) plain

plain_onto : (k n : ℕ) (digits : List ℕ) → is_plain digits ≡ true → is_plain (digits_onto k 10 false n digits) ≡ true
plain_onto zero n digits plain = plain
plain_onto (suc k) n digits plain =
    let longer : is_plain (digit_glyph false (n % 10) ∷ digits) ≡ true =
    ap (λ b. is_plain ((if b then 48 + n % 10 else 87 + n % 10) ∷ digits)) (lt-ltb (n % 10) 10 (omega arith)) ∙ digit_more (n % 10) digits (omega arith) plain in
    either (λ text. is_plain text ≡ true) (n / 10 == 0) (digit_glyph false (n % 10) ∷ digits) (digits_onto k 10 false (n / 10) (digit_glyph false (n % 10) ∷ digits)) longer
    (plain_onto k (n / 10) (digit_glyph false (n % 10) ∷ digits) longer)

plain_decimal : (n : ℕ) → is_plain (decimal n) ≡ true
unfolding digits
plain_decimal n = plain_onto 64 n [] refl

plain_places : (units : List ℕ) (n : ℕ) → is_plain (map (λ digit. 48 + digit) (places units n)) ≡ true
plain_places [] n = refl
plain_places (unit ∷ units) n =
    digit_more (n / unit % 10) (map (λ digit. 48 + digit) (if nat_eq (n % unit) 0 then [] else places units n)) (omega arith)
    (either (λ more. is_plain (map (λ digit. 48 + digit) more) ≡ true) (nat_eq (n % unit) 0) [] (places units n) refl (plain_places units n))

pub plain_tenths : (tenths : ℕ) → is_plain (tenths_text tenths) ≡ true
unfolding decimal_text places_text
plain_tenths tenths =
    let count = pos (tenths * 1_000_000) in
    let places = places_text place_units (unsigned_abs count % 10_000_000) in
    both (if int_lt count (pos 0) then codes "-" else []) (decimal (unsigned_abs count / 10_000_000) ++ 46 ∷ places)
    (either (λ sign. is_plain sign ≡ true) (int_lt count (pos 0)) (codes "-") [] refl refl)
    (both (decimal (unsigned_abs count / 10_000_000)) (46 ∷ places) (plain_decimal (unsigned_abs count / 10_000_000)) (plain_places place_units (unsigned_abs count % 10_000_000)))

-- ---- canonical texts

plain_joined : (parts : List (List ℕ)) → list_all is_plain parts ≡ true → is_plain (joined parts) ≡ true
plain_joined [] all = refl
plain_joined (part ∷ []) all = (and_parts (is_plain part) true all).0
plain_joined (part ∷ next ∷ parts) all =
    let here = and_parts (is_plain part) (list_all is_plain (next ∷ parts)) all in
    both part (slash ∷ joined (next ∷ parts)) here.0 (plain_joined (next ∷ parts) here.1)

plain_digits : (digits : List ℕ) → AllBelowBase 10 digits → is_plain (map (λ digit. 48 + digit) digits) ≡ true
plain_digits [] all = refl
plain_digits (digit ∷ digits) all = digit_more digit (map (λ each. 48 + each) digits) all.0 (plain_digits digits all.1)

plain_numeral : (n : ℕ) → is_plain (numeral n) ≡ true
plain_numeral zero = refl
plain_numeral (suc n) = plain_digits (digits_of 10 (suc n)) (all_below_base_digits_of 10 (suc n) (omega arith))

-- no component has one
abbrev ArePlain : {V K : Type 0} → Version V K → Type 0
ArePlain {K = K} version = (kind : K) (value : version.Value kind) → is_plain (component (version.name kind) (version.spelling kind value)) ≡ true

plain_v2 : ArePlain v2
plain_v2 metric_v2.AV = search rules
plain_v2 _ = search rules

plain_v3 : ArePlain v3
plain_v3 metric_v3.AV = search rules
plain_v3 _ = search rules

plain_v4 : ArePlain v4
plain_v4 metric_v4.AV = search rules
plain_v4 _ = search rules

module _ {V K : Type 0} (version : Version V K) (plain : ArePlain version) where
  plain_option : (kind : K) (value : Option (version.Value kind)) (parts : List (List ℕ)) → list_all is_plain parts ≡ true
      → list_all is_plain (cons_option (option_map (component (version.name kind)) (option_map (version.spelling kind) value)) parts) ≡ true
  plain_option kind None parts all = all
  plain_option kind (Some value) parts all = ap₂ (λ (a b : Bool). a && b) (plain kind value) all

  plain_components : (v : V) (kinds : List K) → list_all is_plain (filter_map (component_of version v) kinds) ≡ true
  plain_components v [] = refl
  plain_components v (kind ∷ kinds) = plain_option kind (version.value_of v kind) _ (plain_components v kinds)

  plain_canonical : (v : V) → list_all is_plain (version.front v) ≡ true → is_plain (canonical_text version v) ≡ true
  plain_canonical v front =
      plain_joined (version.front v ++ components_of version v) (list_all-append is_plain (version.front v) (components_of version v) ∙ ap₂ (λ (a b : Bool). a && b) front (plain_components v version.printed))

plain_front : (prefix : List ℕ) (minor : ℕ) → is_plain prefix ≡ true → list_all is_plain ((prefix ++ numeral minor) ∷ []) ≡ true
plain_front prefix minor plain = ap (λ b. b && true) (both prefix (numeral minor) plain (plain_numeral minor))

pub plain_text : (cvss : Cvss) → is_plain (text_of cvss) ≡ true
plain_text (CvssV20 v) = plain_canonical v2 plain_v2 v refl
plain_text (CvssV30 v) = plain_canonical v3 plain_v3 v (plain_front (codes "CVSS:3.") v.minor_version refl)
plain_text (CvssV31 v) = plain_canonical v3 plain_v3 v (plain_front (codes "CVSS:3.") v.minor_version refl)
plain_text (CvssV40 v) = plain_canonical v4 plain_v4 v (plain_front (codes "CVSS:4.") v.minor_version refl)
