-- Numbers in decimal.
use Rattle.std.proofs.Common.{◌≡◌, ℕ, zero, suc, ◌+◌, ◌-◌, ◌<◌, ◌^◌, false, List, [], ◌∷◌, map, refl, sym, ap, ◌∙◌, zero-add, arith, decimal}
use Rattle.std.specs.Int.Digits.{digits_of, number_from_digits, AllBelowBase}
use Rattle.std.proofs.lemmas.Bool.Decides.{nat_tests}
use Rattle.std.proofs.lemmas.Fmt.{decimal_digit, decimal-digits_of}
use Rattle.std.proofs.lemmas.Int.Digits.{all_below_base_digits_of, number_digits_of}
use Rattle.cvss_base.specs.Version.{numeral}
use Rattle.cvss_base.specs.private.Component.{is_delimiter, delimiter_bytes}
use Rattle.cvss_text.proofs.TextLemmas.{count_by-cons}

-- what std writes of a number
pub decimal_numeral : (n : ℕ) → n < 2 ^ 64 → decimal n ≡ numeral n
decimal_numeral zero small = decimal_digit 0 (omega arith)
decimal_numeral (suc n) small = decimal-digits_of (suc n) (omega arith) small

-- the digits back
digits_back : (digits : List ℕ) → map (λ c. c - 48) (map (λ digit. 48 + digit) digits) ≡ digits
digits_back [] = refl
digits_back (digit ∷ digits) =
    let first : 48 + digit - 48 ≡ digit = omega arith in cc (digits_back digits)

number_back : (n : ℕ) → number_from_digits 10 (map (λ c. c - 48) (numeral n)) ≡ n
number_back zero = refl
number_back (suc n) =
    ap (number_from_digits 10) (digits_back (digits_of 10 (suc n))) ∙ number_digits_of 10 (suc n) (omega arith)

-- two numbers with one numeral are one
pub numeral-injective : (m n : ℕ) → numeral m ≡ numeral n → m ≡ n
numeral-injective m n same =
    sym (number_back m) ∙ (ap (λ text. number_from_digits 10 (map (λ c. c - 48) text)) same ∙ number_back n)

digits_plain : (digits : List ℕ) → AllBelowBase 10 digits → delimiter_bytes (map (λ digit. 48 + digit) digits) ≡ 0
digits_plain [] all = refl
digits_plain (digit ∷ digits) all =
    let below = all.0 in
    let plain : is_delimiter (48 + digit) ≡ false = grind (arith, nat_tests) in
    count_by-cons is_delimiter (48 + digit) (map (λ each. 48 + each) digits) ∙ rw (plain, zero-add) (digits_plain digits all.1)

-- no digit is a delimiter byte
pub numeral-plain : (n : ℕ) → delimiter_bytes (numeral n) ≡ 0
numeral-plain zero = refl
numeral-plain (suc n) = digits_plain (digits_of 10 (suc n)) (all_below_base_digits_of 10 (suc n) (omega arith))
