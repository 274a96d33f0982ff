-- The numbers of scores are finite, and their texts read as the doubles that are nearest to them: computed for each score.
use Rattle.std.proofs.Common.{◌≡◌, ℕ, ◌<◌, ◌≤◌, Bool, true, List, [], Option, Some, map, get_or, refl, sym, ap, ◌∙◌, zero-add, arith, option_map, unwrap_or}
use Rattle.std.specs.Float.{float_is_finite}
use Rattle.std.specs.Float.Numeral.{scan_numeral}
use Rattle.std.specs.Fmt.{digits}
use Rattle.std.specs.List.{range_with_len}
use Rattle.std.specs.Prelude.{Float}
use Rattle.std.proofs.lemmas.Bool.{agree_below_at}
use Rattle.std.proofs.lemmas.List.FromFn.{get_or-map-range_with_len}
use lib.Ieee.{of_int, of_bits, div}
use Rattle.json.specs.Print.{IsNumber}
use Rattle.json.specs.Word.{after_number}
use Rattle.serde_json.specs.Data.{Num, float, null, number}
use Rattle.serde_json.specs.Find.{of_float}
use Rattle.serde_json.specs.Read.{number_of}
use Rattle.cvss_json.specs.Json.{decimal_text, places_text, tenths_text}
use Rattle.cvss_audit.specs.Scores.{score_number, score_value}

is_finite : ℕ → Bool
is_finite tenths = float_is_finite (score_number tenths)

finite : (tenths : ℕ) → tenths < 256 → is_finite tenths ≡ true
unfolding is_finite float_is_finite of_int of_bits div
finite tenths within = agree_below_at is_finite (λ _. true) 256 tenths refl within

pub number_is : (tenths : ℕ) (reported : Float) → tenths < 256 → reported ≡ score_number tenths → unwrap_or (option_map number (of_float reported)) null ≡ score_value tenths
unfolding is_finite
number_is tenths reported within is = rw is (rw (finite tenths within) refl)

-- two functions agree at each score if they do where they are computed
at_each : {A : Type 0} (f g : ℕ → A) → map f (range_with_len 0 101) ≡ map g (range_with_len 0 101) → (tenths : ℕ) → tenths ≤ 100 → f tenths ≡ g tenths
at_each f g agree tenths within =
    let below : tenths < 101 = omega (arith, within) in
    sym (get_or-map-range_with_len f 0 101 tenths tenths (g tenths) below (zero-add tenths))
    ∙ ap (λ all. get_or all tenths (g tenths)) agree
    ∙ get_or-map-range_with_len g 0 101 tenths tenths (g tenths) below (zero-add tenths)

number_at : ℕ → Option Num
number_at tenths = number_of (tenths_text tenths)

nearest_at : ℕ → Option Num
nearest_at tenths = Some (float (score_number tenths))

rest_at : ℕ → Option (List ℕ)
rest_at tenths = after_number (tenths_text tenths)

all_nearest : map number_at (range_with_len 0 101) ≡ map nearest_at (range_with_len 0 101)
unfolding number_at nearest_at number_of scan_numeral float_is_finite decimal_text places_text digits of_int of_bits div
all_nearest = refl

all_numbers : map rest_at (range_with_len 0 101) ≡ map (λ _. Some []) (range_with_len 0 101)
unfolding rest_at after_number decimal_text places_text digits
all_numbers = refl

pub nearest : (tenths : ℕ) → tenths ≤ 100 → number_of (tenths_text tenths) ≡ Some (float (score_number tenths))
unfolding number_at nearest_at
nearest tenths within = at_each number_at nearest_at all_nearest tenths within

pub is_number : (tenths : ℕ) → tenths ≤ 100 → IsNumber (tenths_text tenths)
unfolding rest_at
is_number tenths within = at_each rest_at (λ _. Some []) all_numbers tenths within
