-- The line of each score is at its place.
use Rattle.std.proofs.Common.{◌≡◌, ℕ, ◌+◌, ◌*◌, ◌^◌, ◌<◌, ◌≤◌, pos, int_lt, true, false, [], ◌∷◌, ◌++◌, List, codes, Bor, slice_index_or, refl, sym, ap, ◌∙◌, arith, map}
use Rattle.std.proofs.Math.ListN.{get_or-map}
use Rattle.std.proofs.lemmas.Bool.Decides.{nat_tests}
use Rattle.std.proofs.lemmas.List.FromFn.{get_or-map-range_with_len}
use Rattle.std.specs.List.{range_with_len}
use Rattle.cvss_base.specs.SeverityScale.{severity_of_score}
use Rattle.cvss_score.specs.v2.SeverityScale.{severity_of}
use Rattle.cvss_vector.specs.Answers.{score_and_severity}
use Rattle.cvss_vector.specs.Published.{rated_line}
use Rattle.cvss_vector.specs.declared.published.Bounds.{Bounds}
use Rattle.cvss_vector.specs.declared.published.Bounds.TheVariants.{OfV2, SinceV3}

-- the text after an element of a list
pub index-now : (lines : List (Bor (List ℕ))) (place : ℕ) (none : Bor (List ℕ)) → (slice_index_or lines place none).now ≡ slice_index_or (map (λ line. line.now) lines) place none.now
index-now lines place none = sym (get_or-map (λ line. line.now) lines place none)

-- a line among those of so many scores from one on is that of the score at its place
pub line_reported : (bounds : Bounds) (from n place tenths : ℕ) (lines : List (List ℕ)) → place < n → from + place ≡ tenths
    → lines ≡ map (rated_line bounds) (range_with_len from n) → slice_index_or lines place [] ≡ rated_line bounds tenths
line_reported bounds from n place tenths lines within stands all =
    ap (λ list. slice_index_or list place []) all ∙ get_or-map-range_with_len (rated_line bounds) from n place tenths [] within stands

-- from 0.1 to 8.9 the bounds rate alike
alike : (t : ℕ) → 1 ≤ t → t < 90 → severity_of_score (pos (t * 10 ^ 23)) ≡ severity_of (pos (t * 10 ^ 23))
alike t from below =
    let some : int_lt (pos (t * 10 ^ 23)) (pos (10 ^ 23)) ≡ false = grind (arith, nat_tests) in
    let high : int_lt (pos (t * 10 ^ 23)) (pos (9 * 10 ^ 24)) ≡ true = grind (arith, nat_tests) in
    rw (some, high) refl

pub between_v2 : (t : ℕ) → 1 ≤ t → t < 90 → rated_line SinceV3 t ≡ rated_line OfV2 t
between_v2 t from below = ap (λ rating. codes " " ++ (score_and_severity t rating ++ 10 ∷ [])) (alike t from below)
