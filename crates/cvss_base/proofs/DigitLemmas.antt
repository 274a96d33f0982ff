-- The numbers from 0 to 10 in decimal, and with one decimal, each at its place in a list.
use Rattle.std.proofs.Common.{◌≡◌, ℕ, ◌<◌, true, List, [], map, Bor, refl, sym, slice_index_or, bytes_eq}
use Rattle.std.specs.Fmt.{decimal, digits}
use Rattle.std.proofs.Math.ListN.{get_or-map}
use Rattle.std.proofs.lemmas.Slice.Eq.{bytes_eq-Decides}
use Rattle.cvss_base.specs.Tenths.{tenths_text}
use Rattle.cvss_base.specs.declared.tenths.TheConstants.{DIGITS, TEXTS}
use Rattle.cvss_base.proofs.TestLemmas.{all_below, below_passes}

-- the text after an element of a list
pub index-now : (texts : List (Bor (List ℕ))) (place : ℕ) (none : Bor (List ℕ))
    → (slice_index_or texts place none).now ≡ slice_index_or (map (λ text. text.now) texts) place none.now
index-now texts place none = sym (get_or-map (λ text. text.now) texts place none)

-- each number below a count has its text at its place, if a test says so
text_reported : (text_of : ℕ → List ℕ) (texts : List (List ℕ)) (count number : ℕ)
    → all_below (λ n. bytes_eq (slice_index_or texts n []) (text_of n)) count ≡ true
    → number < count → slice_index_or texts number [] ≡ text_of number
text_reported text_of texts count number all below =
    (bytes_eq-Decides _ _).0 (below_passes (λ n. bytes_eq (slice_index_or texts n []) (text_of n)) count number all below)

pub digit_reported : (number : ℕ) → number < 11 → slice_index_or (map (λ text. text.now) DIGITS) number [] ≡ decimal number
unfolding all_below digits
digit_reported number = text_reported decimal (map (λ text. text.now) DIGITS) 11 number refl

pub tenth_reported : (tenths : ℕ) → tenths < 101 → slice_index_or (map (λ text. text.now) TEXTS) tenths [] ≡ tenths_text tenths
unfolding all_below digits
tenth_reported tenths = text_reported tenths_text (map (λ text. text.now) TEXTS) 101 tenths refl
