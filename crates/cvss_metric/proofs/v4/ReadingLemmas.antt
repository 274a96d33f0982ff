-- Which texts are read alike.
use Rattle.std.proofs.Common.{◌≡◌, ◌<◌, ◌∷◌, [], ℕ, List, Option, None, Some, IfSome, length, refl, ap, sym, ◌∙◌, true, arith}
use Rattle.std.specs.List.{position_from}
use Rattle.std.proofs.lemmas.Bool.Decides.{nat_tests}
use Rattle.std.proofs.lemmas.Str.Ascii.{lowercase-uppercase}
use Rattle.std.specs.Char.{to_ascii_uppercase, to_ascii_lowercase}
use Rattle.std.proofs.lemmas.Slice.Eq.{bytes_eq-Decides}
use Rattle.std.specs.Str.{str_eq_ignore_ascii_case, str_to_ascii_lowercase}
use Rattle.cvss_base.specs.Text.{uppercased}
use Rattle.cvss_base.specs.declared.v4.MetricType.{MetricType}
use Rattle.cvss_base.specs.declared.v4.MetricType.TheVariants.{AC}
use Rattle.cvss_metric.proofs.SpellingLemmas.{differ, first_place, found_place}
use Rattle.cvss_metric.specs.v4.Table.{spelling_at, spellings_of}

-- no two values of a metric are spelled alike
pub spellings_differ : (kind : MetricType) → differ (spellings_of kind) ≡ true
spellings_differ AC = refl
spellings_differ _ = refl

lowered_uppercased : (text : List ℕ) → str_to_ascii_lowercase (uppercased text) ≡ str_to_ascii_lowercase text
lowered_uppercased [] = refl
lowered_uppercased (byte ∷ text) = rw (lowercase-uppercase byte) (rw (lowered_uppercased text) refl)

uppercase_lowercase : (byte : ℕ) → to_ascii_uppercase (to_ascii_lowercase byte) ≡ to_ascii_uppercase byte
uppercase_lowercase byte = grind (arith, nat_tests)

uppercased_lowered : (text : List ℕ) → uppercased (str_to_ascii_lowercase text) ≡ uppercased text
uppercased_lowered [] = refl
uppercased_lowered (byte ∷ text) = rw (uppercase_lowercase byte) (rw (uppercased_lowered text) refl)

-- texts that are alike in upper case are so in lower case, and the other way
pub lowered_alike : (text other : List ℕ) → uppercased text ≡ uppercased other → str_to_ascii_lowercase text ≡ str_to_ascii_lowercase other
lowered_alike text other same = sym (lowered_uppercased text) ∙ ap str_to_ascii_lowercase same ∙ lowered_uppercased other

uppercased_alike : (text other : List ℕ) → str_to_ascii_lowercase text ≡ str_to_ascii_lowercase other → uppercased text ≡ uppercased other
uppercased_alike text other same = sym (uppercased_lowered text) ∙ ap uppercased same ∙ uppercased_lowered other

-- the place of a spelling that is read alike is found, and what is found is alike
pub place_alike : (kind : MetricType) (place : ℕ) (text : List ℕ) → place < length (spellings_of kind) → uppercased (spelling_at kind place) ≡ uppercased text
    → position_from (λ x. str_eq_ignore_ascii_case x text) 0 (spellings_of kind) ≡ Some place
place_alike kind place text within same =
    first_place (λ x. str_eq_ignore_ascii_case x text) (spellings_of kind) place (spellings_differ kind) within
    ((bytes_eq-Decides _ _).1 (lowered_alike _ _ same)) (λ other passed. (bytes_eq-Decides _ _).0 passed ∙ sym (lowered_alike _ _ same))

pub alike_at : (kind : MetricType) (place : ℕ) (text : List ℕ) → Some place ≡ position_from (λ x. str_eq_ignore_ascii_case x text) 0 (spellings_of kind)
    → uppercased (spelling_at kind place) ≡ uppercased text
alike_at kind place text found =
    uppercased_alike _ _ ((bytes_eq-Decides _ _).0 (found_place (λ x. str_eq_ignore_ascii_case x text) (spellings_of kind) place found))

-- what holds of a value, where there is one, and what follows from it
pub each : {A : Type 0} {P Q : A → Type 0} (result : Option A) → ((x : A) → P x → Q x) → IfSome result P → IfSome result Q
each None follows some = tt
each (Some x) follows some = follows x some
