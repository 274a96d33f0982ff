-- Texts without a `%` and a backslash are decoded as they are, and what is decoded may be after a prefix.
use Rattle.std.proofs.Common.{◌≡◌, ℕ, Bool, true, false, ◌&&◌, cond, eqb, List, [], ◌∷◌, ◌++◌, None, Option, Some, refl, sym, ap, ◌∙◌, arith}
use Rattle.std.specs.List.{list_all, list_any}
use Rattle.std.proofs.lemmas.Bool.{false≢true, or_parts}
use Rattle.std.proofs.lemmas.Bool.Decides.{nat_tests}
use Rattle.std.proofs.lemmas.List.Elements.{All-weaker}
use Rattle.std.proofs.lemmas.List.Folds.{list_any_none}
use Rattle.std.proofs.lemmas.List.Sums.{AllPass-from_list_all}
use Rattle.cvss_base.specs.Text.{slash}
use Rattle.cvss_vector.specs.declared.setting.Version.{Version}
use Rattle.cvss_vector.specs.declared.setting.Version.TheVariants.{V20, V30, V31, V40}
use Rattle.cvss_matches.specs.Answers.{with_version}
use Rattle.cvss_matches.specs.Decoding.{decoded}
use Rattle.cvss_matches.specs.Parts.{backslash, is_escape, is_like, is_vector_byte, percent}
use Rattle.cvss_matches.proofs.AfterLemmas.{backslash_first}
use Rattle.cvss_matches.proofs.WholeLemmas.{not_escape}

pub unlike_percent : (byte : ℕ) → eqb byte percent ≡ false → is_like percent byte ≡ false
unlike_percent byte other = grind (arith, nat_tests)

no_escape : (like back x y z : Bool) (first second third fourth : List ℕ) → like ≡ false → back ≡ false
    → cond (like && x) first (cond (like && y) second (cond (back && z) third fourth)) ≡ fourth
no_escape true back x y z first second third fourth is other = absurd (false≢true (sym is))
no_escape false true x y z first second third fourth is other = absurd (false≢true (sym other))
no_escape false false x y z first second third fourth is other = refl

no_slash : (back z : Bool) (first second : List ℕ) → back ≡ false → cond (back && z) first second ≡ second
no_slash true z first second is = absurd (false≢true (sym is))
no_slash false z first second is = refl

pub same_decoded : (text : List ℕ) → list_any is_escape text ≡ false → decoded text ≡ text
same_decoded [] none = refl
same_decoded (a ∷ []) none = refl
same_decoded (a ∷ b ∷ []) none =
    let here = or_parts (eqb a percent) (eqb a backslash) (or_parts (is_escape a) (list_any is_escape (b ∷ [])) none).0 in
    no_slash (eqb backslash a) _ (slash ∷ []) (a ∷ b ∷ []) (backslash_first a ∙ here.1)
same_decoded (a ∷ b ∷ c ∷ rest) none =
    let both = or_parts (is_escape a) (list_any is_escape (b ∷ c ∷ rest)) none in
    let here = or_parts (eqb a percent) (eqb a backslash) both.0 in
    no_escape (is_like percent a) (eqb backslash a) _ _ _ _ _ _ (a ∷ decoded (b ∷ c ∷ rest)) (unlike_percent a here.0) (backslash_first a ∙ here.1)
    ∙ ap (λ more. a ∷ more) (same_decoded (b ∷ c ∷ rest) both.1)

-- so are they where they are after no prefix
pub as_given : (version : Option Version) (text : List ℕ) → version ≡ None → list_any is_escape text ≡ false → with_version version (decoded text) ≡ text
as_given version text none plain = ap (λ each. with_version each (decoded text)) none ∙ same_decoded text plain

-- the prefix of a version and then a text
pub after_prefix : (version : Option Version) (text : List ℕ) → with_version version [] ++ text ≡ with_version version text
after_prefix None text = refl
after_prefix (Some V20) text = refl
after_prefix (Some V30) text = refl
after_prefix (Some V31) text = refl
after_prefix (Some V40) text = refl

none_escaped : (text : List ℕ) → list_all is_vector_byte text ≡ true → list_any is_escape text ≡ false
none_escaped text written =
    list_any_none is_escape text
    (All-weaker (λ byte. is_vector_byte byte ≡ true) (λ byte. is_escape byte ≡ false) not_escape text (AllPass-from_list_all is_vector_byte text written))

-- what is written as vectors are
pub written_decoded : (text : List ℕ) → list_all is_vector_byte text ≡ true → decoded text ≡ text
written_decoded text written = same_decoded text (none_escaped text written)
