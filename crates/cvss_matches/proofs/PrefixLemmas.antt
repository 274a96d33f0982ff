-- What begins with a prefix begins with the letters `CVSS`, and if it is written loosely has a slash or a `%`.
use Rattle.std.proofs.Common.{◌≡◌, ℕ, Bool, true, false, ◌&&◌, List, [], ◌∷◌, ◌++◌, codes, drop, take, inl, inr, refl, ap, ◌∙◌, subst, arith, take-append-drop}
use Rattle.std.specs.Cmp.Lexicographic.{bytes_decides}
use Rattle.std.specs.List.{list_all, list_any, starts_with}
use Rattle.std.proofs.lemmas.Bool.{and_left, and_parts, both_ways, false_from_ne_true, false≢true, or_cases, or_from, or_left, or_parts, or_right}
use Rattle.std.proofs.lemmas.Bool.Decides.{nat_tests}
use Rattle.cvss_matches.specs.Parts.{begins_exactly, begins_like, begins_loosely, begins_with_prefix, is_like, loose_prefixes}
use Rattle.cvss_matches.specs.private.Passing.{has_mark, is_mark}

-- whether a text begins as some bytes does not depend on what follows a byte that is as none of them
pub starts_before : (same : ℕ → ℕ → Bool) (needle text : List ℕ) (other : ℕ) (rest : List ℕ) → list_any (λ byte. same byte other) needle ≡ false
    → starts_with same (text ++ other ∷ rest) needle ≡ starts_with same text needle
starts_before same [] text other rest none = refl
starts_before same (byte ∷ needle) [] other rest none = and_left (same byte other) _ (or_parts (same byte other) (list_any (λ each. same each other) needle) none).0
starts_before same (byte ∷ needle) (first ∷ text) other rest none =
    ap (λ more. same byte first && more) (starts_before same needle text other rest (or_parts (same byte other) (list_any (λ each. same each other) needle) none).1)

exactly_letters : (text : List ℕ) → begins_exactly text ≡ true → begins_like (codes "CVSS") text ≡ true
exactly_letters text is =
    subst (λ bytes. begins_like (codes "CVSS") bytes ≡ true)
    (ap (λ front. front ++ drop 5 text) ((bytes_decides (codes "CVSS:") (take 5 text)).0 is) ∙ take-append-drop 5 text) refl

-- without the letters there is no prefix
pub no_prefix : (text : List ℕ) → begins_like (codes "CVSS") text ≡ false → begins_with_prefix text ≡ false
no_prefix text none =
    or_from (begins_exactly text) (begins_loosely text)
    (false_from_ne_true (begins_exactly text) (λ is. both_ways (begins_like (codes "CVSS") text) none (exactly_letters text is)))
    (and_left (begins_like (codes "CVSS") text) _ none)

-- a text that begins as a pattern has a mark if the pattern has one
mark_like : (first byte : ℕ) → is_mark first ≡ true → is_like first byte ≡ true → is_mark byte ≡ true
mark_like first byte marked like = grind (arith, nat_tests)

like_marked : (pattern text : List ℕ) → has_mark pattern ≡ true → begins_like pattern text ≡ true → has_mark text ≡ true
like_marked [] text marked is = absurd (false≢true marked)
like_marked (first ∷ pattern) [] marked is = absurd (false≢true is)
like_marked (first ∷ pattern) (byte ∷ text) marked is =
    let both = and_parts (is_like first byte) (begins_like pattern text) is in
    elim (or_cases (is_mark first) (has_mark pattern) marked) [
      | inl one ↦ or_left (is_mark byte) (has_mark text) (mark_like first byte one both.0)
      | inr more ↦ or_right (is_mark byte) (has_mark text) (like_marked pattern text more both.1)
    ]

pub likes_marked : (patterns : List (List ℕ)) (text : List ℕ) → list_all has_mark patterns ≡ true → list_any (λ pattern. begins_like pattern text) patterns ≡ true → has_mark text ≡ true
likes_marked [] text marked is = absurd (false≢true is)
likes_marked (pattern ∷ patterns) text marked is =
    let both = and_parts (has_mark pattern) (list_all has_mark patterns) marked in
    elim (or_cases (begins_like pattern text) (list_any (λ each. begins_like each text) patterns) is) [
      | inl one ↦ like_marked pattern text both.0 one
      | inr more ↦ likes_marked patterns text both.1 more
    ]

pub loosely_marked : (text : List ℕ) → begins_loosely text ≡ true → has_mark text ≡ true
loosely_marked text is = likes_marked loose_prefixes text refl (and_parts (begins_like (codes "CVSS") text) _ is).1
