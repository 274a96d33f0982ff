-- When the candidate of a part is found.
use Rattle.std.proofs.Common.{◌≡◌, ℕ, ◌+◌, true, ◌||◌, eqb, inl, inr, List, ◌∷◌, [], drop, refl, sym, ap, ◌∙◌, subst}
use Rattle.std.specs.Prelude.{unwrap_or}
use Rattle.std.specs.List.{list_all}
use Rattle.std.proofs.lemmas.Bool.{and_parts, cond-true, false≢true, or_cases, or_left, or_right}
use Rattle.cvss_base.specs.Text.{has, slash}
use Rattle.cvss_matches.specs.Matches.{Candidate, IsCertain, IsFound, label_of, without_label}
use Rattle.cvss_matches.specs.Parts.{begins_exactly, begins_loosely, begins_like_any, begins_metrics, begins_with_prefix, encoded_metrics_of_v2, has_like_any, is_encoded_v2, label_length, lacks_prefix, metrics_after_v2, percent, slashes}
use Rattle.cvss_matches.specs.private.Passing.{has_mark, is_mark}
use Rattle.cvss_matches.proofs.AcceptedLemmas.{accepted_whole}
use Rattle.cvss_matches.proofs.PrefixLemmas.{likes_marked, loosely_marked}
use Rattle.cvss_matches.proofs.WholeLemmas.{without_no_label}

-- what is found has a slash or a percent
slash_marked : (text : List ℕ) → has slash text ≡ true → has_mark text ≡ true
slash_marked [] is = is
slash_marked (byte ∷ text) is = elim (or_cases (eqb byte slash) (has slash text) is) [
  | inl one ↦ or_left (eqb byte slash || eqb byte percent) (has_mark text) (or_left (eqb byte slash) (eqb byte percent) one)
  | inr more ↦ or_right (eqb byte slash || eqb byte percent) (has_mark text) (slash_marked text more)
]

like_any_marked : (patterns : List (List ℕ)) (text : List ℕ) → list_all has_mark patterns ≡ true → has_like_any patterns text ≡ true → has_mark text ≡ true
like_any_marked patterns [] marked is = absurd (false≢true is)
like_any_marked patterns (byte ∷ rest) marked is = elim (or_cases (begins_like_any patterns (byte ∷ rest)) (has_like_any patterns rest) is) [
  | inl here ↦ likes_marked patterns (byte ∷ rest) marked here
  | inr more ↦ or_right (is_mark byte) (has_mark rest) (like_any_marked patterns rest marked more)
]

unprefixed_marked : (text : List ℕ) → (lacks_prefix text || is_encoded_v2 text) ≡ true → has_mark text ≡ true
unprefixed_marked text is = elim (or_cases (lacks_prefix text) (is_encoded_v2 text) is) [
  | inl lacking ↦ like_any_marked metrics_after_v2 text refl (and_parts (begins_metrics text) (has_like_any metrics_after_v2 text) lacking).1
  | inr encoded ↦ like_any_marked encoded_metrics_of_v2 text refl (and_parts (begins_metrics text) (has_like_any encoded_metrics_of_v2 text) encoded).1
]

pub found_with_mark : (text : List ℕ) → IsFound text → has_mark text ≡ true
found_with_mark text (inl (inl accepted)) = slash_marked text (accepted_whole text accepted).with_slash
found_with_mark text (inl (inr exactly)) = like_any_marked slashes text refl (and_parts (begins_exactly text) (has_like_any slashes text) exactly).1
found_with_mark text (inr meant) = elim (or_cases (begins_loosely text) (lacks_prefix text || is_encoded_v2 text) meant) [
  | inl loosely ↦ loosely_marked text loosely
  | inr unprefixed ↦ unprefixed_marked text unprefixed
]

-- what is accepted or meant exactly has no label
certain_unlabelled : (text : List ℕ) → IsCertain text → label_of text ≡ 0
certain_unlabelled text (inl accepted) = (accepted_whole text accepted).unlabelled
certain_unlabelled text (inr exactly) =
    cond-true (begins_with_prefix text) 0 (unwrap_or (label_length text) 0)
    (or_left (begins_exactly text) (begins_loosely text) (and_parts (begins_exactly text) (has_like_any slashes text) exactly).0)

pub found_by : (given candidate : Candidate) → given ≡ candidate → IsFound given.text → (given ≡ candidate) × IsFound candidate.text
found_by given candidate same found = (same, subst (λ (each : Candidate). IsFound each.text) same found)

pub not_found_by : (given candidate : Candidate) → given ≡ candidate → ¬ (IsFound given.text) → ¬ (IsFound candidate.text)
not_found_by given candidate same not_found found = not_found (subst (λ (each : Candidate). IsFound each.text) (sym same) found)

pub found_whole : (offset : ℕ) (text : List ℕ) → IsCertain text → (record { offset = offset; text = text } ≡ without_label offset text) × IsFound (without_label offset text).text
found_whole offset text certain = found_by (record { offset = offset; text = text }) (without_label offset text) (sym (without_no_label offset text (certain_unlabelled text certain))) (inl certain)

pub after_label : (offset : ℕ) (text cut : List ℕ) (label : ℕ) → label ≡ label_of text → cut ≡ drop label text → record { offset = offset + label; text = cut } ≡ without_label offset text
after_label offset text cut label label_is cut_is =
    ap (λ bytes. record { offset = offset + label; text = bytes }) cut_is ∙ ap (λ count. record { offset = offset + count; text = drop count text }) label_is
