-- The first line of a file that is not blank.
use Rattle.std.proofs.Common.{◌≡◌, ◌≢◌, ℕ, ◌==◌, Bool, true, false, All, List, [], ◌∷◌, ◌++◌, Option, is_some, refl, sym, ap, ◌∙◌, append_assoc}
use Rattle.std.proofs.lemmas.Bool.{false_from_ne_true, ne_eqb}
use Rattle.std.proofs.lemmas.List.Elements.{All-head, All-tail}
use Rattle.std.specs.Str.{IsUtf8, is_utf8}
use Rattle.std.proofs.lemmas.Str.{is_utf8-from_IsUtf8, IsUtf8-from_is_utf8}
use Rattle.serde_json.specs.Data.{Data}
use Rattle.serde_json.specs.Read.{read}
use Rattle.cvss_audit.specs.Answers.{is_blank}
use Rattle.cvss_audit.specs.Files.{HasFirstText, first_line, first_text, is_json, without_blanks}

not_end : (byte : ℕ) (line : List ℕ) → All (λ byte. byte ≢ 10) (byte ∷ line) → (byte == 10) ≡ false
not_end byte line all = ne_eqb byte 10 (All-head (λ byte. byte ≢ 10) byte line all)

pub to_end : (line after : List ℕ) → All (λ byte. byte ≢ 10) line → first_line (line ++ 10 ∷ after) ≡ line
to_end [] after all = refl
to_end (byte ∷ line) after all =
    rw (not_end byte line all) (ap (λ rest. byte ∷ rest) (to_end line after (All-tail (λ byte. byte ≢ 10) byte line all)))

pub all_kept : (line : List ℕ) → All (λ byte. byte ≢ 10) line → first_line line ≡ line
all_kept [] all = refl
all_kept (byte ∷ line) all =
    rw (not_end byte line all) (ap (λ rest. byte ∷ rest) (all_kept line (All-tail (λ byte. byte ≢ 10) byte line all)))

-- what follows bytes that are not all blank changes nothing of the blanks before them
blanks_before : (bytes rest : List ℕ) (byte : ℕ) (others : List ℕ) → without_blanks bytes ≡ byte ∷ others
    → without_blanks (bytes ++ rest) ≡ (byte ∷ others) ++ rest
blanks_before [] rest byte others is = absurd (cc)
blanks_before (first ∷ bytes) rest byte others is = go (is_blank first) refl (blanks_before bytes rest byte others) where
  go : (b : Bool) → is_blank first ≡ b → (without_blanks bytes ≡ byte ∷ others → without_blanks (bytes ++ rest) ≡ (byte ∷ others) ++ rest)
      → without_blanks ((first ∷ bytes) ++ rest) ≡ (byte ∷ others) ++ rest
  go true blank later =
      let same : without_blanks bytes ≡ byte ∷ others = rw blank at is in
      rw blank (later same)
  go false blank later =
      let same : (first ∷ bytes) ≡ byte ∷ others = rw blank at is in
      rw blank (ap (λ all. all ++ rest) same)

-- the first line is known once it has ended
pub first_text_settled : (bytes rest : List ℕ) → HasFirstText bytes → first_text (bytes ++ rest) ≡ first_text bytes
first_text_settled bytes rest has = settled has.line has.after has.one_line has.ended where
  settled : (line after : List ℕ) → All (λ byte. byte ≢ 10) line → without_blanks bytes ≡ line ++ 10 ∷ after
      → first_text (bytes ++ rest) ≡ first_text bytes
  settled [] after all is =
      ap first_line (blanks_before bytes rest 10 after is) ∙ sym (ap first_line is)
  settled (byte ∷ line) after all is =
      ap first_line (blanks_before bytes rest byte (line ++ 10 ∷ after) is ∙ append_assoc (byte ∷ line) (10 ∷ after) rest)
      ∙ to_end (byte ∷ line) (after ++ rest) all ∙ sym (ap first_line is ∙ to_end (byte ∷ line) after all)

pub json_test : (text : List ℕ) (seen : Option Data) → IsUtf8 text → read text ≡ seen → is_some seen ≡ is_json text
json_test text seen utf8 reads = sym (rw (is_utf8-from_IsUtf8 text utf8, reads) refl)

pub no_utf8 : (bytes : List ℕ) → ¬ (IsUtf8 bytes) → is_utf8 bytes ≡ false
no_utf8 bytes none = false_from_ne_true (is_utf8 bytes) (λ is. none (IsUtf8-from_is_utf8 bytes is))
