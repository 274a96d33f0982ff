-- The first line of a file that is not blank, while it is read.
use Rattle.std.proofs.Common.{◌≡◌, ◌≢◌, ℕ, ◌||◌, All, Bool, true, false, List, [], ◌∷◌, ◌++◌, refl, sym, ap, subst, ◌∙◌, append_assoc}
use Rattle.std.proofs.lemmas.List.Elements.{All-append, All-nil}
use Rattle.cvss_audit.specs.Answers.{is_blank}
use Rattle.cvss_audit.specs.Files.{HasFirstText, without_blanks}
use Rattle.cvss_audit.specs.private.Beginnings.{IsCut, IsOpen, has_bytes, more_text}

-- what is left of bytes and more of them
abbrev Grows : List ℕ → List ℕ → Type 0
Grows bytes more = without_blanks (bytes ++ more) ≡ without_blanks bytes ++ more_text (has_bytes (without_blanks bytes)) more

without_blanks-append : (bytes more : List ℕ) → Grows bytes more
without_blanks-append [] more = refl
without_blanks-append (byte ∷ bytes) more = go (is_blank byte) refl (without_blanks-append bytes more) where
  go : (b : Bool) → is_blank byte ≡ b → Grows bytes more → Grows (byte ∷ bytes) more
  go true blank later = rw blank later
  go false no_blank later = rw no_blank refl

has_bytes-append : (left right : List ℕ) → has_bytes (left ++ right) ≡ (has_bytes left || has_bytes right)
has_bytes-append [] right = refl
has_bytes-append (byte ∷ left) right = refl

-- nothing is read yet
pub IsOpen-nothing : IsOpen [] false
IsOpen-nothing = record { one_line = All-nil (λ byte. byte ≢ 10); begins = refl }

module _ (bytes more : List ℕ) (begun : Bool) (before : IsOpen bytes begun) where
  added : without_blanks (bytes ++ more) ≡ without_blanks bytes ++ more_text begun more
  added = without_blanks-append bytes more ∙ ap (λ b. without_blanks bytes ++ more_text b more) (sym before.begins)

  -- the line ends in the bytes that are read
  pub first_text_ended : IsCut (more_text begun more) → HasFirstText (bytes ++ more)
  first_text_ended cut = record {
    line = without_blanks bytes ++ cut.line;
    after = cut.after;
    one_line = All-append (λ byte. byte ≢ 10) (without_blanks bytes) cut.line before.one_line cut.one_line;
    ended = added ∙ ap (λ text. without_blanks bytes ++ text) cut.split ∙ sym (append_assoc (without_blanks bytes) cut.line (10 ∷ cut.after));
  }

  -- or does not
  pub IsOpen-more : All (λ byte. byte ≢ 10) (more_text begun more) → IsOpen (bytes ++ more) (begun || has_bytes (more_text begun more))
  IsOpen-more none = record {
    one_line = subst (All (λ byte. byte ≢ 10)) (sym added) (All-append (λ byte. byte ≢ 10) (without_blanks bytes) (more_text begun more) before.one_line none);
    begins = ap (λ b. b || has_bytes (more_text begun more)) before.begins
        ∙ sym (ap has_bytes added ∙ has_bytes-append (without_blanks bytes) (more_text begun more));
  }
