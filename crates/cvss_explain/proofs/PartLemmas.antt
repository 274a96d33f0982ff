-- Texts that are written one after another.
use Rattle.std.proofs.Common.{◌≡◌, ℕ, List, [], ◌∷◌, ◌++◌, ◌∙◌, ap, append_assoc}
use Rattle.cvss_lines.specs.Answers.{written_text}

-- what is written next
pub then : (base x y next : List ℕ) → x ≡ base → y ≡ x ++ next → y ≡ base ++ next
then base x y next earlier is = is ∙ ap (λ text. text ++ next) earlier

pub two_parts : (old a b x y : List ℕ) → x ≡ old ++ a → y ≡ x ++ b → y ≡ old ++ (a ++ b)
two_parts old a b x y first second = then _ x y b first second ∙ append_assoc old a b

pub three_parts : (old a b c x y z : List ℕ) → x ≡ old ++ a → y ≡ x ++ b → z ≡ y ++ c → z ≡ old ++ (a ++ b ++ c)
three_parts old a b c x y z first second third =
    then _ y z c (then _ x y b first second) third
    ∙ ap (λ text. text ++ c) (append_assoc old a b)
    ∙ append_assoc old (a ++ b) c

pub four_parts : (old a b c d w x y z : List ℕ) → w ≡ old ++ a → x ≡ w ++ b → y ≡ x ++ c → z ≡ y ++ d → z ≡ old ++ (a ++ b ++ c ++ d)
four_parts old a b c d w x y z first second third fourth =
    then _ y z d (three_parts old a b c w x y first second third) fourth
    ∙ append_assoc old (a ++ b ++ c) d

-- a text and the byte 10 after it
pub closed : (old text x y : List ℕ) → x ≡ old ++ text → y ≡ x ++ 10 ∷ [] → y ≡ old ++ written_text text
closed old text x y first second = then _ x y (10 ∷ []) first second ∙ append_assoc old text (10 ∷ [])
