-- How a letter in any ASCII case is read.
use Rattle.std.specs.Char.{to_ascii_uppercase}
use Rattle.std.specs.List.{list_all}
use Rattle.std.proofs.Common.{◌≡◌, ◌↔◌, [], ◌∷◌, ℕ, ◌<◌, Bool, true, not, leb, eqb, ◌&&◌, ◌||◌, bit_and, refl, sym, ap, rules, ◌∙◌}
use Rattle.std.proofs.lemmas.Bool.{agree_below_at, and_parts, eqb-true, or_left, or_right}
use Rattle.cvss_base.specs.Text.{uppercased}
use Rattle.cvss_base.specs.declared.v3.MetricType.{MetricType}
use Rattle.cvss_base.specs.declared.v3.MetricType.TheVariants.{A}
use Rattle.cvss_metric.specs.v3.Table.{Value, spelling_of}

-- whether a byte is a letter in upper case
abbrev is_upper : ℕ → Bool
is_upper letter = leb 65 letter && leb letter 90

-- whether a byte without the bit in which the cases of a letter differ is the byte in upper case, or neither is a letter
abbrev is_alike : ℕ → Bool
is_alike letter = not (is_upper (bit_and letter 0xDF) || is_upper (to_ascii_uppercase letter)) || eqb (bit_and letter 0xDF) (to_ascii_uppercase letter)

alike : (letter : ℕ) → letter < 256 → is_alike letter ≡ true
alike letter byte = agree_below_at is_alike (λ _. true) 256 letter refl byte

upper_spelling : (kind : MetricType) (value : Value kind) → list_all is_upper (spelling_of kind value) ≡ true
upper_spelling A = search rules
upper_spelling _ = search rules

-- what spells a value is a letter in upper case, so either of both bytes that does is the other
one : (kind : MetricType) (value : Value kind) {byte : ℕ} → spelling_of kind value ≡ byte ∷ [] → is_upper byte ≡ true
one kind value {byte} is = (and_parts (is_upper byte) true (rw is at (upper_spelling kind value))).0

-- a spelling is a byte without that bit exactly if it is the byte in upper case
pub one_letter : (kind : MetricType) (value : Value kind) (letter : ℕ) → letter < 256 → (spelling_of kind value ≡ bit_and letter 0xDF ∷ []) ↔ (spelling_of kind value ≡ uppercased (letter ∷ []))
one_letter kind value letter byte = (
  λ is. is ∙ ap (λ b. b ∷ []) (same (or_left _ _ (one kind value is))),
  λ is. is ∙ ap (λ b. b ∷ []) (sym (same (or_right _ _ (one kind value is)))),
) where
  same : is_upper (bit_and letter 0xDF) || is_upper (to_ascii_uppercase letter) ≡ true → bit_and letter 0xDF ≡ to_ascii_uppercase letter
  same upper = eqb-true _ _ (rw upper at (alike letter byte))
