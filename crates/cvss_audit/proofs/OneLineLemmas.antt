-- JSON without spaces is one line: no token's text has a byte 10.
use Rattle.std.proofs.Common.{◌≡◌, ◌≢◌, ℕ, ◌+◌, suc, Bool, true, false, not, cond, ◌==◌, ◌&&◌, ◌||◌, List, [], ◌∷◌, ◌++◌, drop, Option, Some, None, option_and_then, All, refl, sym, ap, ap₂, ◌∙◌, subst, arith, inl, inr}
use Rattle.std.specs.Char.{is_ascii_digit}
use Rattle.std.specs.List.{list_all, prefix_len}
use Rattle.std.proofs.lemmas.Bool.{agree_below_at, and_parts, cases_lt, eqb-true, leb-true, ne_eqb, or_cases}
use Rattle.std.proofs.lemmas.List.Elements.{All-weaker}
use Rattle.std.proofs.lemmas.List.Folds.{list_all-append}
use Rattle.std.proofs.lemmas.List.Sums.{AllPass-from_list_all}
use Rattle.json.specs.Lex.{tokens}
use Rattle.json.specs.Print.{ArePrintableOrBad, IsNumber, escape, escape_byte, ends, print, print_from, quoted, separator, token_text, begins, IsPrintableOrBad}
use Rattle.json.specs.Token.{Token, key, string, number, boolean}
use Rattle.json.specs.Word.{after_digits, after_exponent, after_fraction, after_minus, after_number, after_sign, after_whole, head}
use Rattle.json.proofs.Numbered.{ArePrintableOrBad-tokens}
use Rattle.json.proofs.Printed.Strings.{escape_byte_plain}

abbrev differs : ℕ → Bool
differs byte = not (byte == 10)

-- whether none of the bytes is 10
abbrev clean : List ℕ → Bool
clean = list_all differs

clean-append : (xs ys : List ℕ) → clean xs ≡ true → clean ys ≡ true → clean (xs ++ ys) ≡ true
clean-append xs ys p q = list_all-append differs xs ys ∙ ap₂ (λ a b. a && b) p q

-- ---- numbers, whose parts are cut off one after the other

-- a byte that is passed over
one : (c : ℕ) (t : List ℕ) → differs c ≡ true → (head t == c) ≡ true → clean (drop 1 t) ≡ true → clean t ≡ true
one c [] other is rest = refl
one c (x ∷ xs) other is rest = ap₂ (λ a b. a && b) (ap differs (eqb-true x c is) ∙ other) rest

either : (a b : ℕ) (t : List ℕ) → differs a ≡ true → differs b ≡ true → ((head t == a) || (head t == b)) ≡ true → clean (drop 1 t) ≡ true → clean t ≡ true
either a b t first second is rest = elim (or_cases (head t == a) (head t == b) is) [
  | inl here ↦ one a t first here rest
  | inr there ↦ one b t second there rest
]

optional : (b : Bool) (t : List ℕ) → (b ≡ true → clean (drop 1 t) ≡ true → clean t ≡ true) → clean (cond b (drop 1 t) t) ≡ true → clean t ≡ true
optional true t passed rest = passed refl rest
optional false t passed rest = rest

digit_differs : (x : ℕ) → is_ascii_digit x ≡ true → differs x ≡ true
digit_differs x digit = ap not (ne_eqb x 10 (λ is. omega (arith, leb-true 48 x (and_parts _ _ digit).0)))

digits_step : (b : Bool) (x n : ℕ) (xs : List ℕ) → (b ≡ true → differs x ≡ true) → (clean (drop n xs) ≡ true → clean xs ≡ true)
    → clean (drop (cond b (1 + n) 0) (x ∷ xs)) ≡ true → clean (x ∷ xs) ≡ true
digits_step true x n xs other more rest =
    let next : 1 + n ≡ suc n = omega arith in
    ap₂ (λ a b. a && b) (other refl) (more (ap (λ count. clean (drop count (x ∷ xs))) (sym next) ∙ rest))
digits_step false x n xs other more rest = rest

after_the_digits : (t : List ℕ) → clean (drop (prefix_len is_ascii_digit t) t) ≡ true → clean t ≡ true
after_the_digits [] rest = refl
after_the_digits (x ∷ xs) rest = digits_step (is_ascii_digit x) x (prefix_len is_ascii_digit xs) xs (digit_differs x) (after_the_digits xs) rest

-- there is such a part, and what it leaves is clean
abbrev Leaves : Option (List ℕ) → Type 0
Leaves None = ⊥
Leaves (Some rest) = clean rest ≡ true

by_test : (b : Bool) (x y : Option (List ℕ)) (P : Type 0) → (b ≡ true → Leaves x → P) → (Leaves y → P) → Leaves (cond b x y) → P
by_test true x y P first second = first refl
by_test false x y P first second = second

digits : (t : List ℕ) → Leaves (after_digits t) → clean t ≡ true
digits t = by_test (prefix_len is_ascii_digit t == 0) None _ _ (λ none rest. absurd rest) (after_the_digits t)

whole : (t : List ℕ) → Leaves (after_whole t) → clean t ≡ true
whole t = by_test (head t == 48) (Some (drop 1 t)) _ _ (one 48 t refl) (digits t)

fraction : (t : List ℕ) → Leaves (after_fraction t) → clean t ≡ true
fraction t = by_test (head t == 46) _ (Some t) _ (λ is rest. one 46 t refl is (digits (drop 1 t) rest)) (λ rest. rest)

exponent : (t : List ℕ) → Leaves (after_exponent t) → clean t ≡ true
exponent t =
    let u = drop 1 t in
    by_test ((head t == 101) || (head t == 69)) _ (Some t) _
    (λ is rest. either 101 69 t refl refl is (optional _ u (either 45 43 u refl refl) (digits (after_sign u) rest))) (λ rest. rest)

before : (f : List ℕ → Option (List ℕ)) → ((t : List ℕ) → Leaves (f t) → clean t ≡ true) → (o : Option (List ℕ)) → Leaves (option_and_then f o) → Leaves o
before f part None rest = rest
before f part (Some t) rest = part t rest

number_clean : (s : List ℕ) → IsNumber s → clean s ≡ true
unfolding after_number
number_clean s is =
    optional (head s == 45) s (one 45 s refl)
    (whole (after_minus s) (before after_fraction fraction _ (before after_exponent exponent _ (subst Leaves (sym is) refl))))

-- ---- strings

escape_byte-clean : (x : ℕ) → clean (escape_byte x) ≡ true
unfolding escape_byte
escape_byte-clean x = elim (cases_lt x 128) [
  | inl ascii ↦ agree_below_at (λ y. clean (escape_byte y)) (λ y. true) 128 x refl ascii
  | inr above ↦
      ap clean (escape_byte_plain x (λ is. omega arith) (λ is. omega arith) (omega arith))
      ∙ ap (λ b. not b && true) (ne_eqb x 10 (λ is. omega arith))
]

escape-clean : (s : List ℕ) → clean (escape s) ≡ true
escape-clean [] = refl
escape-clean (x ∷ xs) = clean-append (escape_byte x) (escape xs) (escape_byte-clean x) (escape-clean xs)

quoted-clean : (s : List ℕ) → clean (quoted s) ≡ true
quoted-clean s = clean-append (escape s) (34 ∷ []) (escape-clean s) refl

-- ---- tokens

token-clean : (t : Token) → IsPrintableOrBad t → clean (token_text t) ≡ true
token-clean (key s) is = clean-append (quoted s) (58 ∷ []) (quoted-clean s) refl
token-clean (string s) is = quoted-clean s
token-clean (number s) is = number_clean s is
token-clean (boolean true) is = refl
token-clean (boolean false) is = refl
token-clean _ is = refl

separator-clean : (b : Bool) → clean (cond b (44 ∷ []) []) ≡ true
separator-clean true = refl
separator-clean false = refl

print-clean : (after_value : Bool) (ts : List Token) → ArePrintableOrBad ts → clean (print_from after_value ts) ≡ true
unfolding print_from
print-clean after_value [] are = refl
print-clean after_value (t ∷ ts) are =
    clean-append (separator after_value t) (token_text t ++ print_from (ends t) ts) (separator-clean (after_value && begins t))
    (clean-append (token_text t) (print_from (ends t) ts) (token-clean t are.0) (print-clean (ends t) ts are.1))

-- a text without spaces is one line
pub one_line : (text : List ℕ) → text ≡ print (tokens text) → All (λ byte. byte ≢ 10) text
one_line text is =
    All-weaker (λ byte. differs byte ≡ true) (λ byte. byte ≢ 10) (λ byte other same. absurd (subst (λ y. differs y ≡ true → ⊥) (sym same) (λ no. cc) other)) text
    (AllPass-from_list_all differs text (ap clean is ∙ print-clean false (tokens text) (ArePrintableOrBad-tokens text)))
