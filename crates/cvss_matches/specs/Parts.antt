-- The parts into which a text of any bytes is cut to find the vectors in it.
use Rattle.std.specs.Prelude.{ℕ, suc, ◌-◌, ◌||◌, ◌&&◌, ◌==◌, Bool, false, List, [], ◌∷◌, codes, length, not, if◌then◌else◌, nat_eq, Option, None, Some, take}
use Rattle.std.specs.Char.{is_ascii_alphanumeric, is_ascii_digit, to_ascii_uppercase}
use Rattle.std.specs.List.{before_first, list_any, onto_first, starts_with, suffix_len}
use Rattle.std.specs.Option.{option_map}
use Rattle.cvss_base.specs.Text.{colon, dot, has, slash}

-- the byte before two digits in a percent-encoded link
abbrev pub percent : ℕ
percent = 37

-- the byte before a slash in JSON
abbrev pub backslash : ℕ
backslash = 92

-- a byte between the words of a vector: `.`, `/` or `:`
abbrev pub is_divider : ℕ → Bool
is_divider byte = (byte == dot) || ((byte == slash) || (byte == colon))

-- a byte with which vectors are written: an ASCII letter or digit, `.`, `/` or `:`
abbrev pub is_vector_byte : ℕ → Bool
is_vector_byte byte = is_ascii_alphanumeric byte || is_divider byte

-- a byte with which vectors are written, or percent-encoded ones
abbrev pub is_run_byte : ℕ → Bool
is_run_byte byte = is_vector_byte byte || (byte == percent)

-- the bytes begin with one of these, or with a backslash and a slash, which in JSON is a slash
abbrev pub begins_run : List ℕ → Bool
begins_run [] = false
begins_run (byte ∷ rest) = is_run_byte byte || starts_with nat_eq (byte ∷ rest) (codes "\\/")

-- the byte is as the pattern's: any digit for `0`, a letter in either case for a capital, and else the same byte
abbrev pub is_like : ℕ → ℕ → Bool
is_like pattern byte = if pattern == 48 then is_ascii_digit byte else to_ascii_uppercase byte == pattern

-- the text begins with bytes as those of the pattern
abbrev pub begins_like : List ℕ → List ℕ → Bool
begins_like pattern text = starts_with is_like text pattern

-- how vectors begin whose prefix is written in another case, without its colon or with a `v`, or that are
-- percent-encoded: `%3A` for a colon, `%2F` for a slash, or both
abbrev pub loose_prefixes : List (List ℕ)
loose_prefixes =
    codes "CVSS:0.0/AV:" ∷ codes "CVSS0.0/AV:" ∷ codes "CVSSV0.0/AV:"
    ∷ codes "CVSS:0.0%2FAV:" ∷ codes "CVSS:0.0%2FAV%3A" ∷ codes "CVSS%3A0.0/AV:" ∷ codes "CVSS%3A0.0/AV%3A"
    ∷ codes "CVSS%3A0.0%2FAV:" ∷ codes "CVSS%3A0.0%2FAV%3A" ∷ []

-- the text begins as a vector whose prefix is not written as it should be, or perhaps is: with the letters, and so on
abbrev pub begins_loosely : List ℕ → Bool
begins_loosely text = begins_like (codes "CVSS") text && list_any (λ pattern. begins_like pattern text) loose_prefixes

-- the text begins with `CVSS:`
abbrev pub begins_exactly : List ℕ → Bool
begins_exactly text = starts_with nat_eq text (codes "CVSS:")

-- the text begins with the prefix of a vector
abbrev pub begins_with_prefix : List ℕ → Bool
begins_with_prefix text = begins_exactly text || begins_loosely text

-- a text is cut before these bytes: they begin with a prefix, or with a byte of no run
abbrev pub begins_part : List ℕ → Bool
begins_part [] = false
begins_part (byte ∷ rest) = not (begins_run (byte ∷ rest)) || begins_with_prefix (byte ∷ rest)

-- the parts of a text, which joined are the text: it is cut before each prefix, and on both sides of each byte of
-- no run
abbrev pub parts_of : List ℕ → List (List ℕ)
parts_of [] = []
parts_of (byte ∷ rest) =
    if not (begins_run (byte ∷ rest)) || begins_part rest then (byte ∷ []) ∷ parts_of rest
    else onto_first byte (parts_of rest)

-- a byte with which no candidate of a vector ends
abbrev pub is_ending : ℕ → Bool
is_ending byte = is_divider byte || (byte == backslash)

-- a part without the dots, slashes, colons and backslashes at its end
abbrev pub without_dividers : List ℕ → List ℕ
without_dividers part = take (length part - suffix_len is_ending part) part

-- a byte with which a colon or a slash begins that is written in another way: `%` or a backslash
abbrev pub is_escape : ℕ → Bool
is_escape byte = (byte == percent) || (byte == backslash)

-- the text before its first such byte
abbrev pub before_escape : List ℕ → List ℕ
before_escape text = before_first is_escape text

-- the bytes begin with a percent-encoded colon or slash
abbrev pub begins_encoded : List ℕ → Bool
begins_encoded text = begins_like (codes "%3A") text || begins_like (codes "%2F") text

-- the bytes begin with a `%` that encodes neither
abbrev pub ends_encoded : List ℕ → Bool
ends_encoded [] = false
ends_encoded (byte ∷ rest) = (byte == percent) && not (begins_encoded (byte ∷ rest))

-- how many bytes are before that
abbrev pub encoded_length : List ℕ → ℕ
encoded_length [] = 0
encoded_length (byte ∷ rest) = if ends_encoded (byte ∷ rest) then 0 else suc (encoded_length rest)

-- the text before its first `%` that encodes neither a colon nor a slash
abbrev pub before_other : List ℕ → List ℕ
before_other text = take (encoded_length text) text

-- the text begins with bytes as those of one of the patterns
abbrev pub begins_like_any : List (List ℕ) → List ℕ → Bool
begins_like_any patterns text = list_any (λ pattern. begins_like pattern text) patterns

-- such bytes are somewhere in the text
abbrev pub has_like_any : List (List ℕ) → List ℕ → Bool
has_like_any patterns [] = false
has_like_any patterns (byte ∷ rest) = begins_like_any patterns (byte ∷ rest) || has_like_any patterns rest

-- a slash, and one that is percent-encoded
abbrev pub slashes : List (List ℕ)
slashes = codes "/" ∷ codes "%2F" ∷ []

-- the metrics PR and UI, which v3 and v4.0 have and v2 has not, after a slash; the slash and the colon may be percent-encoded
abbrev pub metrics_after_v2 : List (List ℕ)
metrics_after_v2 =
    codes "/PR:" ∷ codes "/UI:" ∷ codes "/PR%3A" ∷ codes "/UI%3A"
    ∷ codes "%2FPR:" ∷ codes "%2FUI:" ∷ codes "%2FPR%3A" ∷ codes "%2FUI%3A" ∷ []

-- the metric Au of v2 after a slash, of which the slash or the colon is percent-encoded, or the slash is after a backslash
abbrev pub encoded_metrics_of_v2 : List (List ℕ)
encoded_metrics_of_v2 = codes "/AU%3A" ∷ codes "%2FAU:" ∷ codes "%2FAU%3A" ∷ codes "\\/AU:" ∷ []

-- the text begins with the metric AV
abbrev pub begins_metrics : List ℕ → Bool
begins_metrics text = begins_like (codes "AV:") text || begins_like (codes "AV%3A") text

-- the part begins as a vector, and a slash, encoded or not, is before its first `%` that encodes neither a colon nor a slash
abbrev pub is_encoded : List ℕ → Bool
is_encoded part = (begins_with_prefix part || begins_metrics part) && has_like_any slashes (before_other part)

-- a part, which ends before its first `%` that encodes neither a colon nor a slash, if a vector is encoded in it
abbrev pub encoded_front : List ℕ → List ℕ
encoded_front part = if is_encoded part then before_other part else part

-- a part. If a slash is before its first `%` or backslash, what is in it is written as it is, and ends there.
abbrev pub unencoded : List ℕ → List ℕ
unencoded part = if has slash (before_escape part) then before_escape part else encoded_front part

-- the text begins as a vector of v3 or v4.0 without its prefix: with the metric AV, and has PR or UI after a slash
abbrev pub lacks_prefix : List ℕ → Bool
lacks_prefix text = begins_metrics text && has_like_any metrics_after_v2 text

-- the text begins as an encoded vector of v2: with the metric AV, and has Au after a slash
abbrev pub is_encoded_v2 : List ℕ → Bool
is_encoded_v2 text = begins_metrics text && has_like_any encoded_metrics_of_v2 text

-- the two bytes end a label before a vector of CVSS v2, as in `vector:AV:N` and `7.5/AV:N`
abbrev pub ends_label : ℕ → ℕ → Bool
ends_label before last = (last == colon) || (is_ascii_digit before && (last == slash))

-- how long the label is before the first `AV:` that has one
abbrev pub label_length : List ℕ → Option ℕ
label_length [] = None
label_length (byte ∷ []) = None
label_length (byte ∷ next ∷ rest) =
    if ends_label byte next && starts_with nat_eq rest (codes "AV:") then Some 2
    else option_map suc (label_length (next ∷ rest))
