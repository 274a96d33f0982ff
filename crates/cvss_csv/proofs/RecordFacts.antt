-- Records and fields of small texts, by computation: the examples of RFC 4180, section 2, and what it leaves open.
use Rattle.std.proofs.Common.{◌≡◌, ℕ, true, List, [], ◌∷◌, ◌++◌, codes, map, refl}
use Rattle.cvss_csv.specs.Fields.{fields, value}
use Rattle.cvss_csv.specs.Records.{is_open, records}

-- the values of each record
abbrev values : List ℕ → List (List (List ℕ))
values text = map (λ each. map value (fields each.body)) (records text)

-- rule 6: line breaks in a quoted field
line_break_in_quotes : values (codes "\"aaa\",\"b" ++ 13 ∷ 10 ∷ (codes "bb\",\"ccc\"" ++ 13 ∷ 10 ∷ codes "zzz,yyy,xxx"))
    ≡ (codes "aaa" ∷ (codes "b" ++ 13 ∷ 10 ∷ codes "bb") ∷ codes "ccc" ∷ []) ∷ (codes "zzz" ∷ codes "yyy" ∷ codes "xxx" ∷ []) ∷ []
line_break_in_quotes = refl

-- rule 7: a doubled quote
doubled_quote : values (codes "\"aaa\",\"b\"\"bb\",\"ccc\"") ≡ (codes "aaa" ∷ codes "b\"bb" ∷ codes "ccc" ∷ []) ∷ []
doubled_quote = refl

-- a quote inside an unquoted field is a byte of its value, and what follows a closing quote belongs to the field
other_quotes : values (codes "a\"b,\"c\"d\"") ≡ (codes "a\"b" ∷ codes "cd\"" ∷ []) ∷ []
other_quotes = refl

-- an empty text has no record, and an empty line is one
empty_line : values (10 ∷ codes "a" ++ 10 ∷ []) ≡ ([] ∷ []) ∷ (codes "a" ∷ []) ∷ []
empty_line = refl

-- the end of the text does not close a field
unclosed : is_open (codes "a,\"b") ≡ true
unclosed = refl
