-- Vectors in links, in which colons and slashes are percent-encoded (RFC 3986, section 2.1), and in JSON, in which a slash
-- may be after a backslash (RFC 8259, section 7).
use Rattle.std.specs.Prelude.{ℕ, List, [], ◌∷◌, codes, if◌then◌else◌, nat_eq}
use Rattle.std.specs.List.{starts_with}
use Rattle.cvss_base.specs.Text.{colon, slash}
use Rattle.cvss_matches.specs.Parts.{begins_like}

-- the text with `:` for `%3A`, and `/` for `%2F` and for a backslash and a slash
abbrev pub decoded : List ℕ → List ℕ
decoded [] = []
decoded (a ∷ []) = a ∷ []
decoded (a ∷ b ∷ []) = if starts_with nat_eq (a ∷ b ∷ []) (codes "\\/") then slash ∷ [] else a ∷ b ∷ []
decoded (a ∷ b ∷ c ∷ rest) =
    if begins_like (codes "%3A") (a ∷ b ∷ c ∷ []) then colon ∷ decoded rest
    else if begins_like (codes "%2F") (a ∷ b ∷ c ∷ []) then slash ∷ decoded rest
    else if starts_with nat_eq (a ∷ b ∷ []) (codes "\\/") then slash ∷ decoded (c ∷ rest)
    else a ∷ decoded (b ∷ c ∷ rest)
