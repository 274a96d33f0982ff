-- By the rules of which version a text is read: CVSS v2 guide, section 2.4; v3.1 specification, section 6; v4.0
-- specification, section 7.
use Rattle.std.specs.Prelude.{ℕ, List, [], ◌∷◌, codes, if◌then◌else◌, bytes_eq}
use Rattle.cvss_base.specs.Text.{pieces, name_part, value_part, has, colon, dot}

-- why a text says no version that is read: it has one piece or its first piece has no colon; another prefix is
-- before a version; another version is reported
pub data NoVersion : Type 0 where
  OnePiece OtherPrefix OtherVersion : List ℕ → NoVersion

-- where a text is read: by the rules of a version, or nowhere, for a reason that comes before them
pub data Route : Type 0 where
  ToV20 ToV30 ToV31 ToV40 : Route
  ToNoVersion : NoVersion → Route

-- without a dot in what is reported, no version is reported, which only CVSS v2 allows
abbrev pub route_of_parts : List ℕ → List ℕ → Route
route_of_parts prefix reported =
    if has dot reported then
    (if bytes_eq prefix (codes "CVSS") then
    (if bytes_eq reported (codes "3.0") then ToV30
    else (if bytes_eq reported (codes "3.1") then ToV31
    else (if bytes_eq reported (codes "4.0") then ToV40 else ToNoVersion (OtherVersion reported))))
    else ToNoVersion (OtherPrefix prefix))
    else ToV20

-- the first piece says the version; a text has two pieces at least
abbrev pub route_of_pieces : List (List ℕ) → Route
route_of_pieces [] = ToNoVersion (OnePiece [])
route_of_pieces (piece ∷ []) = ToNoVersion (OnePiece piece)
route_of_pieces (piece ∷ next ∷ more) =
    if has colon piece then route_of_parts (name_part piece) (value_part piece)
    else ToNoVersion (OnePiece piece)

abbrev pub route_of : List ℕ → Route
route_of text = route_of_pieces (pieces text)
