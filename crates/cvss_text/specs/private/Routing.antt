-- What the private code of routing holds, in the words of its page.
use Rattle.std.specs.Prelude.{◌≡◌, ℕ, List, ◌∷◌, codes, ⊤}
use Rattle.std.specs.Str.{IsUtf8}
use Rattle.cvss_base.specs.Text.{pieces}
use Rattle.cvss_base.specs.Version.{version_piece}
use Rattle.cvss_text.specs.Route as spec
use Rattle.cvss_text.specs.declared.route.NoVersion.{NoVersion}
use Rattle.cvss_text.specs.declared.route.NoVersion.TheVariants.{InvalidComponent, InvalidPrefix, UnsupportedVersion}
use Rattle.cvss_text.specs.declared.route.Route.{Route}
use Rattle.cvss_text.specs.declared.route.Route.TheVariants.{V20, V30, V31, V40, Unversioned}

-- why no version is reported, as its definition says it
abbrev pub why_of : NoVersion → spec.NoVersion
why_of (InvalidComponent piece) = spec.OnePiece piece.now
why_of (InvalidPrefix prefix) = spec.OtherPrefix prefix.now
why_of (UnsupportedVersion reported) = spec.OtherVersion reported.now

-- it can be reported: its text is UTF-8
abbrev pub IsPrintable : NoVersion → Type 0
IsPrintable (InvalidComponent piece) = IsUtf8 piece.now
IsPrintable (InvalidPrefix prefix) = IsUtf8 prefix.now
IsPrintable (UnsupportedVersion reported) = IsUtf8 reported.now

abbrev pub IsPrintableRoute : Route → Type 0
IsPrintableRoute (Unversioned fault) = IsPrintable fault
IsPrintableRoute _ = ⊤

-- where a text is read, as its definition says it
abbrev pub as_route : Route → spec.Route
as_route V20 = spec.ToV20
as_route (V30 left) = spec.ToV30
as_route (V31 left) = spec.ToV31
as_route (V40 left) = spec.ToV40
as_route (Unversioned fault) = spec.ToNoVersion (why_of fault)

-- the pieces of a text that says its version are the one that says it, and those with which it is handed on
abbrev pub IsAfterVersion : List (List ℕ) → Route → Type 0
IsAfterVersion parts (V30 left) = parts ≡ version_piece (codes "3.0") ∷ pieces left.now
IsAfterVersion parts (V31 left) = parts ≡ version_piece (codes "3.1") ∷ pieces left.now
IsAfterVersion parts (V40 left) = parts ≡ version_piece (codes "4.0") ∷ pieces left.now
IsAfterVersion parts _ = ⊤
