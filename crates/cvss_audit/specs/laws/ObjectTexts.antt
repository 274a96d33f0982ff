-- What the texts that `cvss_json` defines are to a reader of JSON: RFC 8259, sections 4 and 7.
use Rattle.std.specs.Prelude.{◌≡◌, ℕ, List, [], ◌∷◌, ⊤, map}
use Rattle.std.specs.Cmp.Lexicographic.{slice_cmp}
use Rattle.std.specs.List.Sorted.{IsStrictlySortedBy}
use Rattle.std.specs.Ordering.{nat_cmp}
use Rattle.json.specs.Print.{quoted}
use Rattle.cvss_json.specs.Json as object
use Rattle.cvss_json.specs.Json.{string_text}
use Rattle.cvss_audit.specs.Members.{Member}
use Rattle.cvss_audit.specs.Texts.{IsTextOf}

-- the string needs no escape
abbrev pub IsUnescaped : List ℕ → Type 0
IsUnescaped text = string_text text ≡ quoted text

-- a member as it is written: its name needs no escape, and its text is one of its value
pub record IsMemberText (member : Member) (written : object.Member) : Type 0 where
  pub name : written.0 ≡ member.0
  pub unescaped : IsUnescaped member.0
  pub value : IsTextOf member.1 written.1

-- each of the members as it is written
abbrev pub AreMemberTexts : List Member → List object.Member → Type 0
AreMemberTexts [] [] = ⊤
AreMemberTexts (member ∷ members) (text ∷ texts) = IsMemberText member text × AreMemberTexts members texts
AreMemberTexts _ _ = ⊥

-- the members are in the order of their names, and no two have one name
abbrev pub AreInOrder : List Member → Type 0
AreInOrder members = IsStrictlySortedBy (slice_cmp nat_cmp) (map (λ member. member.0) members)
