-- The members that a version's records may have: each metric has one, and no two have one name.
use Rattle.std.specs.Prelude.{◌≡◌, ℕ, Bool, true, false, ◌&&◌, List, ◌∷◌, map, find, Some, bytes_eq}
use Rattle.std.specs.Cmp.Lexicographic.{slice_cmp}
use Rattle.std.specs.Ordering.{match_ordering, nat_cmp}
use Rattle.cvss_report.specs.Fields.{name_of}
use Rattle.cvss_report.specs.declared.field.Field.{Field}

-- each text is below the next, byte by byte
abbrev pub ascend : List (List ℕ) → Bool
ascend (first ∷ second ∷ rest) = match_ordering (slice_cmp nat_cmp first second) true false false && ascend (second ∷ rest)
ascend _ = true

-- the names ascend, and by its name the member of each of these metrics is found
pub record AreMembers {K : Type 0} (fields : List Field) (metric : K → Field) (kinds : List K) : Type 0 where
  pub in_order : ascend (map name_of fields) ≡ true
  pub each : map (λ kind. find (λ field. bytes_eq (name_of field) (name_of (metric kind))) fields) kinds
      ≡ map (λ kind. Some (metric kind)) kinds
