-- A vector's canonical text is as long as each text that denotes it.
use Rattle.std.proofs.Common.{◌≡◌, ℕ, ◌+◌, ◌-◌, Bool, true, false, List, [], ◌∷◌, ◌++◌, length, map, refl, sym, ap, ◌∙◌, arith, length-append}
use Rattle.std.specs.List.{sum_by}
use Rattle.std.proofs.lemmas.List.{length-map}
use Rattle.std.proofs.lemmas.List.Sorted.{sum_by-IsPermutation}
use Rattle.std.proofs.lemmas.List.Sums.{sum_by-cons, sum_by-append}
use Rattle.cvss_base.specs.Text.{slash, joined, read_as}
use Rattle.cvss_base.specs.Version.{Version, read, components_of, canonical_text, Denotes}
use Rattle.cvss_vector.specs.Answers.{text_of}
use Rattle.cvss_vector.specs.Dispatch.{DenotesCvss}
use Rattle.cvss_vector.specs.v2.Vector.{v2}
use Rattle.cvss_vector.specs.v3.Vector.{v3}
use Rattle.cvss_vector.specs.v4.Vector.{v4}
use Rattle.cvss_vector.specs.declared.vector.Cvss.{Cvss}
use Rattle.cvss_vector.specs.declared.vector.Cvss.TheVariants.{CvssV20, CvssV30, CvssV31, CvssV40}

-- a piece and the slash before it
abbrev piece_length : List ℕ → ℕ
piece_length piece = length piece + 1

-- pieces with slashes between them
joined-length : (parts : List (List ℕ)) → length (joined parts) ≡ sum_by piece_length parts - 1
joined-length [] = refl
joined-length (part ∷ []) = omega arith
joined-length (part ∷ next ∷ parts) =
    omega (arith, length-append part (slash ∷ joined (next ∷ parts)), joined-length (next ∷ parts), sum_by-cons piece_length part (next ∷ parts), sum_by-cons piece_length next parts)

pub read_as-length : (any_case : Bool) (text : List ℕ) → length (read_as any_case text) ≡ length text
read_as-length true text = length-map text _
read_as-length false text = refl

module _ {V K : Type 0} (version : Version V K) where
  sums-read : (parts : List (List ℕ)) → sum_by piece_length (map (read version) parts) ≡ sum_by piece_length parts
  sums-read [] = refl
  sums-read (part ∷ parts) =
      omega (arith, sum_by-cons piece_length (read version part) (map (read version) parts), sum_by-cons piece_length part parts, read_as-length version.any_case part, sums-read parts)

  length_denoted : (text : List ℕ) (v : V) → Denotes version text v → length (canonical_text version v) ≡ length text
  length_denoted text v denoted =
      let own = components_of version v in
      let parts = denoted.parts in
      let front = version.front v in
      joined-length (front ++ own)
      ∙ ap (λ n. n - 1) (omega (arith, sum_by-IsPermutation piece_length _ _ denoted.components.each_once, sums-read own, sums-read parts, sum_by-append piece_length front own, sum_by-append piece_length front parts))
      ∙ sym (joined-length (front ++ parts)) ∙ ap length (sym denoted.text_is)

pub length_denoted_cvss : (text : List ℕ) (cvss : Cvss) → DenotesCvss text cvss → length (text_of cvss) ≡ length text
length_denoted_cvss text (CvssV20 vector) denoted = length_denoted v2 text vector denoted.denoted
length_denoted_cvss text (CvssV30 vector) denoted = length_denoted v3 text vector denoted.denoted
length_denoted_cvss text (CvssV31 vector) denoted = length_denoted v3 text vector denoted.denoted
length_denoted_cvss text (CvssV40 vector) denoted = length_denoted v4 text vector denoted.denoted
