-- What a version of CVSS brings to the grammar of vectors, and the words of that grammar: CVSS v2
-- guide, section 2.4; v3.1 specification, section 6; v4.0 specification, section 7.
use Rattle.std.specs.Prelude.{◌≡◌, ℕ, zero, suc, ◌+◌, Bool, List, [], ◌∷◌, ◌++◌, codes, map, Option, IsSome, Contains, IsPermutation, option_map}
use Rattle.std.specs.List.{filter_map}
use Rattle.std.specs.Int.Digits.{digits_of}
use Rattle.cvss_base.specs.Text.{joined, component, read_as}

-- a version, with its vectors V and its metric types K
pub record Version (V K : Type 0) : Type 1 where
  -- names and values are read in any ASCII case, as the Rust crate reads those of v3 and v4
  pub any_case : Bool
  pub name : K → List ℕ
  -- the values of a metric, and how each is spelled
  pub Value : K → Type 0
  pub spelling : (kind : K) → Value kind → List ℕ
  -- a vector is a map from metric types to values
  pub value_of : V → (kind : K) → Option (Value kind)
  -- the order in which a vector is printed
  pub printed : List K
  -- the metrics that each vector has, in the order in which they are missed
  pub mandatory : List K
  -- the metric that a rejected value is reported under
  pub reported_kind : K → K
  -- the piece that says the version, where there is one
  pub front : V → List (List ℕ)
  -- the versions that this piece may say
  pub supported : List (List ℕ)

-- the text as the version reads it
abbrev pub read : {V K : Type 0} → Version V K → List ℕ → List ℕ
read version text = read_as version.any_case text

-- the spelling of a metric's value, as it is read
abbrev pub reading : {V K : Type 0} → (version : Version V K) → (kind : K) → version.Value kind → List ℕ
reading version kind value = read version (version.spelling kind value)

-- the spelling of the vector's value for a metric
abbrev pub held : {V K : Type 0} → Version V K → V → K → Option (List ℕ)
held version v kind = option_map (version.spelling kind) (version.value_of v kind)

-- the component that a vector has for a metric
abbrev pub component_of : {V K : Type 0} → Version V K → V → K → Option (List ℕ)
component_of version v kind = option_map (component (version.name kind)) (held version v kind)

-- the vector's components, in printing order
abbrev pub components_of : {V K : Type 0} → Version V K → V → List (List ℕ)
components_of version v = filter_map (component_of version v) version.printed

-- the one text that the vector is printed as
abbrev pub canonical_text : {V K : Type 0} → Version V K → V → List ℕ
canonical_text version v = joined (version.front v ++ components_of version v)

-- the pieces, as they are read, are the vector's components, each exactly once, in any order
pub record AreComponentsOf {V K : Type 0} (version : Version V K) (parts : List (List ℕ)) (v : V) : Type 0 where
  pub each_once : IsPermutation (map (read version) (components_of version v)) (map (read version) parts)

-- the text is the piece that says the version, and then pieces that are the vector's components
pub record Denotes {V K : Type 0} (version : Version V K) (text : List ℕ) (v : V) : Type 0 where
  pub parts : List (List ℕ)
  pub text_is : text ≡ joined (version.front v ++ parts)
  pub components : AreComponentsOf version parts v

-- the vector has each metric that it must have
pub record IsComplete {V K : Type 0} (version : Version V K) (v : V) : Type 0 where
  pub present : (kind : K) → Contains version.mandatory kind → IsSome (version.value_of v kind)

-- the digits of a number, the highest first
abbrev pub numeral : ℕ → List ℕ
numeral zero = codes "0"
numeral (suc n) = map (λ digit. 48 + digit) (digits_of 10 (suc n))

-- the piece that says a version
abbrev pub version_piece : List ℕ → List ℕ
version_piece reported = component (codes "CVSS") reported

-- the vector's piece says a version that is supported
pub record IsSupported {V K : Type 0} (version : Version V K) (v : V) : Type 0 where
  pub reported : List ℕ
  pub front_is : version.front v ≡ version_piece reported ∷ []
  pub supported : Contains version.supported reported

-- a vector after a version piece is well formed: it is complete, and its version is supported
pub record IsWellFormed {V K : Type 0} (version : Version V K) (v : V) : Type 0 where
  pub complete : IsComplete version v
  pub supported : IsSupported version v
