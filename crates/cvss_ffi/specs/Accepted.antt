-- What is reported of a text: something of the vector that it denotes, or that it is rejected.
use Rattle.std.specs.Prelude.{◌≡◌, ◌⊎◌, ℕ, Bool, bit_and, List, nat_eq, None, not}
use Rattle.cvss_vector.specs.Complete.{missing_by}
use Rattle.cvss_vector.specs.Dispatch.{DenotesCvss}
use Rattle.cvss_vector.specs.declared.vector.Cvss.{Cvss}
use Rattle.cvss_ffi.specs.Buffer.{IsLeft}

-- the first bit of the flags: a vector of CVSS v3 may lack base metrics
abbrev pub may_lack : ℕ → Bool
may_lack flags = not (nat_eq (bit_and flags 1) 0)

-- the text denotes this vector, which lacks no base metric unless it may
pub record IsVectorOf (flags : ℕ) (text : List ℕ) (cvss : Cvss) : Type 0 where
  pub denoted : DenotesCvss text cvss
  pub complete : missing_by (may_lack flags) cvss ≡ None

-- the text denotes such a vector, of which this holds
pub record IsAccepted (flags : ℕ) (text : List ℕ) (IsOf : Cvss → Type 0) : Type 0 where
  pub cvss : Cvss
  pub is : IsVectorOf flags text cvss
  pub holds : IsOf cvss

-- nothing is so
pub record NoneIs {X : Type 0} (IsSo : X → Type 0) : Type 0 where
  pub none : (x : X) → ¬ (IsSo x)

-- the text denotes no such vector
abbrev pub IsRejected : ℕ → List ℕ → Type 0
IsRejected flags text = NoneIs (IsVectorOf flags text)

-- the one holds of the vector that the text denotes, or the text is rejected and the other holds
abbrev pub Answers : ℕ → List ℕ → (Cvss → Type 0) → Type 0 → Type 0
Answers flags text IsOf Otherwise = IsAccepted flags text IsOf ⊎ (IsRejected flags text × Otherwise)

-- what is written of the vector that the text denotes; nothing, where it is rejected
abbrev pub WritesOf : {X : Type 0} → ℕ → List ℕ → (Cvss → List X → List X → ℕ → Type 0) → List X → List X → ℕ → Type 0
WritesOf flags text IsOf old now reported =
    Answers flags text (λ cvss. IsOf cvss old now reported) (IsLeft old now reported)
