-- The canonical text of what another text denotes, and why it denotes nothing: CVSS v2 guide, section
-- 2.4; v3.1 specification, section 6.
use Rattle.std.specs.Prelude.{◌≡◌, ◌⊎◌, ℕ, List, Option}
use Rattle.cvss.specs.ErrorType.{Error}
use Rattle.cvss.specs.ErrorType.TheVariants.{OutOfMemory}
use Rattle.cvss.specs.Rejection.{Rejection}
use Rattle.cvss.specs.Reported.{ReportsFirst}
use Rattle.cvss.specs.Version.{Version, canonical_text, Denotes}

-- the text denotes such a vector, whose canonical text is what was printed
pub record IsCanonicalTextOf {V K : Type 0} (version : Version V K) (IsVector : V → Type 0) (text printed : List ℕ) : Type 0 where
  pub vector : V
  pub denoted : Denotes version text vector
  pub is_vector : IsVector vector
  pub is : printed ≡ canonical_text version vector

-- the error says the first reason for a rejection; or there was no memory
abbrev pub ReportsRejection : {K : Type 0} → (Error → Option (Rejection K)) → (Rejection K → Type 0) → Error → Type 0
ReportsRejection own IsFirst error = ReportsFirst own IsFirst error ⊎ (error ≡ OutOfMemory)
