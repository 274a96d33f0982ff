-- What the private code that sets metrics does at each step.
use Rattle.std.specs.Prelude.{◌≡◌, ◌⊎◌, ℕ, ◌≤◌, Bool, true, not, if◌then◌else◌, List, length, bytes_eq, Option, Some, None, IfSome, Result, Ok, IfOk, IfErr, IsErrAnd}
use Rattle.std.specs.Option.{option_map_or, option_or}
use Rattle.cvss_base.specs.Rejection.{Rejection, BadComponent}
use Rattle.cvss_base.specs.Text.{IsComponent}
use Rattle.cvss_base.specs.Version.{Version, held}
use Rattle.cvss_text.specs.private.Walk.{IsFaultOf, reason_of}
use Rattle.cvss_text.specs.declared.walk.Fault.{Fault}

-- what is wrong with a component, where the vector holds those before it
abbrev pub IsWrongFor : {V K : Type 0} → Version V K → V → List ℕ → Rejection K → Type 0
IsWrongFor version v piece (BadComponent text) = (text ≡ piece) × ¬ (IsComponent piece)
IsWrongFor version v piece reason = IsComponent piece × IsFaultOf version v piece reason

-- whether a value with this spelling is kept, where one may be left out
abbrev pub is_kept : Option (List ℕ) → Option (List ℕ) → Bool
is_kept None spelling = true
is_kept (Some text) spelling = option_map_or (λ each. not (bytes_eq each text)) spelling true

-- the value of a vector for a metric, unless it is left out
abbrev pub kept : {V K : Type 0} → (version : Version V K) → Option (List ℕ) → V → (kind : K) → Option (version.Value kind)
kept version left_out own kind = if is_kept left_out (held version own kind) then version.value_of own kind else None

-- a vector has this value for a metric where it had none, and keeps all else
pub record IsCopied {V K : Type 0} (version : Version V K) (kind : K) (value : Option (version.Value kind)) (old new : V) : Type 0 where
  pub here : version.value_of new kind ≡ option_or (version.value_of old kind) value
  pub others : (other : K) → (other ≡ kind) ⊎ (version.value_of new other ≡ version.value_of old other)
  pub front : version.front new ≡ version.front old

-- what is answered where these are the vectors and these the reasons: no other vector, and no other reason
pub record IsAnswered {V K : Type 0} (version : Version V K) (IsIt : V → Type 0) (IsReason : Option ℕ → Rejection K → Type 0) (answer : Result V (Option ℕ × Fault K)) : Type 0 where
  pub accepted : IfOk answer IsIt
  pub accepts : (v : V) → IsIt v → answer ≡ Ok v
  pub rejected : IfErr answer (λ rejected. IsReason rejected.0 (reason_of version rejected.1))
  pub rejects : (index : Option ℕ) (reason : Rejection K) → IsReason index reason → IsErrAnd answer (λ rejected. (rejected.0 ≡ index) × (reason_of version rejected.1 ≡ reason))
  pub bound : IfErr answer (λ rejected. IfSome rejected.0 (λ index. index ≤ length version.printed))
