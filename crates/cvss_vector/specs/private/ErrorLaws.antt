-- What errors say of one version's metrics is what they say of them as those of any version.
use Rattle.std.specs.Prelude.{◌≡◌, Option, Some, None, Contains, ⊤, refl, option_map}
use Rattle.std.specs.Option.{option_and_then}
use Rattle.std.proofs.Common.{◌∙◌, ap, arith}
use Rattle.cvss_base.specs.Rejection.{Rejection, BadComponent, WrongPrefix, WrongVersion, UnknownName, BadValue, Repeated, Missing}
use Rattle.cvss_base.specs.Reported.{reason_reported}
use Rattle.cvss_base.specs.V2Types.{v2_reason}
use Rattle.cvss_base.specs.V3Types.{v3_reason}
use Rattle.cvss_base.specs.V4Types.{v4_reason}
use Rattle.cvss_base.specs.Version.{Version}
use Rattle.cvss_base.specs.declared.error.Error.{Error}
use Rattle.cvss_base.specs.declared.error.Error.TheVariants.{InvalidComponent}
use Rattle.cvss_base.specs.declared.v2.MetricType as of_v2
use Rattle.cvss_base.specs.declared.v3.MetricType as of_v3
use Rattle.cvss_base.specs.declared.v4.MetricType as of_v4
use Rattle.cvss_vector.specs.Dispatch.{cvss_reason, wrapped}
use Rattle.cvss_vector.specs.declared.metric_type.MetricType.{MetricType}
use Rattle.cvss_vector.specs.declared.metric_type.MetricType.TheVariants.{V2, V3, V4}
use Rattle.cvss_vector.specs.v2.Vector.{v2}
use Rattle.cvss_vector.specs.v3.Vector.{v3}
use Rattle.cvss_vector.specs.v4.Vector.{v4}

-- an error says of this metric that it is missing
abbrev pub HasMissingError : MetricType → Type 0
HasMissingError (V3 kind) = ⊥
HasMissingError _ = ⊤

-- an error that says a version's reason as one of any version says it as the version's own, and there is an error for each
-- mandatory metric that is missing
pub record ErrorLaws {V K : Type 0} (version : Version V K) (wrap : K → MetricType) (reason : Error → Option (Rejection K)) : Type 0 where
  pub own : (error : Error) (own : Rejection K) → reason_reported cvss_reason error ≡ Some (wrapped wrap own) → reason_reported reason error ≡ Some own
  pub missing : (kind : K) → Contains version.mandatory kind → HasMissingError (wrap kind)

-- a reason of any version as one of a version's own, where that has the metric which it names
abbrev unwrapped : {K : Type 0} → (MetricType → Option K) → Rejection MetricType → Option (Rejection K)
unwrapped own (BadComponent piece) = Some (BadComponent piece)
unwrapped own (WrongPrefix prefix) = Some (WrongPrefix prefix)
unwrapped own (WrongVersion reported) = Some (WrongVersion reported)
unwrapped own (UnknownName name) = Some (UnknownName name)
unwrapped own (BadValue kind value) = option_map (λ each. BadValue each value) (own kind)
unwrapped own (Repeated kind) = option_map Repeated (own kind)
unwrapped own (Missing kind) = option_map Missing (own kind)

module _ {K : Type 0} (wrap : K → MetricType) (own : MetricType → Option K) (same : (kind : K) → own (wrap kind) ≡ Some kind) where
  unwrapped-wrapped : (reason : Rejection K) → unwrapped own (wrapped wrap reason) ≡ Some reason
  unwrapped-wrapped = elim [
    | BadValue kind value ↦ ap (option_map (λ each. BadValue each value)) (same kind)
    | Repeated kind ↦ ap (option_map Repeated) (same kind)
    | Missing kind ↦ ap (option_map Missing) (same kind)
    | BadComponent _ ↦ refl
    | _ ↦ refl
  ]

  own_said : (reason : Error → Option (Rejection K)) → ((error : Error) → reason_reported reason error ≡ option_and_then (unwrapped own) (reason_reported cvss_reason error))
      → (error : Error) (said : Rejection K) → reason_reported cvss_reason error ≡ Some (wrapped wrap said) → reason_reported reason error ≡ Some said
  own_said reason each error said is = each error ∙ (ap (option_and_then (unwrapped own)) is ∙ unwrapped-wrapped said)

-- the metric as one of each version
abbrev as_v2 : MetricType → Option of_v2.MetricType
as_v2 (V2 kind) = Some kind
as_v2 _ = None

abbrev as_v3 : MetricType → Option of_v3.MetricType
as_v3 (V3 kind) = Some kind
as_v3 _ = None

abbrev as_v4 : MetricType → Option of_v4.MetricType
as_v4 (V4 kind) = Some kind
as_v4 _ = None

pub v2_errors : ErrorLaws v2 V2 v2_reason
v2_errors = record {
  own = own_said V2 as_v2 (λ kind. refl) v2_reason (elim [ InvalidComponent _ ↦ refl | _ ↦ refl ]);
  missing = λ kind is. tt;
}

pub v3_errors : ErrorLaws v3 V3 v3_reason
v3_errors = record {
  own = own_said V3 as_v3 (λ kind. refl) v3_reason (elim [ InvalidComponent _ ↦ refl | _ ↦ refl ]);
  missing = λ kind is. absurd (omega (arith, is.1));
}

pub v4_errors : ErrorLaws v4 V4 v4_reason
v4_errors = record {
  own = own_said V4 as_v4 (λ kind. refl) v4_reason (elim [ InvalidComponent _ ↦ refl | _ ↦ refl ]);
  missing = λ kind is. tt;
}
