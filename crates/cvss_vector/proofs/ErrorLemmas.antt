-- What is reported of bytes that are the text of no vector, and what an error says of a version's own reason.
use Rattle.std.proofs.Common.{◌≡◌, ℕ, List, Option, inl, inr, refl, sym, ◌∙◌}
use Rattle.cvss_base.specs.Rejection.{Rejection, BadComponent, carries_text}
use Rattle.cvss_base.specs.Reported.{Reports}
use Rattle.cvss_base.specs.Version.{Version}
use Rattle.cvss_base.specs.declared.error.Error.{Error}
use Rattle.cvss_vector.specs.Dispatch.{cvss_reason, wrapped}
use Rattle.cvss_vector.specs.private.ErrorLaws.{ErrorLaws}
use Rattle.cvss_vector.specs.Reasons.{IsSaidOf, said_of}
use Rattle.cvss_vector.specs.Rejections.{IsReadError, rejection_of}
use Rattle.cvss_vector.specs.declared.metric_type.MetricType.{MetricType}
use Rattle.cvss_vector.specs.declared.rejection.ReadError.{ReadError}
use Rattle.cvss_vector.specs.declared.rejection.ReadError.TheVariants.{NotUtf8, Invalid}

-- what is said of an error that is right is said of the bytes
pub said_of_bytes : {X : Type 0} (of_reason : Rejection MetricType → X) (of_no_text : X) (bytes : List ℕ) (error : ReadError) → IsReadError bytes error → IsSaidOf of_reason of_no_text bytes (said_of of_reason of_no_text error)
said_of_bytes of_reason of_no_text bytes NotUtf8 no_text = inl (no_text, refl)
said_of_bytes of_reason of_no_text bytes (Invalid rejection) (utf8, first) =
    inr (record { utf8 = utf8; reason = rejection_of rejection; first = first; is = refl })

-- a reason of one version carries text exactly if it does as one of any version
carries_text-wrapped : {K : Type 0} (wrap : K → MetricType) (own : Rejection K) → carries_text (wrapped wrap own) ≡ carries_text own
carries_text-wrapped wrap = elim [ BadComponent _ ↦ refl | _ ↦ refl ]

-- what says a version's reason as one of any version says it as its own
pub Reports-own : {V K : Type 0} {version : Version V K} {wrap : K → MetricType} {reason : Error → Option (Rejection K)} (laws : ErrorLaws version wrap reason)
    {error : Error} (own : Rejection K) → Reports cvss_reason (wrapped wrap own) error → Reports reason own error
Reports-own laws own (inl said) = inl (laws.own _ own said)
Reports-own {wrap = wrap} laws own (inr (no_memory, carries)) = inr (no_memory, sym (carries_text-wrapped wrap own) ∙ carries)
