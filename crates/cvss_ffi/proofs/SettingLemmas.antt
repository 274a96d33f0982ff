-- What metrics make, once a vector of them is looked at for base metrics that it lacks.
use Rattle.std.proofs.Common.{◌≡◌, ℕ, List, Option, Some, None, Result, Ok, Err, IfOk, IfErr, ap, inr, sym, ◌∙◌}
use Rattle.std.specs.Str.{IsUtf8}
use Rattle.cvss_base.specs.Rejection.{Rejection, Missing}
use Rattle.cvss_vector.specs.Answers.{text_of}
use Rattle.cvss_vector.specs.Complete.{missing_by}
use Rattle.cvss_vector.specs.declared.metric_type.MetricType.{MetricType}
use Rattle.cvss_vector.specs.declared.vector.Cvss.{Cvss}
use Rattle.cvss_ffi.specs.Accepted.{may_lack}
use Rattle.cvss_ffi.specs.Errors.{report_of}
use Rattle.cvss_ffi.specs.Setting.{IsMadeOf}
use Rattle.cvss_ffi.specs.declared.rejection.NoVector.{NoVector}
use Rattle.cvss_ffi.specs.private.Rejection.{answered, reported}

-- the metric that is reported is the first that the vector lacks and may not
abbrev pub IsLackOf : ℕ → Cvss → NoVector → Type 0
IsLackOf flags cvss rejection =
    (metric : MetricType) × (missing_by (may_lack flags) cvss ≡ Some metric) × (reported rejection ≡ report_of None (Missing metric))

module _ (flags : ℕ) (IsIt : Cvss → Type 0) (IsWhy : Option ℕ → Rejection MetricType → Type 0) (metrics : List ℕ) (utf8 : IsUtf8 metrics) (new : Cvss) (is : IsIt new) (one : (other : Cvss) → IsIt other → new ≡ other) where
  pub made : (answer : Result Cvss NoVector) → IfOk answer (λ done. (done ≡ new) × (missing_by (may_lack flags) new ≡ None)) → IfErr answer (IsLackOf flags new) → IsMadeOf flags IsIt IsWhy metrics (answered answer)
  made (Ok done) whole lacks = (new, record { utf8 = utf8; is = is; complete = whole.1 }, ap text_of whole.0)
  made (Err rejection) whole (metric, missing, reported_is) = (
    record { none = λ other made. absurd (let no : Some metric ≡ None = sym missing ∙ (ap (missing_by (may_lack flags)) (one other made.is) ∙ made.complete) in cc) },
    inr (inr (record { utf8 = utf8; new = new; is_it = is; metric = metric; missing = missing; is = reported_is })),
  )
