-- Why there is no vector, as it is reported.
use Rattle.std.specs.Prelude.{List, ℕ, None, Result, Ok, Err}
use Rattle.cvss_vector.specs.Answers.{text_of}
use Rattle.cvss_vector.specs.Reasons.{said_of}
use Rattle.cvss_vector.specs.Rejections.{rejection_of}
use Rattle.cvss_vector.specs.declared.vector.Cvss.{Cvss}
use Rattle.cvss_ffi.specs.Errors.{Report, no_version, not_utf8, report_of}
use Rattle.cvss_ffi.specs.declared.rejection.NoVector.{NoVector}
use Rattle.cvss_ffi.specs.declared.rejection.NoVector.TheVariants.{Text, NoVersion, Metrics}

-- what is reported of a rejection
abbrev pub reported : NoVector → Report
reported (Text error) = said_of (report_of None) not_utf8 error
reported NoVersion = no_version
reported (Metrics index reason) = report_of index (rejection_of reason)

-- the canonical text of the new vector, or why there is none
abbrev pub answered : Result Cvss NoVector → Result (List ℕ) Report
answered (Ok new) = Ok (text_of new)
answered (Err rejection) = Err (reported rejection)
