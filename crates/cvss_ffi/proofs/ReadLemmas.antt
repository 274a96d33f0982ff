-- What is reported of a text that is rejected.
use Rattle.std.proofs.Common.{ℕ, List, None, ap, inl, inr}
use Rattle.cvss_vector.proofs.ErrorLemmas.{said_of_bytes}
use Rattle.cvss_vector.specs.Complete.{IsMissingError, IsReadErrorBy}
use Rattle.cvss_vector.specs.declared.rejection.ReadError.{ReadError}
use Rattle.cvss_vector.specs.declared.rejection.ReadError.TheVariants.{NotUtf8, Invalid}
use Rattle.cvss_vector.specs.Reasons.{said_of}
use Rattle.cvss_ffi.specs.Accepted.{may_lack}
use Rattle.cvss_ffi.specs.Calls.{ReportsMissing, IsWhy}
use Rattle.cvss_ffi.specs.Errors.{not_utf8, report_of}

-- a metric that is missing is reported as such
reported_missing : (flags : ℕ) (text : List ℕ) (error : ReadError) → IsMissingError (may_lack flags) text error → ReportsMissing flags text (said_of (report_of None) not_utf8 error)
reported_missing flags text NotUtf8 missing = absurd (missing.is missing.utf8)
reported_missing flags text (Invalid rejection) missing = record {
  cvss = missing.cvss;
  denoted = missing.denoted;
  metric = missing.metric;
  missing = missing.missing;
  is = ap (report_of None) missing.is.1;
}

-- what is reported of an error that is right
pub reported_error : (flags : ℕ) (text : List ℕ) (error : ReadError) → IsReadErrorBy (may_lack flags) text error → IsWhy flags text (said_of (report_of None) not_utf8 error)
reported_error flags text error (inl rejected) = inl (said_of_bytes (report_of None) not_utf8 text error rejected)
reported_error flags text error (inr missing) = inr (reported_missing flags text error missing)
