-- How a reason for rejecting a text is reported of the JSON string of the text.
use Rattle.std.specs.Prelude.{◌≡◌, ℕ, List, Result, IfErr, IsErrAnd}
use Rattle.std.proofs.lemmas.Result.{err_from_is_err_and}
use Rattle.cvss_base.specs.declared.error.Error.{Error}
use Rattle.cvss_base.specs.declared.error.Error.TheVariants.{OutOfMemory}
use Rattle.cvss.specs.declared.json.JsonError.{JsonError}
use Rattle.cvss.specs.Json.{ReportsWhy, reported_as}
use Rattle.serde_json.specs.Data.{Data, string}

reported_as_reports : (Rejects : List ℕ → Error → Type 0) (value : Data) (text : List ℕ) (error : Error) → value ≡ string text → Rejects text error → ReportsWhy Rejects value (reported_as error)
reported_as_reports Rejects value text OutOfMemory is holds = record { text = text; is_string = is; holds = holds }
reported_as_reports Rejects value text error is holds = record { text = text; is_string = is; holds = holds }

pub rejection_reports : {T : Type 0} (result : Result T JsonError) (Rejects : List ℕ → Error → Type 0) (value : Data) (text : List ℕ) (error : Error) → IsErrAnd result (λ reported. reported ≡ reported_as error) → value ≡ string text → Rejects text error → IfErr result (ReportsWhy Rejects value)
rejection_reports result Rejects value text error exit is holds =
    let reported = err_from_is_err_and result exit in
    rw (reported.1, reported.2) (reported_as_reports Rejects value text error is holds)
