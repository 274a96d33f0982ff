-- Where a document is from, and how it is answered.
use Rattle.std.specs.Prelude.{ℕ, Bool, List, Option, Some, option_map}
use Rattle.cvss_audit.specs.declared.documents.input.AuditForm.{AuditForm}
use Rattle.cvss_audit.specs.declared.documents.input.Input as code
use Rattle.cvss_report.specs.declared.gate.Gate.{Gate}

pub record Input : Type 0 where
  -- the name of its file, if answers say it
  pub file : Option (List ℕ)
  -- the number of its line, if there is one document a line
  pub line : Option ℕ
  -- its vectors may lack base metrics
  pub allow_incomplete : Bool
  -- how answers are written
  pub form : AuditForm
  -- which vectors are passed over, and on which the audit fails
  pub gate : Gate

-- an input, as the code holds it
abbrev pub input_view : code.Input → Input
input_view input = record {
  file = option_map (λ file. file.now) input.file;
  line = input.line;
  allow_incomplete = input.allow_incomplete;
  form = input.form;
  gate = input.gate;
}

-- the document on the line of this number in the same file
abbrev pub line_of : Input → ℕ → Input
line_of input number = record input { line = Some number }
