-- What `cvss audit` does.
use Rattle.std.specs.Prelude.{◌≡◌, ◌⊎◌, ℕ, ◌==◌, ◌&&◌, not, unwrap_or, Bool, true, false, List, [], ◌++◌, codes, decimal, Option, Some, None, Err, if◌then◌else◌}
use Rattle.std.specs.Global.{Vec}
use Rattle.cvss_audit.specs.Task.{audit_ends}
use Rattle.cvss_audit.specs.declared.counts.Counts.{Counts}
use Rattle.cvss_audit.specs.declared.task.Asked.{Asked}
use Rattle.cvss_audit.specs.declared.task.Layout.{Layout}
use Rattle.cvss_audit.specs.declared.task.Layout.TheVariants.{Whole, Either}
use Rattle.cvss_audit.specs.declared.documents.input.AuditForm.{AuditForm}
use Rattle.cvss_audit.specs.declared.documents.input.AuditForm.TheVariants.{Disagreements, Objects, DifferingObjects}
use Rattle.cvss_frame.specs.Exit.{after}
use Rattle.cvss_frame.specs.Operands.{Endings, ServesAll}
use Rattle.cvss_frame.specs.Reports.{Reported, Reports}
use Rattle.cvss_frame.specs.State.{State}
use Rattle.cvss_frame.specs.declared.served.Served.{Served}
use Rattle.cvss_lines.specs.declared.fault.RunFault.{RunFault}
use Rattle.cvss_lines.specs.declared.fault.RunFault.TheVariants.{Memory}
use Rattle.cvss_report.specs.declared.gate.Gate.{Gate}
use Rattle.cvss_subcommands.specs.Counting.{ServesAndCounts}
use Rattle.cvss_subcommands.specs.Flags.{counts_of, gate_by}
use Rattle.cvss_subcommands.specs.declared.flags.Flags.{Flags}

-- how inputs hold their documents: each is one if --document is given, and else it is seen from each input
abbrev pub layout_of : Bool → Layout
layout_of document = if document then Whole else Either

-- how the answers of an audit are written, by whether --json and --differing are given
abbrev pub audit_form : Bool → Bool → AuditForm
audit_form false differing = Disagreements
audit_form true false = Objects
audit_form true true = DifferingObjects

-- which vectors are passed over and on which the audit fails: by default none
abbrev pub audit_gate : Flags → Gate
audit_gate flags = unwrap_or (gate_by flags) (record { minimum = 0; fail_on = None; quiet = false })

-- how documents are audited
abbrev pub asked_of : Flags → Asked
asked_of flags = record {
  layout = layout_of flags.document;
  allow_incomplete = flags.allow_incomplete;
  form = audit_form flags.json flags.differing;
  gate = audit_gate flags;
}

-- what follows a word about so many
abbrev pub plural : ℕ → List ℕ
plural count = if count == 1 then [] else codes "s"

-- how many there are of what a word says
abbrev pub counted_text : List ℕ → ℕ → List ℕ → List ℕ
counted_text before count word = before ++ (decimal count ++ (word ++ plural count))

-- the line that says how many documents, vectors and disagreements there were
abbrev pub counts_text : Counts → List ℕ
counts_text counts =
    counted_text (codes "cvss: ") counts.documents (codes " document") ++ (counted_text (codes ", ") counts.vectors (codes " vector")
    ++ (counted_text (codes ", ") counts.disagreements (codes " disagreement") ++ codes "\n"))

-- the numbers are reported, which no contract says, or nothing where there is no memory for the line
abbrev pub ReportsNumbers : Served → Reported → Reported → Served → Type 0
ReportsNumbers served report report' served' =
    (((counts : Counts) × Reports report report' (counts_text counts)) × (served' ≡ served))
    ⊎ ((report' ≡ report) × (served' ≡ after served (Err Memory)))

-- unless something has stopped the command
abbrev pub ReportsUnless : Option RunFault → Served → Reported → Reported → Served → Type 0
ReportsUnless None served report report' served' = ReportsNumbers served report report' served'
ReportsUnless (Some fault) served report report' served' = (report' ≡ report) × (served' ≡ served)

abbrev pub ReportsCounts : Served → Reported → Reported → Served → Type 0
ReportsCounts served report report' served' = ReportsUnless served.stopped served report report' served'

-- the numbers of documents, vectors and disagreements are reported, if no others are printed
abbrev pub has_last_line : Flags → Bool
has_last_line flags = not flags.json && not flags.quiet

-- the inputs are answered, and then the numbers are reported
abbrev pub ServesAndReports : Endings → List (Vec ℕ) → State → State → Served → Type 0
ServesAndReports ends operands old new served =
    (middle : Reported) × (audited : Served) × ServesAll ends operands old (record new { reported = middle }) audited
    × ReportsCounts audited middle new.reported served

-- the documents of the operands are audited; then the numbers of each severity are printed, or those of documents, vectors
-- and disagreements reported: a cell keeps them, of which no contract speaks. The Booleans: --count says so; there is a
-- last line.
abbrev pub AuditsBy : Bool → Bool → Endings → List (Vec ℕ) → State → State → Served → Type 0
AuditsBy true last_line = ServesAndCounts
AuditsBy false true = ServesAndReports
AuditsBy false false = ServesAll

abbrev pub Audits : Flags → List (Vec ℕ) → State → State → Served → Type 0
Audits flags = AuditsBy (counts_of flags) (has_last_line flags) (audit_ends (asked_of flags))
