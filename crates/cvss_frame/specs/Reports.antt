-- What a command reports on standard error.
use Rattle.std.specs.Prelude.{◌≡◌, ◌⊎◌, ℕ, Bool, true, false, List, ◌++◌, codes, take, Option, None, IfSome, Result, Ok, Err}
use Rattle.std.specs.Fmt.Cut.{IsTextOrCut}
use Rattle.std.specs.Io.KnownBytes.{Appends, Keeps}
use Rattle.cvss_lines.specs.declared.fault.RunFault.{RunFault}
use Rattle.cvss_lines.specs.declared.fault.RunFault.TheVariants.{Read, Write, Memory}
use Rattle.cvss_frame.specs.Names.{shown_bytes, shown_name}
use Rattle.cvss_frame.specs.declared.report.Report.{Report}

-- how far a command has come with its reports: whether a write to standard error has failed, and the bytes that standard
-- error has, where they are known
pub record Reported : Type 0 where
  pub failed : Bool
  pub bytes : Option (List ℕ)

abbrev pub reported : {E : Type 0} → (E → Option (List ℕ)) → Report E → Reported
reported contents report = record { failed = report.has_failed; bytes = contents report.writer }

-- the text is written, or a beginning of it where a write fails; once one has failed, nothing is written. The Booleans: one
-- has failed before, and after.
abbrev pub ReportsBy : Bool → Bool → Option (List ℕ) → Option (List ℕ) → List ℕ → Type 0
ReportsBy true failed written written' text = (failed ≡ true) × Keeps written written'
ReportsBy false false written written' text = Appends written written' text
ReportsBy false true written written' text = (count : ℕ) × Appends written written' (take count text)

-- the text is reported after what was
abbrev pub Reports : Reported → Reported → List ℕ → Type 0
Reports old new text = ReportsBy old.failed new.failed old.bytes new.bytes text

-- a name as it is shown, or by its bytes where memory runs out
abbrev pub IsShown : List ℕ → List ℕ → Type 0
IsShown name shown = (shown ≡ shown_name name) ⊎ (shown ≡ shown_bytes name)

-- a text is reported with a name in it, as it is shown
pub record ReportsAbout (before name after : List ℕ) (old new : Reported) : Type 0 where
  pub shown : List ℕ
  pub shows : IsShown name shown
  pub reports : Reports old new (before ++ (shown ++ after))

-- an error is reported that prints this text, if that is known, and what it is about: no contract says what an error of the
-- system prints. A text of more than 320 bytes is cut.
pub record ReportsError (printed : Option (List ℕ)) (name : List ℕ) (old new : Reported) : Type 0 where
  pub words : List ℕ
  pub are : IfSome printed (λ text. IsTextOrCut 320 text words)
  pub reports : ReportsAbout (codes "cvss: ") name (codes ": " ++ (words ++ codes "\n")) old new

-- the error is reported where an operand cannot be read, and nothing otherwise
abbrev pub ReportsUnread : {X : Type 0} → List ℕ → Result X RunFault → Reported → Reported → Type 0
ReportsUnread name (Ok read) old new = new ≡ old
ReportsUnread name (Err Read) old new = ReportsError None name old new
ReportsUnread name (Err Write) old new = new ≡ old
ReportsUnread name (Err Memory) old new = new ≡ old
