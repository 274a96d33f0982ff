-- What a command reads and writes over its operands, where each is a vector, a file or standard input.
use Rattle.std.specs.Prelude.{◌≡◌, ◌⊎◌, ℕ, ◌&&◌, Bool, false, ltb, List, [], ◌∷◌, ◌++◌, codes, count_by, Option, Some, None, Result, Err, if◌then◌else◌}
use Rattle.std.specs.Global.{Vec}
use Rattle.std.specs.Option.{option_map}
use Rattle.std.specs.Io.KnownBytes.{Keeps}
use Rattle.cvss_frame.specs.Exit.{after, nothing_served}
use Rattle.cvss_frame.specs.Marks.{seen}
use Rattle.cvss_frame.specs.Reports.{ReportsUnread}
use Rattle.cvss_frame.specs.Sources.{has_name, source_of}
use Rattle.cvss_frame.specs.State.{State}
use Rattle.cvss_frame.specs.declared.served.Served.{Served}
use Rattle.cvss_frame.specs.declared.sources.Source.{Source}
use Rattle.cvss_frame.specs.declared.sources.Source.TheVariants.{Input, Vector, File}
use Rattle.cvss_lines.specs.declared.fault.RunFault.{RunFault}
use Rattle.cvss_lines.specs.declared.fault.RunFault.TheVariants.{Read, Memory}
use Rattle.cvss_lines.specs.declared.summary.Summary.{Summary}

-- how the answering of an input ends: what is unread and what is written, each before and after, and the outcome
abbrev pub Ending : Type 1
Ending = Option (List ℕ) → Option (List ℕ) → Option (List ℕ) → Option (List ℕ) → Result Summary RunFault → Type 0

-- how the answering of an input ends, by what the answers begin with
abbrev pub Endings : Type 1
Endings = List ℕ → Ending

-- there are several operands that have names
abbrev pub many_files : List (Vec ℕ) → Bool
many_files operands = ltb 1 (count_by (λ operand. has_name (source_of operand.items)) operands)

-- what the answers to an operand begin with: where there are several files, its name and a colon
abbrev pub prefix_of : Bool → List ℕ → List ℕ
prefix_of many operand = if many && has_name (source_of operand) then operand ++ codes ":" else []

-- a reader of these bytes is read, and standard input is not
pub record ReadsApart (ends : Ending) (bytes : Option (List ℕ)) (old new : State) (outcome : Result Summary RunFault) : Type 0 where
  pub left : Option (List ℕ)
  pub ended : ends bytes left old.written new.written outcome
  pub kept : Keeps old.unread new.unread

-- nothing is read or written, because of this
pub record IsUnread (fault : RunFault) (old new : State) (outcome : Result Summary RunFault) : Type 0 where
  pub ended : outcome ≡ Err fault
  pub unread_kept : Keeps old.unread new.unread
  pub written_kept : Keeps old.written new.written

-- what is read and written for one operand, by what it names. A file may be one that cannot be opened, and begin with a
-- byte-order mark.
abbrev pub IsStepOver : Source → Ending → List ℕ → State → State → Result Summary RunFault → Type 0
IsStepOver Input ends operand old new outcome = ends old.unread new.unread old.written new.written outcome
IsStepOver Vector ends operand old new outcome = ReadsApart ends (Some operand) old new outcome
IsStepOver File ends operand old new outcome =
    ReadsApart ends (option_map seen (old.contents operand)) old new outcome ⊎ IsUnread Read old new outcome

-- one operand is answered, or memory runs out before it is read; it is reported if it cannot be read
pub record IsStep (ends : Endings) (many : Bool) (operand : List ℕ) (old new : State) (outcome : Result Summary RunFault) : Type 0 where
  pub step : IsStepOver (source_of operand) (ends (prefix_of many operand)) operand old new outcome ⊎ IsUnread Memory old new outcome
  pub report : ReportsUnread operand outcome old.reported new.reported
  pub files_kept : new.contents ≡ old.contents

-- the one if nothing has stopped the command, else the other
abbrev pub OnStop : Option RunFault → Type 0 → Type 0 → Type 0
OnStop None goes_on stops = goes_on
OnStop (Some fault) goes_on stops = stops

-- nothing more is read, written or reported
pub record Rests (old new : State) : Type 0 where
  pub unread_kept : Keeps old.unread new.unread
  pub written_kept : Keeps old.written new.written
  pub report_kept : new.reported ≡ old.reported
  pub files_kept : new.contents ≡ old.contents

-- the operands are answered in turn, until something stops the command
abbrev pub Serves : Endings → Bool → List (Vec ℕ) → State → State → Served → Served → Type 0
Serves ends many [] old new served served' = Rests old new × (served' ≡ served)
Serves ends many (operand ∷ operands) old new served served' =
    (middle : State) × (outcome : Result Summary RunFault) × IsStep ends many operand.items old middle outcome
    × OnStop (after served outcome).stopped
    (Serves ends many operands middle new (after served outcome) served')
    (Rests middle new × (served' ≡ after served outcome))

-- the operands are answered in turn, or standard input where there is none
abbrev pub ServesAll : Endings → List (Vec ℕ) → State → State → Served → Type 0
ServesAll ends [] old new served =
    (outcome : Result Summary RunFault) × IsStep ends false (codes "-") old new outcome × (served ≡ after nothing_served outcome)
ServesAll ends (operand ∷ operands) old new served =
    Serves ends (many_files (operand ∷ operands)) (operand ∷ operands) old new nothing_served served
