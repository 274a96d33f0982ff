-- What `cvss score --count` prints.
use Rattle.std.specs.Prelude.{◌≡◌, ◌⊎◌, ℕ, List, take, Option, Some, None, Err}
use Rattle.std.specs.Global.{Vec}
use Rattle.std.specs.Io.KnownBytes.{Appends}
use Rattle.cvss_frame.specs.Exit.{after}
use Rattle.cvss_frame.specs.Operands.{Endings, ServesAll}
use Rattle.cvss_frame.specs.State.{State}
use Rattle.cvss_frame.specs.declared.served.Served.{Served}
use Rattle.cvss_lines.specs.declared.fault.RunFault.{RunFault}
use Rattle.cvss_lines.specs.declared.fault.RunFault.TheVariants.{Memory, Write}
use Rattle.cvss_report.specs.Tallies.{count_text}
use Rattle.cvss_report.specs.declared.tally.Tally.{Tally}

-- so much of a text is written after what was, and nothing else changes
abbrev pub WritesSome : List ℕ → State → State → Type 0
WritesSome text old new = Appends old.written new.written text × (new ≡ record old { written = new.written })

-- a text is written, or a beginning of it where the writer fails
abbrev pub PrintsText : List ℕ → Served → State → State → Served → Type 0
PrintsText text served old new served' =
    (WritesSome text old new × (served' ≡ served))
    ⊎ (((count : ℕ) × WritesSome (take count text) old new) × (served' ≡ after served (Err Write)))

-- the numbers of lines are printed, which no contract says, or nothing where there is no memory for their text
abbrev pub PrintsNumbers : Served → State → State → Served → Type 0
PrintsNumbers served old new served' =
    ((tally : Tally) × PrintsText (count_text tally) served old new served') ⊎ ((new ≡ old) × (served' ≡ after served (Err Memory)))

-- unless something has stopped the command
abbrev pub PrintsUnless : Option RunFault → Served → State → State → Served → Type 0
PrintsUnless None served old new served' = PrintsNumbers served old new served'
PrintsUnless (Some fault) served old new served' = (new ≡ old) × (served' ≡ served)

abbrev pub PrintsCount : Served → State → State → Served → Type 0
PrintsCount served old new served' = PrintsUnless served.stopped served old new served'

-- the operands are answered, which prints nothing, and then the numbers are
abbrev pub ServesAndCounts : Endings → List (Vec ℕ) → State → State → Served → Type 0
ServesAndCounts ends operands old new served =
    (middle : State) × (answered : Served) × ServesAll ends operands old middle answered × PrintsCount answered middle new served
