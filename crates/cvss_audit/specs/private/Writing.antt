-- What is written for a location and a document, after the earlier answers.
use Rattle.std.specs.Prelude.{◌≡◌, ◌≢◌, ℕ, ◌⊎◌, Bool, true, false, List, [], ◌++◌, flat_map, take, Option}
use Rattle.std.specs.Io.KnownBytes.{Appends}
use Rattle.cvss_lines.specs.Answers.{written_text}
use Rattle.cvss_lines.specs.Streaming.{Stops, Streams}
use Rattle.cvss_audit.specs.Locations.{Location}
use Rattle.cvss_lines.specs.declared.summary.Summary.{Summary}
use Rattle.cvss_lines.specs.declared.fault.RunFault.{RunFault}
use Rattle.cvss_lines.specs.declared.fault.RunFault.TheVariants.{Read, Write, Memory}
use Rattle.cvss_audit.specs.Answers.{AreFound, Begins, BeginsFound, Found, IsAnswer, IsFound, all_agree, written_found}
use Rattle.cvss_audit.specs.Inputs.{Input}

-- a text like this and a byte 10 are written after the earlier answers
pub record WritesLine (P : List ℕ → Type 0) (old new : List ℕ) : Type 0 where
  pub text : List ℕ
  pub is : P text
  pub written : new ≡ old ++ written_text text

-- texts like these are written after the earlier answers, each with a byte 10
pub record WritesTexts (P : List (List ℕ) → Type 0) (old new : List ℕ) : Type 0 where
  pub texts : List (List ℕ)
  pub are : P texts
  pub written : new ≡ old ++ flat_map written_text texts

-- what is found at the location is written after the earlier answers
pub record WritesLocation (input : Input) (location : Location) (old new : List ℕ) (agrees : Bool) : Type 0 where
  pub found : Found
  pub is_found : IsFound input location found
  pub reported : agrees ≡ found.agrees
  pub written : new ≡ old ++ flat_map written_text found.texts

-- nothing is written of what is found, or all that waited and what is found at the first of the locations
abbrev pub PassFound : Input → List Location → List ℕ → List ℕ → Type 0
PassFound input locations old passed =
    (passed ≡ []) ⊎ ((begun : List ℕ) × BeginsFound input locations begun × (passed ≡ old ++ begun))

-- what is found at the first of the locations follows what waited, of which some may be written; the others are left
pub record StreamsFound (input : Input) (locations left : List Location) (old new : List ℕ) (written written' : Option (List ℕ))
    (agree : Bool) : Type 0 where
  pub seen : List Location
  pub split : locations ≡ seen ++ left
  pub found : List Found
  pub are_found : AreFound input seen found
  pub reported : agree ≡ all_agree found
  pub passed : List ℕ
  pub pass : PassFound input locations old passed
  pub appended : Appends written written' passed
  pub together : passed ++ new ≡ old ++ written_found found

-- memory was refused, or a write failed, before all locations were answered
pub record LacksFound (input : Input) (locations : List Location) (old : List ℕ) (written written' : Option (List ℕ)) : Type 0 where
  pub passed : List ℕ
  pub pass : PassFound input locations old passed
  pub appended : Appends written written' passed

pub record FailsFound (input : Input) (locations : List Location) (old : List ℕ) (written written' : Option (List ℕ)) : Type 0 where
  pub begun : List ℕ
  pub begins : BeginsFound input locations begun
  pub count : ℕ
  pub appended : Appends written written' (take count (old ++ begun))

pub record StopsFound (input : Input) (locations : List Location) (old : List ℕ) (written written' : Option (List ℕ))
    (fault : RunFault) : Type 0 where
  pub no_read : fault ≢ Read
  pub memory : fault ≡ Memory → LacksFound input locations old written written'
  pub write : fault ≡ Write → FailsFound input locations old written written'

-- the text of a document is answered after what waited
abbrev pub Answers : Input → List ℕ → List ℕ → List ℕ → Option (List ℕ) → Option (List ℕ) → Bool → Type 0
Answers input text = Streams (λ _. IsAnswer input) (λ _. Begins input) 1 text

-- a fault in the midst of the text
abbrev pub StopsAnswering : Input → List ℕ → List ℕ → Option (List ℕ) → Option (List ℕ) → RunFault → Type 0
StopsAnswering input text = Stops (λ _. Begins input) 1 text

-- the counts of one answer
abbrev pub summary_of_one : Bool → Summary
summary_of_one true = record { accepted = 1; rejected = 0 }
summary_of_one false = record { accepted = 0; rejected = 1 }
