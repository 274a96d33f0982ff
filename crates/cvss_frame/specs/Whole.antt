-- What is read of an operand that is read whole before anything is answered.
use Rattle.std.specs.Prelude.{◌≡◌, ℕ, List, Option, Result, IfOk, MatchResult}
use Rattle.std.specs.Global.{Vec}
use Rattle.std.specs.Option.{option_map}
use Rattle.std.specs.Io.KnownBytes.{Consumes, IsAtEnd, Keeps}
use Rattle.cvss_frame.specs.Marks.{seen}
use Rattle.cvss_frame.specs.Reports.{ReportsUnread}
use Rattle.cvss_frame.specs.Sources.{source_of}
use Rattle.cvss_frame.specs.State.{State}
use Rattle.cvss_frame.specs.declared.sources.Source.{Source}
use Rattle.cvss_frame.specs.declared.sources.Source.TheVariants.{Input, Vector, File}
use Rattle.cvss_lines.specs.declared.fault.RunFault.{RunFault}
use Rattle.cvss_lines.specs.declared.fault.RunFault.TheVariants.{Memory}

-- these bytes are all that a reader gives
pub record IsAllOf (unread : Option (List ℕ)) (bytes : Vec ℕ) : Type 0 where
  pub left : Option (List ℕ)
  pub consumed : Consumes unread left bytes.items
  pub at_end : IsAtEnd left

-- what is read of an operand, by what it names, without a byte-order mark; the text of a vector cannot fail to be read, unless memory runs out
abbrev pub ReadsOver : Source → List ℕ → State → State → Result (Vec ℕ) RunFault → Type 0
ReadsOver Input operand old new result =
    IfOk result (λ bytes. Consumes old.unread new.unread bytes.items × IsAtEnd new.unread)
ReadsOver Vector operand old new result =
    MatchResult result (λ bytes. bytes.items ≡ operand) (λ fault. fault ≡ Memory) × Keeps old.unread new.unread
ReadsOver File operand old new result = IfOk result (IsAllOf (option_map seen (old.contents operand))) × Keeps old.unread new.unread

-- an operand is read, and reported if it cannot be; nothing is written
pub record ReadsWhole (operand : List ℕ) (old new : State) (result : Result (Vec ℕ) RunFault) : Type 0 where
  pub read : ReadsOver (source_of operand) operand old new result
  pub report : ReportsUnread operand result old.reported new.reported
  pub written_kept : new.written ≡ old.written
  pub files_kept : new.contents ≡ old.contents
