-- How the task of a command to answer CSV ends over an input.
use Rattle.std.specs.Prelude.{◌≡◌, ◌⊎◌, ℕ, List, Option, Result, IfOk, IsErrOf}
use Rattle.cvss_lines.specs.declared.fault.RunFault.{RunFault}
use Rattle.cvss_lines.specs.declared.fault.RunFault.TheVariants.{Read, Write, Memory}
use Rattle.cvss_lines.specs.declared.summary.Summary.{Summary}
use Rattle.cvss_csv.specs.Runs.{AnswersAll, AnswersCut, AnswersEnded, AnswersFirst, AnswersNothing}
use Rattle.cvss_csv.specs.declared.asked.Asked.{Asked}
use Rattle.cvss_csv.specs.declared.asked.Column.{Column}

-- one record is rejected
abbrev pub one_rejected : Summary
one_rejected = record { accepted = 0; rejected = 1 }

-- as a run. An input whose first record lacks the column counts as one rejected record.
pub record TaskEnds (asked : Asked) (column : Column) (unread unread' written written' : Option (List ℕ))
    (outcome : Result Summary RunFault) : Type 0 where
  pub answered : IfOk outcome (λ summary. AnswersAll asked column unread unread' written written' summary
      ⊎ (AnswersNothing column unread unread' written written' × (summary ≡ one_rejected)))
  pub read_fault : IsErrOf outcome Read → AnswersEnded asked column unread unread' written written'
  pub memory_fault : IsErrOf outcome Memory → AnswersFirst asked column unread unread' written written'
  pub write_fault : IsErrOf outcome Write → AnswersCut asked column unread unread' written written'
