use Rattle.std.proofs.Common.{ℕ, List, [], Option, Err, ◌∙◌, subst, sym}
use Rattle.std.proofs.KnownBytes.{Appends-nil, Consumes-nil}
use Rattle.cvss_frame.proofs.NamesLemmas.{plain_shown}
use Rattle.cvss_lines.specs.Answers.{Rule}
use Rattle.cvss_lines.specs.Runs.{Ends}
use Rattle.cvss_lines.specs.declared.fault.RunFault.TheVariants.{Memory}
use Rattle.cvss_matches.specs.Answers.{find_rule}
use Rattle.cvss_subcommands.proofs.find.Find.find_after_shown.Goals as goal

-- nothing is read or written
ends_unread : (rule : Rule) (unread written : Option (List ℕ)) → Ends rule unread unread written written (Err Memory)
ends_unread rule unread written = record {
  answered = tt;
  read_fault = λ is. absurd (cc);
  memory_fault = λ _. record { input = []; count = 0; answers = []; consumed = Consumes-nil unread; answered = tt; appended = Appends-nil written };
  write_fault = λ is. absurd (cc);
}

pub returns-then-is_plain : goal.returns-then-is_plain
returns-then-is_plain g c =
    let find = c.args.self.now in
    subst (λ prefix. Ends (find_rule find.form find.scoring find.allow_incomplete find.assumed find.gate prefix)
    (g.R.Read.remaining c.args.reader.now) (g.R.Read.remaining c.find_after.new.reader)
    (g.W.Write.contents c.args.writer.now) (g.W.Write.contents c.find_after.new.writer) c.find_after.result)
    (sym (plain_shown c.args.prefix.now (sym c.is_plain.ensures ∙ c.if-is_plain.true))) c.find_after.ensures

pub returns-in-Err : goal.returns-in-Err
returns-in-Err g c = ends_unread _ _ _
