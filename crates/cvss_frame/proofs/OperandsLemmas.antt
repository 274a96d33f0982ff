-- How the answering of operands stops.
use Rattle.std.proofs.Common.{◌≡◌, ℕ, Bool, true, List, ◌∷◌, Option, Some, None, Result, refl, is_some, subst, sym}
use Rattle.std.specs.Global.{Vec}
use Rattle.std.proofs.KnownBytes.{Keeps-refl}
use Rattle.cvss_frame.specs.Exit.{after}
use Rattle.cvss_frame.specs.Operands.{Endings, IsStep, OnStop, Rests, Serves}
use Rattle.cvss_frame.specs.State.{State}
use Rattle.cvss_frame.specs.declared.served.Served.{Served}
use Rattle.cvss_lines.specs.declared.fault.RunFault.{RunFault}
use Rattle.cvss_lines.specs.declared.summary.Summary.{Summary}

OnStop-some : (A B : Type 0) (stopped : Option RunFault) → is_some stopped ≡ true → B → OnStop stopped A B
OnStop-some A B None is stops = absurd (let wrong = is in cc)
OnStop-some A B (Some fault) is stops = stops

Rests-refl : (state : State) → Rests state state
Rests-refl state = record {
  unread_kept = Keeps-refl state.unread;
  written_kept = Keeps-refl state.written;
  report_kept = refl;
  files_kept = refl;
}

-- nothing is answered after an operand where the command stops
pub Serves-stop : (ends : Endings) (many : Bool) (operand : Vec ℕ) (name : List ℕ) (operands left : List (Vec ℕ)) (old new : State) (served served' : Served)
    (outcome : Result Summary RunFault) → left ≡ operand ∷ operands → name ≡ operand.items → IsStep ends many name old new outcome
    → served' ≡ after served outcome → is_some served'.stopped ≡ true → Serves ends many left old new served served'
Serves-stop ends many operand name operands left old new served served' outcome cut named step is some =
    subst (λ left. Serves ends many left old new served served') (sym cut) (
      new,
      outcome,
      subst (λ name. IsStep ends many name old new outcome) named step,
      OnStop-some _ _ (after served outcome).stopped (subst (λ served. is_some served.stopped ≡ true) is some) (Rests-refl new, is),
    )
