-- How it ends to answer a file.
use Rattle.std.proofs.Common.{◌≡◌, ◌⊎◌, ℕ, ◌==◌, ◌||◌, Bool, List, [], ◌++◌, length, Option, None, Some, Result, inl, inr, sym, ap, ◌∙◌, subst, append-nil}
use Rattle.std.specs.Fmt.{option_append}
use Rattle.std.specs.Io.KnownBytes.{Consumes}
use Rattle.cvss_lines.specs.declared.fault.RunFault.{RunFault}
use Rattle.cvss_lines.specs.declared.summary.Summary.{Summary}
use Rattle.cvss_audit.specs.Files.{AnswersBy, Are, AreByLine, HasFirstText, IsBeginning, is_by_line, is_json}
use Rattle.cvss_frame.specs.Operands.{Ending}
use Rattle.cvss_audit.proofs.FilesLemmas.{first_text_settled}

-- what is read again is what was there
joined : (u u' : Option (List ℕ)) (beginning : List ℕ) → Consumes u u' beginning → Are u (option_append (Some beginning) u')
joined None u' beginning consumed = tt
joined (Some bytes) None beginning consumed = absurd consumed
joined (Some bytes) (Some rest) beginning consumed = ap Some (sym consumed)

-- the beginning decides for all
decided : (u u' : Option (List ℕ)) (beginning : List ℕ) (b : Bool) → IsBeginning beginning u u' → b ≡ is_by_line beginning → AreByLine b u
decided None u' beginning b is by = tt
decided (Some bytes) None beginning b is by = absurd is.consumed
decided (Some bytes) (Some rest) beginning b is by = go is.decided where
  go : HasFirstText beginning ⊎ (rest ≡ []) → is_by_line bytes ≡ b
  go (inl has) = ap is_by_line is.consumed ∙ ap (λ text. (length text == 0) || is_json text) (first_text_settled beginning rest has) ∙ sym by
  go (inr at_end) = ap is_by_line (is.consumed ∙ ap (λ rest. beginning ++ rest) at_end ∙ append-nil beginning) ∙ sym by

-- what follows the beginning is answered as the beginning decides
pub AnswersBy-beginning : (ends : Ending) (by_line : Bool) (u u' w w' : Option (List ℕ)) (outcome : Result Summary RunFault) (beginning : List ℕ) (bytes left : Option (List ℕ))
    → IsBeginning beginning u u' → by_line ≡ is_by_line beginning → bytes ≡ option_append (Some beginning) u' → ends bytes left w w' outcome
    → AnswersBy ends by_line u w w' outcome
AnswersBy-beginning ends by_line u u' w w' outcome beginning bytes left is by are ended = record {
  are_by_line = decided u u' beginning by_line is by;
  bytes = bytes;
  are = subst (Are u) (sym are) (joined u u' beginning is.consumed);
  left = left;
  ended = ended;
}
