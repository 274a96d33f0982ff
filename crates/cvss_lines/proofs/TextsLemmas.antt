-- What is written of an answer.
use Rattle.std.proofs.Common.{◌≡◌, ℕ, List, [], ◌∷◌, ◌++◌, OnOk, Result, true, false, refl, sym, ap, ◌∙◌, append-nil, flat_map}
use Rattle.std.specs.Fmt.{WritesInCalls}
use Rattle.std.proofs.lemmas.Fmt.{contents_after_writes}
use Rattle.std.proofs.lemmas.Result.{on_ok_weaker}
use Rattle.cvss_lines.specs.Answers.{Accepted, Rejected, WritesAnswer, by_one_text, written_text}
use Rattle.cvss_lines.specs.declared.buffered.OutputBuffer.{OutputBuffer}

-- a text that is written alone is that of the answer
pub one_text : (old text new : List ℕ) → new ≡ old ++ written_text text
    → new ≡ old ++ flat_map written_text (text ∷ [])
one_text old text new is = is ∙ ap (λ bytes. old ++ bytes) (sym (append-nil (written_text text)))

module _ (Accepts Rejects : ℕ → List ℕ → List ℕ → Type 0) (number : ℕ) (line text old new : List ℕ) (written : new ≡ old ++ written_text text) where
  -- a text that accepts its line is written
  pub accepted_by : Accepts number line text → WritesAnswer (by_one_text Accepts Rejects) number line old new true
  unfolding by_one_text
  accepted_by is = record { answer = Accepted (text ∷ []); answers = is; reported = refl; written = one_text old text new written }

  -- a text that rejects its line is written
  pub rejected_by : Rejects number line text → WritesAnswer (by_one_text Accepts Rejects) number line old new false
  unfolding by_one_text
  rejected_by is = record { answer = Rejected (text ∷ []); answers = is; reported = refl; written = one_text old text new written }

-- what is written in some calls follows what waited
pub appended : {T E : Type 0} (result : Result T E) (old new : OutputBuffer) (bytes : List ℕ)
    → OnOk result (WritesInCalls (λ (old : OutputBuffer) (text : List ℕ) (new : OutputBuffer). new.bytes.items ≡ old.bytes.items ++ text) old bytes new)
    → OnOk result (new.bytes.items ≡ old.bytes.items ++ bytes)
appended result old new bytes = on_ok_weaker result
    (contents_after_writes _ (λ (answers : OutputBuffer). answers.bytes.items) (λ old bytes new is. is) old bytes new)
