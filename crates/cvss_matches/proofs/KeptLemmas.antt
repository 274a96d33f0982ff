-- What is kept of what is reported of a candidate.
use Rattle.std.proofs.Common.{◌≡◌, ℕ, Bool, true, false, List, [], ◌∷◌, ◌++◌, flat_map, length, Option, Some, refl, sym, ap, ◌∙◌, subst, append-nil, if◌then◌else◌, take}
use Rattle.std.proofs.Math.Seq.{take-append_seam}
use Rattle.cvss_matches.specs.Answers.{Asked, IsKept, IsKeptIf, IsScored, kept_of}
use Rattle.cvss_matches.specs.Matches.{Candidate}
use Rattle.cvss_matches.specs.private.Reporting.{WritesKept, WritesReported, written_as}
use Rattle.cvss_report.specs.Gates.{is_failing, is_passed_over}
use Rattle.cvss_report.specs.declared.gate.Gate.{Gate}

-- what is reported is kept, or taken back where nothing is printed
written_if : (quiet : Bool) (write : List ℕ → List ℕ) (text old middle new : List ℕ) → middle ≡ old ++ write text
    → new ≡ (if quiet then take (length old) middle else middle) → new ≡ old ++ flat_map write (if quiet then [] else (text ∷ []))
written_if true write text old middle new written kept =
    kept ∙ ap (λ bytes. take (length old) bytes) written ∙ take-append_seam old (write text) ∙ sym (append-nil old)
written_if false write text old middle new written kept = kept ∙ written ∙ ap (λ bytes. old ++ bytes) (sym (append-nil (write text)))

pub kept_reported : (quiet failing : Bool) (asked : Asked) (candidate : Candidate) (old middle new : List ℕ) (accepted : Bool) → WritesReported asked candidate old middle accepted
    → new ≡ (if quiet then take (length old) middle else middle)
    → WritesKept (IsKeptIf false quiet failing asked candidate) asked.form old new (if failing then false else accepted)
kept_reported quiet failing asked candidate old middle new accepted writes kept = record {
  kept = kept_of quiet failing writes.reported;
  is_kept = (writes.reported, writes.is_reported, refl);
  accepts = ap (λ was. if failing then false else was) writes.accepts;
  written = written_if quiet (written_as asked.form) writes.reported.text old middle new writes.written kept;
}

-- what is kept of a candidate that is not passed over is let through the gate
pub kept_through : (gate : Gate) (asked : Asked) (candidate : Candidate) (score : Option ℕ) (failing : Bool) (old new : List ℕ) (accepted : Bool) → IsScored asked candidate score
    → is_passed_over gate score ≡ false → failing ≡ is_failing gate score
    → WritesKept (IsKeptIf false gate.quiet failing asked candidate) asked.form old new accepted → WritesKept (IsKept (Some gate) asked candidate) asked.form old new accepted
kept_through gate asked candidate score failing old new accepted scored shown fails writes = record {
  kept = writes.kept;
  is_kept = record {
    score = score;
    scored = scored;
    is = subst (λ over. IsKeptIf over gate.quiet (is_failing gate score) asked candidate writes.kept) (sym shown)
        (subst (λ failing. IsKeptIf false gate.quiet failing asked candidate writes.kept) fails writes.is_kept);
  };
  accepts = writes.accepts;
  written = writes.written;
}

-- nothing is kept of one that is passed over
pub passed_over : (gate : Gate) (asked : Asked) (candidate : Candidate) (score : Option ℕ) (bytes : List ℕ) → IsScored asked candidate score → is_passed_over gate score ≡ true
    → WritesKept (IsKept (Some gate) asked candidate) asked.form bytes bytes true
passed_over gate asked candidate score bytes scored over = record {
  kept = record { texts = []; accepts = true };
  is_kept = record {
    score = score;
    scored = scored;
    is = subst (λ over. IsKeptIf over gate.quiet (is_failing gate score) asked candidate (record { texts = []; accepts = true })) (sym over) refl;
  };
  accepts = refl;
  written = sym (append-nil bytes);
}
