use Rattle.std.proofs.Common.{[], append-nil, ◌≡◌, ◌≤◌, ◌<◌, ◌/◌, ◌%◌, ◌∙◌, ℕ, List, ◌++◌, codes, length, take, drop, refl, sym, ap, subst, arith, append_assoc, length-append}
use Rattle.std.proofs.Math.Seq.{drop-append_seam}
use Rattle.std.proofs.lemmas.Bool.{le-leb, lt-leb}
use Rattle.std.proofs.lemmas.Fmt.{decimal_digit, length-decimal-le}
use Rattle.std.proofs.lemmas.List.{length-take-le}
use Rattle.cvss_vector.specs.Answers.{severity_by, score_of_tenths}
use Rattle.cvss_base.specs.Tenths.{tenths_text}
use Rattle.cvss_explain.proofs.ShortLemmas.{severity_short}
use Rattle.cvss_ffi.specs.Buffer.{IsWritten}
use Rattle.cvss_ffi.specs.private.Steps.{IsWrittenAt}
use Rattle.cvss_ffi.proofs.score_line.write_line_of.Goals as goal

-- no text of a score is longer than that of the highest
score_short : (tenths : ℕ) → tenths ≤ 100 → length (tenths_text tenths) ≤ 4
score_short tenths within =
    let units = length-decimal-le 2 (tenths / 10) (omega arith) (omega arith) (omega arith) in
    let digit = ap length (decimal_digit (tenths % 10) (omega arith)) in
    simp length-append (omega (arith, units, digit))

-- a text after which another one was written already
module _ (own rest old middle : List ℕ) (offset reported : ℕ) (own_is : length own ≡ offset) (at : IsWrittenAt offset rest old middle reported) where
  whole : reported ≡ length (own ++ rest)
  whole = omega (arith, at.reported_is, own_is, length-append own rest)

  none_written : length old < reported → IsWritten (own ++ rest) old middle reported
  none_written large = record { reported_is = whole; now_is = rw (lt-leb (length (own ++ rest)) (length old) (omega (arith, whole, large))) (at.left large) }

  both_written : (new : List ℕ) (given : ℕ) → reported ≤ length old → IsWritten own middle new given → IsWritten (own ++ rest) old new reported
  both_written new given fits first =
      let middle_is = at.there fits in
      let taken = length-take-le offset old (omega (arith, fits, at.reported_is)) in
      let after = rw taken at (drop-append_seam (take offset old) (rest ++ drop reported old)) in
      let room : length own ≤ length middle = omega (arith, own_is, taken, ap length middle_is, length-append (take offset old) (rest ++ drop reported old)) in
      record {
        reported_is = whole;
        now_is = rw (le-leb (length (own ++ rest)) (length old) (omega (arith, whole, fits)))
            ((rw (le-leb (length own) (length middle) room) at first.now_is)
            ∙ ap (λ back. own ++ back) (rw (own_is, middle_is) after) ∙ sym (append_assoc own rest (drop reported old))
            ∙ ap (λ n. (own ++ rest) ++ drop n old) whole);
      }

joined : (own tenths rating end : List ℕ) → own ++ (codes " " ++ (tenths ++ (codes " " ++ (rating ++ (end ++ []))))) ≡ own ++ codes " " ++ (tenths ++ codes " " ++ rating) ++ end
joined own tenths rating end = simp (append_assoc, append-nil) refl

pub write_segments-length-requires : goal.write_segments-length-requires
write_segments-length-requires c =
    simp length-append (omega (arith, c.requires.bound, c.requires.short, ap length c.words.ensures, ap length c.words-2.ensures, ap length c.words-3.ensures, ap length c.words-4.ensures, ap length c.given.ensures.text, ap length c.text_of.ensures, ap length c.severity_of.ensures, score_short c.overall_tenths-tenths.result c.overall_tenths-tenths.ensures.bound, severity_short (severity_by c.args.cvss.now (score_of_tenths c.overall_tenths-tenths.result))))

pub returns-then-length-buffer : goal.returns-then-length-buffer
returns-then-length-buffer c =
    let tenths = c.overall_tenths-tenths.result in
    let at = rw (c.words.ensures, c.words-2.ensures, c.words-3.ensures, c.words-4.ensures, c.given.ensures.text, c.text_of.ensures, c.severity_of.ensures) at c.write_segments-length.ensures in (
      tenths,
      c.overall_tenths-tenths.ensures.value,
      subst (λ text. IsWritten text c.args.buffer.now c.write_canonical.new.buffer c.write_segments-length.result) (joined _ (tenths_text tenths) _ c.args.end.now)
          (both_written _ _ _ _ _ _ c.requires.length at _ _ (omega (arith, c.if-length-buffer.true, c.write_segments-length.auto.buffer)) c.write_canonical.ensures),
    )

pub returns-else-length-buffer : goal.returns-else-length-buffer
returns-else-length-buffer c =
    let tenths = c.overall_tenths-tenths.result in
    let at = rw (c.words.ensures, c.words-2.ensures, c.words-3.ensures, c.words-4.ensures, c.given.ensures.text, c.text_of.ensures, c.severity_of.ensures) at c.write_segments-length.ensures in (
      tenths,
      c.overall_tenths-tenths.ensures.value,
      subst (λ text. IsWritten text c.args.buffer.now c.write_segments-length.new.buffer c.write_segments-length.result) (joined _ (tenths_text tenths) _ c.args.end.now)
          (none_written _ _ _ _ _ _ c.requires.length at (omega (arith, c.if-length-buffer.false, c.write_segments-length.auto.buffer))),
    )
