-- The first record of a text.
use Rattle.std.proofs.Common.{◌≡◌, ℕ, ◌<◌, false, List, [], ◌∷◌, ◌++◌, length, map, refl, sym, ap, ◌∙◌, arith, length-append}
use Rattle.cvss_lines.specs.Lines.{all_but_last, last_piece}
use Rattle.cvss_csv.specs.Fields.{line_feed}
use Rattle.cvss_csv.specs.Records.{IsFirstRecord, Record, as_record, ended_record, is_open, is_quoted, last_record, pieces, records}
use Rattle.cvss_csv.specs.private.Cutting.{IsFirstPiece, IsWithin}
use Rattle.cvss_csv.specs.declared.state.State.{State}
use Rattle.cvss_csv.specs.declared.state.State.TheVariants.{Start}
use Rattle.cvss_csv.specs.declared.record.CutRecord.{CutRecord}
use Rattle.cvss_csv.proofs.CuttingLemmas.{cut_first_piece, cut_whole}
use Rattle.cvss_csv.proofs.JoiningLemmas.{some_piece}
use Rattle.cvss_csv.proofs.ReadingLemmas.{end_is_outside, last_record-some}

-- the records of a text by its pieces
abbrev records_by : List (List ℕ) → List Record
records_by parts = map ended_record (all_but_last parts) ++ last_record (last_piece parts)

records_cons : (piece : List ℕ) (parts : List (List ℕ)) → 0 < length parts → records_by (piece ∷ parts) ≡ ended_record piece ∷ records_by parts
records_cons piece [] some = absurd (omega (arith, some))
records_cons piece (part ∷ parts) some = refl

record_is : (one other : Record) → one.body ≡ other.body → one.line_end ≡ other.line_end → one ≡ other
record_is one other body line_end = rw body (rw line_end refl)

-- the first piece of a text is closed
pub piece_closed : (text piece rest : List ℕ) → IsFirstPiece line_feed Start text piece rest → is_open piece ≡ false
piece_closed text piece rest cut = ap is_quoted cut.within.leads ∙ end_is_outside cut.last cut.ends

module _ (text : List ℕ) (first : CutRecord) where
  -- a line feed ends it
  pub first_ended : (piece rest : List ℕ) → IsFirstPiece line_feed Start text piece rest → first.body.now ≡ (ended_record piece).body
      → first.line_end.now ≡ (ended_record piece).line_end → first.unclosed ≡ is_open first.body.now → IsFirstRecord text first rest
  first_ended piece rest cut body line_end unclosed = record {
    are = ap records_by (cut_first_piece line_feed Start text piece rest cut) ∙ records_cons piece (pieces rest) (some_piece line_feed Start rest)
        ∙ ap (λ each. each ∷ records rest) (sym (record_is (as_record first) (ended_record piece) body line_end));
    unclosed = unclosed;
    shorter = omega (arith, ap length cut.is, length-append piece (line_feed ∷ rest));
  }

  -- the end of the text does
  pub first_last : (after : State) → IsWithin line_feed Start text after → 0 < length text → first.body.now ≡ text
      → first.line_end.now ≡ [] → first.unclosed ≡ is_open text → IsFirstRecord text first []
  first_last after within some body line_end unclosed = record {
    are = ap records_by (cut_whole line_feed Start after text within) ∙ last_record-some text some
        ∙ ap (λ each. each ∷ []) (sym (record_is (as_record first) (record { body = text; line_end = [] }) body line_end));
    unclosed = unclosed ∙ sym (ap is_open body);
    shorter = some;
  }
