-- The rows of a record, one after another.
use Rattle.std.proofs.Common.{◌≡◌, ℕ, Bool, true, false, List, [], ◌∷◌, ◌++◌, Some, Option, ap, append_assoc, append-nil, get_or, length, map, refl, subst, sym, take, ◌∙◌, ◌+◌, ◌<◌}
use Rattle.std.proofs.lemmas.Grind.{flat_map-append}
use Rattle.std.proofs.lemmas.List.{map-append, take_more}
use Rattle.cvss_lines.specs.declared.summary.Summary.{Summary}
use Rattle.cvss_csv.specs.Answers.{Answered, IsAnswerBy, IsAnswerTo, searched}
use Rattle.cvss_csv.specs.Cells.{IsReadAs, Names, Nothing, Reason, Verdict, VectorIs, counted_as}
use Rattle.cvss_csv.specs.Fields.{fields}
use Rattle.cvss_csv.specs.Guards.{shown_record}
use Rattle.cvss_csv.specs.Rows.{AreRows, IsRow, WrittenRow, between, later_rows, rows_text}
use Rattle.cvss_csv.specs.Tallies.{IsKept, kept_in}
use Rattle.cvss_csv.specs.Writing.{Writes}
use Rattle.cvss_csv.specs.declared.asked.Asked.{Asked}
use Rattle.cvss_csv.specs.declared.asked.Cells.{Cells}
use Rattle.cvss_csv.specs.declared.different.Different.{Different}
use Rattle.cvss_csv.specs.declared.different.Kept.{Kept}
use Rattle.cvss_csv.specs.private.Answering.{WritesFound, WritesLater, WritesRow, WritesRows}
use Rattle.cvss_csv.specs.private.Counting.{Counts, CountsAll}
use Rattle.cvss_csv.specs.private.Searching.{FindsInAll}
use Rattle.cvss_csv.proofs.CountingLemmas.{CountsAll-push}
use Rattle.cvss_csv.proofs.DifferentLemmas.{kept_push}

-- a text that is read is counted
read_is_counted : (allow : Bool) (text : List ℕ) (verdict : Verdict) → IsReadAs allow text verdict → (accepted : Bool) × (counted_as verdict ≡ Some accepted)
read_is_counted allow text Names is = absurd is
read_is_counted allow text Nothing is = absurd is
read_is_counted allow text (VectorIs cvss) is = (true, refl)
read_is_counted allow text (Reason reason) is = (false, refl)

module _ (asked : Asked) (body line_end : List ℕ) where
  pub row_written : (text old shown read new : List ℕ) (counted : Option Bool) (before after : Summary) → shown ≡ old ++ shown_record asked.guarded body
      → Writes asked (IsReadAs asked.allow_incomplete text) shown read counted → new ≡ read ++ line_end → Counts before counted after
      → WritesRow asked body line_end text old new before after
  row_written text old shown read new counted before after pushed writes ended counts =
      let is_counted = read_is_counted asked.allow_incomplete text writes.verdict writes.is_it in
      let all = shown_record asked.guarded body ++ (writes.cells ++ line_end) in
      record {
        row = record { bytes = all; accepted = is_counted.0 };
        is_row = record {
          verdict = writes.verdict;
          is = writes.is_it;
          cells = writes.cells;
          are = writes.are;
          bytes = refl;
          counts = is_counted.1;
        };
        written = ended ∙ ap (λ ys. ys ++ line_end) (writes.written ∙ ap (λ ys. ys ++ writes.cells) pushed) ∙ simp append_assoc;
        counts = subst (λ c. Counts before c after) (writes.counts ∙ is_counted.1) counts;
      }

  rows_push : (texts : List (List ℕ)) (rows : List WrittenRow) (text : List ℕ) (row : WrittenRow) → AreRows asked body line_end texts rows → IsRow asked body line_end text row
      → AreRows asked body line_end (texts ++ text ∷ []) (rows ++ row ∷ [])
  rows_push [] [] text row are is = (is, tt)
  rows_push [] (first ∷ rows) text row are is = absurd are
  rows_push (each ∷ texts) [] text row are is = absurd are
  rows_push (each ∷ texts) (first ∷ rows) text row are is = (are.0, rows_push texts rows text row are.1 is)

  later_push : (rows : List WrittenRow) (row : WrittenRow) → later_rows line_end (rows ++ row ∷ []) ≡ later_rows line_end rows ++ (between line_end ++ row.bytes)
  later_push rows row =
      flat_map-append (λ (each : WrittenRow). between line_end ++ each.bytes) rows (row ∷ []) ∙ ap (λ more. later_rows line_end rows ++ more) (append-nil (between line_end ++ row.bytes))

  -- no row
  pub later_none : (old : List ℕ) (summary : Summary) → WritesLater asked body line_end [] old old summary summary
  later_none old summary = record { rows = []; are_rows = tt; written = sym (append-nil old); counts = refl }

  -- one more
  pub later_row : (all : List Kept) (index : ℕ) (d : Kept) (old now parted new : List ℕ) (first before after : Summary) → index < length all
      → WritesLater asked body line_end (kept_in (take index all)) old now first before → parted ≡ now ++ between line_end
      → WritesRow asked body line_end (get_or all index d).text.items parted new before after
      → WritesLater asked body line_end (kept_in (take (index + 1) all)) old new first after
  later_row all index d old now parted new first before after below done parts one =
      let more = kept_push (take index all) (get_or all index d) ∙ ap kept_in (sym (take_more all index d below)) in
      let together : new ≡ old ++ (later_rows line_end done.rows ++ (between line_end ++ one.row.bytes)) =
      one.written ∙ ap (λ ys. ys ++ one.row.bytes) (parts ∙ ap (λ ys. ys ++ between line_end) done.written) ∙ simp append_assoc in
      record {
        rows = done.rows ++ one.row ∷ [];
        are_rows = subst (λ texts. AreRows asked body line_end texts (done.rows ++ one.row ∷ [])) more
            (rows_push (kept_in (take index all)) done.rows (get_or all index d).text.items one.row done.are_rows one.is_row);
        written = together ∙ ap (λ ys. old ++ ys) (sym (later_push done.rows one.row));
        counts = subst (λ cs. CountsAll first cs after) (sym (map-append (λ (row : WrittenRow). row.accepted) done.rows (one.row ∷ [])))
            (CountsAll-push first before after (map (λ (row : WrittenRow). row.accepted) done.rows) one.row.accepted done.counts one.counts);
      }

  -- the first, and others
  pub rows_first : (texts more : List (List ℕ)) (text old middle new : List ℕ) (first before after : Summary) → texts ≡ text ∷ more
      → WritesRow asked body line_end text old middle first before → WritesLater asked body line_end more middle new before after
      → WritesRows asked body line_end texts old new first after
  rows_first texts more text old middle new first before after is one later = record {
    rows = one.row ∷ later.rows;
    are_rows = subst (λ ts. AreRows asked body line_end ts (one.row ∷ later.rows)) (sym is) (one.is_row, later.are_rows);
    written = later.written ∙ ap (λ ys. ys ++ later_rows line_end later.rows) one.written ∙ append_assoc old one.row.bytes (later_rows line_end later.rows);
    counts = (before, one.counts, later.counts);
  }

  pub rows_none : (texts : List (List ℕ)) (old : List ℕ) (summary : Summary) → texts ≡ [] → WritesRows asked body line_end texts old old summary summary
  rows_none texts old summary none = record {
    rows = [];
    are_rows = subst (λ ts. AreRows asked body line_end ts []) (sym none) tt;
    written = sym (append-nil old);
    counts = refl;
  }

  -- the rows of what is found
  pub rows_found : (cells : Cells) (old new : List ℕ) (before after : Summary) (empty full : Different) → IsKept empty [] → FindsInAll IsKept (searched cells (fields body)) empty full
      → WritesRows asked body line_end (kept_in full.kept.items) old new before after → WritesFound asked cells body line_end old new before after
  rows_found cells old new before after empty full none finds writes = record {
    answered = record { bytes = rows_text line_end writes.rows; counted = map (λ (row : WrittenRow). row.accepted) writes.rows };
    has_rows = record {
      texts = finds.own;
      are_texts = finds.are_texts;
      different = kept_in full.kept.items;
      are_different = (finds.adds [] none).are;
      rows = writes.rows;
      are_rows = writes.are_rows;
      bytes = refl;
      counts = refl;
    };
    written = writes.written;
    counts = writes.counts;
  }

-- ---- an empty record

pub answer_none : (asked : Asked) (cells : Cells) (is_header : Bool) (body line_end : List ℕ) (answered : Answered) → asked.each ≡ true → body ≡ []
    → answered ≡ record { bytes = []; counted = [] } → IsAnswerTo asked cells is_header body line_end answered
answer_none asked cells is_header body line_end answered is none nothing =
    subst (λ each. IsAnswerBy each asked cells is_header body line_end answered) (sym is)
    (subst (λ (record_body : List ℕ). IsAnswerBy true asked cells is_header record_body line_end answered) (sym none) nothing)
