-- Rows that are written one after another.
use Rattle.std.proofs.Common.{◌≡◌, ℕ, ◌<◌, ◌+◌, Bool, true, false, List, [], ◌∷◌, ◌++◌, All, length, take, get_or, sym, ap, ◌∙◌, subst, refl, append_assoc, append-nil}
use Rattle.std.proofs.lemmas.List.Elements.{All-get_or, filter_more}
use Rattle.std.specs.List.{filter}
use Rattle.cvss_triage.specs.Rows.{AreRowTexts}
use Rattle.cvss_triage.specs.declared.row.Row.{Row}
use Rattle.cvss_triage.specs.private.Steps.{IsToTen, WritesRow}

module _ (IsText : Row → List ℕ → Type 0) where
  texts_added : (rows : List Row) (row : Row) (text first : List ℕ) → AreRowTexts IsText rows text → IsText row first → AreRowTexts IsText (rows ++ row ∷ []) (text ++ first)
  texts_added [] row text first are is = (first, [], ap (λ each. each ++ first) are ∙ sym (append-nil first), is, refl)
  texts_added (one ∷ rows) row text first (head, more, same, own, are) is =
      (head, more ++ first, ap (λ each. each ++ first) same ∙ append_assoc head more first, own, texts_added rows row more first are is)

  -- no row is written yet
  pub texts_none : (old : List ℕ) → WritesRow (AreRowTexts IsText []) old old
  texts_none old = record { text = []; is_text = refl; written = sym (append-nil old) }

  module _ (p : Row → Bool) (rows : List Row) (index : ℕ) (d : Row) (old text : List ℕ) (below : index < length rows) (are : WritesRow (AreRowTexts IsText (filter p (take index rows))) old text) where
    -- one row more that passes a test
    pub texts_more : (new : List ℕ) → p (get_or rows index d) ≡ true → WritesRow (IsText (get_or rows index d)) text new → WritesRow (AreRowTexts IsText (filter p (take (index + 1) rows))) old new
    texts_more new passes writes = record {
      text = are.text ++ writes.text;
      is_text =
          rw (filter_more p rows index d below)
          (rw passes (texts_added (filter p (take index rows)) (get_or rows index d) are.text writes.text are.is_text writes.is_text));
      written = writes.written ∙ ap (λ each. each ++ writes.text) are.written ∙ append_assoc old are.text writes.text;
    }

    -- and one that does not
    pub texts_kept : p (get_or rows index d) ≡ false → WritesRow (AreRowTexts IsText (filter p (take (index + 1) rows))) old text
    texts_kept fails = record {
      text = are.text;
      is_text =
          rw (filter_more p rows index d below)
          (rw fails (subst (λ all. AreRowTexts IsText all are.text) (sym (append-nil (filter p (take index rows)))) are.is_text));
      written = are.written;
    }

-- the score of one of the rows can be written
pub to_ten_at : (rows : List Row) (index : ℕ) (d : Row) → index < length rows → All IsToTen rows → IsToTen (get_or rows index d)
to_ten_at rows index d below all = All-get_or IsToTen rows index d below all
