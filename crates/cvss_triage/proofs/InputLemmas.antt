-- What is ranked of inputs one after another, and of the records of a table.
use denote.Ref.{Bor}
use Rattle.std.proofs.Common.{◌≡◌, ◌<◌, ◌≤◌, ℕ, ◌+◌, ◌-◌, false, List, [], ◌∷◌, ◌++◌, length, drop, get_or, Option, None, Some, option_map, unwrap_or, append_assoc, append-nil, refl, sym, ap, ◌∙◌, subst, arith, length-append}
use Rattle.std.proofs.Math.ListN.{get_or-map}
use Rattle.std.proofs.lemmas.List.{drop_all, drop_more, length-map}
use Rattle.std.proofs.lemmas.List.Elements.{All-tail}
use Rattle.std.specs.List.{AllZip}
use Rattle.std.specs.Slice.{IsItemAt}
use Rattle.cvss_matches.specs.CandidatesLeft.{IsFirstFound, NoneFound}
use Rattle.cvss_matches.specs.Matches.{AreFound, Candidate, IsFound}
use Rattle.cvss_triage.specs.Lines.{lines_in, lines_of}
use Rattle.cvss_triage.specs.Locations.{starts_after, starts_of}
use Rattle.cvss_triage.specs.Reports.{is_unclosed, row_at}
use Rattle.cvss_triage.specs.declared.form.Form.{Form}
use Rattle.cvss_triage.specs.declared.form.Form.TheVariants.{Lines, Records}
use Rattle.cvss_triage.specs.declared.input.Input.{Input}
use Rattle.cvss_triage.specs.declared.lines.CutLine.{CutLine}
use Rattle.cvss_triage.specs.private.Steps.{as_line, rows_of}

-- ---- inputs

module _ {X Y : Type 0} (Is : X → Y → Type 0) (all : List X) (index : ℕ) (old : List Y)
    (so_far : (more : List Y) → AllZip Is (drop index all) more → AllZip Is all (old ++ more)) where
  -- one more
  pub zip_more : (d : X) (y : Y) → index < length all → Is (get_or all index d) y
      → (more : List Y) → AllZip Is (drop (index + 1) all) more → AllZip Is all ((old ++ y ∷ []) ++ more)
  zip_more d y below is more are =
      subst (AllZip Is all) (sym (append_assoc old (y ∷ []) more))
      (so_far (y ∷ more) (subst (λ left. AllZip Is left (y ∷ more)) (sym (drop_more all index d below)) (is, are)))

  -- none is left
  pub zip_all : length all ≤ index → AllZip Is all old
  zip_all past = subst (AllZip Is all) (append-nil old) (so_far [] (subst (λ left. AllZip Is left []) (sym (drop_all index all past)) tt))

module _ (form : Form) (inputs : List Input) (index : ℕ) (old : List (Option CutLine))
    (so_far : rows_of old ++ lines_of form (drop index inputs) ≡ lines_of form inputs) where
  -- the lines of one input more
  pub lines_more : (d : Input) (new : List (Option CutLine)) → index < length inputs → rows_of new ≡ rows_of old ++ lines_in form (get_or inputs index d)
      → rows_of new ++ lines_of form (drop (index + 1) inputs) ≡ lines_of form inputs
  lines_more d new below added =
      let left = lines_of form (drop (index + 1) inputs) in
      ap (λ rows. rows ++ left) added ∙ append_assoc (rows_of old) (lines_in form (get_or inputs index d)) left
      ∙ ap (λ more. rows_of old ++ lines_of form more) (sym (drop_more inputs index d below)) ∙ so_far

  -- no input is left
  pub lines_all : length inputs ≤ index → rows_of old ≡ lines_of form inputs
  lines_all past = sym (append-nil (rows_of old)) ∙ ap (λ left. rows_of old ++ lines_of form left) (sym (drop_all index inputs past)) ∙ so_far

-- how many there are after one input more
pub count_more : (form : Form) (input : Input) (old new : List (Option CutLine)) → rows_of new ≡ rows_of old ++ lines_in form input
    → length new ≡ length old + length (lines_in form input)
count_more form input old new added =
    sym (length-map new (option_map as_line)) ∙ ap length added ∙ length-append (rows_of old) (lines_in form input)
    ∙ ap (λ n. n + length (lines_in form input)) (length-map old (option_map as_line))

-- how many are before the next input
pub starts_more : (form : Form) (inputs : List Input) (index : ℕ) (d : Input) (count next : ℕ) (starts new : List ℕ) → index < length inputs
    → starts ++ starts_after form count (drop index inputs) ≡ starts_of form inputs → new ≡ starts ++ count ∷ [] → next ≡ count + length (lines_in form (get_or inputs index d))
    → new ++ starts_after form next (drop (index + 1) inputs) ≡ starts_of form inputs
starts_more form inputs index d count next starts new below so_far pushed counted =
    let left = drop (index + 1) inputs in
    ap (λ all. all ++ starts_after form next left) pushed ∙ append_assoc starts (count ∷ []) (starts_after form next left)
    ∙ ap (λ n. starts ++ count ∷ starts_after form n left) counted
    ∙ ap (λ all. starts ++ starts_after form count all) (sym (drop_more inputs index d below)) ∙ so_far

-- ---- records

found_after : (passed : List Candidate) (candidate : Candidate) (left : List Candidate) → NoneFound passed → IsFound candidate.text → ¬ (AreFound (passed ++ candidate ∷ left) [])
found_after [] candidate left none is are = are.0 is
found_after (other ∷ passed) candidate left none is are = found_after passed candidate left (All-tail (λ each. ¬ (IsFound each.text)) other passed none) is are.1

-- one that is found is found
pub found_first : (candidates left : List Candidate) (candidate : Candidate) → IsFirstFound candidates candidate left → ¬ (AreFound candidates [])
found_first candidates left candidate first are = found_after first.passed candidate left first.none first.found (subst (λ all. AreFound all []) first.is are)

-- ---- numbers

left_closed : (form : Form) → is_unclosed form None ≡ false
left_closed Lines = refl
left_closed Records = refl

module _ (form : Form) (rows : List (Option CutLine)) (number index : ℕ) (same : index ≡ number - 1) where
  row_is : (item : Option (Bor (Option CutLine))) → IsItemAt rows index item
      → row_at (rows_of rows) number ≡ option_map as_line (unwrap_or (option_map (λ row. row.now) item) None)
  row_is item is =
      ap (λ at. get_or (rows_of rows) at None) (sym same) ∙ get_or-map (option_map as_line) rows index None ∙ ap (option_map as_line) (sym (is.4 (omega arith) None))

  -- what is ranked of what has a number is this
  pub unclosed_at : (row : Bor (Option CutLine)) → IsItemAt rows index (Some row) → is_unclosed form (option_map as_line row.now) ≡ is_unclosed form (row_at (rows_of rows) number)
  unclosed_at row is = ap (is_unclosed form) (sym (row_is (Some row) is))

  -- nothing has the number
  pub none_unclosed : IsItemAt rows index None → false ≡ is_unclosed form (row_at (rows_of rows) number)
  none_unclosed is = sym (ap (is_unclosed form) (row_is None is) ∙ left_closed form)
