-- What is written of a finding, text by text.
use Rattle.std.proofs.Common.{◌≡◌, ◌≤◌, ◌-◌, ℕ, List, [], ◌∷◌, ◌++◌, append-nil, arith, false, codes, drop, flat_map, get_or, length, refl, take, sym, ap, ◌∙◌, append_assoc}
use Rattle.std.proofs.lemmas.Grind.{flat_map-append}
use Rattle.std.proofs.lemmas.List.{take_all}
use Rattle.cvss_lines.proofs.TextsLemmas.{one_text}
use Rattle.cvss_lines.specs.Answers.{written_text}
use Rattle.cvss_vector.specs.declared.vector.Cvss.{Cvss}
use Rattle.cvss_audit.specs.Answers.{AreErrorTexts, IsErrorIn}
use Rattle.cvss_audit.specs.Differences.{Difference}
use Rattle.cvss_audit.specs.Inputs.{Input}
use Rattle.cvss_audit.specs.Members.{Member, object_of, with_members}
use Rattle.cvss_audit.specs.Lines.{AreDifferenceLines, AreVectorLines, IsDifferenceLine, missing_lines}
use Rattle.cvss_audit.specs.Objects.{missing_of}
use Rattle.cvss_audit.specs.Locations.{Location}
use Rattle.cvss_audit.specs.private.Writing.{WritesLine, WritesTexts}
use Rattle.cvss_audit.proofs.ObjectLemmas.{with_members-append}
use Rattle.serde_json.specs.Data.{Members, no_members, object}

-- one text is written
pub one_written : (P : List (List ℕ) → Type 0) (text old new : List ℕ) → P (text ∷ []) → new ≡ old ++ written_text text → WritesTexts P old new
one_written P text old new is written = record { texts = text ∷ []; are = is; written = one_text old text new written }

-- a line is written before those of the other differences
pub difference_written : (input : Input) (location : Location) (difference : Difference) (rest : List Difference) (old middle new : List ℕ)
    → WritesLine (IsDifferenceLine input location difference) old middle → WritesTexts (AreDifferenceLines input location rest) middle new
    → WritesTexts (AreDifferenceLines input location (difference ∷ rest)) old new
difference_written input location difference rest old middle new line others = record {
  texts = line.text ∷ others.texts;
  are = (line.is, others.are);
  written = others.written ∙ ap (λ bytes. bytes ++ flat_map written_text others.texts) line.written
      ∙ append_assoc old (written_text line.text) (flat_map written_text others.texts);
}

-- the lines about an accepted vector are written
pub vector_written : (input : Input) (location : Location) (cvss : Cvss) (differences : List Difference) (old middle new : List ℕ)
    → middle ≡ old ++ flat_map written_text (missing_lines input.allow_incomplete input location (missing_of cvss))
    → WritesTexts (AreDifferenceLines input location differences) middle new → WritesTexts (AreVectorLines input location cvss differences) old new
vector_written input location cvss differences old middle new first others =
    let missing = missing_lines input.allow_incomplete input location (missing_of cvss) in
    record {
      texts = missing ++ others.texts;
      are = record { lines = others.texts; are_lines = others.are; are = refl };
      written = others.written ∙ ap (λ bytes. bytes ++ flat_map written_text others.texts) first
          ∙ append_assoc old (flat_map written_text missing) (flat_map written_text others.texts)
          ∙ ap (λ bytes. old ++ bytes) (sym (flat_map-append written_text missing others.texts));
    }

-- the parts of a line about a difference are the line and a byte 10
pub difference_line : (start member says wanted old new : List ℕ)
    → new ≡ (old ++ start) ++ (member ++ (codes ": says " ++ (says ++ (codes ", should be " ++ (wanted ++ codes "\n")))))
    → new ≡ old ++ written_text (start ++ (member ++ (codes ": says " ++ (says ++ (codes ", should be " ++ wanted)))))
difference_line start member says wanted old new is =
    is ∙ append_assoc old start _ ∙ ap (λ bytes. old ++ bytes) (sym (
    append_assoc start (member ++ (codes ": says " ++ (says ++ (codes ", should be " ++ wanted)))) (codes "\n")
    ∙ ap (λ bytes. start ++ bytes) (append_assoc member (codes ": says " ++ (says ++ (codes ", should be " ++ wanted))) (codes "\n")
    ∙ ap (λ bytes. member ++ (codes ": says " ++ bytes)) (append_assoc says (codes ", should be " ++ wanted) (codes "\n")))))

-- a list that is not empty is its first and the others
pub first_and_others : {A : Type 0} (all : List A) (first : A) → 1 ≤ length all → first ≡ get_or all 0 first
    → all ≡ first ∷ take (length all - 1) (drop 1 all)
first_and_others [] first long is = absurd (omega (arith, long))
first_and_others (each ∷ others) first long is =
    ap (λ one. one ∷ others) (sym is) ∙ ap (λ rest. first ∷ rest) (sym (take_all (length (each ∷ others) - 1) others (omega arith)))

-- the object of members that are put after others
pub put_both : (first rest : List Member) (old middle new : Members) → old ≡ no_members → middle ≡ with_members first old
    → new ≡ with_members rest middle → object new ≡ object_of (first ++ rest)
put_both first rest old middle new none is next =
    ap object (next ∙ ap (with_members rest) (is ∙ ap (with_members first) none) ∙ sym (with_members-append first rest no_members))

-- nothing is written
pub none_written : (P : List (List ℕ) → Type 0) (old : List ℕ) → P [] → WritesTexts P old old
none_written P old is = record { texts = []; are = is; written = sym (append-nil old) }

-- the text that says why a text is no document is the only one
pub reason_written : (input : Input) (reason old new : List ℕ) → WritesLine (IsErrorIn input.form input reason) old new
    → WritesTexts (AreErrorTexts false input reason) old new
reason_written input reason old new line =
    one_written (AreErrorTexts false input reason) line.text old new (line.text, line.is, refl) line.written
