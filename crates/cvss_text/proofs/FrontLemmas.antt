-- What is answered of a whole text, whether a version piece is before the components or not; and texts after a version
-- piece.
use Rattle.std.proofs.Common.{◌≡◌, ℕ, List, [], ◌++◌, length, drop, take, Result, Ok, Err, sym, ap, ◌∙◌, subst, ◌∷◌, codes, refl, arith, All, Contains, IsUtf8}
use Rattle.std.proofs.lemmas.List.Sums.{get_or-le-sum_by}
use Rattle.std.proofs.lemmas.List.Elements.{All-append, All-nil, All-cons}
use Rattle.std.proofs.lemmas.List.Splits.{join_with_byte-slice_split}
use Rattle.cvss_text.specs.declared.walk.Fault.{Fault}
use Rattle.cvss_text.specs.private.Pieces.{IsAfterComponents}
use Rattle.cvss_base.specs.Text.{slash, pieces, joined, value_part, IsComponent}
use Rattle.cvss_base.specs.Version.{Version, canonical_text, Denotes, IsComplete, AreComponentsOf, version_piece, IsWellFormed}
use Rattle.cvss_base.specs.Rejection.{Rejection, BadComponent, BadPiecesFirst, WrongPrefix, WrongVersion, AreComponentsBefore, IsFirstReason, piece_at, IsReasonAfter, IsFirstRejectionAfter, ReportsVersion}
use Rattle.cvss_base.specs.private.Component.{delimiter_bytes}
use Rattle.cvss_text.specs.private.Walk.{VersionLaws, IsFirstOfPieces, IsBare, reason_of, FrontLaws, IsAnswer, IsAnswerAfter, IsAnswerBare, IsFrontFault, IsPrintable, IsReadLeft, StartsWith}
use Rattle.cvss_text.proofs.CanonicalLemmas.{canonical_text-denotes, denoted_once}
use Rattle.cvss_text.proofs.DenotesLemmas.{pieces_of_complete, no_reason, pieces_of_denoted}
use Rattle.cvss_text.proofs.ComponentLemmas.{are_parts, IsUtf8-parts}
use Rattle.cvss_text.proofs.PieceLemmas.{All-left, AreComponents-after, IsFirstBadPiece-after, IsUtf8-pieces}
use Rattle.cvss_text.proofs.RejectionLemmas.{one_rejection, one_rejection_after}
use Rattle.cvss_text.proofs.TextLemmas.{IsPart, IsPart-component, name_part-component, value_part-component}

-- a text denotes at most one vector that is formed so, has at most one first rejection, and not both; and only texts in
-- UTF-8 denote vectors
pub record IsDecided {V K : Type 0} (version : Version V K) (IsFormed : V → Type 0) (IsReason : Rejection K → Type 0) (text : List ℕ) : Type 0 where
  pub once : (v w : V) → Denotes version text v → IsFormed v → Denotes version text w → IsFormed w → v ≡ w
  pub utf8 : (v : V) → Denotes version text v → IsFormed v → IsUtf8 text
  pub one_reason : (one other : Rejection K) → BadPiecesFirst IsReason (pieces text) one → BadPiecesFirst IsReason (pieces text) other → one ≡ other
  pub none : (v : V) → Denotes version text v → IsFormed v → (reason : Rejection K) → BadPiecesFirst IsReason (pieces text) reason → ⊥

-- a text denotes the vector whose front its pieces begin with, and whose components the others are
pub Denotes-pieces : {V K : Type 0} (version : Version V K) (text : List ℕ) (front left : List (List ℕ)) → pieces text ≡ front ++ left → (v : V) → version.front v ≡ front → AreComponentsOf version left v → Denotes version text v
Denotes-pieces version text front left cut v front_is components = record {
  parts = left;
  text_is = sym (join_with_byte-slice_split slash text) ∙ ap joined (cut ∙ ap (λ each. each ++ left) (sym front_is));
  components = components;
}

-- the pieces that are left of a text in UTF-8
pub IsUtf8-left : (text : List ℕ) (front left : List (List ℕ)) → pieces text ≡ front ++ left → IsUtf8 text → All IsUtf8 left
IsUtf8-left text front left cut is = All-left IsUtf8 (pieces text) front left cut (IsUtf8-pieces text is)

-- the vector that was read, or the fault that was found
abbrev given : {V K : Type 0} → Result (Unit {0}) (Fault K) → V → Result V (Fault K)
given (Ok _) v = Ok v
given (Err fault) v = Err fault

module _ {V K : Type 0} {version : Version V K} {IsFormed : V → Type 0} {IsReason : Rejection K → Type 0} {text : List ℕ} (decided : IsDecided version IsFormed IsReason text) where
  pub IsAnswer-rejected : (fault : Fault K) → BadPiecesFirst IsReason (pieces text) (reason_of version fault) → (IsUtf8 text → IsPrintable version fault) → IsAnswer version IsFormed IsReason text (Err fault)
  IsAnswer-rejected fault first printable = record {
    denoted = tt;
    well_formed = tt;
    accepts = λ w denotes formed. absurd (decided.none w denotes formed (reason_of version fault) first);
    utf8 = tt;
    rejected = first;
    rejects = λ reason other. decided.one_reason (reason_of version fault) reason first other;
    printable = printable;
  }

  -- what is answered, where the pieces after the front of a vector without values were read into it
  IsAnswer-left : (front left : List (List ℕ)) → pieces text ≡ front ++ left → (empty : V) → version.front empty ≡ front → ((v : V) → version.front v ≡ front → IsComplete version v → IsFormed v)
      → ((reason : Rejection K) → IsFirstOfPieces version left reason → BadPiecesFirst IsReason (pieces text) reason) → (answer : Result (Unit {0}) (Fault K)) (v : V) → IsReadLeft version left empty answer v → IsAnswer version IsFormed IsReason text (given answer v)
  IsAnswer-left front left cut empty is forms reasons (Ok _) v read =
      let denotes = Denotes-pieces version text front left cut v (read.front ∙ is) read.components in
      let formed = forms v (read.front ∙ is) read.complete in
      record {
        denoted = denotes;
        well_formed = formed;
        accepts = λ w other also. ap Ok (decided.once v w denotes formed other also);
        utf8 = decided.utf8 v denotes formed;
        rejected = tt;
        rejects = λ reason first. absurd (decided.none v denotes formed reason first);
        printable = λ _. tt;
      }
  IsAnswer-left front left cut empty is forms reasons (Err fault) v read =
      IsAnswer-rejected fault (reasons (reason_of version fault) read.rejected) (λ utf8. read.printable (IsUtf8-left text front left cut utf8))

module _ {V K : Type 0} (version : Version V K) (version_laws : VersionLaws version) (text : List ℕ) where
  -- a text that denotes a complete vector is UTF-8, and all its pieces are components
  module _ (v : V) (denotes : Denotes version text v) (front : All IsPart (version.front v)) (complete : IsComplete version v) where
    all_parts : All IsPart (pieces text)
    all_parts =
        subst (All IsPart) (sym (pieces_of_complete version version_laws v text denotes front complete))
        (All-append IsPart (version.front v) denotes.parts front (are_parts version version_laws v denotes.parts denotes.components))

    utf8_denoted : IsUtf8 text
    utf8_denoted = subst IsUtf8 (join_with_byte-slice_split slash text) (IsUtf8-parts (pieces text) all_parts)

    not_rejected : (IsReason : Rejection K → Type 0) → ((reason : Rejection K) → IsReason reason → ⊥) → (reason : Rejection K) → BadPiecesFirst IsReason (pieces text) reason → ⊥
    not_rejected IsReason none (BadComponent piece) bad = bad.bad (rw bad.is (record { one_colon = (all_parts bad.place [] bad.within).one_colon }))
    not_rejected IsReason none reason (_, reasoned) = none reason reasoned

  no_front : (v : V) → IsBare version v → All IsPart (version.front v)
  no_front v is = subst (All IsPart) (sym is.frontless) (All-nil IsPart)

  pub decided_bare : IsDecided version (IsBare version) (IsFirstReason version (pieces text)) text
  decided_bare = record {
    once = λ v w of_v is of_w also. denoted_once version version_laws v w text (is.frontless ∙ sym also.frontless) of_v of_w;
    utf8 = λ v denotes is. utf8_denoted v denotes (no_front v is) is.complete;
    one_reason = one_rejection version version_laws text;
    none = λ v denotes is.
        let cut = pieces_of_complete version version_laws v text denotes (no_front v is) is.complete ∙ ap (λ front. front ++ denotes.parts) is.frontless in
        not_rejected v denotes (no_front v is) is.complete (IsFirstReason version (pieces text))
        (no_reason version version_laws v (pieces text) (subst (λ parts. AreComponentsOf version parts v) (sym cut) denotes.components) is.complete);
  }

  pub IsAnswerBare-left : (empty : V) → version.front empty ≡ [] → (answer : Result (Unit {0}) (Fault K)) (v : V) → IsReadLeft version (pieces text) empty answer v → IsAnswerBare version text (given answer v)
  IsAnswerBare-left empty is = IsAnswer-left decided_bare [] (pieces text) refl empty is (λ v front complete. record { frontless = front; complete = complete }) (λ reason first. first)

-- texts after a version piece
module _ {V K : Type 0} (version : Version V K) (version_laws : VersionLaws version) (front : FrontLaws version) (text : List ℕ) where
  front_parts : (v : V) (reported : List ℕ) → version.front v ≡ version_piece reported ∷ [] → delimiter_bytes reported ≡ 0 → All IsPart (version.front v)
  front_parts v reported front_is plain = subst (All IsPart) (sym front_is) (All-cons IsPart (version_piece reported) [] (IsPart-component (codes "CVSS") reported refl plain) (All-nil IsPart))

  -- the pieces of a text that denotes a vector
  pub pieces_denoted_after : (v : V) (denotes : Denotes version text v) (reported : List ℕ) → version.front v ≡ version_piece reported ∷ [] → delimiter_bytes reported ≡ 0 → pieces text ≡ version_piece reported ∷ denotes.parts
  pieces_denoted_after v denotes reported front_is plain =
      pieces_of_denoted version version_laws v text denotes (front_parts v reported front_is plain) (rw front_is (omega arith))
      ∙ ap (λ front. front ++ denotes.parts) front_is

  -- the front of a vector that a text denotes is its first piece, so two such vectors are one
  front_first : (v : V) → Denotes version text v → version.front v ≡ take 1 (pieces text)
  front_first v denotes = let piece = front.fronts v in piece.front_is ∙ sym (ap (take 1) (pieces_denoted_after v denotes piece.reported piece.front_is piece.plain))

  pub denoted_once_after : (v w : V) → Denotes version text v → Denotes version text w → v ≡ w
  denoted_once_after v w of_v of_w = denoted_once version version_laws v w text (front_first v of_v ∙ sym (front_first w of_w)) of_v of_w

  -- the piece that says a supported version
  module _ (reported : List ℕ) (supported : Contains version.supported reported) where
    reported_plain : delimiter_bytes reported ≡ 0
    reported_plain =
        let (place, within, is) = supported in
        omega (arith, get_or-le-sum_by delimiter_bytes version.supported place reported within, ap delimiter_bytes is, front.plain)

    piece_reports : ReportsVersion version (version_piece reported)
    piece_reports = record {
      prefix = name_part-component (codes "CVSS") reported refl;
      supported = subst (Contains version.supported) (sym (value_part-component (codes "CVSS") reported refl)) supported;
    }

    -- after it, the first reason of the components is that of the text
    module _ (parts : List (List ℕ)) (cut : pieces text ≡ version_piece reported ∷ parts) where
      follows : IsAfterComponents (pieces text) parts
      follows = record {
        before = version_piece reported ∷ [];
        cut = cut;
        components = All-cons IsComponent (version_piece reported) [] (record { one_colon = (IsPart-component (codes "CVSS") reported refl reported_plain).one_colon }) (All-nil IsComponent);
      }

      pub reason_after : (reason : Rejection K) → IsFirstOfPieces version parts reason → IsFirstRejectionAfter version text reason
      reason_after (BadComponent bad) first = IsFirstBadPiece-after (pieces text) parts follows bad first
      reason_after (WrongPrefix prefix) (after, first) = absurd first.fault
      reason_after (WrongVersion reported) (after, first) = absurd first.fault
      reason_after _ (after, first) = (AreComponents-after (pieces text) parts follows after, rw cut (piece_reports, first))

  -- a text that is read has no reason to be rejected
  no_reason_after : (v : V) → Denotes version text v → IsWellFormed version v → (reason : Rejection K) → IsReasonAfter version (pieces text) reason → ⊥
  no_reason_after v denotes formed =
      let is = formed.supported in
      let cut = pieces_denoted_after v denotes is.reported is.front_is (reported_plain is.reported is.supported) in
      let reports = subst (ReportsVersion version) (sym (ap (λ list. piece_at list 0) cut)) (piece_reports is.reported is.supported) in
      elim [
        | WrongPrefix prefix ↦ λ wrong. wrong.wrong (wrong.is ∙ reports.prefix)
        | WrongVersion reported ↦ λ wrong. wrong.wrong (subst (Contains version.supported) (sym wrong.is) reports.supported)
        | reason ↦ λ after. no_reason version version_laws v (drop 1 (pieces text)) (subst (λ parts. AreComponentsOf version parts v) (sym (ap (drop 1) cut)) denotes.components) formed.complete reason after.1
      ]

  pub decided_after : IsDecided version (IsWellFormed version) (IsReasonAfter version (pieces text)) text
  decided_after = record {
    once = λ v w of_v _ of_w _. denoted_once_after v w of_v of_w;
    utf8 = λ v denotes formed. utf8_denoted version version_laws text v denotes (parts v formed) formed.complete;
    one_reason = one_rejection_after version version_laws text;
    none = λ v denotes formed. not_rejected version version_laws text v denotes (parts v formed) formed.complete (IsReasonAfter version (pieces text)) (no_reason_after v denotes formed);
  } where
    parts : (v : V) → IsWellFormed version v → All IsPart (version.front v)
    parts v formed = let is = formed.supported in front_parts v is.reported is.front_is (reported_plain is.reported is.supported)

  pub IsAnswerAfter-left : (piece : List ℕ) (left : List (List ℕ)) → pieces text ≡ piece ∷ left → (empty : V) → StartsWith version piece empty → (answer : Result (Unit {0}) (Fault K)) (v : V) → IsReadLeft version left empty answer v → IsAnswerAfter version text (given answer v)
  IsAnswerAfter-left piece left cut empty started =
      let whole = cut ∙ ap (λ first. first ∷ left) started.is in
      IsAnswer-left decided_after (version_piece (value_part piece) ∷ []) left whole empty started.starts.front_is
      (λ v front complete. record { complete = complete; supported = record { reported = _; front_is = front; supported = started.starts.supported } })
      (reason_after (value_part piece) started.starts.supported left whole)

-- a fault of the first piece is a first rejection
pub front_fault_first : {V K : Type 0} (version : Version V K) (text piece : List ℕ) (parts : List (List ℕ)) → pieces text ≡ piece ∷ parts → AreComponentsBefore (pieces text) (length (pieces text)) → (reason : Rejection K) → (IsComponent piece → IsFrontFault version piece reason)
    → IsFirstRejectionAfter version text reason
front_fault_first version text piece parts cut components =
    let first = subst (λ list. IsComponent (piece_at list 0)) cut (components.each 0 (omega (arith, ap length cut))) in
    elim [
      | WrongPrefix prefix ↦ λ fault. (components, rw cut (fault first))
      | WrongVersion reported ↦ λ fault. (components, rw cut (fault first))
      | _ ↦ λ fault. absurd (fault first)
    ]

-- vectors with one canonical text are one
pub same_text-once : {V K : Type 0} (version : Version V K) (version_laws : VersionLaws version) → FrontLaws version → (v w : V) → canonical_text version v ≡ canonical_text version w → v ≡ w
same_text-once version version_laws front v w same =
    denoted_once_after version version_laws front (canonical_text version w) v w
    (subst (λ text. Denotes version text v) same (canonical_text-denotes version version_laws v)) (canonical_text-denotes version version_laws w)
