-- A text has at most one first rejection.
use Rattle.std.proofs.Common.{◌≡◌, ℕ, ◌<◌, List, Contains, drop, arith, sym, ap, ◌∙◌, subst, slice_get}
use Rattle.std.proofs.lemmas.Option.{same_Some}
use Rattle.cvss_base.specs.Text.{pieces}
use Rattle.cvss_base.specs.Version.{Version, reading}
use Rattle.cvss_base.specs.Rejection.{Rejection, BadComponent, WrongPrefix, WrongVersion, UnknownName, BadValue, Repeated, Missing, Spells, piece_at, name_at, value_at, FaultAt, IsFirstBadPiece, IsFirstFault, IsFirstMissing, IsFirstReason, IsFirstRejection, IsReasonAfter, IsFirstRejectionAfter, BadPiecesFirst}
use Rattle.cvss_text.specs.private.Walk.{VersionLaws}
use Rattle.cvss_text.proofs.LawLemmas.{names_differ}

-- of two least places with a fact, neither is before the other
pub same_place : (p q : ℕ) → (p < q → ⊥) → (q < p → ⊥) → p ≡ q
same_place p q not_before not_after = omega arith

bad_pieces_same : (parts : List (List ℕ)) (piece other : List ℕ) → IsFirstBadPiece parts piece → IsFirstBadPiece parts other → piece ≡ other
bad_pieces_same parts piece other first second =
    let same = same_place first.place second.place (λ before. first.bad (rw first.is (second.earlier.each first.place before))) (λ before. second.bad (rw second.is (first.earlier.each second.place before))) in
    first.is ∙ (ap (piece_at parts) same ∙ sym second.is)

module _ {V K : Type 0} (version : Version V K) (version_laws : VersionLaws version) (parts : List (List ℕ)) where
  -- a value cannot be both bad and repeated
  no_spelling_both : (place : ℕ) (kind other : K) (value : List ℕ) → version.name kind ≡ name_at version parts place → version.name other ≡ name_at version parts place → value ≡ value_at version parts place → ¬ (Spells (reading version kind) value) → Spells (reading version other) (value_at version parts place) → ⊥
  no_spelling_both place kind other value named also_named is no_spelling spelling =
      let one = names_differ version version_laws other kind (also_named ∙ sym named) in
      no_spelling (subst (λ each. Spells (reading version each) value) one (subst (Spells (reading version other)) (sym is) spelling))

  -- a place has one fault
  pub faults_same : (place : ℕ) (reason other : Rejection K) → FaultAt version parts place reason → FaultAt version parts place other → reason ≡ other
  faults_same place (UnknownName name) (UnknownName other) (is, _) (also, _) = ap UnknownName (is ∙ sym also)
  faults_same place (UnknownName name) (BadValue reported_kind value) (is, unknown) (kind, _, named, _, _) = absurd (unknown kind (named ∙ sym is))
  faults_same place (UnknownName name) (Repeated kind) (is, unknown) (named, _, _) = absurd (unknown kind (named ∙ sym is))
  faults_same place (BadValue reported_kind value) (UnknownName other) (kind, _, named, _, _) (is, unknown) = absurd (unknown kind (named ∙ sym is))
  faults_same place (BadValue reported_kind value) (BadValue also_reported also) (kind, blames, named, is, _) (other, also_blames, also_named, also_is, _) =
      let one = names_differ version version_laws kind other (named ∙ sym also_named) in
      let one_reported : reported_kind ≡ also_reported = blames ∙ (ap version.reported_kind one ∙ sym also_blames) in
      let one_value : value ≡ also = is ∙ sym also_is in
      cc
  faults_same place (BadValue reported_kind value) (Repeated other) (kind, _, named, is, no_spelling) (also_named, spelling, _) = absurd (no_spelling_both place kind other value named also_named is no_spelling spelling)
  faults_same place (Repeated kind) (UnknownName other) (named, _, _) (is, unknown) = absurd (unknown kind (named ∙ sym is))
  faults_same place (Repeated other) (BadValue reported_kind value) (also_named, spelling, _) (kind, _, named, is, no_spelling) = absurd (no_spelling_both place kind other value named also_named is no_spelling spelling)
  faults_same place (Repeated kind) (Repeated other) (named, _, _) (also_named, _, _) = ap Repeated (names_differ version version_laws kind other (named ∙ sym also_named))
  faults_same place _ _ first second = absurd (assumption)

  first_faults_same : (reason other : Rejection K) → IsFirstFault version parts reason → IsFirstFault version parts other → reason ≡ other
  first_faults_same reason other first second =
      let same = same_place first.place second.place (λ before. second.earlier.none first.place reason before first.fault) (λ before. first.earlier.none second.place other before second.fault) in
      faults_same second.place reason other (subst (λ place. FaultAt version parts place reason) same first.fault) second.fault

  first_missing_same : (kind other : K) → IsFirstMissing version parts kind → IsFirstMissing version parts other → kind ≡ other
  first_missing_same kind other first second =
      let same = same_place first.place second.place (λ before. first.absent (second.earlier first.place kind before first.is)) (λ before. second.absent (first.earlier second.place other before second.is)) in
      same_Some kind other (sym first.is ∙ (ap (slice_get version.mandatory) same ∙ second.is))

  -- two first reasons of some components are one
  pub reasons_same : (reason other : Rejection K) → IsFirstReason version parts reason → IsFirstReason version parts other → reason ≡ other
  reasons_same (Missing kind) (Missing other) first second = ap Missing (first_missing_same kind other first second)
  reasons_same (Missing kind) other first second = absurd (first.faultless.none second.place other second.within second.fault)
  reasons_same reason (Missing other) first second = absurd (second.faultless.none first.place reason first.within first.fault)
  reasons_same reason other first second = first_faults_same reason other first second

module _ {V K : Type 0} (version : Version V K) (version_laws : VersionLaws version) (parts : List (List ℕ)) where
  -- two reasons after a version piece are one
  reasons_after_same : (reason other : Rejection K) → IsReasonAfter version parts reason → IsReasonAfter version parts other → reason ≡ other
  reasons_after_same (WrongPrefix prefix) (WrongPrefix other) first second = ap WrongPrefix (first.is ∙ sym second.is)
  reasons_after_same (WrongPrefix prefix) (WrongVersion other) first second = absurd (first.wrong (first.is ∙ second.prefix))
  reasons_after_same (WrongPrefix prefix) _ first (reports, _) = absurd (first.wrong (first.is ∙ reports.prefix))
  reasons_after_same (WrongVersion reported) (WrongPrefix other) first second = absurd (second.wrong (second.is ∙ first.prefix))
  reasons_after_same (WrongVersion reported) (WrongVersion other) first second = ap WrongVersion (first.is ∙ sym second.is)
  reasons_after_same (WrongVersion reported) _ first (reports, _) = absurd (first.wrong (subst (Contains version.supported) (sym first.is) reports.supported))
  reasons_after_same _ (WrongPrefix other) (reports, _) second = absurd (second.wrong (second.is ∙ reports.prefix))
  reasons_after_same _ (WrongVersion other) (reports, _) second = absurd (second.wrong (subst (Contains version.supported) (sym second.is) reports.supported))
  reasons_after_same reason other (_, first) (_, second) = reasons_same version version_laws (drop 1 parts) reason other first second

module _ {K : Type 0} (IsReason : Rejection K → Type 0) (parts : List (List ℕ)) where
  -- two first rejections of the pieces are one, where two later reasons are
  rejections_same : ((one two : Rejection K) → IsReason one → IsReason two → one ≡ two) → (reason other : Rejection K) → BadPiecesFirst IsReason parts reason → BadPiecesFirst IsReason parts other → reason ≡ other
  rejections_same same (BadComponent piece) (BadComponent other) first second = ap BadComponent (bad_pieces_same parts piece other first second)
  rejections_same same (BadComponent piece) _ first (components, _) = absurd (first.bad (rw first.is (components.each first.place first.within)))
  rejections_same same _ (BadComponent other) (components, _) second = absurd (second.bad (rw second.is (components.each second.place second.within)))
  rejections_same same reason other (_, first) (_, second) = same reason other first second

-- a text has one first rejection, with a version piece or without
module _ {V K : Type 0} (version : Version V K) (version_laws : VersionLaws version) (text : List ℕ) where
  pub one_rejection : (one other : Rejection K) → IsFirstRejection version text one → IsFirstRejection version text other → one ≡ other
  one_rejection = rejections_same (IsFirstReason version (pieces text)) (pieces text) (reasons_same version version_laws (pieces text))

  pub one_rejection_after : (one other : Rejection K) → IsFirstRejectionAfter version text one → IsFirstRejectionAfter version text other → one ≡ other
  one_rejection_after = rejections_same (IsReasonAfter version (pieces text)) (pieces text) (reasons_after_same version version_laws (pieces text))
