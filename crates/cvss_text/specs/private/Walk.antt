-- What the private walk over the components does at each step. What callers rely on is in
-- Version and Rejection.
use Rattle.std.specs.Prelude.{◌≡◌, ◌≢◌, ℕ, ◌⊎◌, List, [], ◌∷◌, ◌++◌, length, map, drop, Option, Some, None, IsSome, Result, Ok, IfOk, OnOk, IfErr, OnErr, IsErrAnd, Contains, slice_get, find, is_none, ⊤, if◌then◌else◌, bytes_eq}
use Rattle.std.specs.List.{All, range_with_len, sum_by}
use Rattle.std.specs.Borrow.{Bor}
use Rattle.std.specs.Str.{IsUtf8}
use Rattle.cvss_text.specs.declared.walk.ComponentError.{ComponentError}
use Rattle.cvss_text.specs.declared.walk.ComponentError.TheVariants.{Invalid, Repeated as Twice}
use Rattle.cvss_text.specs.declared.walk.Fault.{Fault}
use Rattle.cvss_text.specs.declared.walk.Fault.TheVariants.{InvalidComponent, InvalidPrefix, UnsupportedVersion, UnknownMetric, InvalidMetric, DuplicateMetric, MissingMandatoryMetric}
use Rattle.cvss_text.specs.private.Printing.{texts_with_slash}
use Rattle.cvss_base.specs.laws.Order.{place_in}
use Rattle.cvss_base.specs.private.Component.{delimiter_bytes}
use Rattle.cvss_base.specs.Text.{slash, pieces, IsComponent, name_part, value_part, component}
use Rattle.cvss_base.specs.Version.{Version, held, read, reading, version_piece, AreComponentsOf, Denotes, IsComplete, IsWellFormed}
use Rattle.cvss_base.specs.Rejection.{Rejection, BadComponent, WrongPrefix, WrongVersion, UnknownName, BadValue, Repeated, Missing, Spells, FaultAt, IsFirstReason, BadPiecesFirst, IsReasonAfter, IsWrongPrefix, IsWrongVersion}

-- the place of a metric in the printing order, which its name says
abbrev pub place_of : {V K : Type 0} → Version V K → K → ℕ
place_of version kind = place_in version.name version.printed kind

-- what the walk needs to know of a version
pub record VersionLaws {V K : Type 0} (version : Version V K) : Type 0 where
  -- each metric is printed at one place, which its name says
  pub placed : (kind : K) → slice_get version.printed (place_of version kind) ≡ Some kind
  pub in_order : map (place_of version) version.printed ≡ range_with_len 0 (length version.printed)
  -- names are read as they are, and have no delimiter byte
  pub names_read : map (λ kind. read version (version.name kind)) version.printed ≡ map version.name version.printed
  pub names_plain : map (λ kind. delimiter_bytes (version.name kind)) version.printed ≡ map (λ _. 0) version.printed
  -- the spellings of a metric differ, as they are read, and have no delimiter byte
  pub spelling_plain : (kind : K) (value : version.Value kind) → delimiter_bytes (version.spelling kind value) ≡ 0
  pub one_value : (kind : K) (x y : version.Value kind) → read version (version.spelling kind x) ≡ read version (version.spelling kind y) → x ≡ y
  -- a vector is its front and its values
  pub one_vector : (v w : V) → version.front v ≡ version.front w → ((kind : K) → version.value_of v kind ≡ version.value_of w kind) → v ≡ w
  -- a vector without a front has a mandatory metric, so that its text is not empty
  pub some_piece : (v : V) → version.front v ≡ [] → (kind : K) × Contains version.mandatory kind

-- the vector has no value
pub record HasNoValue {V K : Type 0} (version : Version V K) (v : V) : Type 0 where
  pub none : (kind : K) → version.value_of v kind ≡ None

-- the vector has no value, and no piece that says its version
pub record IsEmpty {V K : Type 0} (version : Version V K) (v : V) : Type 0 where
  pub frontless : version.front v ≡ []
  pub valueless : HasNoValue version v

-- an empty field gains the value with this spelling
pub record Fills {X : Type 0} (spelling : X → List ℕ) (old : Option X) (text : List ℕ) (new : Option X) : Type 0 where
  pub was_empty : old ≡ None
  pub value : X
  pub spelled : spelling value ≡ text
  pub filled : new ≡ Some value

-- why no value goes into a field
abbrev pub IsComponentError : {X : Type 0} → (X → List ℕ) → Option X → List ℕ → ComponentError → Type 0
IsComponentError spelling field text Invalid = ¬ (Spells spelling text)
IsComponentError spelling field text Twice = Spells spelling text × IsSome field

-- what filling a field with the value that has this spelling answers
pub record IsFilled {X : Type 0} (spelling : X → List ℕ) (old : Option X) (text : List ℕ) (answer : Result (Unit {0}) ComponentError) (new : Option X) : Type 0 where
  pub filled : OnOk answer (Fills spelling old text new)
  pub component_error : IfErr answer (IsComponentError spelling old text)

-- the vector gains the value with this spelling, and keeps all else
pub record Puts {V K : Type 0} (version : Version V K) (old : V) (kind : K) (text : List ℕ) (new : V) : Type 0 where
  pub fills : Fills (reading version kind) (version.value_of old kind) text (version.value_of new kind)
  pub others : (other : K) → (other ≡ kind) ⊎ (version.value_of new other ≡ version.value_of old other)
  pub front : version.front new ≡ version.front old

-- what a vector holds for each metric but one, with its front
abbrev pub elsewhere : {V K : Type 0} → Version V K → K → V → List (List ℕ) × List (Option (List ℕ))
elsewhere version here v = (version.front v, map (λ other. if bytes_eq (version.name other) (version.name here) then None else held version v other) version.printed)

-- what putting a value into a vector answers
pub record IsPut {V K : Type 0} (version : Version V K) (old : V) (kind : K) (text : List ℕ) (answer : Result (Unit {0}) ComponentError) (new : V) : Type 0 where
  pub put : OnOk answer (Puts version old kind text new)
  pub component_error : IfErr answer (IsComponentError (reading version kind) (version.value_of old kind) text)

-- the piece is a component of this metric, and the value is what follows its first colon
pub record IsCut {V K : Type 0} (version : Version V K) (piece : List ℕ) (kind : K) (value : List ℕ) : Type 0 where
  pub named : version.name kind ≡ read version (name_part piece)
  pub value_is : value ≡ value_part piece
  pub cut : piece ≡ component (name_part piece) value

-- the first piece of the text is such a component, and these pieces follow it
pub record IsCutFirst {V K : Type 0} (version : Version V K) (text : List ℕ) (kind : K) (value : List ℕ) (after : List (List ℕ)) : Type 0 where
  pub piece : List ℕ
  pub first : pieces text ≡ piece ∷ after
  pub is : IsCut version piece kind value

-- why a piece starts no vector
abbrev pub IsFrontFault : {V K : Type 0} → Version V K → List ℕ → Rejection K → Type 0
IsFrontFault version piece (WrongPrefix prefix) = IsWrongPrefix piece prefix
IsFrontFault version piece (WrongVersion reported) = IsWrongVersion version piece reported
IsFrontFault version piece _ = ⊥

-- a vector without values, whose piece says this version
pub record Starts {V K : Type 0} (version : Version V K) (reported : List ℕ) (v : V) : Type 0 where
  pub front_is : version.front v ≡ version_piece reported ∷ []
  pub valueless : HasNoValue version v
  pub supported : Contains version.supported reported

-- the piece is a version piece, and the vector is the one that it starts
pub record StartsWith {V K : Type 0} (version : Version V K) (piece : List ℕ) (v : V) : Type 0 where
  pub is : piece ≡ version_piece (value_part piece)
  pub starts : Starts version (value_part piece) v

-- the vector's front is a version piece without a delimiter byte
pub record HasVersionPiece {V K : Type 0} (version : Version V K) (v : V) : Type 0 where
  pub reported : List ℕ
  pub front_is : version.front v ≡ version_piece reported ∷ []
  pub plain : delimiter_bytes reported ≡ 0

-- what the walk needs to know of version pieces: no byte of them is delimiter
pub record FrontLaws {V K : Type 0} (version : Version V K) : Type 0 where
  pub fronts : (v : V) → HasVersionPiece version v
  pub plain : sum_by delimiter_bytes version.supported ≡ 0

-- the first reason why the pieces are rejected
abbrev pub IsFirstOfPieces : {V K : Type 0} → Version V K → List (List ℕ) → Rejection K → Type 0
IsFirstOfPieces version parts = BadPiecesFirst (IsFirstReason version parts) parts

-- the first mandatory metric that the vector lacks
abbrev pub first_missing : {V K : Type 0} → Version V K → V → Option K
first_missing version v = find (λ kind. is_none (version.value_of v kind)) version.mandatory

-- the component at a piece goes into the vector
pub record Adds {V K : Type 0} (version : Version V K) (old : V) (piece : List ℕ) (new : V) : Type 0 where
  pub kind : K
  pub named : version.name kind ≡ read version (name_part piece)
  pub cut : piece ≡ component (name_part piece) (value_part piece)
  pub puts : Puts version old kind (read version (value_part piece)) new

-- the vector holds the components before the pieces that are left
pub record HasReadTo {V K : Type 0} (version : Version V K) (parts left : List (List ℕ)) (v : V) : Type 0 where
  pub before : List (List ℕ)
  pub cut : parts ≡ before ++ left
  pub components : AreComponentsOf version before v

-- a text of components begins with those of the vector, in printing order, and goes on with this rest
pub record IsInOrderTo {V K : Type 0} (version : Version V K) (front : List (List ℕ)) (text : List ℕ) (v : V) (rest : List ℕ) : Type 0 where
  pub is : slash ∷ text ≡ texts_with_slash version v version.printed ++ rest
  pub front_is : version.front v ≡ front

-- a text of components begins with those of the vector, as above, which lacks no mandatory metric, has its base metrics, and
-- has no others
pub record IsBaseTo {V K : Type 0} (version : Version V K) (base_count : ℕ) (HasBase : V → Type 0) (front : List (List ℕ)) (text : List ℕ) (v : V) (rest : List ℕ) : Type 0 where
  pub in_order : IsInOrderTo version front text v rest
  pub present : first_missing version v ≡ None
  pub has_base : HasBase v
  pub bare : texts_with_slash version v (drop base_count version.printed) ≡ []

-- all of the text is the components of the vector, in printing order, which lacks no mandatory metric
pub record IsWhole {V K : Type 0} (version : Version V K) (front : List (List ℕ)) (text : List ℕ) (v : V) : Type 0 where
  pub in_order : IsInOrderTo version front text v []
  pub present : first_missing version v ≡ None

-- the reason that a fault stands for, with its text as it is read
abbrev pub reason_of : {V K : Type 0} → Version V K → Fault K → Rejection K
reason_of version (InvalidComponent piece) = BadComponent piece.now
reason_of version (InvalidPrefix prefix) = WrongPrefix prefix.now
reason_of version (UnsupportedVersion reported) = WrongVersion reported.now
reason_of version (UnknownMetric name) = UnknownName (read version name.now)
reason_of version (InvalidMetric kind value) = BadValue kind (read version value.now)
reason_of version (DuplicateMetric kind) = Repeated kind
reason_of version (MissingMandatoryMetric kind) = Missing kind

-- the fault can be reported: its text is UTF-8, and the metric that is missing is a mandatory one
abbrev pub IsPrintable : {V K : Type 0} → Version V K → Fault K → Type 0
IsPrintable version (InvalidComponent piece) = IsUtf8 piece.now
IsPrintable version (InvalidPrefix prefix) = IsUtf8 prefix.now
IsPrintable version (UnsupportedVersion reported) = IsUtf8 reported.now
IsPrintable version (UnknownMetric name) = IsUtf8 name.now
IsPrintable version (InvalidMetric kind value) = IsUtf8 value.now
IsPrintable version (DuplicateMetric kind) = ⊤
IsPrintable version (MissingMandatoryMetric kind) = Contains version.mandatory kind

-- the fault of a component, where the vector holds those before it: but for a metric that it has, as if this were the first
abbrev pub IsFaultOf : {V K : Type 0} → Version V K → V → List ℕ → Rejection K → Type 0
IsFaultOf version v piece (Repeated kind) =
    (version.name kind ≡ read version (name_part piece))
    × Spells (reading version kind) (read version (value_part piece))
    × IsSome (version.value_of v kind)
IsFaultOf version v piece reason = FaultAt version (piece ∷ []) 0 reason

-- what cutting a piece answers: its metric and value, or that it is no component, or of no metric
pub record IsCutAnswer {V K : Type 0} (version : Version V K) (piece : List ℕ) (answer : Result (K × Bor (List ℕ)) (Fault K)) : Type 0 where
  pub cut : IfOk answer (λ cut. IsCut version piece cut.0 cut.1.now)
  pub rejected : IfErr answer (λ fault. (v : V) → IsComponent piece → IsFaultOf version v piece (reason_of version fault))
  pub unnamed : OnErr answer (IsComponent piece → (kind : K) → version.name kind ≢ read version (name_part piece))
  pub printable : IsUtf8 piece → IfErr answer (IsPrintable version)

-- what reading these pieces into a vector without values answers: all of them are read, and it is complete, or the first
-- reason why they are rejected
pub record IsReadLeft {V K : Type 0} (version : Version V K) (left : List (List ℕ)) (empty : V) (answer : Result (Unit {0}) (Fault K)) (v : V) : Type 0 where
  pub components : OnOk answer (AreComponentsOf version left v)
  pub front : OnOk answer (version.front v ≡ version.front empty)
  pub complete : OnOk answer (IsComplete version v)
  pub rejected : IfErr answer (λ fault. IsFirstOfPieces version left (reason_of version fault))
  pub printable : All IsUtf8 left → IfErr answer (IsPrintable version)

-- what a reader of the whole text promises, where vectors are formed so and such are the reasons to reject it
pub record IsAnswer {V K : Type 0} (version : Version V K) (IsFormed : V → Type 0) (IsReason : Rejection K → Type 0) (text : List ℕ) (answer : Result V (Fault K)) : Type 0 where
  -- accepted: what is given is what the text denotes, and each such vector is given
  pub denoted : IfOk answer (λ v. Denotes version text v)
  pub well_formed : IfOk answer IsFormed
  pub accepts : (v : V) → Denotes version text v → IsFormed v → answer ≡ Ok v
  pub utf8 : OnOk answer (IsUtf8 text)
  -- rejected: for the first reason, and wherever there is one, which can be reported
  pub rejected : IfErr answer (λ fault. BadPiecesFirst IsReason (pieces text) (reason_of version fault))
  pub rejects : (reason : Rejection K) → BadPiecesFirst IsReason (pieces text) reason → IsErrAnd answer (λ fault. reason_of version fault ≡ reason)
  pub printable : IsUtf8 text → IfErr answer (IsPrintable version)

-- a complete vector without a version piece
pub record IsBare {V K : Type 0} (version : Version V K) (v : V) : Type 0 where
  pub frontless : version.front v ≡ []
  pub complete : IsComplete version v

-- what a reader of a text of components promises
abbrev pub IsAnswerBare : {V K : Type 0} → Version V K → List ℕ → Result V (Fault K) → Type 0
IsAnswerBare version text = IsAnswer version (IsBare version) (IsFirstReason version (pieces text)) text

-- and one of a text that begins with a version piece
abbrev pub IsAnswerAfter : {V K : Type 0} → Version V K → List ℕ → Result V (Fault K) → Type 0
IsAnswerAfter version text = IsAnswer version (IsWellFormed version) (IsReasonAfter version (pieces text)) text
