-- The first reason why a text is no vector. The reasons and their order are those of the Rust crate; what a vector's
-- text is, say the v3.1 specification, section 6, and the v4.0 specification, section 7. Pieces are counted from 0, and
-- the reason at the least place counts.
use Rattle.std.specs.Prelude.{◌≡◌, ◌≢◌, ℕ, ◌<◌, Bool, true, false, List, [], length, drop, codes, slice_get, slice_index_or, Some, Contains}
use Rattle.cvss_base.specs.Text.{pieces, IsComponent, name_part, value_part}
use Rattle.cvss_base.specs.Version.{Version, read, reading}

-- a reason, with the text or the metric that it names
pub data Rejection (K : Type 0) : Type 0 where
  BadComponent : List ℕ → Rejection K
  WrongPrefix : List ℕ → Rejection K
  WrongVersion : List ℕ → Rejection K
  UnknownName : List ℕ → Rejection K
  BadValue : K → List ℕ → Rejection K
  Repeated : K → Rejection K
  Missing : K → Rejection K

-- whether the reason names a part of the text
abbrev pub carries_text : {K : Type 0} → Rejection K → Bool
carries_text (Repeated _) = false
carries_text (Missing _) = false
carries_text _ = true

-- the piece at a place
abbrev pub piece_at : List (List ℕ) → ℕ → List ℕ
piece_at parts place = slice_index_or parts place []

-- the name and the value of the component at a place, as they are read
abbrev pub name_at : {V K : Type 0} → Version V K → List (List ℕ) → ℕ → List ℕ
name_at version parts place = read version (name_part (piece_at parts place))

abbrev pub value_at : {V K : Type 0} → Version V K → List (List ℕ) → ℕ → List ℕ
value_at version parts place = read version (value_part (piece_at parts place))

-- the text spells a value
pub record Spells {X : Type 0} (spelling : X → List ℕ) (text : List ℕ) : Type 0 where
  pub value : X
  pub spelled : spelling value ≡ text

-- a component before this place has the metric's name
pub record IsNamedBefore {V K : Type 0} (version : Version V K) (parts : List (List ℕ)) (place : ℕ) (kind : K) : Type 0 where
  pub earlier : ℕ
  pub is_before : earlier < place
  pub same_name : name_at version parts earlier ≡ version.name kind

-- what is wrong with the component at a place: no metric has its name, or else the metric has no
-- such value, or else an earlier component has the same name
abbrev pub FaultAt : {V K : Type 0} → Version V K → List (List ℕ) → ℕ → Rejection K → Type 0
FaultAt version parts place (UnknownName name) =
    (name ≡ name_at version parts place) × ((kind : _) → version.name kind ≢ name)
FaultAt {K} version parts place (BadValue reported_kind value) =
    (kind : K) × (reported_kind ≡ version.reported_kind kind) × (version.name kind ≡ name_at version parts place)
    × (value ≡ value_at version parts place) × ¬ (Spells (reading version kind) value)
FaultAt version parts place (Repeated kind) =
    (version.name kind ≡ name_at version parts place)
    × Spells (reading version kind) (value_at version parts place)
    × IsNamedBefore version parts place kind
FaultAt version parts place _ = ⊥

-- no component before this place has a fault
pub record HasNoFaultBefore {V K : Type 0} (version : Version V K) (parts : List (List ℕ)) (place : ℕ) : Type 0 where
  pub none : (earlier : ℕ) (reason : Rejection K) → earlier < place → ¬ (FaultAt version parts earlier reason)

-- each piece before this place is a component
pub record AreComponentsBefore (parts : List (List ℕ)) (place : ℕ) : Type 0 where
  pub each : (earlier : ℕ) → earlier < place → IsComponent (piece_at parts earlier)

-- this piece is the first that is no component
pub record IsFirstBadPiece (parts : List (List ℕ)) (piece : List ℕ) : Type 0 where
  pub place : ℕ
  pub within : place < length parts
  pub is : piece ≡ piece_at parts place
  pub bad : ¬ (IsComponent piece)
  pub earlier : AreComponentsBefore parts place

-- this is the fault of the first component that has one
pub record IsFirstFault {V K : Type 0} (version : Version V K) (parts : List (List ℕ)) (reason : Rejection K) : Type 0 where
  pub place : ℕ
  pub within : place < length parts
  pub fault : FaultAt version parts place reason
  pub earlier : HasNoFaultBefore version parts place

-- no component has a fault, and this is the first mandatory metric that none names
pub record IsFirstMissing {V K : Type 0} (version : Version V K) (parts : List (List ℕ)) (kind : K) : Type 0 where
  pub faultless : HasNoFaultBefore version parts (length parts)
  pub place : ℕ
  pub is : slice_get version.mandatory place ≡ Some kind
  pub absent : ¬ (IsNamedBefore version parts (length parts) kind)
  pub earlier : (before : ℕ) (other : K) → before < place → slice_get version.mandatory before ≡ Some other → IsNamedBefore version parts (length parts) other

-- the reason of least place among the components, or else the first missing metric
abbrev pub IsFirstReason : {V K : Type 0} → Version V K → List (List ℕ) → Rejection K → Type 0
IsFirstReason version parts (Missing kind) = IsFirstMissing version parts kind
IsFirstReason version parts reason = IsFirstFault version parts reason

-- a piece that is no component goes before each other reason
abbrev pub BadPiecesFirst : {K : Type 0} → (Rejection K → Type 0) → List (List ℕ) → Rejection K → Type 0
BadPiecesFirst IsReason parts (BadComponent piece) = IsFirstBadPiece parts piece
BadPiecesFirst IsReason parts reason = AreComponentsBefore parts (length parts) × IsReason reason

-- the first reason why the text, which has no piece that says a version, is rejected
abbrev pub IsFirstRejection : {V K : Type 0} → Version V K → List ℕ → Rejection K → Type 0
IsFirstRejection version text = BadPiecesFirst (IsFirstReason version (pieces text)) (pieces text)

-- the piece that has to say the version does not begin with CVSS
pub record IsWrongPrefix (piece prefix : List ℕ) : Type 0 where
  pub is : prefix ≡ name_part piece
  pub wrong : prefix ≢ codes "CVSS"

-- it does, but the version that it says is not supported
pub record IsWrongVersion {V K : Type 0} (version : Version V K) (piece reported : List ℕ) : Type 0 where
  pub prefix : name_part piece ≡ codes "CVSS"
  pub is : reported ≡ value_part piece
  pub wrong : ¬ (Contains version.supported reported)

-- it says a supported version
pub record ReportsVersion {V K : Type 0} (version : Version V K) (piece : List ℕ) : Type 0 where
  pub prefix : name_part piece ≡ codes "CVSS"
  pub supported : Contains version.supported (value_part piece)

-- what is wrong with a text of components: the first of them is no version piece, or else those after
-- it have this first reason
abbrev pub IsReasonAfter : {V K : Type 0} → Version V K → List (List ℕ) → Rejection K → Type 0
IsReasonAfter version parts (WrongPrefix prefix) = IsWrongPrefix (piece_at parts 0) prefix
IsReasonAfter version parts (WrongVersion reported) = IsWrongVersion version (piece_at parts 0) reported
IsReasonAfter version parts reason =
    ReportsVersion version (piece_at parts 0) × IsFirstReason version (drop 1 parts) reason

-- the first reason why the text, whose first piece has to say the version, is rejected
abbrev pub IsFirstRejectionAfter : {V K : Type 0} → Version V K → List ℕ → Rejection K → Type 0
IsFirstRejectionAfter version text = BadPiecesFirst (IsReasonAfter version (pieces text)) (pieces text)
