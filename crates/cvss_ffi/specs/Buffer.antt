-- A buffer of the caller, into which a text is written, an array, into which items are, the target of a value, or a struct
-- that says its own size, so that a later release may lengthen it.
use Rattle.std.specs.Prelude.{◌≡◌, ◌<◌, ◌≤◌, ◌⊎◌, ℕ, Bool, true, false, List, ◌++◌, length, drop, nat_le, if◌then◌else◌, Option, Some, None}

-- the buffer with the text at its beginning, and after it as it was
abbrev pub begun : {X : Type 0} → List X → List X → List X
begun text old = text ++ drop (length text) old

-- the text's length is reported, and the text is at the beginning of the buffer where it fits; a buffer that
-- is too small is left as it was
pub record IsWritten {X : Type 0} (text old now : List X) (reported : ℕ) : Type 0 where
  pub reported_is : reported ≡ length text
  pub now_is : now ≡ if nat_le (length text) (length old) then begun text old else old

-- a text of which this holds is written
abbrev pub Writes : (List ℕ → Type 0) → List ℕ → List ℕ → ℕ → Type 0
Writes IsText old now reported = (text : List ℕ) × IsText text × IsWritten text old now reported

-- 0 is reported, and the buffer is left as it was
pub record IsLeft {X : Type 0} (old now : List X) (reported : ℕ) : Type 0 where
  pub reported_is : reported ≡ 0
  pub now_is : now ≡ old

-- the text is at the beginning of the buffer, up to this offset
pub record HasPut {X : Type 0} (old text now : List X) (offset : ℕ) : Type 0 where
  pub begins : now ≡ begun text old
  pub offset_is : offset ≡ length text

-- true is reported, and the value written; without one false is, and what was to be written is left as it was
abbrev pub IsPut : {X : Type 0} → Option X → X → X → Bool → Type 0
IsPut (Some value) old now reported = (reported ≡ true) × (now ≡ value)
IsPut None old now reported = (reported ≡ false) × (now ≡ old)

-- a value of which this holds is written, or it holds that there is none
abbrev pub Puts : {X : Type 0} → (Option X → Type 0) → X → X → Bool → Type 0
Puts {X} IsIt old now reported = (value : Option X) × IsIt value × IsPut value old now reported

-- a struct is filled in where its size is at least so much; a smaller one is left as it was
abbrev pub IsFilled : {X : Type 0} → ℕ → ℕ → (X → Type 0) → X → X → Type 0
IsFilled least size IsIt old now = ((least ≤ size) × IsIt now) ⊎ ((size < least) × (now ≡ old))

-- a struct is filled in, or it holds that there is nothing to fill it in with; of a smaller one false is reported
abbrev pub PutsFilled : {X : Type 0} → ℕ → ℕ → (Option X → Type 0) → X → X → Bool → Type 0
PutsFilled least size IsIt old now reported =
    ((least ≤ size) × Puts IsIt old now reported) ⊎ ((size < least) × (reported ≡ false) × (now ≡ old))
