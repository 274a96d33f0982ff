-- What the private code of the cutting does piece by piece. No public clause cites it.
use Rattle.std.specs.Prelude.{◌≡◌, ℕ, ◌||◌, Bool, false, true, List, [], ◌∷◌, ◌++◌, Option, None, Some}
use denote.Ref.{Bor}
use Rattle.cvss_csv.specs.Fields.{comma, cut, is_end, next, state_after}
use Rattle.cvss_csv.specs.declared.fields.Fields.{Fields}
use Rattle.cvss_csv.specs.declared.state.State.{State}
use Rattle.cvss_csv.specs.declared.state.State.TheVariants.{Start}

-- a piece ends in these bytes
abbrev pub has_end : ℕ → State → List ℕ → Bool
has_end delimiter state [] = false
has_end delimiter state (byte ∷ bytes) = is_end delimiter state byte || has_end delimiter (next state byte) bytes

-- no piece ends in these bytes, after which the state is this
pub record IsWithin (delimiter : ℕ) (state : State) (bytes : List ℕ) (after : State) : Type 0 where
  pub none : has_end delimiter state bytes ≡ false
  pub leads : state_after state bytes ≡ after

-- the first piece of the bytes, and what follows the delimiter that ends it
pub record IsFirstPiece (delimiter : ℕ) (state : State) (bytes piece following : List ℕ) : Type 0 where
  pub last : State
  pub within : IsWithin delimiter state piece last
  pub ends : is_end delimiter last delimiter ≡ true
  pub is : bytes ≡ piece ++ delimiter ∷ following

-- the fields of what is left of a record, if there is something
abbrev pub fields_of_rest : Option (Bor (List ℕ)) → List (List ℕ)
fields_of_rest None = []
fields_of_rest (Some rest) = cut comma Start rest.now

-- the fields that are left
abbrev pub fields_left : Fields → List (List ℕ)
fields_left left = fields_of_rest left.rest

-- what the next step gives: the first of the fields that are left
abbrev pub IsNextField : Fields → Option (Bor (List ℕ)) → Fields → Type 0
IsNextField old None new = fields_left old ≡ []
IsNextField old (Some field) new = fields_left old ≡ field.now ∷ fields_left new
