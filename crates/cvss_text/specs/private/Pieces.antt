-- What is left of a text whose pieces are taken one by one, and how a piece is cut.
use Rattle.std.specs.Prelude.{◌≡◌, ℕ, false, List, [], ◌∷◌, ◌++◌, All}
use Rattle.std.specs.Option.{option_map_or}
use Rattle.cvss_text.specs.declared.pieces.Pieces.{Pieces}
use Rattle.cvss_base.specs.Text.{pieces, has, colon, IsComponent, component, name_part, value_part}

-- the pieces that are still to come
abbrev pub pieces_left : Pieces → List (List ℕ)
pieces_left left = option_map_or (λ text. pieces text.now) left.rest []

-- the name and the value are what is before and after the first colon of the piece
pub record AreParts (piece name value : List ℕ) : Type 0 where
  pub cut : piece ≡ component name value
  pub name_is : name ≡ name_part piece
  pub value_is : value ≡ value_part piece

-- the piece has no colon, and so is no component
pub record IsWithoutColon (piece : List ℕ) : Type 0 where
  pub colonless : has colon piece ≡ false
  pub no_component : ¬ (IsComponent piece)

-- the first of the pieces is a component, and these follow it
pub record IsAfterComponent (parts after : List (List ℕ)) : Type 0 where
  pub piece : List ℕ
  pub first : parts ≡ piece ∷ after
  pub component : IsComponent piece

-- these pieces follow components
pub record IsAfterComponents (parts after : List (List ℕ)) : Type 0 where
  pub before : List (List ℕ)
  pub cut : parts ≡ before ++ after
  pub components : All IsComponent before
