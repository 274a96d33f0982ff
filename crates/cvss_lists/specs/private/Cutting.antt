-- What is left of a text whose pieces are taken one by one, and what is found of it.
use Rattle.std.specs.Prelude.{◌≡◌, ℕ, List, [], Option, Some, None}
use Rattle.std.specs.Borrow.{Bor}
use Rattle.std.specs.Option.{option_map_or}
use Rattle.cvss_base.specs.Text.{pieces}
use Rattle.cvss_lists.specs.Departures.{AreNamesOf, first_exchanged, neighbours}
use Rattle.cvss_lists.specs.declared.departure.Departure.{Departure}
use Rattle.cvss_lists.specs.declared.departure.Departure.TheVariants.{LetterCase, OutOfOrder}

-- the pieces of the text that is left, if there is one
abbrev pub pieces_after : Option (Bor (List ℕ)) → List (List ℕ)
pieces_after left = option_map_or (λ text. pieces text.now) left []

-- the first two neighbours of the pieces that are not in order, by their names
abbrev pub IsExchangeIn : List (List ℕ) → List (List ℕ) → Option Departure → Type 0
IsExchangeIn canonical parts None = first_exchanged canonical (neighbours parts) ≡ None
IsExchangeIn canonical parts (Some (LetterCase piece)) = ⊥
IsExchangeIn canonical parts (Some (OutOfOrder metric after)) =
    AreNamesOf (first_exchanged canonical (neighbours parts)) metric.now after.now
