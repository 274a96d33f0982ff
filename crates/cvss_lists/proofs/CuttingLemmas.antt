-- How a component is cut at its colon.
use Rattle.std.proofs.Common.{◌≡◌, ◌≤◌, ℕ, List, Option, Some, None, ap, arith, length, sym, take, ◌∙◌}
use Rattle.std.specs.List.{position, position_or_len}
use Rattle.std.specs.Option.{unwrap_or}
use Rattle.std.proofs.lemmas.Grind.{common_steps}
use Rattle.std.proofs.lemmas.List.{take_all}
use Rattle.cvss_base.specs.Text.{name_part}
use Rattle.cvss_text.proofs.TextLemmas.{is_colon}

-- the index of the first colon
colon_at : (piece : List ℕ) (at : ℕ) → position is_colon piece ≡ Some at → position_or_len is_colon piece ≡ at
colon_at piece at found = grind (arith, common_steps)

colon_nowhere : (piece : List ℕ) → position is_colon piece ≡ None → length piece ≤ position_or_len is_colon piece
colon_nowhere piece none = grind (arith, common_steps)

-- the name is before the first colon, or the whole piece where there is none
pub name_cut : (piece : List ℕ) (found : Option ℕ) → position is_colon piece ≡ found → take (unwrap_or found (length piece)) piece ≡ name_part piece
name_cut piece None none =
    take_all (length piece) piece (omega arith) ∙ sym (take_all (position_or_len is_colon piece) piece (colon_nowhere piece none))
name_cut piece (Some at) found = ap (λ end. take end piece) (sym (colon_at piece at found))
