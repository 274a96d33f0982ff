-- What a step of a loop adds, if it adds anything.
use Rattle.std.proofs.Common.{◌≡◌, List, [], ◌∷◌, ◌++◌, Option, Some, None, ap, append_assoc, append-nil}
use Rattle.std.specs.List.{cons_option}
use Rattle.std.specs.Option.{option_to_list}

pub added : {A : Type 0} (found : Option A) (before rest : List A) → (before ++ option_to_list found) ++ rest ≡ before ++ cons_option found rest
added None before rest = ap (λ all. all ++ rest) (append-nil before)
added (Some each) before rest = append_assoc before (each ∷ []) rest
