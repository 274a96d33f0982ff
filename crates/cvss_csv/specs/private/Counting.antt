-- What the private code counts step by step. No public clause cites it.
use Rattle.std.specs.Prelude.{◌≡◌, ◌+◌, ◌-◌, ◌^◌, min, Bool, true, false, if◌then◌else◌, List, [], ◌∷◌, Option, None, Some}
use Rattle.cvss_lines.specs.declared.summary.Summary.{Summary}

abbrev pub is_accepted : Option Bool → Bool
is_accepted None = false
is_accepted (Some accepted) = accepted

abbrev pub is_rejected : Option Bool → Bool
is_rejected None = false
is_rejected (Some true) = false
is_rejected (Some false) = true

-- one more is counted, if it is, by a `u64` that stops at its maximum
pub record Counts (old : Summary) (counted : Option Bool) (new : Summary) : Type 0 where
  pub accepted : new.accepted ≡ (if is_accepted counted then min (old.accepted + 1) (2 ^ 64 - 1) else old.accepted)
  pub rejected : new.rejected ≡ (if is_rejected counted then min (old.rejected + 1) (2 ^ 64 - 1) else old.rejected)

-- these are, one after another
abbrev pub CountsAll : Summary → List Bool → Summary → Type 0
CountsAll old [] new = new ≡ old
CountsAll old (accepted ∷ more) new = (middle : Summary) × Counts old (Some accepted) middle × CountsAll middle more new
