-- What tests of equality decide.
use Rattle.std.specs.Option.{option_eq}
use Rattle.std.proofs.Common.{◌≡◌, ℕ, List, ap, ◌↔◌, Bool, IsTrue, Some, None, refl, bytes_eq}
use Rattle.std.proofs.lemmas.Bool.Decides.{same_from_decides}
use Rattle.std.proofs.lemmas.Slice.Eq.{bytes_eq-Decides}
use Rattle.cvss_base.specs.Equality.{EqualsByValue}

-- options of values that are equal by value are so too
pub options_by_value : {X : Type 0} {equals : X → X → Bool} → EqualsByValue equals → EqualsByValue (option_eq equals)
options_by_value items (Some x) (Some y) = (λ e. ap Some ((items x y).0 e), λ e. (items x y).1 cc)
options_by_value items None None = (λ _. refl, λ _. refl)
options_by_value items _ _ = (λ e. absurd cc, λ e. absurd cc)

-- a test that says whether two texts are one is their comparison
pub bytes_eq_when : (test : Bool) (text other : List ℕ) → (IsTrue test ↔ (text ≡ other)) → test ≡ bytes_eq text other
bytes_eq_when test text other same = same_from_decides test (bytes_eq text other) same (bytes_eq-Decides text other)
