-- Texts that are added one after another are added joined.
use Rattle.std.proofs.Common.{ℕ, List, [], ◌++◌, append_assoc, append-nil}
use Rattle.cvss_json.specs.Sinks.{Adds}

module _ {S : Type 0} {Holds : S → List ℕ → Type 0} where
  pub join2 : {a b c : S} {x y : List ℕ} → Adds Holds x a b → Adds Holds y b c → Adds Holds (x ++ y) a c
  join2 {c = c} {x = x} {y = y} first second = record {
    held = λ before holds. rw (append_assoc before x y) at (second.held (before ++ x) (first.held before holds));
  }

  pub nothing : {a : S} → Adds Holds [] a a
  nothing {a = a} = record { held = λ before holds. rw (append-nil before) holds }
