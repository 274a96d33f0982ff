-- Vectors that are found equal have the same values: a search finds what their comparison says.
use denote.Enum.Bare.{Bare, sameb, same_true, true_same}
use denote.Enum.Declared.{Declared}
use Rattle.std.proofs.Common.{◌≡◌, ◌↔◌, ℕ, Bool, ◌&&◌, Option, IsTrue, eqb}
use Rattle.std.proofs.lemmas.Bool.{and_parts}
use Rattle.std.proofs.lemmas.Bool.Decides.{Decides-eqb}
use Rattle.std.specs.Option.{option_eq}
use Rattle.cvss_base.proofs.EqualityLemmas.{options_by_value}

-- a test that is true exactly where the fact holds
pub record Reports (test : Bool) (Fact : Type 0) : Type 0 where
  pub reports : IsTrue test ↔ Fact

pub enums : (D : Declared) (x y : D.D) → Bare D.parts → Reports (sameb D x y) (x ≡ y)
enums D x y bare = record { reports = (same_true D bare x y, true_same D x y) }

-- a test, and a fact that holds where it is true, which the search need not know
pub record Reporting (test : Bool) : Type 1 where
  pub Fact : Type 0
  pub fact : IsTrue test → Fact

abbrev pub numbers : (m n : ℕ) → Reporting (eqb m n)
numbers m n = record { Fact = m ≡ n; fact = (Decides-eqb m n).0 }

abbrev pub options : {X : Type 0} (same : X → X → Bool) (o p : Option X) → ((x y : X) → Reports (same x y) (x ≡ y)) → Reporting (option_eq same o p)
options same o p each = record { Fact = o ≡ p; fact = (options_by_value (λ x y. (each x y).reports) o p).0 }

abbrev pub both : (a b : Bool) → Reporting a → Reporting b → Reporting (a && b)
both a b left right = record {
  Fact = left.Fact × right.Fact;
  fact = λ h. let parts = and_parts a b h in (left.fact parts.0, right.fact parts.1);
}

pub ruleset comparisons = (numbers, options, both, enums, tt)
