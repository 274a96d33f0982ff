-- What the private code that reads overrides does at each step. No public clause cites it.
use Rattle.std.specs.Prelude.{ℕ, List, ⊤}
use Rattle.cvss_base.specs.Text.{IsComponent}
use Rattle.cvss_text.specs.private.SettingSteps.{IsWrongFor}
use Rattle.cvss_text.specs.private.Walk.{Adds, IsPrintable, reason_of}
use Rattle.cvss_vector.specs.v4.Overriding.{IsOfOtherGroup, Objection, OfOtherGroup, OfText}
use Rattle.cvss_vector.specs.v4.Vector.{v4}
use Rattle.cvss_vector.specs.declared.v4.vector.Vector.{Vector}
use Rattle.cvss_vector.specs.declared.v4.overrides.OverrideFault.{OverrideFault}
use Rattle.cvss_vector.specs.declared.v4.overrides.OverrideFault.TheVariants.{OtherGroup, Component}

-- the text, which is of no other group, goes into the vector
pub record AddsOverride (old : Vector) (text : List ℕ) (new : Vector) : Type 0 where
  pub component : IsComponent text
  pub none : ¬ (IsOfOtherGroup text)
  pub adds : Adds v4 old text new

-- what is wrong with a text, where the vector holds those before it
abbrev pub IsObjectionTo : Vector → List ℕ → Objection → Type 0
IsObjectionTo v text OfOtherGroup = IsOfOtherGroup text
IsObjectionTo v text (OfText reason) = ¬ (IsOfOtherGroup text) × IsWrongFor v4 v text reason

-- the objection that a fault stands for
abbrev pub objection_of : OverrideFault → Objection
objection_of OtherGroup = OfOtherGroup
objection_of (Component fault) = OfText (reason_of v4 fault)

-- the fault can be reported
abbrev pub IsPrintableFault : OverrideFault → Type 0
IsPrintableFault OtherGroup = ⊤
IsPrintableFault (Component fault) = IsPrintable v4 fault
