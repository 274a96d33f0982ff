-- What is written for a value in the midst of an object.
use Rattle.std.specs.Prelude.{◌≡◌, ℕ, List, ◌++◌}
use Rattle.serde_json.specs.Data.{Data}
use Rattle.cvss_audit.specs.Texts.{IsTextOf}

-- the value's text follows what waited
pub record PushesText (value : Data) (old new : List ℕ) : Type 0 where
  pub text : List ℕ
  pub is_text : IsTextOf value text
  pub written : new ≡ old ++ text
