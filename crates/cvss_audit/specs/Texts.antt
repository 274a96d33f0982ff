-- The texts that are written for JSON objects: RFC 8259.
use Rattle.std.specs.Prelude.{◌≡◌, ◌≢◌, ◌≤◌, ℕ, List, ◌++◌, All, Some}
use Rattle.cvss_lines.specs.Answers.{written_text}
use Rattle.json.specs.Lex.{tokens}
use Rattle.json.specs.Print.{print}
use Rattle.serde_json.specs.Data.{Data, depth}
use Rattle.serde_json.specs.Read.{read, max_depth}
use Rattle.serde_json.specs.Written.{IsInOrder}

-- the text is the value's, without spaces and on one line: it reads as the value, if that nests no deeper than a
-- reader goes, and has the members in the order of the value. A float's digits are any that read back.
pub record IsTextOf (value : Data) (text : List ℕ) : Type 0 where
  pub reads : depth value ≤ max_depth → read text ≡ Some value
  pub in_order : IsInOrder text value
  pub compact : text ≡ print (tokens text)
  pub one_line : All (λ byte. byte ≢ 10) text

-- the value's text and a byte 10 are written after the earlier answers
pub record WritesObject (value : Data) (old new : List ℕ) : Type 0 where
  pub text : List ℕ
  pub is_text : IsTextOf value text
  pub written : new ≡ old ++ written_text text
