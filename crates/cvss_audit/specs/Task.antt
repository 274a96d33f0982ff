-- How it ends to audit an input.
use Rattle.std.specs.Prelude.{ℕ, List, [], ◌∷◌, length, take, if◌then◌else◌, Option, Some, None}
use Rattle.std.specs.Str.{is_utf8}
use Rattle.cvss_frame.specs.Operands.{Ending, Endings}
use Rattle.cvss_audit.specs.Files.{FileEnds}
use Rattle.cvss_audit.specs.Inputs.{Input}
use Rattle.cvss_audit.specs.Whole.{WholeEnds}
use Rattle.cvss_audit.specs.declared.task.Asked.{Asked}
use Rattle.cvss_audit.specs.declared.task.Layout.{Layout}
use Rattle.cvss_audit.specs.declared.task.Layout.TheVariants.{Whole, Either}

-- the text of these bytes, if they are one
abbrev pub text_of : List ℕ → Option (List ℕ)
text_of bytes = if is_utf8 bytes then Some bytes else None

-- the name of the file whose answers would begin with this prefix, which is the name and a colon; none where there is no
-- prefix, or the name is no text
abbrev pub file_of : List ℕ → Option (List ℕ)
file_of [] = None
file_of (byte ∷ bytes) = text_of (take (length bytes) (byte ∷ bytes))

-- the answers say the file themselves, and not in a prefix
abbrev pub input_of : Asked → List ℕ → Input
input_of asked prefix = record {
  file = file_of prefix;
  line = None;
  allow_incomplete = asked.allow_incomplete;
  form = asked.form;
  gate = asked.gate;
}

-- how it ends by how the input holds its documents
abbrev pub ends_by : Layout → Input → Ending
ends_by Whole input = WholeEnds input
ends_by Either input = FileEnds input

abbrev pub audit_ends : Asked → Endings
audit_ends asked prefix = ends_by asked.layout (input_of asked prefix)
