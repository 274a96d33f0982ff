-- A message as segments: each is bytes of another text, as they are or with their ASCII letters in upper case.
use Rattle.std.specs.Prelude.{ℕ, List, flat_map}
use Rattle.cvss_base.specs.Text.{read_as}
use Rattle.cvss_vector.specs.declared.segment.Segment.{Segment}

-- the text of a segment
abbrev pub segment_text : Segment → List ℕ
segment_text segment = read_as segment.upper segment.bytes.now

-- the text of segments, one after another
abbrev pub text_of : List Segment → List ℕ
text_of segments = flat_map segment_text segments
