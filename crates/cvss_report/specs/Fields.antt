-- The members that the records of each version may have, in the order of their names: FIRST's JSON schemas of
-- CVSS v2.0, v3.0, v3.1 and v4.0.
use Rattle.std.specs.Prelude.{ℕ, List, codes}
use Rattle.cvss_vector.specs.declared.vector.Cvss.{Cvss}
use Rattle.cvss_vector.specs.declared.vector.Cvss.TheVariants.{CvssV20, CvssV30, CvssV31, CvssV40}
use Rattle.cvss_report.specs.WordsV2 as words_v2
use Rattle.cvss_report.specs.WordsV3 as words_v3
use Rattle.cvss_report.specs.WordsV4 as words_v4
use Rattle.cvss_report.specs.Groups.{score_member, severity_member}
use Rattle.cvss_report.specs.declared.field.Field.{Field}
use Rattle.cvss_report.specs.declared.field.Field.TheVariants.{V2, V3, V4, Score, Severity, Text, Version}

-- the name of a member
abbrev pub name_of : Field → List ℕ
name_of (V2 kind) = words_v2.member_of kind
name_of (V3 kind) = words_v3.member_of kind
name_of (V4 kind) = words_v4.member_of kind
name_of (Score group) = score_member group
name_of (Severity group) = severity_member group
name_of Text = codes "vectorString"
name_of Version = codes "version"

-- the members of the vector's version
abbrev pub fields_of : Cvss → List Field
fields_of (CvssV20 _) = words_v2.fields
fields_of (CvssV30 _) = words_v3.fields
fields_of (CvssV31 _) = words_v3.fields
fields_of (CvssV40 _) = words_v4.fields
