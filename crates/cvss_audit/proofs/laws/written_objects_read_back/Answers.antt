use Rattle.cvss_audit.proofs.WrittenLemmas.{float_reads, object_reads, string_reads}
use Rattle.cvss_audit.proofs.laws.written_objects_read_back.Goals as goal

pub returns : goal.returns
returns c = record { object = object_reads; string = string_reads; float = float_reads }
