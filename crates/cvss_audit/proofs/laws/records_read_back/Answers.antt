use Rattle.std.proofs.Common.{◌≡◌, true, map, sym, subst}
use Rattle.cvss_vector.specs.declared.vector.Cvss.{Cvss}
use Rattle.cvss_vector.specs.declared.vector.Cvss.TheVariants.{CvssV20, CvssV30, CvssV31, CvssV40}
use Rattle.cvss_report.specs.Fields.{fields_of, name_of}
use Rattle.cvss_report.specs.Record as written
use Rattle.cvss_report.specs.laws.Members.{ascend}
use Rattle.cvss_audit.specs.Members.{object_of}
use Rattle.cvss_audit.specs.Texts.{IsTextOf}
use Rattle.cvss_audit.specs.laws.Records.{record_members}
use Rattle.cvss_audit.proofs.RecordLemmas.{are_texts, in_order}
use Rattle.cvss_audit.proofs.laws.records_read_back.Goals as goal

pub returns : goal.returns
returns c = λ cvss text reported range.
    let reads = c.written_objects_read_back.ensures in
    let members = c.members_are_in_order.ensures in
    let ascends : (cvss : Cvss) → ascend (map name_of (fields_of cvss)) ≡ true = λ each.
    elim each as (λ v. ascend (map name_of (fields_of v)) ≡ true) [
      | CvssV20 v ↦ members.v2.in_order
      | CvssV30 v ↦ members.v3.in_order
      | CvssV31 v ↦ members.v3.in_order
      | CvssV40 v ↦ members.v4.in_order
    ] in
    subst (IsTextOf (object_of (record_members cvss reported.scores))) (sym reported.is)
    (reads.object (record_members cvss reported.scores) (written.record_members cvss reported.scores) (in_order cvss reported.scores (fields_of cvss) (ascends cvss))
    (are_texts reads.string reads.float cvss reported.scores range (fields_of cvss)))
