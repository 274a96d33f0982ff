use Rattle.std.proofs.Common.{◌<◌, arith, length, ap}
use Rattle.std.proofs.lemmas.Bool.Decides.{nat_tests}
use Rattle.std.proofs.lemmas.List.{nil_from_length}
use Rattle.cvss_csv.specs.Records.{records}
use Rattle.cvss_csv.proofs.RecordLemmas.{first_ended, first_last, piece_closed}
use Rattle.cvss_csv.proofs.record.first_record.Goals as goal

pub ended-requires : goal.ended-requires
ended-requires c = piece_closed c.args.text.now c.in-Ok.piece.now c.in-Ok.rest.now c.in-Ok.ensures

pub returns-in-Ok : goal.returns-in-Ok
returns-in-Ok c = first_ended c.args.text.now _ c.in-Ok.piece.now c.in-Ok.rest.now c.in-Ok.ensures c.ended.ensures.body c.ended.ensures.line_end c.ended.ensures.unclosed

pub returns-in-Err : goal.returns-in-Err
returns-in-Err c = ap records (nil_from_length c.args.text.now (grind (arith, nat_tests)))

pub last-requires : goal.last-requires
last-requires c = c.in-Err.ensures.leads

pub returns-in-Err-2 : goal.returns-in-Err-2
returns-in-Err-2 c =
    let some : 0 < length c.args.text.now = grind (arith, nat_tests) in
    first_last c.args.text.now _ c.in-Err.field-0 c.in-Err.ensures some c.last.ensures.body c.last.ensures.line_end c.last.ensures.unclosed
