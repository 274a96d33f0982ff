use Rattle.std.proofs.Common.{◌≡◌, ◌+◌, ◌++◌, ◌≤◌, drop, length}
use Rattle.std.specs.List.{filter_map}
use Rattle.cvss_json.specs.Json.{object_text, rest_of_object}
use Rattle.cvss_json.specs.Scalars.{rooms}
use Rattle.cvss_json.proofs.member.put_object.Given as goal

abbrev pub invariant-loop-key : goal.invariant-loop-key
invariant-loop-key g l =
    let text = g.T.Members.text_at l.table in
    let room = g.T.Members.room_at l.table in
    record {
      text : l.page ++ rest_of_object l.later (filter_map text (drop l.key-index l.keys)) ≡ l.fn.page ++ object_text (filter_map text l.keys);
      room : length l.page + rooms room (drop l.key-index l.keys) ≤ length l.fn.page + 1 + rooms room l.keys;
    }
