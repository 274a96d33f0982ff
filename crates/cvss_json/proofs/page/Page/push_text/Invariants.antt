use Rattle.std.proofs.Common.{◌≡◌, ◌+◌, ◌++◌, ◌≤◌, length}
use Rattle.cvss_json.proofs.page.Page.push_text.Given as goal

abbrev pub invariant-loop-chunk : goal.invariant-loop-chunk
invariant-loop-chunk l = record {
  text : l.self ++ l.left ≡ l.fn.self ++ l.fn.text;
  room : length l.self + length l.left ≤ 4096;
}

abbrev pub decreases-loop-chunk : goal.decreases-loop-chunk
decreases-loop-chunk l = length l.left
