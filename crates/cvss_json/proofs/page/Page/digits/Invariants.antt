use Rattle.std.proofs.Common.{◌≡◌, ◌+◌, ◌*◌, ◌++◌, ◌≤◌, decimal, drop, flat_map, length}
use Rattle.cvss_json.proofs.page.Page.digits.Given as goal

abbrev pub invariant-loop-number : goal.invariant-loop-number
invariant-loop-number l = record {
  text : l.self ++ flat_map decimal (drop l.number-index l.numbers) ≡ l.fn.self ++ flat_map decimal l.numbers;
  room : length l.self + 20 * length (drop l.number-index l.numbers) ≤ length l.fn.self + 20 * length l.numbers;
}
