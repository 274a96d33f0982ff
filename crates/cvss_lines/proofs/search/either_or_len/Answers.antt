use Rattle.std.proofs.Common.{◌≡◌, ◌≢◌, ◌⊎◌, ℕ, ◌+◌, ◌-◌, ◌<◌, ◌≤◌, List, length, drop, get_or, ap, ◌∙◌, subst, arith, inl, inr, length-drop}
use Rattle.std.proofs.lemmas.Bool.{cases_lt}
use Rattle.std.proofs.lemmas.List.{get_or-drop, take_rest}
use Rattle.cvss_lines.specs.Search.{IsFirstOf}
use Rattle.cvss_lines.proofs.search.either_or_len.Goals as goal

-- a byte is not before an index after bytes without it, where it is not before that index in the rest
without : (byte : ℕ) (bytes : List ℕ) (at index : ℕ) → ((k : ℕ) → k < at → get_or bytes k 0 ≢ byte)
    → ((k : ℕ) → k < index → get_or (drop at bytes) k 0 ≢ byte) → (k : ℕ) → k < at + index → get_or bytes k 0 ≢ byte
without byte bytes at index front rest k below = elim (cases_lt k at) [
  | inl before ↦ front k before
  | inr after ↦
      let same_byte : get_or (drop at bytes) (k - at) 0 ≡ get_or bytes k 0 =
      get_or-drop at bytes (k - at) 0 ∙ ap (λ j. get_or bytes j 0) (omega arith) in
      λ is. rest (k - at) (omega arith) (same_byte ∙ is)
]

-- the first byte of two after bytes that have none
after : (one other : ℕ) (bytes : List ℕ) (at index : ℕ) → at ≤ length bytes → ((k : ℕ) → k < at → get_or bytes k 0 ≢ one)
    → ((k : ℕ) → k < at → get_or bytes k 0 ≢ other) → IsFirstOf one other (drop at bytes) index → IsFirstOf one other bytes (at + index)
after one other bytes at index within no_one no_other p = record {
  within = omega (arith, p.within, length-drop at bytes);
  without_one = without one bytes at index no_one p.without_one;
  without_other = without other bytes at index no_other p.without_other;
  found = λ below. subst (λ byte. (byte ≡ one) ⊎ (byte ≡ other)) (get_or-drop at bytes index 0) (p.found (omega (arith, length-drop at bytes)));
}

pub returns : goal.returns
returns c =
    let loop = c.loop-at.invariant in
    after c.args.one c.args.other c.args.bytes.now c.loop-at.at c.either_by_one.result loop.within loop.without_one loop.without_other
    (subst (λ rest. IsFirstOf c.args.one c.args.other rest c.either_by_one.result) (take_rest c.args.bytes.now c.loop-at.at) c.either_by_one.ensures)
