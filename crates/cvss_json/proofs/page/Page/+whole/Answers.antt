use Rattle.std.proofs.Common.{◌≡◌, ◌+◌, ◌<◌, ◌≤◌, ◌/◌, ◌%◌, ◌∷◌, ◌++◌, [], ◌^◌, ℕ, List, ap, append_assoc, arith, decimal, length, length-append, ◌∙◌}
use Rattle.std.proofs.lemmas.Fmt.{decimal_digit, decimal_step, length-decimal-le}
use Rattle.cvss_json.proofs.page.Page.+whole.Goals as goal

room : (k n : ℕ) (old new : List ℕ) → 0 < k → n < 10 ^ k → n < 2 ^ 64 → new ≡ old ++ decimal n → length new ≤ length old + k
room k n old new some below fits is = omega (arith, ap length is, length-append old (decimal n), length-decimal-le k n some below fits)

pub push-requires-else-number-lt10 : goal.push-requires-else-number-lt10
push-requires-else-number-lt10 t c =
    omega (arith, c.requires, room 19 (c.args.number / 10) c.args.self.now _ (omega arith) (omega (arith, c.ranges.number.fits)) (omega (arith, c.ranges.number.fits)) c.whole.ensures.text)

pub returns-then-number-lt10-clause-text : goal.returns-then-number-lt10-clause-text
returns-then-number-lt10-clause-text t c = rw (decimal_digit c.args.number c.if-number-lt10.true) c.push.ensures

pub returns-else-number-lt10-clause-text : goal.returns-else-number-lt10-clause-text
returns-else-number-lt10-clause-text t c =
    c.push-else-number-lt10.ensures
    ∙ rw (c.whole.ensures.text, decimal_step c.args.number c.if-number-lt10.false c.ranges.number.fits, c.digit.ensures) (append_assoc c.args.self.now (decimal (c.args.number / 10)) ((48 + c.args.number % 10) ∷ []))

pub returns-else-number-lt10-clause-room : goal.returns-else-number-lt10-clause-room
returns-else-number-lt10-clause-room t c =
    room 20 c.args.number c.args.self.now _ (omega arith) (omega (arith, c.ranges.number.fits)) c.ranges.number.fits (returns-else-number-lt10-clause-text t c)
