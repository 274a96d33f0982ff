use Rattle.std.proofs.Common.{arith}
use Rattle.std.proofs.lemmas.Int.{ints}
use Rattle.cvss_score.proofs.v2_lemmas.CountLemmas.{count_rounded}
use Rattle.cvss_score.proofs.v2.score.Score.roundup.Goals as goal

pub returns-clause-value : goal.returns-clause-value
returns-clause-value c = record {
  number = c.round_tenths.result;
  is_number = count_rounded c.args.self (omega (arith, ints)) c.round_tenths.ensures.value;
  is_count = omega (arith, ints);
}
