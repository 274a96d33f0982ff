use Rattle.std.proofs.Common.{◌≡◌, map, drop}
use Rattle.cvss_report.specs.Words.{word_in}
use Rattle.cvss_report.proofs.names.words.word_in.Given as goal

abbrev pub invariant-loop-own : goal.invariant-loop-own
invariant-loop-own l =
    word_in (map (λ word. (word.0.now, word.1.now)) (drop l.own-index l.words)) l.spelling
    ≡ word_in (map (λ word. (word.0.now, word.1.now)) l.words) l.spelling
