use Rattle.std.proofs.Common.{sym, ap, take}
use Rattle.std.proofs.lemmas.List.Sums.{position_or_len_is}
use Rattle.cvss_matches.specs.Parts.{is_escape}
use Rattle.cvss_matches.proofs.PassLemmas.{escape_at, escape_not}
use Rattle.cvss_matches.proofs.part.before_escape.Goals as goal

pub returns : goal.returns
returns c =
    let end = c.either_or_len in
    ap (λ count. take count c.args.text.now)
    (sym (position_or_len_is is_escape c.args.text.now end.result 0 end.ensures.within
    (λ k before. escape_not _ (end.ensures.without_one k before) (end.ensures.without_other k before))
    (λ within. escape_at _ (end.ensures.found within))))
