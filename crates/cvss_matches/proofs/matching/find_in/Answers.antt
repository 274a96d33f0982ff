use Rattle.std.proofs.Common.{◌≡◌, MatchOption, ap, arith, length, subst, ◌∙◌}
use Rattle.cvss_matches.specs.Matches.{IsFound, without_label}
use Rattle.cvss_matches.specs.CandidatesLeft.{as_candidate}
use Rattle.cvss_matches.specs.Parts.{without_dividers}
use Rattle.cvss_matches.proofs.OffsetLemmas.{shorter_bytes}
use Rattle.cvss_matches.proofs.matching.find_in.Goals as goal

pub find_after_label-requires : goal.find_after_label-requires
find_after_label-requires c =
    omega (arith, c.requires, ap length (c.without_dividers.ensures ∙ ap without_dividers c.unencoded.ensures), shorter_bytes c.args.part.now)

pub returns : goal.returns
returns c =
    subst (λ text. MatchOption c.find_after_label.result (¬ (IsFound (without_label c.args.offset text).text))
    (λ candidate. (as_candidate candidate ≡ without_label c.args.offset text) × IsFound (without_label c.args.offset text).text))
    (c.without_dividers.ensures ∙ ap without_dividers c.unencoded.ensures) c.find_after_label.ensures
