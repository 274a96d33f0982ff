use Rattle.cvss_matches.proofs.LabelLemmas.{no_label_left}
use Rattle.cvss_matches.proofs.prefix.label_length.Goals as goal

pub returns : goal.returns
returns c = no_label_left c.args.text.now c.loop-left.left.now c.loop-left.invariant c.in_default.len_below
