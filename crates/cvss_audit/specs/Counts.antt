-- How many documents and vectors an audit has seen, and how many disagreements.
use Rattle.std.specs.Prelude.{ℕ, ◌+◌, Option, None}
use Rattle.cvss_base.specs.declared.severity.Severity.{Severity}
use Rattle.cvss_report.specs.Tallies.{at_most, no_tally, one_more, with_one}
use Rattle.cvss_audit.specs.declared.counts.Counts.{Counts}

-- nothing is counted
abbrev pub no_counts : Counts
no_counts = record { documents = 0; vectors = 0; disagreements = 0; severities = no_tally }

-- one more document is counted
abbrev pub with_document : Counts → Counts
with_document counts = record counts { documents = one_more counts.documents }

-- one more text is counted that is no document
abbrev pub with_rejected : Counts → Counts
with_rejected counts = record counts { severities = with_one None counts.severities }

-- one more vector is counted, about which there are so many lines, by its severity if it is accepted
abbrev pub with_vector : ℕ → Option Severity → Counts → Counts
with_vector lines severity counts = record counts {
  vectors = one_more counts.vectors;
  disagreements = at_most (counts.disagreements + lines);
  severities = with_one severity counts.severities;
}
