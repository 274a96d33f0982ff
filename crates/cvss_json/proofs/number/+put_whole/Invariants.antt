use Rattle.cvss_json.proofs.number.+put_whole.Given as goal

abbrev pub decreases-put_whole : goal.decreases-put_whole
decreases-put_whole g l = l.number
