use Rattle.cvss_json.proofs.page.Page.+whole.Given as goal

abbrev pub decreases-whole : goal.decreases-whole
decreases-whole l = l.number
