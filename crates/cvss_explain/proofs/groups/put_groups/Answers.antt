use Rattle.std.proofs.Common.{◌≡◌, List, [], ◌∷◌, ◌++◌, ℕ, append_assoc, codes, refl}
use Rattle.cvss_json.specs.Json.{array_text}
use Rattle.cvss_explain.proofs.groups.put_groups.Goals as goal

-- five values between brackets, with a comma between each two
five : (page a b c d e : List ℕ)
    → ((((((((((page ++ codes "[") ++ a) ++ codes ",") ++ b) ++ codes ",") ++ c) ++ codes ",") ++ d) ++ codes ",") ++ e) ++ codes "]"
    ≡ page ++ array_text (a ∷ b ∷ c ∷ d ∷ e ∷ [])
five page a b c d e = simp append_assoc refl

pub returns-clause-text : goal.returns-clause-text
returns-clause-text c =
    rw (c.push-7.ensures, c.put_group-5.ensures.text, c.push-6.ensures, c.put_group-4.ensures.text, c.push-5.ensures, c.put_group-3.ensures.text)
    (rw (c.push-4.ensures, c.put_group-2.ensures.text, c.push-3.ensures, c.put_group.ensures.text, c.push-2.ensures, c.in-Some.is)
    (five c.args.page.now _ _ _ _ _))
