-- The canonical text of a canonical text is that text.
use Rattle.std.proofs.Common.{◌≡◌, ℕ, List, ap, sym, ◌∙◌, subst}
use Rattle.cvss.specs.Version.{Version, canonical_text, Denotes}
use Rattle.cvss_examples.specs.Canonical.{IsCanonicalTextOf}

pub one_text : {V K : Type 0} (version : Version V K) (IsVector : V → Type 0)
    → ((v : V) → Denotes version (canonical_text version v) v)
    → ((text : List ℕ) (v w : V) → Denotes version text v → Denotes version text w → v ≡ w)
    → {text once again twice : List ℕ} → once ≡ again
    → IsCanonicalTextOf version IsVector text once → IsCanonicalTextOf version IsVector again twice → once ≡ twice
one_text version IsVector own one {once = once} same first second =
    let denoted = subst (λ text. Denotes version text second.vector) (sym same) second.denoted in
    let of_first = subst (λ text. Denotes version text first.vector) (sym first.is) (own first.vector) in
    first.is ∙ (ap (canonical_text version) (one once first.vector second.vector of_first denoted) ∙ sym second.is)
