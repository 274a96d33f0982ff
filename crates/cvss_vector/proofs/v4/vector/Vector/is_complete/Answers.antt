use Rattle.std.proofs.Common.{◌≡◌, ◌↔◌, Bool, true, false, not, Option, Some, None, is_none, is_some, IsTrue, refl, sym}
use Rattle.cvss_base.proofs.FindLemmas.{found_passes}
use Rattle.cvss_base.specs.Version.{Version, IsComplete}
use Rattle.cvss_text.specs.private.Walk.{first_missing}
use Rattle.cvss_text.proofs.WalkLemmas.{none_absent, IsComplete-from, Contains-missing}
use Rattle.cvss_vector.specs.v4.Vector.{v4}
use Rattle.cvss_vector.proofs.v4.vector.Vector.is_complete.Goals as goal

-- whether nothing is missing is whether the vector is complete
complete_test : {V K : Type 0} (version : Version V K) (v : V) (missing : Option K) (none : Bool) → is_some missing ≡ not none → missing ≡ first_missing version v → IsTrue none ↔ IsComplete version v
complete_test version v None true reported is = (λ _. IsComplete-from version v (sym is), λ _. refl)
complete_test version v (Some kind) false reported is =
    let lacks = found_passes (λ other. is_none (version.value_of v other)) version.mandatory kind (sym is) in
    (λ none. absurd cc, λ complete. absurd (none_absent (version.value_of v kind) lacks (complete.present kind (Contains-missing version v kind (sym is)))))
complete_test version v _ _ reported is = absurd cc

pub returns : goal.returns
returns c = complete_test v4 c.args.self.now c.first_missing.result c.is_none.result c.is_none.ensures c.first_missing.ensures
