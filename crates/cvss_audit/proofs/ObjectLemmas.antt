-- Members that are put into an object one list after the other.
use Rattle.std.proofs.Common.{◌≡◌, List, [], ◌∷◌, ◌++◌, refl}
use Rattle.serde_json.specs.Data.{Members, put}
use Rattle.cvss_audit.specs.Members.{Member, with_members}

pub with_members-append : (first second : List Member) (old : Members) → with_members (first ++ second) old ≡ with_members second (with_members first old)
with_members-append [] second old = refl
with_members-append (each ∷ rest) second old = with_members-append rest second (put each.0 each.1 old)
