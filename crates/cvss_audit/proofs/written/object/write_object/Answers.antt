use Rattle.std.proofs.Common.{[], ◌∷◌, refl}
use Rattle.std.proofs.lemmas.Result.{on_ok_weaker}
use Rattle.cvss_lines.proofs.TextsLemmas.{one_text}
use Rattle.serde_json.specs.Data.{object}
use Rattle.cvss_audit.specs.Trees.{members_view}
use Rattle.cvss_audit.proofs.written.object.write_object.Goals as goal

pub returns : goal.returns
returns c =
    on_ok_weaker c.write_tree_object.result
    (λ written. record {
      texts = written.text ∷ [];
      are = record {
        value = object (members_view c.in_ok-members.members.entries);
        is_object = c.in_ok-members.ensures;
        text = written.text;
        is_text = written.is_text;
        are = refl;
      };
      written = one_text _ _ _ written.written;
    })
    c.write_tree_object.ensures
