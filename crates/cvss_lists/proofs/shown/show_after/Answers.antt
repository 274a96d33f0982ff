use Rattle.std.proofs.Common.{[], ◌∷◌, ◌++◌, true, ◌≡◌, ◌∙◌, ap, subst, sym}
use Rattle.std.specs.List.{list_all}
use Rattle.cvss_json.specs.Escapes.{is_from}
use Rattle.cvss_frame.proofs.NamesLemmas.{plain_shown}
use Rattle.cvss_lists.proofs.shown.show_after.Goals as goal

pub returns-then-is_plain : goal.returns-then-is_plain
returns-then-is_plain c before text length_is items =
    let same = c.text_after-text.ensures before text length_is (c.deref.ensures.value ∙ items) in
    let plain = subst (λ bytes. list_all (is_from 0x20 0x7e) bytes ≡ true) same (sym c.is_plain.ensures ∙ c.if-is_plain.true) in
    items ∙ ap (λ shown. before ++ (shown ++ 10 ∷ [])) (sym (plain_shown text plain))
