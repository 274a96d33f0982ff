use Rattle.std.proofs.Common.{ℕ, List, option_copied, refl}
use Rattle.std.specs.Borrow.{Bor}
use Rattle.std.proofs.lemmas.Result.{on_ok_weaker}
use Rattle.cvss_explain.specs.WhatIf.{IsCell}
use Rattle.cvss_explain.proofs.JoinLemmas.{joins_views}
use Rattle.cvss_explain.proofs.PartLemmas.{four_parts}
use Rattle.cvss_explain.proofs.what_if.write_line.Goals as goal

pub returns : goal.returns
returns g c =
    let padding = rw (c.as_bytes.ensures.value, c.name-name.ensures) at c.in_ok-write_padded.ensures in
    let cells = c.in_ok-write_cells.ensures in
    let views = joins_views (IsCell c.args.cvss.now c.name-name.result.now (option_copied c.spelled.result))
    (λ (value : Bor (List ℕ) × Bor (List ℕ)). (value.0.now, value.1.now)) c.value_words.result.now cells.text cells.holds in
    on_ok_weaker c.push-2.result
    (λ last. record {
      text = _;
      holds = record {
        cells = cells.text;
        are = rw (c.name-name.ensures, c.spelled.ensures, c.value_words.ensures) at views;
        is = refl;
      };
      written = four_parts _ _ _ _ _ _ _ _ _ c.in_ok-push.ensures padding cells.written last;
    })
    c.push-2.ensures
