use Rattle.std.proofs.Common.{◌≡◌, ℕ, Bool, length, true, false, get_or, not, cond, eqb, ap, ◌∙◌, arith}
use Rattle.std.proofs.lemmas.Bool.Decides.{Decides-eqb}
use Rattle.std.proofs.lemmas.Simd.{bitmask_splat, first_set_mask_l, length-chunk, run_in_chunk_fails, run_in_chunk_le, run_in_chunk_stops}
use Rattle.std.specs.List.{prefix_len}
use Rattle.std.specs.Int.{trailing_zeros, w64, w8}
use lib.Lanes.{chunk}
use Rattle.cvss_lines.proofs.search.run_in_lanes.Goals as goal

pub returns : goal.returns
returns c =
    let loaded = chunk c.args.at 16 c.args.bytes.now in
    let is : ℕ → Bool = λ byte. eqb byte c.args.byte in
    let long : length loaded ≡ 16 = length-chunk c.args.at 16 c.args.bytes.now c.requires in
    let counted : c.first_set.result ≡ prefix_len (λ byte. not (is byte)) loaded =
    c.first_set.ensures
    ∙ ap (λ bits. cond (eqb bits 0) 16 (trailing_zeros w64 bits)) (bitmask_splat w8 eqb loaded 16 c.args.byte long (omega arith))
    ∙ first_set_mask_l is loaded 16 long (omega arith) in
    record {
      within = run_in_chunk_le is c.args.bytes.now c.args.at 16 c.first_set.result 0 c.requires counted;
      before = λ k from to same.
          let here : eqb (get_or c.args.bytes.now k 0) c.args.byte ≡ true = (Decides-eqb _ c.args.byte).1 same in
          let absent : eqb (get_or c.args.bytes.now k 0) c.args.byte ≡ false =
          run_in_chunk_fails is c.args.bytes.now c.args.at 16 c.first_set.result 0 c.requires counted k from to in cc;
      found = λ below. (Decides-eqb _ c.args.byte).0
          (run_in_chunk_stops is c.args.bytes.now c.args.at 16 c.first_set.result 0 c.requires counted below);
    }
