use Rattle.std.proofs.Common.{◌≡◌, ◌⊎◌, inl, inr, ◌++◌, codes, refl, ap, ◌∙◌}
use Rattle.cvss_base.specs.V4Types.{name_of}
use Rattle.cvss_base.specs.declared.v4.MetricType.{MetricType}
use Rattle.cvss_base.specs.declared.v4.MetricType.TheVariants.{AC, AT, AV, PR, SA, SC, SI, UI, VA, VC, VI, E, AR, CR, IR, MAC, MAT, MAV, MPR, MSA, MSC, MSI, MUI, MVA, MVC, MVI}
use Rattle.cvss_score.specs.v4.Effective.{meaning, attack_vectors, privileges, user_interactions, attack_complexities, all_attack_requirements, vulnerable_impacts, subsequent_impacts, safety_impacts, requirements, exploit_maturities}
use Rattle.cvss_vector.specs.v4.Merging.{letter_at, replaced, merged, effective_of}
use Rattle.cvss_laws.specs.v4.MergingLaws.{IsWrittenAsBase, IsKept, HasModifiedAsBase}
use Rattle.cvss_vector.specs.declared.v4.vector.Vector.{Vector}

-- the vectors have the same letters, each base metric's taken together with its modified metric's
record AreMergedAlike (v w : Vector) : Type 0 where
  each : (modified base : MetricType) → name_of modified ≡ codes "M" ++ name_of base → merged v modified base ≡ merged w modified base
  e : letter_at v E ≡ letter_at w E
  cr : letter_at v CR ≡ letter_at w CR
  ir : letter_at v IR ≡ letter_at w IR
  ar : letter_at v AR ≡ letter_at w AR

effective_alike : (v w : Vector) → AreMergedAlike v w → effective_of v ≡ effective_of w
effective_alike v w same = λ i. record {
  av = meaning attack_vectors (same.each MAV AV refl i);
  pr = meaning privileges (same.each MPR PR refl i);
  ui = meaning user_interactions (same.each MUI UI refl i);
  ac = meaning attack_complexities (same.each MAC AC refl i);
  at = meaning all_attack_requirements (same.each MAT AT refl i);
  vc = meaning vulnerable_impacts (same.each MVC VC refl i);
  vi = meaning vulnerable_impacts (same.each MVI VI refl i);
  va = meaning vulnerable_impacts (same.each MVA VA refl i);
  sc = meaning subsequent_impacts (same.each MSC SC refl i);
  si = meaning safety_impacts (same.each MSI SI refl i);
  sa = meaning safety_impacts (same.each MSA SA refl i);
  cr = meaning requirements (same.cr i);
  ir = meaning requirements (same.ir i);
  ar = meaning requirements (same.ar i);
  e = meaning exploit_maturities (same.e i);
}

-- vectors with the same letters
pub letters_alike : (v w : Vector) → ((kind : MetricType) → letter_at v kind ≡ letter_at w kind) → effective_of v ≡ effective_of w
letters_alike v w same = effective_alike v w (record {
  each = λ modified base _ i. replaced (same modified i) (same base i);
  e = same E;
  cr = same CR;
  ir = same IR;
  ar = same AR;
})

-- a base metric with its modified metric's letter, or both as they are
one_letter : (v w : Vector) (modified base : MetricType) → IsWrittenAsBase v w modified base ⊎ IsKept v w modified base → merged w modified base ≡ merged v modified base
one_letter v w modified base (inl written) = ap (λ letter. replaced letter (letter_at w base)) written.undefined ∙ written.replaced
one_letter v w modified base (inr kept) = λ i. replaced (kept.same_modified i) (kept.same_base i)

pub modified_as_base : (v w : Vector) → HasModifiedAsBase v w → effective_of w ≡ effective_of v
modified_as_base v w same = effective_alike w v (record {
  each = λ modified base pair. one_letter v w modified base (same.each modified base pair);
  e = same.e;
  cr = same.cr;
  ir = same.ir;
  ar = same.ar;
})
