-- The terms of a group that the code finds, and what they take.
use Rattle.std.proofs.Common.{◌≡◌, ℕ, ◌-◌, ◌*◌, ◌/◌, ◌<◌, ◌≤◌, Option, Some, None, IfSome, option_map, unwrap_or, refl, arith, pos, sym, subst, ap, ◌∙◌}
use Rattle.std.proofs.Math.Nat.{mul-le-mul, mul-le-mul_right}
use Rattle.std.proofs.lemmas.Int.{ints}
use Rattle.cvss_score.specs.v4.Explanation.{with_value}
use Rattle.cvss_score.specs.v4.Gap.{Group, next_lower}
use Rattle.cvss_score.specs.v4.Values.{table_value}
use Rattle.cvss_score.specs.v4.private.Next.{IsInTable}
use Rattle.cvss_score.specs.v4.private.Shares.{AreTerms, IsPart}
use Rattle.cvss_score.specs.declared.v4.scoring.classified.Classified.{Classified}
use Rattle.cvss_score.specs.declared.v4.scoring.next.NextClass.{NextClass}
use Rattle.cvss_score.specs.declared.v4.scoring.shares.Terms.{Terms}
use Rattle.cvss_score.proofs.v4_lemmas.GroupLemmas.{Graded, group_of, sound}
use Rattle.cvss_score.proofs.v4_lemmas.MeanLemmas.{IsSound}
use Rattle.cvss_score.proofs.v4_lemmas.NextLemmas.{lowers_are}

-- the part of a gap to a next lower class
part_of : (value : ℕ) (group : Group) (next : Option NextClass) (distance part : ℕ) → IsSound value group
    → next_lower group ≡ option_map (λ next. next.value) next → pos distance ≡ group.distance → part ≡ 840 / group.depth
    → IfSome next (λ next. IsPart value next.value distance part)
part_of value group None distance part sound is_lower is_distance is_part = tt
part_of value group (Some next) distance part sound is_lower is_distance is_part =
    let falls = sound.falls next.value is_lower in
    let one : distance ≡ sound.distance = omega (arith, ints, is_distance, sound.is_distance) in
    let share = 840 / group.depth in
    let at_most : distance * share ≤ group.depth * share = mul-le-mul_right share (omega (arith, one, sound.below)) in
    record {
      from_one = falls.from_one;
      to_value = falls.to_value;
      within = rw is_part (omega (arith, at_most, sound.divides));
    }

-- what is taken of a next lower class is taken of its value
of_value : (value distance part : ℕ) (next : Option NextClass)
    → unwrap_or (option_map (λ next. (value - next.value) * distance * part) next) 0
    ≡ unwrap_or (option_map (λ lower. (value - lower) * distance * part) (option_map (λ next. next.value) next)) 0
of_value value distance part = elim [ None ↦ refl | Some _ ↦ refl ]

of_one : (next : Option NextClass)
    → ◌≡◌ {A = ℕ} (unwrap_or (option_map (λ _. 1) next) 0)
    (unwrap_or (option_map (λ _. 1) (option_map (λ next. next.value) next)) 0)
of_one = elim [ None ↦ refl | Some _ ↦ refl ]

module _ (g : Graded) (found : Classified) where
  class_found : g.number found.placed.class ≡ g.scale.class (g.values found.effective)
  class_found = ap g.number found.of_effective ∙ g.numbered found.effective

  -- the constant of the class is at most the sum that the code finds
  pub from_constant : g.scale.constant (g.number found.placed.class) ≤ g.scale.found (g.values found.effective)
  from_constant =
      let v = g.values found.effective in
      let tabled = g.is.tabled (g.scale.class v) (g.is.is_class v) in
      rw class_found (omega (arith, tabled.is_least, (g.is.within v).from_least))

  -- what the code finds are the terms of a group
  pub terms_are : (terms : Terms) → terms.next ≡ option_map with_value (g.next found.placed.class) → IfSome terms.next IsInTable
      → terms.distance ≡ g.scale.found (g.values found.effective) - g.scale.constant (g.number found.placed.class)
      → terms.part ≡ g.scale.part (g.number found.placed.class) → AreTerms found.value (group_of g found.effective) terms
  terms_are terms next_found in_table distance_found part_found =
      let group = group_of g found.effective in
      let v = g.values found.effective in
      let within = g.is.within v in
      let tabled = g.is.tabled (g.scale.class v) (g.is.is_class v) in
      let next = subst (λ m. terms.next ≡ option_map with_value (g.next m)) found.of_effective next_found in
      let lower = lowers_are group.next terms.next next in_table in
      let constant = ap g.scale.constant class_found in
      let distance : pos terms.distance ≡ group.distance =
      omega (arith, ints, constant, distance_found, within.is_sum, within.from_least, tabled.is_least) in
      let part = part_found ∙ ap g.scale.part class_found in
      let value : table_value found.effective ≡ found.value = rw found.listed.is_value refl in
      let sound_below = subst (λ n. IsSound n group) value (sound g found.effective) in
      record {
        next = next;
        distance = distance;
        depth = rw part tabled.is_depth;
        least = rw part tabled.some;
        taken = rw (lower, sym distance, sym (part ∙ tabled.is_part)) (of_value found.value terms.distance terms.part terms.next);
        counted = rw lower (of_one terms.next);
        takes = part_of found.value group terms.next terms.distance terms.part sound_below lower distance (part ∙ tabled.is_part);
      }

-- a part is at most the gap to 1
pub gap_bound : (value lower distance part : ℕ) → 1 ≤ lower → distance * part ≤ 840
    → (value - lower) * (distance * part) ≤ 840 * (value - 1)
gap_bound value lower distance part some within =
    let gap : value - lower ≤ value - 1 = omega arith in
    let product : (value - lower) * (distance * part) ≤ (value - 1) * 840 = mul-le-mul gap within in
    omega (arith, product)

pub part_bound : (value lower distance depth : ℕ) → 1 ≤ lower → distance < depth → depth * (840 / depth) ≡ 840
    → (value - lower) * distance * (840 / depth) ≤ 840 * (value - 1)
part_bound value lower distance depth some below divides =
    let share = 840 / depth in
    let at_most : distance * share ≤ depth * share = mul-le-mul_right share (omega arith) in
    let bound = gap_bound value lower distance share some (omega (arith, at_most, divides)) in
    omega (arith, bound)
