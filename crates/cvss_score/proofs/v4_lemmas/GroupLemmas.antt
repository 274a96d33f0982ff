-- The groups of effective values are sound below the value of their class.
use Rattle.std.proofs.Common.{◌≡◌, ℕ, ◌-◌, Option, refl, arith, pos}
use Rattle.std.proofs.lemmas.Int.{ints}
use Rattle.cvss_score.specs.v4.Classes.{macro_vector}
use Rattle.cvss_score.specs.v4.Gap.{Group, eq1_next, eq2_next, eq3_eq6_next, eq4_next, eq5_next, groups}
use Rattle.cvss_score.specs.v4.Values.{listed_value, table_value, IsListed}
use Rattle.cvss_score.specs.declared.v4.scoring.classes.MacroVector.{MacroVector}
use Rattle.cvss_score.specs.declared.v4.scoring.effective.Effective.{Effective}
use Rattle.cvss_score.proofs.v4_lemmas.ClassLemmas.{macro_vector_is}
use Rattle.cvss_score.proofs.v4_lemmas.LeastLemmas.{Scale, IsScale, distance, eq1_scale, eq1_is_scale, eq2_scale, eq2_is_scale, eq3_eq6_scale, eq3_eq6_is_scale, eq4_scale, eq4_is_scale, eq5_scale, eq5_is_scale}
use Rattle.cvss_score.proofs.v4_lemmas.MeanLemmas.{IsSound, AreSound}
use Rattle.cvss_score.proofs.v4_lemmas.TableLemmas.{value_at_place, Descends, falls_from, all_descend}

-- a group of metrics: the values that it rests on, its number in a class, and the next lower class
pub record Graded : Type 1 where
  pub V : Type 0
  pub C : Type 0
  pub scale : Scale V C
  pub IsClass : C → Type 0
  pub is : IsScale scale IsClass
  pub values : Effective → V
  pub number : MacroVector → C
  pub numbered : (v : Effective) → number (macro_vector v) ≡ scale.class (values v)
  pub next : MacroVector → Option MacroVector
  pub descends : Descends next

abbrev graded : {V C : Type 0} {IsClass : C → Type 0} (scale : Scale V C) → IsScale scale IsClass → (values : Effective → V)
    → (number : MacroVector → C) → ((v : Effective) → number (macro_vector v) ≡ scale.class (values v))
    → (next : MacroVector → Option MacroVector) → Descends next → Graded
graded {V} {C} {IsClass} scale is values number numbered next descends =
    record { V = V; C = C; scale = scale; IsClass = IsClass; is = is; values = values; number = number; numbered = numbered; next = next; descends = descends }

abbrev pub eq1 : Graded
eq1 = graded eq1_scale eq1_is_scale (λ v. (v.av, v.pr, v.ui)) (λ m. m.eq1) (λ v. refl) eq1_next all_descend.eq1

abbrev pub eq2 : Graded
eq2 = graded eq2_scale eq2_is_scale (λ v. (v.ac, v.at)) (λ m. m.eq2) (λ v. refl) eq2_next all_descend.eq2

abbrev pub eq3_eq6 : Graded
eq3_eq6 =
    graded eq3_eq6_scale eq3_eq6_is_scale (λ v. (v.vc, v.vi, v.va, v.cr, v.ir, v.ar)) (λ m. (m.eq3, m.eq6)) (λ v. refl) eq3_eq6_next
    all_descend.eq3_eq6

abbrev pub eq4 : Graded
eq4 = graded eq4_scale eq4_is_scale (λ v. (v.sc, v.si, v.sa)) (λ m. m.eq4) (λ v. refl) eq4_next all_descend.eq4

abbrev pub eq5 : Graded
eq5 = graded eq5_scale eq5_is_scale (λ v. v.e) (λ m. m.eq5) (λ v. refl) eq5_next all_descend.eq5

abbrev pub group_of : Graded → Effective → Group
group_of g v = record {
  next = g.next (macro_vector v);
  distance = distance g.scale (g.values v);
  depth = g.scale.depth (g.scale.class (g.values v));
}

-- the value of the class is listed
pub table_value_listed : (v : Effective) → IsListed (listed_value (macro_vector v)) (table_value v)
table_value_listed v =
    let there = value_at_place (macro_vector v) (macro_vector_is v) in
    rw there.is_value (record { is_value = refl; from_one = there.from_one; to_hundred = there.to_hundred })

module _ (g : Graded) (v : Effective) where
  abbrev pub number_distance : ℕ
  number_distance = g.scale.sum (g.values v) - g.scale.least (g.scale.class (g.values v))

  pub distance_is : distance g.scale (g.values v) ≡ pos number_distance
  distance_is = let within = g.is.within (g.values v) in omega (arith, ints, within.is_sum, within.from_least)

  pub sound : IsSound (table_value v) (group_of g v)
  sound =
      let within = g.is.within (g.values v) in
      let tabled = g.is.tabled (g.scale.class (g.values v)) (g.is.is_class (g.values v)) in
      record {
        distance = number_distance;
        is_distance = distance_is;
        below = omega (arith, within.is_sum, within.from_least, within.to_depth);
        divides = rw (← tabled.is_part) tabled.divides;
        falls = λ lower. falls_from g.next g.descends (macro_vector v) (macro_vector_is v) (table_value v) lower (table_value_listed v).is_value;
      }

pub groups_sound : (v : Effective) → AreSound (table_value v) (groups v)
groups_sound v = (sound eq1 v, (sound eq2 v, (sound eq3_eq6 v, (sound eq4 v, (sound eq5 v, tt)))))
