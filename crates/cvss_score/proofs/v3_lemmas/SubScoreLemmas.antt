-- The values of the equations' parts over the weights of the tables, by trying all.
use Rattle.std.specs.List.{list_all, Contains}
use Rattle.std.proofs.Common.{◌≡◌, ℕ, ◌*◌, ◌/◌, ◌≤◌, min, List, Bool, true, false, leb, eqb, ◌||◌, ◌⊎◌, inl, inr, refl}
use Rattle.std.proofs.lemmas.Bool.{leb-true, eqb-true, or_cases}
use Rattle.cvss_score.specs.v3.private.SubScores.{sub_scores, weighted_impacts, exploitabilities, IsSubScore}
use Rattle.cvss_score.specs.v3.private.Units.{millionths_of}
use Rattle.cvss_score.specs.v3.Bounds.{attack_vectors, attack_complexities, privileges_required, user_interactions, impacts, requirements}
use Rattle.cvss_base.proofs.TestLemmas.{passes, passes_two, passes_three, is_listed, listed_if}

-- no listed weight is above m
pub weight_bound : (xs : List ℕ) (x m : ℕ) → list_all (λ y. leb y m) xs ≡ true → Contains xs x → x ≤ m
weight_bound xs x m all listed = leb-true x m (passes (λ y. leb y m) xs x all listed)

pub weighted_listed : (requirement impact : ℕ) → Contains requirements requirement → Contains impacts impact
    → Contains weighted_impacts (requirement * impact / 100)
weighted_listed requirement impact is_requirement is_impact =
    listed_if weighted_impacts (requirement * impact / 100)
    (passes_two (λ r i. is_listed weighted_impacts (r * i / 100)) requirements impacts requirement impact refl is_requirement is_impact)

-- an impact times its requirement has no more decimals
pub weighted_whole : (requirement impact : ℕ) → Contains requirements requirement → Contains impacts impact
    → requirement * impact / 100 * 100 ≡ requirement * impact
weighted_whole requirement impact is_requirement is_impact =
    eqb-true (requirement * impact / 100 * 100) (requirement * impact)
    (passes_two (λ r i. eqb (r * i / 100 * 100) (r * i)) requirements impacts requirement impact refl is_requirement is_impact)

abbrev is_sub_score : ℕ → Bool
is_sub_score s = eqb s 0 || is_listed sub_scores s

sub_score_if : (s : ℕ) → is_sub_score s ≡ true → (s ≡ 0) ⊎ IsSubScore s
sub_score_if s holds = elim (or_cases (eqb s 0) (is_listed sub_scores s) holds) [
  | inl is_zero ↦ inl (eqb-true s 0 is_zero)
  | inr listed ↦
      let is = listed_if sub_scores s listed in
      let low = leb-true 110_000 s (passes (λ y. leb 110_000 y) sub_scores s refl is) in
      inr (record { listed = is; low = low; high = weight_bound sub_scores s 915_000 refl is })
]

pub iss_listed : (c i a : ℕ) → Contains impacts c → Contains impacts i → Contains impacts a
    → (millionths_of c i a ≡ 0) ⊎ IsSubScore (millionths_of c i a)
iss_listed c i a is_c is_i is_a =
    sub_score_if (millionths_of c i a)
    (passes_three (λ c i a. is_sub_score (millionths_of c i a)) impacts impacts impacts c i a refl is_c is_i is_a)

pub miss_listed : (c i a : ℕ) → Contains weighted_impacts c → Contains weighted_impacts i → Contains weighted_impacts a
    → (min (millionths_of c i a) 915_000 ≡ 0) ⊎ IsSubScore (min (millionths_of c i a) 915_000)
miss_listed c i a is_c is_i is_a =
    sub_score_if (min (millionths_of c i a) 915_000)
    (passes_three (λ c i a. is_sub_score (min (millionths_of c i a) 915_000))
    weighted_impacts weighted_impacts weighted_impacts c i a refl is_c is_i is_a)

-- whether all exploitabilities are listed
abbrev are_listed : Bool → Bool
are_listed changed =
    list_all (λ av. list_all (λ ac. list_all (λ pr. list_all (λ ui.
    is_listed (exploitabilities changed) (822 * av * ac * pr * ui)) user_interactions) (privileges_required changed))
    attack_complexities) attack_vectors

all_listed : (changed : Bool) → are_listed changed ≡ true
all_listed false = refl
all_listed true = refl

pub exploitability_listed : (changed : Bool) (av ac pr ui : ℕ) → Contains attack_vectors av → Contains attack_complexities ac
    → Contains (privileges_required changed) pr → Contains user_interactions ui
    → Contains (exploitabilities changed) (822 * av * ac * pr * ui)
exploitability_listed changed av ac pr ui is_av is_ac is_pr is_ui =
    listed_if (exploitabilities changed) (822 * av * ac * pr * ui)
    (passes (λ ui. is_listed (exploitabilities changed) (822 * av * ac * pr * ui)) user_interactions ui
    (passes_three (λ av ac pr. list_all (λ ui. is_listed (exploitabilities changed) (822 * av * ac * pr * ui)) user_interactions)
    attack_vectors attack_complexities (privileges_required changed) av ac pr (all_listed changed) is_av is_ac is_pr) is_ui)
