-- What the private code computes of a group of metrics, in whole numbers.
use Rattle.std.specs.Prelude.{◌≡◌, ℕ, ◌-◌, ◌*◌, ◌/◌, ◌≤◌, IfSome, option_map, unwrap_or, unsigned_abs, pos}
use Rattle.cvss_score.specs.v4.Explanation.{with_value}
use Rattle.cvss_score.specs.v4.Gap.{Group, next_lower}
use Rattle.cvss_score.specs.declared.v4.scoring.shares.Terms.{Terms}

-- gap * distance / depth in 8400ths of a point, and 0 without a next lower value; each depth divides 840
abbrev pub taken : ℕ → Group → ℕ
taken value group =
    let part = λ (lower : ℕ). (value - lower) * unsigned_abs group.distance * (840 / group.depth) in
    unwrap_or (option_map part (next_lower group)) 0

-- 1 with a next lower value
abbrev pub counted : Group → ℕ
counted group = unwrap_or (option_map (λ _. 1) (next_lower group)) 0

-- a part of 840 for each tenth of a distance, which takes at most the gap to the next lower value
pub record IsPart (value lower distance part : ℕ) : Type 0 where
  pub from_one : 1 ≤ lower
  pub to_value : lower ≤ value
  pub within : distance * part ≤ 840

-- what the terms take from a value, and whether they count
abbrev pub taken_by : ℕ → Terms → ℕ
taken_by value terms = unwrap_or (option_map (λ next. (value - next.value) * terms.distance * terms.part) terms.next) 0

abbrev pub counted_by : Terms → ℕ
counted_by terms = unwrap_or (option_map (λ _. 1) terms.next) 0

-- the terms are those of a group below a value: the next lower class with its value, the distance, the depth by which
-- 840 is divided, and so what the group takes
pub record AreTerms (value : ℕ) (group : Group) (terms : Terms) : Type 0 where
  pub next : terms.next ≡ option_map with_value group.next
  pub distance : pos terms.distance ≡ group.distance
  pub depth : 840 / terms.part ≡ group.depth
  pub least : 84 ≤ terms.part
  pub takes : IfSome terms.next (λ next. IsPart value next.value terms.distance terms.part)
  pub taken : taken_by value terms ≡ taken value group
  pub counted : counted_by terms ≡ counted group
