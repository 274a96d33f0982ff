-- What tests that compute say of exact numbers and of the members of a list.
use Rattle.std.specs.List.{list_all, list_any, Contains}
use Rattle.std.proofs.Common.{◌≡◌, ℕ, ◌<◌, pos, ◌*ℤ◌, List, Bool, true, eqb, subst, sym, T}
use Rattle.std.proofs.lemmas.Bool.{agree_below, agree_below_at, eqb-true}
use Rattle.std.proofs.lemmas.List.Elements.{All-contains}
use Rattle.std.proofs.lemmas.List.Sums.{AllPass-from_list_all}
use Rattle.std.proofs.lemmas.Map.Views.{Contains-from_any}
use lib.Signed.{lt_z, le_z, lt_z_yes, le_z_yes}
use Rattle.cvss_base.specs.Exact.{Exact, ◌⊑◌, ◌⊏◌}

-- whether x is below y
abbrev pub is_below : Exact → Exact → Bool
is_below x y = lt_z (x.top *ℤ pos y.bottom) (y.top *ℤ pos x.bottom)

-- whether x is at most y
abbrev pub is_at_most : Exact → Exact → Bool
is_at_most x y = le_z (x.top *ℤ pos y.bottom) (y.top *ℤ pos x.bottom)

pub below_if : (x y : Exact) → is_below x y ≡ true → x ⊏ y
below_if x y holds = record { below = lt_z_yes (subst T (sym holds) tt) }

pub at_most_if : (x y : Exact) → is_at_most x y ≡ true → x ⊑ y
at_most_if x y holds = record { at_most = le_z_yes (subst T (sym holds) tt) }

-- a member passes what all pass
pub passes : (test : ℕ → Bool) (xs : List ℕ) (x : ℕ) → list_all test xs ≡ true → Contains xs x → test x ≡ true
passes test xs x all listed = All-contains (λ y. test y ≡ true) xs x (AllPass-from_list_all test xs all) listed

-- two and three members pass a test that all pass
pub passes_two : (test : ℕ → ℕ → Bool) (xs ys : List ℕ) (x y : ℕ) → list_all (λ x. list_all (test x) ys) xs ≡ true
    → Contains xs x → Contains ys y → test x y ≡ true
passes_two test xs ys x y all is_x = passes (test x) ys y (passes (λ x. list_all (test x) ys) xs x all is_x)

pub passes_three : (test : ℕ → ℕ → ℕ → Bool) (xs ys zs : List ℕ) (x y z : ℕ)
    → list_all (λ x. list_all (λ y. list_all (λ z. test x y z) zs) ys) xs ≡ true
    → Contains xs x → Contains ys y → Contains zs z → test x y z ≡ true
passes_three test xs ys zs x y z all is_x is_y =
    passes (test x y) zs z (passes_two (λ x y. list_all (test x y) zs) xs ys x y all is_x is_y)

-- whether x is listed
abbrev pub is_listed : List ℕ → ℕ → Bool
is_listed xs x = list_any (λ y. eqb y x) xs

pub listed_if : (xs : List ℕ) (x : ℕ) → is_listed xs x ≡ true → Contains xs x
listed_if xs x holds = Contains-from_any {eq = λ q y. eqb y q} (λ q y same. sym (eqb-true y q same)) x xs holds

-- whether each number below n passes
unfoldable pub all_below : (ℕ → Bool) → ℕ → Bool
all_below test n = agree_below test (λ _. true) n

pub below_passes : (test : ℕ → Bool) (n k : ℕ) → all_below test n ≡ true → k < n → test k ≡ true
unfolding all_below
below_passes test = agree_below_at test (λ _. true)
