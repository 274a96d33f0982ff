-- Numbers that equal others stand for what these stand for.
use Rattle.std.proofs.Common.{ℕ, ◌<◌, Bool, arith}
use Rattle.cvss_base.specs.Exact.{Exact, ◌over◌, ◌⊕◌, ◌≈◌, ◌⊑◌}
use Rattle.cvss_base.proofs.ExactLemmas.{above_itself, equal_refl, equal_sym, equal_trans, equal_at_most, at_most_trans, sum_equal}
use Rattle.cvss_score.proofs.v3_lemmas.EqualLemmas.{rounds_equal}
use Rattle.cvss_score.specs.v3.private.Near.{Approximates, StandsFor}

-- half a millionth
abbrev pub half : Exact
half = 5 over 10_000_000

-- half a millionth above an equal number
lifted : {x y : Exact} → x ≈ y → x ⊕ half ⊑ y ⊕ half
lifted {x} {y} same = equal_at_most (x ⊕ half) (y ⊕ half) (sum_equal same (equal_refl half))

-- what equals a number that approximates, approximates what equals the exact number
pub still_approximates : (changed : Bool) {x x' n n' : Exact} → 0 < x.bottom → 0 < n.bottom → x' ≈ x → n ≈ n'
    → Approximates changed x n → Approximates changed x' n'
still_approximates changed {x} {x'} {n} {n'} some_x some_n same_x same_n near = record {
  close = record {
    not_above = at_most_trans x' x (n' ⊕ half) some_x (equal_at_most x' x same_x)
        (at_most_trans x (n ⊕ half) (n' ⊕ half) (omega arith) near.close.not_above (lifted same_n));
    not_below = at_most_trans n' n (x' ⊕ half) some_n (equal_at_most n' n (equal_sym same_n))
        (at_most_trans n (x ⊕ half) (x' ⊕ half) (omega arith) near.close.not_below (lifted (equal_sym same_x)));
  };
  exact = λ is_unchanged. equal_trans some_x same_x (equal_trans some_n (near.exact is_unchanged) same_n);
}

-- an equal number approximates
pub equal_approximates : (changed : Bool) {x n : Exact} → 0 < n.bottom → x ≈ n → Approximates changed x n
equal_approximates changed {x} {n} some_n same =
    let itself : Approximates changed n n = record {
      close = record { not_above = above_itself n 5 10_000_000; not_below = above_itself n 5 10_000_000 };
      exact = λ is_unchanged. equal_refl n;
    } in
    still_approximates changed some_n some_n same (equal_refl n) itself

pub equal_stands : (minor : ℕ) (changed : Bool) {x n : Exact} → 0 < x.bottom → 0 < n.bottom → x ≈ n → StandsFor minor changed x n
equal_stands minor changed some_x some_n same = record {
  rounds = rounds_equal minor some_x some_n same;
  near = equal_approximates changed some_n same;
}

pub number_stands : (minor : ℕ) (changed : Bool) {x n n' : Exact} → 0 < x.bottom → 0 < n.bottom → 0 < n'.bottom → n ≈ n' → StandsFor minor changed x n
    → StandsFor minor changed x n'
number_stands minor changed {x} some_x some_n some_n' same stands = record {
  rounds = λ r rounded. rounds_equal minor some_n some_n' same r (stands.rounds r rounded);
  near = still_approximates changed some_x some_n (equal_refl x) same stands.near;
}
