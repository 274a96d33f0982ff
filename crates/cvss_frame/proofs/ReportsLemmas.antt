-- Texts that are reported one after another.
use Rattle.std.proofs.Common.{◌≡◌, ℕ, zero, suc, ◌+◌, ◌-◌, ◌≤◌, arith, Bool, true, false, List, [], ◌∷◌, ◌++◌, Option, refl, sym, ap, subst, length, drop, flat_map, take, get_or}
use Rattle.std.specs.Io.KnownBytes.{Appends}
use Rattle.std.proofs.KnownBytes.{Appends-kept, Appends-nil, Appends-trans, Keeps-refl, Keeps-trans}
use Rattle.std.proofs.Math.Seq.{take-append-add}
use Rattle.std.proofs.lemmas.List.{take_rest}
use Rattle.std.specs.Borrow.{Bor}
use Rattle.cvss_frame.specs.Reports.{Reported, Reports, ReportsBy}

-- a beginning of a text begins it where more follows, too
take_within : (count : ℕ) (text more : List ℕ) → (within : ℕ) × (take count text ≡ take within (text ++ more))
take_within zero text more = (0, refl)
take_within (suc count) [] more = (0, refl)
take_within (suc count) (byte ∷ bytes) more = let rest = take_within count bytes more in (suc rest.0, ap (λ left. byte ∷ left) rest.1)

reports_by : (first next last : Bool) (a b c : Option (List ℕ)) (one other : List ℕ)
    → ReportsBy first next a b one → ReportsBy next last b c other → ReportsBy first last a c (one ++ other)
reports_by true true last a b c one other p q = (q.0, Keeps-trans a b c p.1 q.1)
reports_by true false last a b c one other p q = absurd (let no = p.0 in cc)
reports_by false false false a b c one other p q = Appends-trans a b c one other p q
reports_by false false true a b c one other p q =
    (length one + q.0, subst (Appends a c) (sym (take-append-add one other q.0)) (Appends-trans a b c one (take q.0 other) p q.1))
reports_by false true true a b c one other p q =
    let within = take_within p.0 one other in
    (within.0, subst (Appends a c) within.1 (Appends-kept a b c (take p.0 one) p.1 q.1))
reports_by false true false a b c one other p q = absurd (let no = q.0 in cc)

-- two texts, reported one after the other, are reported as one
pub Reports-then : (a b c : Reported) (one other : List ℕ) → Reports a b one → Reports b c other → Reports a c (one ++ other)
Reports-then a b c one other p q = reports_by a.failed b.failed c.failed a.bytes b.bytes c.bytes one other p q

reports_none : (failed : Bool) (bytes : Option (List ℕ)) → ReportsBy failed failed bytes bytes []
reports_none true bytes = (refl, Keeps-refl bytes)
reports_none false bytes = Appends-nil bytes

-- the empty text is reported where nothing is
pub Reports-none : (a : Reported) → Reports a a []
Reports-none a = reports_none a.failed a.bytes

-- a text is reported after one more
pub Reports-first : (a b c : Reported) (one other text : List ℕ) → Reports a b one → Reports b c other → one ++ other ≡ text → Reports a c text
Reports-first a b c one other text p q is = subst (Reports a c) is (Reports-then a b c one other p q)

-- the first of several parts, and the others
pub parts_first : (parts : List (Bor (List ℕ))) (first : Bor (List ℕ)) → 1 ≤ length parts
    → (get_or parts 0 first).now ++ flat_map (λ part. part.now) (take (length parts - 1) (drop 1 parts)) ≡ flat_map (λ part. part.now) parts
parts_first [] first some = absurd (omega (arith, some))
parts_first (part ∷ parts) first some = ap (λ rest. part.now ++ flat_map (λ part. part.now) rest) (take_rest (part ∷ parts) 1)
