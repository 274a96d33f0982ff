-- The parts of a text: where the first ends, and what they are when joined.
use Rattle.std.proofs.Common.{◌≡◌, ℕ, suc, ◌+◌, Bool, true, false, not, cond, ◌||◌, List, [], ◌∷◌, take, drop, refl, sym, ap, ◌∙◌, subst, arith}
use Rattle.std.proofs.lemmas.Bool.{not-false, or_parts}
use Rattle.std.specs.List.{concat, onto_first}
use Rattle.cvss_matches.specs.Parts.{begins_part, begins_run, begins_with_prefix, parts_of}
use Rattle.cvss_matches.specs.private.Passing.{uncut_length}

concat_either : (cut : Bool) (byte : ℕ) (parts : List (List ℕ)) → concat (cond cut ((byte ∷ []) ∷ parts) (onto_first byte parts)) ≡ byte ∷ concat parts
concat_either true byte parts = refl
concat_either false byte [] = refl
concat_either false byte (part ∷ parts) = refl

-- joined they are the text
pub concat-parts : (text : List ℕ) → concat (parts_of text) ≡ text
concat-parts [] = refl
concat-parts (byte ∷ rest) =
    concat_either (not (begins_run (byte ∷ rest)) || begins_part rest) byte (parts_of rest) ∙ ap (λ more. byte ∷ more) (concat-parts rest)

-- a first byte of no run is a part
pub parts_alone : (byte : ℕ) (rest : List ℕ) → begins_run (byte ∷ rest) ≡ false → parts_of (byte ∷ rest) ≡ (byte ∷ []) ∷ parts_of rest
parts_alone byte rest other = ap (λ run. cond (not run || begins_part rest) ((byte ∷ []) ∷ parts_of rest) (onto_first byte (parts_of rest))) other

pub run_of_uncut : (byte : ℕ) (rest : List ℕ) → begins_part (byte ∷ rest) ≡ false → begins_run (byte ∷ rest) ≡ true
run_of_uncut byte rest uncut = not-false (begins_run (byte ∷ rest)) (or_parts (not (begins_run (byte ∷ rest))) (begins_with_prefix (byte ∷ rest)) uncut).0

parts_either : (cut : Bool) (byte next : ℕ) (rest : List ℕ) (count : ℕ) → (cut ≡ false → parts_of (next ∷ rest) ≡ (next ∷ take count rest) ∷ parts_of (drop count rest))
    → cond cut ((byte ∷ []) ∷ parts_of (next ∷ rest)) (onto_first byte (parts_of (next ∷ rest)))
    ≡ (byte ∷ take (cond cut 0 (suc count)) (next ∷ rest)) ∷ parts_of (drop (cond cut 0 (suc count)) (next ∷ rest))
parts_either true byte next rest count more = refl
parts_either false byte next rest count more = ap (onto_first byte) (more refl)

-- a first byte of a run begins a part, which goes on to where the text is cut
pub parts_run : (byte : ℕ) (rest : List ℕ) → begins_run (byte ∷ rest) ≡ true
    → parts_of (byte ∷ rest) ≡ (byte ∷ take (uncut_length rest) rest) ∷ parts_of (drop (uncut_length rest) rest)
parts_run byte [] run = ap (λ is. cond (not is || false) ((byte ∷ []) ∷ []) ((byte ∷ []) ∷ [])) run
parts_run byte (next ∷ rest) run =
    ap (λ is. cond (not is || begins_part (next ∷ rest)) ((byte ∷ []) ∷ parts_of (next ∷ rest)) (onto_first byte (parts_of (next ∷ rest)))) run
    ∙ parts_either (begins_part (next ∷ rest)) byte next rest (uncut_length rest) (λ uncut. parts_run next rest (run_of_uncut next rest uncut))

-- and so of any text, by how many bytes that are
pub first_cut : (text : List ℕ) (byte : ℕ) (rest : List ℕ) (count : ℕ) → text ≡ byte ∷ rest → begins_run text ≡ true → count ≡ uncut_length rest
    → parts_of text ≡ take (count + 1) text ∷ parts_of (drop (count + 1) text)
first_cut text byte rest count is run count_is =
    let more : suc (uncut_length rest) ≡ count + 1 = omega (arith, count_is) in
    subst (λ all. parts_of all ≡ take (count + 1) all ∷ parts_of (drop (count + 1) all)) (sym is)
    (subst (λ n. parts_of (byte ∷ rest) ≡ take n (byte ∷ rest) ∷ parts_of (drop n (byte ∷ rest))) more (parts_run byte rest (sym (ap begins_run is) ∙ run)))

-- one byte more, before which the text is not cut
pub uncut_more : (byte : ℕ) (rest : List ℕ) → begins_part (byte ∷ rest) ≡ false → uncut_length (byte ∷ rest) ≡ suc (uncut_length rest)
uncut_more byte rest uncut = ap (λ cut. cond cut 0 (suc (uncut_length rest))) uncut
