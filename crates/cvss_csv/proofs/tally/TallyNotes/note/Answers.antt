use Rattle.std.specs.Global.{Vec}
use Rattle.std.proofs.Common.{ℕ, [], ◌∷◌, ◌++◌, ap, subst, sym, ◌∙◌}
use Rattle.std.proofs.lemmas.Bool.{iff_false}
use Rattle.cvss_csv.specs.Tallies.{IsCountOf}
use Rattle.cvss_csv.specs.declared.tally.Count.TheVariants as count
use Rattle.cvss_csv.proofs.TallyLemmas.{adds_equal, adds_other, adds_several}
use Rattle.cvss_csv.proofs.tally.TallyNotes.note.Goals as goal

pub returns-then-not-branch : goal.returns-then-not-branch
returns-then-not-branch c = λ texts is.
    let first = c.args.self.now.first.items in
    let text = c.args.text.now in
    subst (λ items. IsCountOf count.Several items (texts ++ text ∷ [])) (sym (ap (λ (v : Vec ℕ). v.items) c.in_ok-is_equal-in-One.ensures.first))
    (adds_other first text texts (subst (λ n. IsCountOf n first texts) c.in-One.is is) (iff_false c.in_ok-is_equal-in-One.ensures.equal c.if-not-branch.true))

pub returns-else-not-branch : goal.returns-else-not-branch
returns-else-not-branch c = λ texts is.
    let first = c.args.self.now.first.items in
    let text = c.args.text.now in
    subst (λ n. IsCountOf n c.is_equal.new.self.first.items (texts ++ text ∷ [])) (sym (c.in_ok-is_equal-in-One.ensures.count ∙ c.in-One.is))
    (subst (λ items. IsCountOf count.One items (texts ++ text ∷ [])) (sym (ap (λ (v : Vec ℕ). v.items) c.in_ok-is_equal-in-One.ensures.first))
    (adds_equal first text texts (subst (λ n. IsCountOf n first texts) c.in-One.is is) (c.in_ok-is_equal-in-One.ensures.equal.0 c.if-not-branch.false)))

pub returns-in-Several : goal.returns-in-Several
returns-in-Several c = λ texts is.
    let first = c.args.self.now.first.items in
    let text = c.args.text.now in
    subst (λ n. IsCountOf n first (texts ++ text ∷ [])) (sym c.in-Several.is)
    (adds_several first text texts (subst (λ n. IsCountOf n first texts) c.in-Several.is is))
