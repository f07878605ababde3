use Rattle.std.proofs.Common.{◌≡◌, ◌++◌, List, IsTrue, rules, ap, subst, ◌∙◌}
use Rattle.sem_query.specs.declared.atom.Atom.{Atom}
use Rattle.adv_mends.specs.Mended.{Fit}
use Rattle.adv_mends.proofs.MoreAtoms.{limits-more}
use Rattle.adv_mends.proofs.writing.with_atoms.Goals as goal

pub new-requires : goal.new-requires
new-requires c =
    let more = c.args.more.now in
    let is : c.as_slice.result.now ≡ c.args.query.now.atoms ++ more = c.as_slice.ensures.value ∙ c.atoms_with-atoms.ensures ∙ ap (λ (l : List Atom). l ++ more) c.atoms.ensures.value in
    let yes : IsTrue c.fit.result = search rules in
    let fits : Fit (c.args.query.now.atoms ++ more) = subst Fit is (c.fit.ensures.0 yes) in
    rw (c.distinct.ensures, c.from.ensures.value, c.select.ensures.value, c.as_slice-2.ensures.value, c.atoms_with-atoms.ensures, c.atoms.ensures.value, c.domains.ensures.value, c.compact.ensures)
    (limits-more c.args.query.now more c.atoms.ensures.limits c.requires.bounds fits)
