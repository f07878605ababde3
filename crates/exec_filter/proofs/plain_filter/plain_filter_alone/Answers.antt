use Rattle.std.proofs.Common.{◌∙◌, [], ◌∷◌, List, map, length, refl, sym, ap}
use Rattle.std.specs.List.{list_all}
use Rattle.sem_query.specs.declared.atom.Atom.{Atom}
use Rattle.sem_query.specs.declared.atom.Attr.{Attr}
use Rattle.sem_query.specs.Assignment.{meets}
use Rattle.sem_query.specs.Meaning.{assignment_of}
use Rattle.exec_filter.proofs.PlainFilters.{answers-open}
use Rattle.exec_filter.proofs.plain_filter.plain_filter_alone.Goals as goal

pub returns-in-Some : goal.returns-in-Some
returns-in-Some c = record {
  alone = refl;
  single = c.if-not-is_alone.ensures.single refl;
  plain = sym c.distinct.ensures ∙ c.if-distinct.false;
  width = c.in-Some.ensures.width ∙ ap (λ (xs : List Attr). length xs) c.select.ensures.value;
  answers = answers-open c.args.q.now c.args.prefilter.now c.in-Some.selected.items c.unimplied_of.result.items (c.if-not-is_alone.ensures.stream refl) (c.if-not-is_alone.ensures.single refl)
      (λ values h. c.unimplied_of.ensures values h ∙ ap (λ (xs : List Atom). list_all (meets (assignment_of (values ∷ []))) xs) c.atoms.ensures.value)
      (λ values. ap (λ (xs : List Attr). map (assignment_of (values ∷ [])) xs) (sym c.select.ensures.value) ∙ c.in-Some.ensures.value values);
}
