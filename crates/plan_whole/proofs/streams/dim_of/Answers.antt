use Rattle.std.proofs.Common.{◌∙◌, refl, sym, subst}
use Rattle.sem_laws.proofs.Tests.{not_both, attr_eq-is}
use Rattle.sem_whole.specs.Plan.{NamesClass}
use Rattle.plan_whole.specs.Streams.{later, extreme}
use Rattle.plan_whole.proofs.Choosing.{not_itself}
use Rattle.plan_whole.proofs.streams.dim_of.Goals as goal

pub returns-then-not-is_same : goal.returns-then-not-is_same
returns-then-not-is_same c = later c.name_of.result c.name_of.ensures (not_itself c.args.a c.name_of.result (sym c.is_same.ensures ∙ c.if-not-is_same.true))

pub returns-then-is_of_extreme : goal.returns-then-is_of_extreme
returns-then-is_of_extreme c = extreme (c.is_of_extreme.ensures.0 c.if-is_of_extreme.true)

pub returns : goal.returns
returns c = (
  refl,
  record {
    here = refl;
    name = subst (NamesClass c.args.closed.now) (attr_eq-is c.name_of.result c.args.a (sym c.is_same.ensures ∙ c.if-not-is_same.false)) c.name_of.ensures.name;
    read = c.has_read.ensures.0 c.if-not-has_read.false;
    other = λ x. not_both c.is_of_extreme.result (c.is_of_extreme.ensures.1 x) c.if-is_of_extreme.false;
    range = c.kept_range-ends.ensures;
  },
)
