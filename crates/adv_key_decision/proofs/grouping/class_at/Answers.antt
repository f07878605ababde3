use Rattle.std.proofs.Common.{◌≡◌, refl, subst, arith}
use Rattle.sem_query.specs.Query.{attrs_of}
use Rattle.plan_links.proofs.Gathered.{not_from}
use Rattle.adv_key_decision.proofs.OneClass.{NoneEqual, among-attrs, none-more, class-found, class-itself}
use Rattle.adv_key_decision.proofs.grouping.class_at.Goals as goal

pub are_equal_in_all-requires-clause-left : goal.are_equal_in_all-requires-clause-left
are_equal_in_all-requires-clause-left c = among-attrs c.args.q.now _ c.attrs-attrs.ensures.value c.loop-j.j _ (omega (arith, c.loop-j-test.true, c.requires.place))

pub are_equal_in_all-requires-clause-right : goal.are_equal_in_all-requires-clause-right
are_equal_in_all-requires-clause-right c = among-attrs c.args.q.now _ c.attrs-attrs.ensures.value c.args.i _ c.requires.place

pub loop-j-init : goal.loop-j-init
loop-j-init c = (omega arith, λ k d l. absurd (omega (arith, l)))

pub loop-j-preserved : goal.loop-j-preserved
loop-j-preserved c = (
  omega (arith, c.loop-j-test.true),
  none-more c.args.q.now _ c.attrs-attrs.ensures.value c.args.i c.loop-j.j _ _ c.requires.place (omega (arith, c.loop-j-test.true, c.requires.place)) c.loop-j.invariant.1
      (not_from _ c.are_equal_in_all.ensures.1 c.if-are_equal_in_all.false),
)

pub returns-then-are_equal_in_all : goal.returns-then-are_equal_in_all
returns-then-are_equal_in_all c =
    class-found c.args.q.now _ c.attrs-attrs.ensures.value c.args.i c.loop-j.j _ _ c.requires.place (omega (arith, c.loop-j-test.true, c.requires.place)) c.loop-j.invariant.1
    (c.are_equal_in_all.ensures.0 c.if-are_equal_in_all.true)

pub returns : goal.returns
returns c =
    let e : c.loop-j.j ≡ c.args.i = omega (arith, c.loop-j.invariant.0, c.loop-j-test.false) in
    class-itself c.args.q.now _ c.attrs-attrs.ensures.value c.args.i c.requires.place (subst (NoneEqual c.args.q.now (attrs_of c.args.q.now.atoms) refl c.args.i) e c.loop-j.invariant.1)
