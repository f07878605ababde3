use Rattle.std.proofs.Common.{arith}
use Rattle.sem_query.specs.Query.{attrs_of}
use Rattle.plan_links.specs.Refs.{IsRange}
use Rattle.plan_closure.proofs.Zips.{zip_length}
use Rattle.plan_links.proofs.Gathered.{max_ref_answer, none_of_max, not_from}
use Rattle.plan_links.proofs.reading.is_max_ref.Goals as goal

pub is_unbounded-requires : goal.is_unbounded-requires
is_unbounded-requires c = omega (arith, zip_length (IsRange c.args.q.now c.args.p.now.signs.items) (attrs_of c.args.q.now.atoms) c.args.ranges.now c.requires.ranges, c.requires.place)

pub returns-then-is_unbounded : goal.returns-then-is_unbounded
returns-then-is_unbounded c = λ d. max_ref_answer c.args.q.now c.args.p.now.signs.items c.args.ranges.now c.args.less.now c.args.i d c.requires.ranges c.requires.less c.requires.place c.attrs.result.now _ _ c.attrs.ensures.value (c.is_unbounded.ensures.0 c.if-is_unbounded.true) c.has_right.ensures.0 c.has_right.ensures.1

pub returns-else-is_unbounded : goal.returns-else-is_unbounded
returns-else-is_unbounded c = λ d. (
  (λ h. cc),
  (λ r. absurd (not_from _ c.is_unbounded.ensures.1 c.if-is_unbounded.false (none_of_max c.args.q.now c.args.p.now.signs.items c.args.ranges.now c.args.less.now c.args.i d c.requires.ranges c.requires.less c.requires.place r))),
)
