use Rattle.std.proofs.Common.{◌≡◌, ◌∙◌, sym, refl}
use Rattle.sem_query.specs.declared.atom.Attr.{Attr}
use Rattle.plan_links.proofs.Searching.{no_more, not_any}
use Rattle.plan_layout.proofs.Same.{found_at, not_same}
use Rattle.plan_layout.proofs.lookup.place_of.Goals as goal

pub loop-i-preserved : goal.loop-i-preserved
loop-i-preserved c = no_more (λ (a : Attr). a ≡ c.args.attr) c.args.columns.now c.loop-i.i _ c.loop-i-test.true c.loop-i.invariant (not_same _ c.args.attr (sym c.is_same.ensures ∙ c.if-is_same.false))

pub returns-then-is_same : goal.returns-then-is_same
returns-then-is_same c = (c.loop-i-test.true, λ d. found_at c.args.columns.now c.loop-i.i _ d c.args.attr c.loop-i-test.true (sym c.is_same.ensures ∙ c.if-is_same.true))

pub returns : goal.returns
returns c = λ w. not_any (λ (a : Attr). a ≡ c.args.attr) c.args.columns.now c.loop-i.i c.loop-i-test.false c.loop-i.invariant (w.0, c.args.attr, w.1, w.2, refl)
