use Rattle.std.proofs.Common.{subst, List}
use Rattle.sem_query.specs.declared.atom.Attr.{Attr}
use Rattle.fam_motions.specs.Apart.{Falls, Rises}
use Rattle.fam_motions.proofs.Against.{left-earlier, right-earlier}
use Rattle.fam_motions.proofs.mixing.earlier_fails.Goals as goal

pub returns-then-is_here_alone : goal.returns-then-is_here_alone
returns-then-is_here_alone c t =
    let x = c.args.difference.left in
    let y = c.args.difference.right in
    let told = subst (λ (attrs : List Attr). Falls attrs c.args.all.now x y) c.attrs.ensures.value (c.falls.ensures t) in
    left-earlier c.args.q.now c.args.all.now x y (c.says_at_most.ensures c.if-not-says_at_most.false) c.args.place (c.is_here_alone.ensures.here c.if-is_here_alone.true) (c.is_here_alone.ensures.elsewhere c.if-is_here_alone.true) told

pub returns-then-is_here_alone-2 : goal.returns-then-is_here_alone-2
returns-then-is_here_alone-2 c t =
    let x = c.args.difference.left in
    let y = c.args.difference.right in
    let told = subst (λ (attrs : List Attr). Rises attrs c.args.all.now x y) c.attrs-then-is_here_alone-2.ensures.value (c.rises.ensures t) in
    right-earlier c.args.q.now c.args.all.now x y (c.says_at_most.ensures c.if-not-says_at_most.false) c.args.place (c.is_here_alone-2.ensures.here c.if-is_here_alone-2.true) (c.is_here_alone-2.ensures.elsewhere c.if-is_here_alone-2.true) told
