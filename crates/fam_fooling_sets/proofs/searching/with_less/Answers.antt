use Rattle.std.proofs.Common.{◌≡◌, ◌∙◌, refl, true, false}
use Rattle.fam_fooling_sets.proofs.Tightened.{room, with-one, tighter, has-less, none-less}
use Rattle.fam_fooling_sets.proofs.searching.with_less.Goals as goal

pub add-requires-clause-few : goal.add-requires-clause-few
add-requires-clause-few c =
    room c.args.q.now c.args.p.now.signs.items c.args.bounds.now c.requires.known c.args.x c.args.y c.requires.whole.domains c.copy-tighter.result.constraints c.copy-tighter.ensures.constraints

pub returns-then-satisfiable : goal.returns-then-satisfiable
returns-then-satisfiable c =
    let are = c.add.ensures.constraints
    ∙ with-one c.args.q.now c.args.p.now.signs.items c.args.bounds.now c.requires.known c.args.x c.args.y c.copy-tighter.result.constraints _ _ _ c.copy-tighter.ensures.constraints
    c.node_of_attr.ensures.value c.node_of_attr-2.ensures.value refl in
    let attrs = c.add.ensures.attrs ∙ c.copy-tighter.ensures.attrs in (
      tighter c.args.q.now c.args.p.now.signs.items c.args.bounds.now c.requires.known c.args.x c.args.y c.add.new.self attrs are,
      c.satisfiable.ensures.0 c.if-satisfiable.true,
      has-less c.args.q.now c.args.p.now.signs.items c.args.bounds.now c.requires.known c.args.x c.args.y c.add.new.self attrs are,
    )

pub returns-else-satisfiable : goal.returns-else-satisfiable
returns-else-satisfiable c =
    let are = c.add.ensures.constraints
    ∙ with-one c.args.q.now c.args.p.now.signs.items c.args.bounds.now c.requires.known c.args.x c.args.y c.copy-tighter.result.constraints _ _ _ c.copy-tighter.ensures.constraints
    c.node_of_attr.ensures.value c.node_of_attr-2.ensures.value refl in
    none-less c.args.q.now c.args.p.now.signs.items c.args.bounds.now c.requires.known c.args.x c.args.y c.add.new.self (c.add.ensures.attrs ∙ c.copy-tighter.ensures.attrs) are
    (λ some. (let t : c.satisfiable.result ≡ true = c.satisfiable.ensures.1 some in let f : c.satisfiable.result ≡ false = c.if-satisfiable.false in absurd cc))
