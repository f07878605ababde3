use Rattle.std.proofs.Common.{◌≡◌, ◌==◌, rules, tests, sym, ◌∙◌}
use Rattle.std.specs.List.{position}
use Rattle.std.proofs.lemmas.Iterator.{YieldsList-from_slice}
use Rattle.std.proofs.lemmas.Iterator.Search.{position_from_yields_List}
use Rattle.exec_query.proofs.Named.{named_nowhere}
use Rattle.exec_query.proofs.route.place_of.Goals as goal

pub returns-in-None : goal.returns-in-None
returns-in-None c =
    let e : c.position.result ≡ position (λ s. c.args.stream == s) c.args.from.now
    = position_from_yields_List (λ s. c.args.stream == s) _ _ c.position.result c.position.ensures.ran (YieldsList-from_slice c.args.from.now cc) (λ x b q k. search (rules, tests)) in
    named_nowhere c.args.stream c.args.from.now (sym e ∙ c.in-None.is)
