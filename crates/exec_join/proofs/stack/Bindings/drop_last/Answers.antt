use Rattle.std.proofs.Common.{◌≡◌, ◌∙◌, take, sym, ap}
use Rattle.exec_join.proofs.BackLaws.{one-less, none-less}
use Rattle.exec_join.proofs.stack.Bindings.drop_last.Goals as goal

pub returns-then-count-eq0 : goal.returns-then-count-eq0
returns-then-count-eq0 c = none-less c.args.self.now.items (sym c.len-count.ensures.value ∙ c.if-count-eq0.true)

pub returns : goal.returns
returns c =
    let e : take c.self.inside.depth c.self.inside.entries ≡ c.args.self.now.items = ap (λ v. v.items) c.self.view_is in
    one-less c.self.inside.entries c.args.self.now.items c.self.inside.depth c.len-count.result e c.len-count.ensures.value
