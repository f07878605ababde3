use Rattle.std.proofs.Common.{◌≡◌, List, Option, Err, ap, ◌∙◌, subst, arith}
use Rattle.std.specs.Option.{option_copied}
use Rattle.cert_format.specs.declared.line.Line.{Line}
use Rattle.cert_format.specs.Certificate.{last_of, Counts}
use Rattle.cert_format.proofs.Added.{nodes_added, lines_added, counted, refused}
use Rattle.cert_format.proofs.certificate.Certificate.add.Goals as goal

pub returns-in_err-nodes : goal.returns-in_err-nodes
returns-in_err-nodes c =
    let items : List Line = c.self.inside.lines.items in
    let P : Option Line → Type 0 = λ before. Counts (Err c.in_err-nodes.field-0.0) c.self.inside.nodes before c.args.line in
    let last : option_copied c.last.result ≡ last_of items = c.last.ensures.value ∙ ap last_of c.deref.ensures.value in
    rw (← c.self.view_is) (refused c.from_residual.result c.in_err-nodes.field-0.0 c.args.line items c.self.inside.nodes c.from_residual.ensures.1 c.self.invariant.0 c.self.invariant.1 (subst P last c.in_err-nodes.ensures))

pub invariant_of-self : goal.invariant_of-self
invariant_of-self c =
    let items : List Line = c.self.inside.lines.items in
    let all = c.in_ok-nodes.ensures.1 in
    let new = counted c.in_ok-nodes.nodes c.self.inside.nodes (option_copied c.last.result) c.args.line items (c.last.ensures.value ∙ ap last_of c.deref.ensures.value) c.self.invariant.1 c.in_ok-nodes.ensures in
    rw c.in-Ok.ensures.items (lines_added items c.args.line c.self.invariant.0 new.0 new.1, omega (arith, c.self.invariant.1, all, nodes_added items c.args.line))

pub returns-in-Ok : goal.returns-in-Ok
returns-in-Ok c =
    let items : List Line = c.self.inside.lines.items in
    let new = counted c.in_ok-nodes.nodes c.self.inside.nodes (option_copied c.last.result) c.args.line items (c.last.ensures.value ∙ ap last_of c.deref.ensures.value) c.self.invariant.1 c.in_ok-nodes.ensures in
    rw (← c.self.view_is) (new.0, new.1, c.in-Ok.ensures.items)

pub returns-in-Err : goal.returns-in-Err
returns-in-Err c =
    let items : List Line = c.self.inside.lines.items in
    let new = counted c.in_ok-nodes.nodes c.self.inside.nodes (option_copied c.last.result) c.args.line items (c.last.ensures.value ∙ ap last_of c.deref.ensures.value) c.self.invariant.1 c.in_ok-nodes.ensures in
    rw (← c.self.view_is) (new.0, new.1, c.in-Err.ensures.items)
