use Rattle.std.proofs.Common.{◌≡◌, ℤ, List, ◌++◌, ◌∷◌, [], take, ap, sym, ◌∙◌, subst, append_assoc}
use Rattle.std.proofs.lemmas.List.{take-take}
use Rattle.sql_text.specs.Tuple.{tuple_text}
use Rattle.exec_answer_lines.proofs.kept.KeptTuple.put.Goals as goal

pub returns-then-self-le-SHORT-clause-text : goal.returns-then-self-le-SHORT-clause-text
returns-then-self-le-SHORT-clause-text c =
    let k = c.self.inside in
    let front = take c.args.at c.args.room.now in
    c.put_short.ensures.text
    ∙ ap (λ l. front ++ l) (take-take k.len 16 k.text c.if-self-le-SHORT.true
    ∙ subst (λ (t : List ℤ). take k.len k.text ≡ tuple_text t ++ 10 ∷ []) c.self.view_is c.self.invariant.text)
    ∙ sym (append_assoc front (tuple_text c.args.self.now) (10 ∷ []))
