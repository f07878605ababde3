use Rattle.std.proofs.Common.{ap, sym, ◌∙◌}
use Rattle.sql_text.specs.Lines.{parts_behind}
use Rattle.cert_format.specs.Spelling.{against_of}
use Rattle.cert_format.proofs.Chains.{some_behind, no_against}
use Rattle.cert_format.proofs.reading.read_against.Goals as goal

pub returns-then-is_some : goal.returns-then-is_some
returns-then-is_some c =
    sym (ap (λ b. against_of (parts_behind 32 b)) (c.in_ok-behind.was) ∙ ap against_of c.cut.ensures.parts
    ∙ no_against c.cut.result.0.now (parts_behind 32 c.cut.result.1) (some_behind c.cut.result.1 (sym c.is_some.ensures ∙ c.if-is_some.true)))
