use Rattle.std.proofs.Common.{sym, ◌∙◌}
use Rattle.sql_script.proofs.Refused.{refused-create, refused-other}
use Rattle.sql_script.proofs.creation.refusal_of.Goals as goal

pub returns-then-begins_with_create : goal.returns-then-begins_with_create
returns-then-begins_with_create c = λ streams.
    rw c.parse_refusal.ensures (refused-create streams c.args.text.now c.args.error (sym c.begins_with_create.ensures ∙ c.if-begins_with_create.true) c.requires.refusal)

pub returns-else-begins_with_create : goal.returns-else-begins_with_create
returns-else-begins_with_create c = λ streams.
    refused-other streams c.args.text.now c.args.error (sym c.begins_with_create.ensures ∙ c.if-begins_with_create.false) c.requires.refusal
