use Rattle.std.proofs.Common.{ap, not, ◌∙◌}
use Rattle.cmd_advise_split.proofs.Known.{known_more, as_many}
use Rattle.cmd_advise_split.proofs.state.Splitting.add_query.Goals as goal

pub invariant_of-self-in-Ok : goal.invariant_of-self-in-Ok
invariant_of-self-in-Ok c = (
  as_many c.self.inside.names.items c.push.new.self.items c.args.name c.self.inside.queries.items c.push_query.new.list.items c.args.keyed _ c.push.ensures.items (c.is_err.ensures.negation ∙ ap not c.if-is_err.false)
      c.in-Ok.ensures.pushed c.self.invariant.0,
  known_more c.self.inside.queries.items c.push_query.new.list.items c.args.keyed c.in-Ok.ensures.pushed c.self.invariant.1 c.requires.known,
)
