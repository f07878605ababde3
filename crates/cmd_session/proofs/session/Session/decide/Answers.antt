use Rattle.std.proofs.Common.{refl, sym, ap, ◌∙◌, subst, ◌≤◌, length, List, ℕ, Err, [], ◌∷◌, ◌++◌, codes, decimal}
use Rattle.io_streams.specs.Sink.{SinkState, Writes, Wrote}
use Rattle.io_streams.proofs.Writing.{Wrote-nil}
use Rattle.sem_query.specs.declared.plan.Numbers.{Numbers}
use Rattle.sql_catalog.specs.Streams.{Shape}
use Rattle.sql_parser.specs.Resolution.{IsColumnOf, HasNamed, column_named}
use Rattle.exec_registry.specs.declared.refusal.CreateError.{CreateError}
use Rattle.exec_registry.specs.declared.verdict.Verdict.{Verdict}
use Rattle.exec_registry.specs.Judged.{CarriesWhy, Registered}
use Rattle.exec_registry.specs.declared.verdict.Verdict.TheVariants as kinds
use Rattle.exec_registry.specs.Registry.{RegistryValue}
use Rattle.cmd_session.specs.Request.{asked}
use Rattle.sql_parser.specs.Naming.{column_text}
use Rattle.sql_replies.specs.Texts.{which_text, condition_text}
use Rattle.cmd_session.specs.State.{one_line_more}
use Rattle.cmd_session.specs.Session.{SessionValue, StandsFor, Does}
use Rattle.cmd_session.proofs.Explaining.{named_decided, given_decided}
use Rattle.cmd_session.proofs.NamedViolation.{form_violation_is_named}
use Rattle.cmd_session.proofs.Short.{short_decided}
use Rattle.cmd_session.specs.Checkpoint.{create_again}
use Rattle.cmd_session.proofs.Deciding.{takes, told_accepted, told_refused, too_large, no_room, violated, unchanged, with_registry, acceptance_text}
use Rattle.cmd_session.proofs.session.Session.decide.Goals as goal
use Rattle.cmd_session.proofs.session.Session.decide.Goals.{in-Ok-Filter, in-Ok-Accepted, in-Err-Memory, in-Err-Pool, in-Err-Limit, in-Err-Violation}

pub column_named-column-requires-clause-column : goal.column_named-column-requires-clause-column
column_named-column-requires-clause-column g c =
    let named = subst (λ (k : SessionValue). HasNamed k.streams c.args.query) (sym c.self.view_is) c.requires.named in
    let from = c.as_slice.ensures.value ∙ c.streams_of-from.ensures.value in
    let why = subst (λ (e : CreateError). CarriesWhy c.args.shared c.args.query c.self.inside.registry.pool.free (Err e)) c.in-Err-Violation.field-0-is c.in-Err-Violation.ensures.why in
    subst (λ (l : List Shape). IsColumnOf l c.as_slice.result.now c.in-Err-Violation.attr) (sym c.all.ensures)
    (subst (λ f. IsColumnOf c.self.inside.catalog.streams f c.in-Err-Violation.attr) (sym from) (form_violation_is_named c.self.inside.catalog.streams c.args.query _ c.streams_of-from.ensures.limits named why.1))

pub invariant_of-self : goal.invariant_of-self
invariant_of-self g c =
    let named = subst (λ (k : SessionValue). HasNamed k.streams c.args.query) (sym c.self.view_is) c.requires.named in
    let short = subst (λ (k : SessionValue). length (create_again k.streams c.args.name c.args.query c.args.shared) ≤ 1024) (sym c.self.view_is) c.requires.short in (
      record {
        within = c.self.invariant.0.within;
        limit = c.self.invariant.0.limit;
        given = given_decided c.self.inside.taken c.args.name c.args.query c.args.shared c.create.result c.self.inside.registry c.create.new.self c.self.invariant.0.given c.create.ensures.creates;
        named = named_decided c.self.inside.catalog.streams c.args.name c.args.query c.args.shared c.create.result c.self.inside.registry c.create.new.self named c.self.invariant.0.named c.create.ensures.creates;
        short = short_decided c.self.inside.catalog.streams c.args.name c.args.query c.args.shared c.create.result c.self.inside.registry c.create.new.self short c.self.invariant.0.short c.create.ensures.creates;
      },
      c.self.invariant.1,
    )

pub returns : goal.returns
returns g c = λ s stands.
    let k : SessionValue = record { limit = c.self.inside.limit; streams = c.self.inside.catalog.streams; registry = c.self.inside.registry; taken = c.self.inside.taken; lines = c.self.inside.lines; began = c.self.inside.began; lock = c.self.inside.lock } in
    let r : RegistryValue = c.create.new.self in
    let old : StandsFor k (one_line_more s) = subst (λ (x : SessionValue). StandsFor x (one_line_more s)) (sym c.self.view_is) stands in
    let before : SinkState = g.O.Sink.seen c.args.out.now in
    let after : SinkState = g.O.Sink.seen c.match-create.out in
    elim c.match-create.branch [
      | in-Ok-Filter w ↦
          takes w.write_filter.result c.match-create.result s c.args.name c.args.query c.args.shared k r kinds.Filter before after (w.result-is ∙ w.outcome_of.ensures) old
          (told_accepted k s c.args.shared c.args.query _ kinds.Filter old w.in-Ok-Filter.field-0-is (w.in-Ok-Filter.ensures.verdict s.queries old.queries))
          (subst (λ (v : Verdict). Registered k.registry c.args.name c.args.query c.args.shared v r) w.in-Ok-Filter.field-0-is w.in-Ok-Filter.ensures.creates)
          (subst (λ o. Writes w.write_filter.result before (g.O.Sink.seen o) (acceptance_text c.args.name kinds.Filter)) (sym w.out-is) w.write_filter.ensures)
      | in-Ok-Accepted w ↦
          takes w.write_numbers.result c.match-create.result s c.args.name c.args.query c.args.shared k r (kinds.Accepted w.in-Ok-Accepted.numbers) before after (w.result-is ∙ w.outcome_of-in-Ok-Accepted.ensures) old
          (told_accepted k s c.args.shared c.args.query _ (kinds.Accepted w.in-Ok-Accepted.numbers) old w.in-Ok-Accepted.field-0-is (w.in-Ok-Accepted.ensures.verdict s.queries old.queries))
          (subst (λ (v : Verdict). Registered k.registry c.args.name c.args.query c.args.shared v r) w.in-Ok-Accepted.field-0-is w.in-Ok-Accepted.ensures.creates)
          (subst (λ o. Writes w.write_numbers.result before (g.O.Sink.seen o) (acceptance_text c.args.name (kinds.Accepted w.in-Ok-Accepted.numbers))) (sym w.out-is)
          (subst (λ (n : Numbers). Writes w.write_numbers.result before (g.O.Sink.seen w.write_numbers.new.out) (acceptance_text c.args.name (kinds.Accepted n))) w.in-Ok-Accepted.numbers-is w.write_numbers.ensures))
      | in-Err-Memory w ↦
          subst (λ o. Does o s (asked c.args.name c.args.query c.args.shared) (with_registry k r) before after) (sym w.result-is)
          (refl, unchanged k r (one_line_more s) w.in-Err-Memory.ensures.creates old, subst (λ o. Wrote before (g.O.Sink.seen o) []) (sym w.out-is) (Wrote-nil before))
      | in-Err-Pool w ↦
          no_room w.write_no_pages.result c.match-create.result s c.args.name c.args.query c.args.shared k r before after (w.result-is ∙ w.outcome_of-in-Err-Pool.ensures) old
          (told_refused k s c.args.shared c.args.query _ _ old w.in-Err-Pool.field-0-is (w.in-Err-Pool.ensures.verdict s.queries old.queries))
          w.in-Err-Pool.ensures.creates
          (subst (λ o. Writes w.write_no_pages.result before (g.O.Sink.seen o) (codes "refused " ++ c.args.name ++ codes " limit pool" ++ 10 ∷ [])) (sym w.out-is) w.write_no_pages.ensures)
      | in-Err-Limit w ↦
          too_large w.write_limit.result c.match-create.result s c.args.name c.args.query c.args.shared k r w.in-Err-Limit.which before after (w.result-is ∙ w.outcome_of-in-Err-Limit.ensures) old
          (told_refused k s c.args.shared c.args.query _ _ old w.in-Err-Limit.field-0-is (w.in-Err-Limit.ensures.verdict s.queries old.queries))
          w.in-Err-Limit.ensures.creates
          (subst (λ o. Writes w.write_limit.result before (g.O.Sink.seen o) (codes "refused " ++ c.args.name ++ codes " limit " ++ which_text w.in-Err-Limit.which ++ 10 ∷ [])) (sym w.out-is) w.write_limit.ensures)
      | in-Err-Violation w ↦
          violated w.write_violation.result c.match-create.result s c.args.name c.args.query c.args.shared k r _ _ _ w.column_named-column.result before after (w.result-is ∙ w.outcome_of-in-Err-Violation.ensures) old
          (told_refused k s c.args.shared c.args.query _ _ old w.in-Err-Violation.field-0-is (w.in-Err-Violation.ensures.verdict s.queries old.queries))
          w.in-Err-Violation.ensures.creates
          (w.column_named-column.ensures ∙ ap (λ (l : List Shape). column_named l w.as_slice.result.now w.in-Err-Violation.attr) w.all.ensures ∙ ap (λ (f : List ℕ). column_named c.self.inside.catalog.streams f w.in-Err-Violation.attr) (w.as_slice.ensures.value ∙ c.streams_of-from.ensures.value))
          (subst (λ o. Writes w.write_violation.result before (g.O.Sink.seen o)
          (codes "refused " ++ c.args.name ++ codes " part " ++ decimal w.in-Err-Violation.part ++ 32 ∷ condition_text w.in-Err-Violation.condition ++ 32 ∷ column_text w.column_named-column.result ++ 10 ∷ [])) (sym w.out-is) w.write_violation.ensures)
    ]
