use Rattle.std.proofs.Common.{◌≤◌, ◌+◌, sym, ap, subst}
use Rattle.sql_parser.specs.LineKind.{stripped, kind_of_line}
use Rattle.cmd_session.specs.Session.{SessionValue, StandsFor, announced_line_reads, announced_line_writes}
use Rattle.cmd_session.proofs.Resumed.{reads_at_most, writes_at_most}
use Rattle.cmd_session.proofs.session.Session.line.Goals as goal

pub returns-in-Some-clause-reply : goal.returns-in-Some-clause-reply
returns-in-Some-clause-reply g c = λ s stands. c.plain_row.ensures.reply s c.args.line.now c.requires.short c.in-Some.ensures.row stands

pub returns-in-None-clause-reply : goal.returns-in-None-clause-reply
returns-in-None-clause-reply g c = λ s stands.
    let old = subst (λ (k : SessionValue). StandsFor k s) (sym c.self.view_is) stands in
    c.answer_line-outcome.ensures.reply s (record {
      limit = old.limit;
      streams = old.streams;
      queries = old.queries;
      quiet = old.quiet;
      taken = old.taken;
      lines = ap (λ n. n + 1) old.lines;
      began = old.began;
      lock = old.lock;
      pages = old.pages;
    })

pub returns-in-Some-clause-announced : goal.returns-in-Some-clause-announced
returns-in-Some-clause-announced g c = λ s stands.
    let old = c.args.steps.now in
    let new = c.plain_row.new.steps in
    subst (λ k. (new.reads ≤ old.reads + announced_line_reads k s.queries) × (new.writes ≤ old.writes + announced_line_writes k s.queries)) (sym c.in-Some.ensures.row.kind) (c.plain_row.ensures.announced s stands)

pub returns-in-None-clause-announced : goal.returns-in-None-clause-announced
returns-in-None-clause-announced g c = λ s stands.
    let old = subst (λ (k : SessionValue). StandsFor k s) (sym c.self.view_is) stands in
    let kind = kind_of_line (stripped c.args.line.now) in
    let pool = c.self.inside.registry.pool in
    let live = c.self.inside.registry.live in (
      reads_at_most kind pool live s.queries _ _ old.queries c.answer_line-outcome.ensures.reads,
      writes_at_most kind pool live s.queries _ _ old.queries c.answer_line-outcome.ensures.writes,
    )
