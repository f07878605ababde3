use Rattle.std.proofs.Common.{sym, ap, subst, ◌+◌, IsTrue}
use Rattle.io_row_reader.specs.Open.{is_open}
use Rattle.io_row_reader.specs.Plain.{IsPlainRow}
use Rattle.cmd_session.specs.Lock.{open_in}
use Rattle.cmd_session.specs.Session.{SessionValue, StandsFor}
use Rattle.sql_parser.specs.declared.line.LineKind.TheVariants as kinds
use Rattle.cmd_session.proofs.Standing.{plain_asks}
use Rattle.cmd_session.proofs.Resumed.{reads_at_most, writes_at_most}
use Rattle.cmd_session.proofs.session.Session.plain_row.Goals as goal

pub returns-clause-reply : goal.returns-clause-reply
returns-clause-reply g c = λ s line short row stands.
    let old = subst (λ (k : SessionValue). StandsFor k s) (sym c.self.view_is) stands in
    let opens = subst (λ (k : SessionValue). IsTrue (is_open (open_in k.lock) c.args.stream)) (sym c.self.view_is) c.requires.opens in
    let is = subst (λ (k : SessionValue). IsPlainRow k.streams line c.args.stream c.args.row.now.items) (sym c.self.view_is) row in
    record {
      request = _;
      asks = plain_asks _ s line c.args.stream c.args.row.now.items short old is opens;
      does = c.ask_row-outcome.ensures.reply s (record {
        limit = old.limit;
        streams = old.streams;
        queries = old.queries;
        quiet = old.quiet;
        taken = old.taken;
        lines = ap (λ n. n + 1) old.lines;
        began = old.began;
        lock = old.lock;
        pages = old.pages;
      });
    }

pub returns-clause-announced : goal.returns-clause-announced
returns-clause-announced g c = λ s stands.
    let old = subst (λ (k : SessionValue). StandsFor k s) (sym c.self.view_is) stands in
    let pool = c.self.inside.registry.pool in
    let live = c.self.inside.registry.live in (
      reads_at_most kinds.RowLine pool live s.queries _ _ old.queries c.ask_row-outcome.ensures.reads,
      writes_at_most kinds.RowLine pool live s.queries _ _ old.queries c.ask_row-outcome.ensures.writes,
    )
