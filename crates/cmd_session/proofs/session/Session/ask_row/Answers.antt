use Rattle.std.proofs.Common.{◌≡◌, ℕ, ◌+◌, ◌<◌, true, nat_lt, refl, sym, ap, ◌∙◌, subst, arith}
use Rattle.std.proofs.lemmas.Bool.Decides.{nat_tests}
use Rattle.io_streams.specs.Sink.{Writes}
use Rattle.sem_query.specs.Meaning.{Arrival}
use Rattle.cmd_session.specs.Request.{Request, taken}
use Rattle.std.specs.declared.result.Result.TheVariants.{Ok}
use Rattle.sql_catalog.specs.Rows.{entry}
use Rattle.sql_catalog.specs.Streams.{KeepsDomains}
use Rattle.cmd_session.specs.Requests.{entry_request}
use Rattle.cmd_session.specs.Answer.{plain}
use Rattle.cmd_session.specs.Answers.{Settles}
use Rattle.cmd_session.specs.State.{one_line_more}
use Rattle.cmd_session.specs.Session.{SessionValue, StandsFor}
use Rattle.cmd_session.proofs.Explaining.{named_kept}
use Rattle.cmd_session.proofs.Given.{given, row_reply}
use Rattle.cmd_session.proofs.Keeping.{keeps_to_each}
use Rattle.cmd_session.proofs.Short.{short_kept}
use Rattle.cmd_session.proofs.session.Session.ask_row.Goals as goal

less : (n m : ℕ) → n < m → nat_lt n m ≡ true
less n m t = grind (arith, nat_tests)

pub row-requires-clause-keeps : goal.row-requires-clause-keeps
row-requires-clause-keeps g c =
    keeps_to_each c.self.inside.catalog.streams c.args.stream c.args.row.now.items c.self.inside.registry.live c.self.invariant.0.named
    (subst (λ (k : SessionValue). KeepsDomains k.streams c.args.stream c.args.row.now.items) (sym c.self.view_is) c.requires)

pub invariant_of-self : goal.invariant_of-self
invariant_of-self g c = (
  record {
    within = omega (arith, c.if-self.false);
    limit = c.self.invariant.0.limit;
    given = c.emit.ensures.given (c.self.inside.taken + 1) (c.row.ensures.given c.self.inside.taken c.self.invariant.0.given);
    named = named_kept c.self.inside.catalog.streams c.row.new.self.live c.emit.new.self.live
        (named_kept c.self.inside.catalog.streams c.self.inside.registry.live c.row.new.self.live c.self.invariant.0.named c.row.ensures.queries) c.emit.ensures.queries;
    short = short_kept c.self.inside.catalog.streams c.row.new.self.live c.emit.new.self.live
        (short_kept c.self.inside.catalog.streams c.self.inside.registry.live c.row.new.self.live c.self.invariant.0.short c.row.ensures.queries) c.emit.ensures.queries;
  },
  c.self.invariant.1,
)

pub returns-clause-reply : goal.returns-clause-reply
returns-clause-reply g c = λ s stands.
    let r : Arrival = record { stream = c.args.stream; values = c.args.row.now.items } in
    let old = subst (λ (k : SessionValue). StandsFor k (one_line_more s)) (sym c.self.view_is) stands in
    let room : nat_lt c.args.self.now.taken c.args.self.now.limit ≡ true = ap (λ (k : SessionValue). nat_lt k.taken k.limit) (sym c.self.view_is) ∙ less c.self.inside.taken c.self.inside.limit c.if-self.false in
    let asks = ap (λ b. entry_request b (Ok (entry c.args.stream c.args.row.now.items))) room in
    let stood = c.row.ensures.stands s.queries old.queries in
    given c.emit.result c.outcome_of.result s _ (plain (taken c.args.stream c.args.row.now.items)) _ _ _ c.outcome_of.ensures
    (subst (λ (x : Request). Settles s x (plain (taken c.args.stream c.args.row.now.items))) (sym asks) refl)
    (record {
      limit = old.limit;
      streams = old.streams;
      queries = c.emit.ensures.stands _ stood;
      quiet = c.emit.ensures.quiet;
      taken = ap (λ n. n + 1) old.taken;
      lines = old.lines;
      began = refl;
      lock = old.lock;
      pages = c.emit.ensures.pages ∙ c.row.ensures.pages ∙ old.pages;
    })
    (subst (λ t. Writes c.emit.result (g.O.Sink.seen c.args.out.now) (g.O.Sink.seen c.emit.new.out) t) (row_reply c.row.new.self.pool c.row.new.self.live s.queries r stood (c.row.ensures.waits s.queries old.queries)) c.emit.ensures.written)
