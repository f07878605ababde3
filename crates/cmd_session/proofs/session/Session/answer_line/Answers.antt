use Rattle.std.proofs.Common.{refl, sym, ◌∙◌, List, subst}
use Rattle.io_streams.proofs.Writing.{Wrote-nil}
use Rattle.cmd_session.specs.Request.{silent, refused}
use Rattle.sql_replies.specs.declared.refusal.Refusal.TheVariants.{Locked}
use Rattle.sql_catalog.specs.Streams.{Shape}
use Rattle.cmd_session.specs.Lock.{LetsText}
use Rattle.cmd_session.specs.Session.{SessionValue, StandsFor}
use Rattle.cmd_session.specs.Answer.{plain}
use Rattle.cmd_session.specs.State.{one_line_more}
use Rattle.cmd_session.proofs.Standing.{of_kind, row-kept, let-kept, none-let, not_let}
use Rattle.sql_replies.proofs.Stripped.{stripped-short}
use Rattle.cmd_session.proofs.session.Session.answer_line.Goals as goal

pub returns-in-StatementLine-clause-reply : goal.returns-in-StatementLine-clause-reply
returns-in-StatementLine-clause-reply g c = λ s stands.
    let done = c.answer_text.ensures.reply s stands in
    record {
      request = done.request;
      asks = of_kind s _ c.args.line.now _ done.request c.requires (sym c.classify-kind.ensures.kind ∙ c.in-StatementLine.is) (sym c.classify-kind.ensures.stripped) (let-kept _ (one_line_more s) _ _ _ (subst (λ (k : SessionValue). StandsFor k (one_line_more s)) (sym c.self.view_is) stands) c.in-StatementLine.is
          (subst (λ (x : List Shape). LetsText c.self.inside.lock x c.classify-kind.result.0 c.classify-kind.result.1.now) c.all.ensures (c.is_let.ensures.yes c.if-not-is_let.false))) done.asks;
      does = done.does;
    }

pub returns-in-Nothing-clause-reply : goal.returns-in-Nothing-clause-reply
returns-in-Nothing-clause-reply g c = λ s stands.
    record {
      request = silent;
      asks = of_kind s _ c.args.line.now _ silent c.requires (sym c.classify-kind.ensures.kind ∙ c.in-Nothing.is) (sym c.classify-kind.ensures.stripped) (let-kept _ (one_line_more s) _ _ _ (subst (λ (k : SessionValue). StandsFor k (one_line_more s)) (sym c.self.view_is) stands) c.in-Nothing.is
          (subst (λ (x : List Shape). LetsText c.self.inside.lock x c.classify-kind.result.0 c.classify-kind.result.1.now) c.all.ensures (c.is_let.ensures.yes c.if-not-is_let.false))) refl;
      does = record { answer = plain silent; settles = refl; stands = stands; reply = Wrote-nil (g.O.Sink.seen c.args.out.now) };
    }

pub answer_text-requires : goal.answer_text-requires
answer_text-requires g c = stripped-short c.args.line.now c.classify-kind.result.1.now c.classify-kind.ensures.stripped c.requires

pub returns-in-RowLine-clause-reply : goal.returns-in-RowLine-clause-reply
returns-in-RowLine-clause-reply g c = λ s stands.
    record {
      request = _;
      asks = of_kind s _ c.args.line.now _ _ c.requires (sym c.classify-kind.ensures.kind ∙ c.in-RowLine.is) (sym c.classify-kind.ensures.stripped) (let-kept _ (one_line_more s) _ _ _ (subst (λ (k : SessionValue). StandsFor k (one_line_more s)) (sym c.self.view_is) stands) c.in-RowLine.is
          (subst (λ (x : List Shape). LetsText c.self.inside.lock x c.classify-kind.result.0 c.classify-kind.result.1.now) c.all.ensures (c.is_let.ensures.yes c.if-not-is_let.false))) (row-kept _ (one_line_more s) _ stands);
      does = c.answer_row.ensures.reply s stands;
    }

pub is_let-requires : goal.is_let-requires
is_let-requires g c = stripped-short c.args.line.now c.classify-kind.result.1.now c.classify-kind.ensures.stripped c.requires

pub returns-then-not-is_let-clause-reply : goal.returns-then-not-is_let-clause-reply
returns-then-not-is_let-clause-reply g c = λ s stands.
    let old = subst (λ (k : SessionValue). StandsFor k (one_line_more s)) (sym c.self.view_is) stands in
    record {
      request = refused Locked;
      asks = not_let s c.classify-kind.result.0 c.args.line.now c.classify-kind.result.1.now c.requires (sym c.classify-kind.ensures.kind) (sym c.classify-kind.ensures.stripped)
          (none-let _ (one_line_more s) _ _ old (λ lets. c.is_let.ensures.no c.if-not-is_let.true
          (subst (λ (x : List Shape). LetsText c.self.inside.lock x c.classify-kind.result.0 c.classify-kind.result.1.now) (sym c.all.ensures) lets)));
      does = c.refuse.ensures s stands;
    }
