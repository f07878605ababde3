use Rattle.std.proofs.Common.{ℕ, Bool, List, map, refl, sym, ◌∙◌, subst}
use Rattle.bq.specs.Errors.{Tells, told_of}
use Rattle.bq.specs.Serve.{Serves}
use Rattle.bq.proofs.Counts.{none-fell, some-rose}
use Rattle.bq.proofs.top.serve.Goals as goal

pub returns-then-asks_feeds-clause-serves : goal.returns-then-asks_feeds-clause-serves
returns-then-asks_feeds-clause-serves g c =
    let ending = c.run_feeds-ending.result in
    record {
      failed = ending.script_failed;
      serves = subst (λ (b : Bool). Serves b ending.status ending.script_failed c.args.words.now (g.I.Source.seen c.args.input.now) (g.I.Source.seen c.args.input.now)
          (map g.F.Source.seen c.args.feeds.now) (map g.F.Source.seen c.run_feeds-ending.new.feeds) (g.O.Sink.seen c.args.output.now) (g.O.Sink.seen c.run_feeds-ending.new.output))
          (sym c.if-asks_feeds.true ∙ c.asks_feeds.ensures) (c.run_feeds-ending.ensures.ends, refl);
      tells = subst (λ (name : List ℕ). Tells (g.E.Sink.seen c.args.errors.now) (g.E.Sink.seen c.tell.new.errors) (told_of ending.status ending.script_failed name)) c.file_name.ensures c.tell.ensures;
    }

pub returns-then-asks_feeds-clause-complete : goal.returns-then-asks_feeds-clause-complete
returns-then-asks_feeds-clause-complete g c = λ input kept output. c.run_feeds-ending.ensures.complete (λ rose. kept (some-rose _ _ rose)) output

pub returns-then-asks_feeds-clause-feeds_later : goal.returns-then-asks_feeds-clause-feeds_later
returns-then-asks_feeds-clause-feeds_later g c = none-fell _ _ c.run_feeds-ending.ensures.feeds_later

pub returns-clause-serves : goal.returns-clause-serves
returns-clause-serves g c =
    let ended = c.run-ended.result in
    record {
      failed = ended.file_failed;
      serves = subst (λ (b : Bool). Serves b ended.status ended.file_failed c.args.words.now (g.I.Source.seen c.args.input.now) (g.I.Source.seen c.run-ended.new.input)
          (map g.F.Source.seen c.args.feeds.now) (map g.F.Source.seen c.run-ended.new.files) (g.O.Sink.seen c.args.output.now) (g.O.Sink.seen c.run-ended.new.output))
          (sym c.if-asks_feeds.false ∙ c.asks_feeds.ensures) c.run-ended.ensures.ends;
      tells = subst (λ (name : List ℕ). Tells (g.E.Sink.seen c.args.errors.now) (g.E.Sink.seen c.tell-2.new.errors) (told_of ended.status ended.file_failed name)) c.file_name-2.ensures c.tell-2.ensures;
    }
