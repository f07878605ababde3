use Rattle.std.proofs.Common.{ℕ, List, Option, subst}
use Rattle.io_line_reader.specs.Reading.{IsBegun}
use Rattle.cmd_each.specs.Fetching.{IsOpenRow, ToldRow}
use Rattle.cmd_each.proofs.run.answer_line.Goals as goal

pub returns-in-Some : goal.returns-in-Some
returns-in-Some g c = λ s line begun stands.
    let told = subst (λ (o : Option ℕ). ToldRow c.args.long o c.args.session.now c.args.reader.now.line c.args.row.now.items) c.in-Some.is c.requires.row in
    let same = subst (λ b. IsBegun b c.args.reader.now.line line) told.0 begun in
    let is = subst (λ (text : List ℕ). IsOpenRow c.args.session.now text c.in-Some.stream c.args.row.now.items) same told.1 in
    c.plain_row.ensures.reply s line is.short is.row stands
