use Rattle.std.proofs.Common.{List, ℕ, refl, ap, ◌∙◌, subst}
use Rattle.std.specs.List.{slice_range}
use Rattle.io_line_reader.specs.Reading.{Reading, IsFirstFeed}
use Rattle.io_line_reader.proofs.Pieces.{long-line, no-whole-line}
use Rattle.io_line_reader.proofs.reader.LineReader.buffered_line.Goals as goal

pub give_line-requires-clause-feed : goal.give_line-requires-clause-feed
give_line-requires-clause-feed c =
    let s = c.self.inside in
    let told = rw c.deref.ensures.value at c.in-Some.ensures in
    subst (λ (l : List ℕ). IsFirstFeed l c.in-Some.n) (ap (λ (r : Reading). r.ahead) c.self.view_is) told

pub returns-then-n-gt-LONGEST : goal.returns-then-n-gt-LONGEST
returns-then-n-gt-LONGEST c =
    let s = c.self.inside in
    let told = rw c.deref.ensures.value at c.in-Some.ensures in
    let ahead = ap (λ (r : Reading). r.ahead) c.self.view_is in
    record {
      same = refl;
      long = λ line rest plain e. long-line (slice_range s.chunk.items s.at s.filled) line rest c.in-Some.n told.2 c.if-n-gt-LONGEST.true (ahead ∙ e);
    }

pub returns-in-None : goal.returns-in-None
returns-in-None c =
    let s = c.self.inside in
    let plain = rw c.deref.ensures.value at c.in-None.ensures in
    let ahead = ap (λ (r : Reading). r.ahead) c.self.view_is in
    record {
      same = refl;
      long = λ line rest _ e. no-whole-line (slice_range s.chunk.items s.at s.filled) line rest plain (ahead ∙ e);
    }
