use Rattle.std.proofs.Common.{◌≡◌, ◌+◌, ◌-◌, ◌<◌, List, ℕ, false, ◌∷◌, ◌++◌, refl, sym, ap, ◌∙◌, subst, arith, length, drop, take}
use Rattle.std.specs.List.{slice_range}
use Rattle.std.proofs.lemmas.List.{length-take}
use Rattle.io_line_reader.specs.Reading.{Reading, IsFirstFeed, IsPlain}
use Rattle.io_line_reader.proofs.Pieces.{range-front, range-later, cut-at, short-range, not-true}
use Rattle.io_line_reader.proofs.reader.LineReader.give_line.Goals as goal

pub returns-clause-gives : goal.returns-clause-gives
returns-clause-gives c =
    let s = c.self.inside in
    let n = c.args.len in
    let rest = slice_range s.chunk.items s.at s.filled in
    let told = subst (λ (l : List ℕ). IsFirstFeed l n) (sym (ap (λ (r : Reading). r.ahead) c.self.view_is)) c.requires.feed in
    let line = range-front s.chunk.items s.at s.filled n told.0 in
    let later = range-later s.chunk.items s.at s.filled n told.0 in
    let inside : n < s.filled - s.at = omega (arith, told.0, short-range s.chunk.items s.at s.filled) in
    let unended : s.ended ≡ false = not-true s.ended (λ e. omega (arith, inside, (c.self.invariant.last e).0)) in
    let unfailed : s.failed ≡ false = not-true s.failed (λ e. omega (arith, inside, (c.self.invariant.lost e).0)) in
    rw (← c.self.view_is) record {
      whole = cut-at rest n 10 told.0 told.1 ∙ ap (λ l. l ++ 10 ∷ drop (n + 1) rest) (sym line) ∙ ap (λ l. slice_range s.chunk.items s.at (s.at + n) ++ 10 ∷ l) (sym later);
      plain = subst IsPlain (sym line) told.2;
      short = omega (arith, ap length line, length-take n rest, c.requires.short);
      taken = refl;
      lines = refl;
      counted = (omega (arith, inside, c.self.invariant.counted), omega (arith, c.self.ranges));
      ended = (unended, unended);
      unfailed = (unfailed, unfailed);
    }

pub returns-clause-line : goal.returns-clause-line
returns-clause-line c =
    let s = c.self.inside in
    let n = c.args.len in
    let ahead = ap (λ (r : Reading). r.ahead) c.self.view_is in
    let told = subst (λ (l : List ℕ). IsFirstFeed l n) (sym ahead) c.requires.feed in
    range-front s.chunk.items s.at s.filled n told.0 ∙ ap (λ (l : List ℕ). take n l) ahead
