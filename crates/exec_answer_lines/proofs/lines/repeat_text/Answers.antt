use Rattle.std.proofs.Common.{◌≡◌, ◌≤◌, ◌+◌, ◌-◌, ◌++◌, length, take, drop, take_all, length-drop, length-take-le, ap, ◌∙◌, refl, sym, arith}
use Rattle.std.proofs.lemmas.List.{append-nil}
use Rattle.exec_answer_lines.proofs.Tails.{put_before, tail_before, whole_before, tail_is, once_more, behind_later}
use Rattle.exec_answer_lines.proofs.lines.repeat_text.Goals as goal

pub copies-init : goal.copies-init
copies-init c = record {
  text = sym (append-nil (drop c.args.start c.args.line.now));
  behind = refl;
  room = omega arith;
  inside = omega arith;
}

pub copies-preserved : goal.copies-preserved
copies-preserved c =
    let once = drop c.args.start c.args.line.now in
    let ending = drop 512 c.args.line.now in
    let long : length ending ≡ 16 = omega (arith, length-drop 512 c.args.line.now, c.requires.size) in
    let text = take 16 ending in
    let wide : length text ≡ 16 = length-take-le 16 ending (omega (arith, long)) in
    let short : 512 ≤ c.args.start = c.requires.short (omega arith) in
    let room : 16 ≤ c.copies.at = omega (arith, short, c.copies.invariant.room) in
    let inside : c.copies.at ≤ length c.copies.line = omega (arith, c.copies.auto.line, c.requires.size, c.copies.invariant.inside) in
    let put = put_before c.copies.line text c.copies.at 16 wide room inside in
    record {
      text = tail_before 16 _ text _ c.copies.at (528 - c.args.start) wide (omega (arith, short)) room put
          ∙ ap (λ l. l ++ drop c.copies.at c.copies.line) (tail_is c.args.line.now text c.args.start (take_all 16 ending (omega (arith, long))) short c.requires.inside)
          ∙ ap (λ l. once ++ l) c.copies.invariant.text
          ∙ once_more once (c.copies.k + 1);
      behind = behind_later _ c.copies.line c.copies.at c.args.start c.copies.invariant.inside (whole_before _ text _ c.copies.at wide room put) ∙ c.copies.invariant.behind;
      room = omega (arith, c.copies.invariant.room, short, room);
      inside = omega (arith, c.copies.invariant.inside);
    }
