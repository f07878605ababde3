use Rattle.std.proofs.Common.{List, ℕ, get_or, refl, ap, ◌∙◌, lit<, arith}
use Rattle.std.proofs.lemmas.List.{get_or-replicate}
use Rattle.io_line_reader.proofs.reader.LineReader.new.Goals as goal

pub invariant_of-result : goal.invariant_of-result
invariant_of-result c = record {
  whole = c.in_ok-vec.ensures.len;
  feed = ap (λ (l : List ℕ). get_or l 0 0) (c.in_ok-vec.ensures.items_if_clones_equal (λ y e. e)) ∙ get_or-replicate 5121 0 10 0 (lit< tt);
  order = omega arith;
  inside = omega (arith, c.in_ok-vec.ensures.len);
  near = λ k low high e. absurd (omega (arith, high));
  span = omega arith;
  within = omega arith;
  counted = omega arith;
  last = λ e. (refl, omega arith);
  lost = λ e. (refl, omega arith, refl);
}
