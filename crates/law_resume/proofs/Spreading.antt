-- Integers moved apart: those below the least that may be written down by one, those above the greatest up by one.
use Rattle.std.proofs.Common.{◌≡◌, cond, int_lt, ℤ, pos, neg_ℤ, ◌+ℤ◌, ◌-ℤ◌, ◌≤ℤ◌, ◌<ℤ◌, arith}
use Rattle.std.proofs.lemmas.Int.{ints}

-- the least and the greatest integer that may be written
abbrev pub lowest : ℤ
lowest = neg_ℤ (pos 999999999999999)

abbrev pub highest : ℤ
highest = pos 999999999999999

-- integers are moved apart, and those that may be written stay
pub record Spreads (f : ℤ → ℤ) : Type 0 where
  pub less : (x y : ℤ) → int_lt (f x) (f y) ≡ int_lt x y
  pub same : (x y : ℤ) → f x ≡ f y → x ≡ y
  pub stays : (z : ℤ) → lowest ≤ℤ z → z ≤ℤ highest → f z ≡ z

abbrev pub lowered : ℤ → ℤ
lowered z = cond (int_lt z lowest) (z -ℤ pos 1) z

abbrev pub raised : ℤ → ℤ
raised z = cond (int_lt highest z) (z +ℤ pos 1) z

pub lowering : Spreads lowered
lowering = record {
  less = λ x y. grind (arith, ints);
  same = λ x y e. grind (arith, ints, e);
  stays = λ z l u. grind (arith, ints, l);
}

pub raising : Spreads raised
raising = record {
  less = λ x y. grind (arith, ints);
  same = λ x y e. grind (arith, ints, e);
  stays = λ z l u. grind (arith, ints, u);
}

pub lower_still : (z : ℤ) → z <ℤ lowest → lowered z ≡ z -ℤ pos 1
lower_still z l = grind (arith, ints, l)

pub higher_still : (z : ℤ) → highest <ℤ z → raised z ≡ z +ℤ pos 1
higher_still z l = grind (arith, ints, l)
