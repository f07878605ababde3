use Rattle.std.proofs.Common.{◌*◌, drop, pos, neg_ℤ, ◌≤ℤ◌}
use Rattle.cert_checker.proofs.WalkedChains.{Leads}
use Rattle.cert_checker.proofs.chain.chain_from.Given as goal

abbrev pub invariant-loop-number : goal.invariant-loop-number
invariant-loop-number l = record {
  leads : Leads l.cs l.numbers l.from (drop l.number-index l.numbers) l.to l.sum;
  low : neg_ℤ (pos (1000000000000000 * l.number-index)) ≤ℤ l.sum;
  high : l.sum ≤ℤ pos (1000000000000000 * l.number-index);
}
