-- A line that is read as no row.
use Rattle.std.proofs.Common.{ℕ, ℤ, List, Option, sym, subst}
use Rattle.cmd_session.specs.Session.{SessionValue}
use Rattle.cmd_each.specs.declared.run.Next.{Next}
use Rattle.cmd_each.specs.declared.run.Next.TheVariants.{Given, Over}
use Rattle.cmd_each.specs.Fetching.{HasNoRow, HasRow, ToldRow}

pub none_told : (next : Next) (k : SessionValue) (line : List ℕ) (values : List ℤ) → HasNoRow next → HasRow next k line values
none_told (Given long plain) k line values none = subst (λ (o : Option ℕ). ToldRow long o k line values) (sym none) tt
none_told (Over ending) k line values none = tt
