use Rattle.std.proofs.Common.{refl, lit≤}
use Rattle.sql_text.specs.Key.{key_of}
use Rattle.sql_text.specs.Name.{is_name}
use Rattle.sql_text.proofs.name.NameDefault.default.Goals as goal

pub invariant_of-result : goal.invariant_of-result
unfolding is_name key_of
invariant_of-result c = record { name = refl; short = lit≤ tt; filled = refl; zeros = refl }
