-- Which streams are open, by their numbers.
use Rattle.std.specs.Prelude.{ℕ, Bool, true, List, filter, Option, Some, None, nat_eq}
use Rattle.std.specs.List.{list_any}

-- whether a stream is open: all are, or those of these numbers
abbrev pub is_open : Option (List ℕ) → ℕ → Bool
is_open None stream = true
is_open (Some numbers) stream = list_any (nat_eq stream) numbers

-- those that are open by one and by the other
abbrev pub open_by_both : Option (List ℕ) → Option (List ℕ) → Option (List ℕ)
open_by_both None others = others
open_by_both (Some numbers) others = Some (filter (is_open others) numbers)
