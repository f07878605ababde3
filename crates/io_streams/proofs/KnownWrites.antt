-- Writes to a writer that may tell its bytes.
use Rattle.std.proofs.Common.{ℕ, List, [], sym, append-nil, ◌∙◌, None, Some}
use Rattle.std.specs.declared.option.Option.{Option}
use Rattle.std.specs.Io.KnownBytes.{Keeps, Appends}

-- what stays has nothing added
pub Keeps-appends : (a b : Option (List ℕ)) → Keeps a b → Appends a b []
Keeps-appends None b p = tt
Keeps-appends (Some x) None p = absurd p
Keeps-appends (Some x) (Some y) p = p ∙ sym (append-nil x)
