-- Reads of a reader that may tell its bytes.
use Rattle.std.proofs.Common.{ℕ, List, sym, ◌∙◌, None, Some}
use Rattle.std.specs.declared.option.Option.{Option}
use Rattle.std.specs.Io.KnownBytes.{Keeps, Consumes}

-- the bytes stayed, and then the first of them were read
pub Kept-consumes : (a b c : Option (List ℕ)) (bs : List ℕ) → Keeps a b → Consumes b c bs → Consumes a c bs
Kept-consumes None b c bs p q = tt
Kept-consumes (Some x) None c bs p q = absurd p
Kept-consumes (Some x) (Some y) None bs p q = absurd q
Kept-consumes (Some x) (Some y) (Some z) bs p q = sym p ∙ q
