use Rattle.std.proofs.Common.{ℕ, arith}
use Rattle.std.proofs.lemmas.List.{get_or-replicate}
use Rattle.io_row_reader.proofs.starts.Starts.new.Goals as goal

pub returns : goal.returns
returns c = λ opened byte inside less.
    let none = get_or-replicate {A = ℕ} 256 byte 255 0 inside in
    absurd (omega (arith, less, none))
