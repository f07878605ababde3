-- Texts that are written one after another.
use Rattle.std.proofs.Common.{◌≡◌, ℕ, List, ◌++◌, Result, Ok, Err, sym, subst}
use Rattle.std.specs.Result.{IsErr}
use Rattle.io_streams.specs.Sink.{SinkState, Wrote, BrokeOff, Writes}
use Rattle.io_streams.proofs.Writing.{Wrote-trans, BrokeOff-then, BrokeOff-stop}

-- one more text behind those that were written
pub writes_after : {T E : Type 0} (r : Result T E) (a b c : SinkState) (s t : List ℕ) → Wrote a b s → Writes r b c t → Writes r a c (s ++ t)
writes_after (Ok x) a b c s t p q = Wrote-trans a b c s t p q
writes_after (Err e) a b c s t p q = BrokeOff-then a b c s t p q

-- a `?` gives the fault back with which a text broke off
pub broke_off : {T E : Type 0} (r : Result T E) (a b : SinkState) (t : List ℕ) → IsErr r → BrokeOff a b t → Writes r a b t
broke_off (Ok x) a b t i p = absurd (cc)
broke_off (Err e) a b t i p = p

-- a text broke off, so a longer one did
pub stopped : (a b : SinkState) (s t : List ℕ) → BrokeOff a b s → BrokeOff a b (s ++ t)
stopped a b s t p = BrokeOff-stop a b s t p

-- the same text, written in another way
pub writes_as : {T E : Type 0} (r : Result T E) (a b : SinkState) (s t : List ℕ) → t ≡ s → Writes r a b s → Writes r a b t
writes_as r a b s t e p = let P : List ℕ → Type 0 = λ v. Writes r a b v in subst P (sym e) p
