-- Bytes that are exchanged on the way to a sink.
use Rattle.std.proofs.Common.{◌≡◌, ℕ, ◌≤◌, List, [], ◌∷◌, ◌++◌, map, length, take, refl, ap, ◌∙◌, subst, arith, zero, suc, None, Some}
use Rattle.std.specs.declared.option.Option.{Option}
use Rattle.std.proofs.lemmas.List.{length-map, length-take-le}
use Rattle.std.proofs.lemmas.Bool.Decides.{nat_tests}
use Rattle.std.specs.Io.KnownBytes.{Keeps, Appends}
use Rattle.io_streams.specs.Sink.{SinkState, IsLater, WritesSome}
use Rattle.io_streams.specs.declared.sink.WriteAnswer.{WriteAnswer}
use Rattle.io_streams.specs.declared.sink.WriteAnswer.TheVariants.{Took, Failed}
use Rattle.cmd_each.specs.Exchange.{exchanged, exchanged_known, exchanged_seen, names}

-- twice exchanged is as it was
pub exchanged-twice : (b : ℕ) → exchanged (exchanged b) ≡ b
exchanged-twice b = grind (arith, nat_tests)

pub all-twice : (bytes : List ℕ) → map exchanged (map exchanged bytes) ≡ bytes
all-twice [] = refl
all-twice (b ∷ bytes) = ap (λ x. x ∷ map exchanged (map exchanged bytes)) (exchanged-twice b) ∙ ap (λ l. b ∷ l) (all-twice bytes)

pub map-more : (xs ys : List ℕ) → map exchanged (xs ++ ys) ≡ map exchanged xs ++ map exchanged ys
map-more [] ys = refl
map-more (x ∷ xs) ys = ap (λ l. exchanged x ∷ l) (map-more xs ys)

map-taken : (n : ℕ) (xs : List ℕ) → map exchanged (take n (map exchanged xs)) ≡ take n xs
map-taken zero xs = refl
map-taken (suc n) [] = refl
map-taken (suc n) (x ∷ xs) = ap (λ y. y ∷ map exchanged (take n (map exchanged xs))) (exchanged-twice x) ∙ ap (λ l. x ∷ l) (map-taken n xs)

pub taken-twice : (n count : ℕ) (xs : List ℕ) → n ≤ count → take n (take count xs) ≡ take n xs
taken-twice zero count xs le = refl
taken-twice (suc n) zero xs le = absurd (omega (arith, le))
taken-twice (suc n) (suc count) [] le = refl
taken-twice (suc n) (suc count) (x ∷ xs) le = ap (λ l. x ∷ l) (taken-twice n count xs (omega (arith, le)))

-- a text that was written below stands exchanged
pub known-more : (a b : Option (List ℕ)) (text : List ℕ) → Appends a b text → Appends (exchanged_known a) (exchanged_known b) (map exchanged text)
known-more None b text p = tt
known-more (Some x) None text p = p
known-more (Some x) (Some y) text p = ap (map exchanged) p ∙ map-more x text

known-kept : (a b : Option (List ℕ)) → Keeps a b → Keeps (exchanged_known a) (exchanged_known b)
known-kept None b p = tt
known-kept (Some x) None p = p
known-kept (Some x) (Some y) p = ap (map exchanged) p

exchanged-later : (low : ℕ) (before after : SinkState) (name : ℕ) → IsLater before after → IsLater (exchanged_seen low before name) (exchanged_seen low after name)
exchanged-later low before after name l = record { faults = l.faults; below = ap (λ n. names name n low) l.below; passed = l.passed }

-- what a write does below is what it does to the exchanged bytes
pub writes-exchanged : (r : WriteAnswer) (piece bytes : List ℕ) (count low : ℕ) (before after : SinkState) (name : ℕ) → bytes ≡ map exchanged (take count piece) → count ≤ length piece → WritesSome r bytes before after
    → WritesSome r piece (exchanged_seen low before name) (exchanged_seen low after name)
writes-exchanged (Took n) piece bytes count low before after name e le w =
    let size : length bytes ≡ count = ap length e ∙ length-map (take count piece) exchanged ∙ length-take-le count piece le in
    let text : map exchanged (take n bytes) ≡ take n piece = ap (λ (l : List ℕ). map exchanged (take n l)) e ∙ map-taken n (take count piece) ∙ taken-twice n count piece (omega (arith, w.1, size)) in
    let more = known-more before.written after.written (take n bytes) w.2.bytes in (
      w.0,
      omega (arith, w.1, size, le),
      record {
        bytes = subst (Appends (exchanged_known before.written) (exchanged_known after.written)) text more;
        later = exchanged-later low before after name w.2.later;
      },
    )
writes-exchanged Failed piece bytes count low before after name e le w = (w.0, known-kept before.written after.written w.1, exchanged-later low before after name w.2)
