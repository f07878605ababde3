-- Streams that are noted.
use Rattle.std.proofs.Common.{◌≡◌, ℕ, zero, suc, ◌<◌, set, get_or, slice_index_or, Bool, true, false, cond, nat_lt, List, [], ◌∷◌, ◌++◌, length, length-append, Ok, Err, refl, ap, sym, ◌∙◌, subst, inl, inr, arith}
use Rattle.std.specs.declared.result.Result.{Result}
use Rattle.std.proofs.lemmas.Bool.{cases_eq}
use Rattle.std.proofs.lemmas.List.{get_or-set_same, get_or-set_other, length-set}
use Rattle.sql_catalog.specs.Streams.{IsCatalog, Shape, added, is_duplicate, shape_at, with_stream}
use Rattle.sql_catalog.specs.declared.stream_error.StreamError.{StreamError}
use Rattle.sql_catalog.specs.declared.stream_error.StreamError.TheVariants.{Duplicate, TooMany}
use Rattle.io_row_reader.specs.declared.noted_stream.NotedStream.{NotedStream}
use Rattle.io_row_reader.specs.Indexed.{IsIndexed, IsNoted}

shape_before : (streams more : List Shape) (n : ℕ) → n < length streams → shape_at streams n ≡ shape_at (streams ++ more) n
shape_before [] more n lt = absurd (omega (arith, lt))
shape_before (s ∷ streams) more zero lt = refl
shape_before (s ∷ streams) more (suc n) lt = shape_before streams more n (omega (arith, lt))

-- a stream was added under this number
record IsAdded (old new : List Shape) (shape : Shape) (number : ℕ) : Type 0 where
  pub number' : number ≡ length old
  pub streams : new ≡ old ++ shape ∷ []

err_no_ok : (e : StreamError) (n : ℕ) → Ok n ≡ Err e → ⊥
err_no_ok e n p = cc

number_in : Result ℕ StreamError → ℕ
number_in (Ok n) = n
number_in (Err e) = 0

is_added : (d f : Bool) (old new : List Shape) (shape : Shape) (number : ℕ) → Ok number ≡ cond d (Err Duplicate) (cond f (Ok (length old)) (Err TooMany)) → new ≡ cond d old (cond f (old ++ shape ∷ []) old) → IsAdded old new shape number
unfolding number_in
is_added true f old new shape number p e = absurd (err_no_ok Duplicate number p)
is_added false true old new shape number p e = record { number' = ap number_in p; streams = e }
is_added false false old new shape number p e = absurd (err_no_ok TooMany number p)

-- where a stream was noted that was added, all are
pub all_noted : (old new : List Shape) (shape : Shape) (number : ℕ) (before : List NotedStream) (own : NotedStream) → IsIndexed before old → IsCatalog new → Ok number ≡ added old shape → new ≡ with_stream old shape → IsNoted own (shape_at new number)
    → IsIndexed (set before number own) new
all_noted old new shape number before own h sound told is noted =
    let a = is_added (is_duplicate old shape) (nat_lt (length old) 16) old new shape number told is in
    record {
      few = sound.few;
      room = length-set before number own ∙ h.room;
      notes = λ stream none lt. elim (cases_eq stream number) [
        | inl e ↦
            let inside : number < length before = omega (arith, h.room, a.number', ap length a.streams, length-append old (shape ∷ []), sound.few) in
            subst (λ n. IsNoted (get_or (set before number own) n none) (shape_at new n)) (sym e)
            (subst (λ (t : NotedStream). IsNoted t (shape_at new number)) (sym (get_or-set_same before number own none inside)) noted)
        | inr apart ↦
            let here : stream < length old = omega (arith, lt, ap length a.streams, length-append old (shape ∷ []), a.number', apart) in
            let same : shape_at old stream ≡ shape_at new stream = shape_before old (shape ∷ []) stream here ∙ ap (λ (l : List Shape). shape_at l stream) (sym a.streams) in
            subst (λ (s : Shape). IsNoted (get_or (set before number own) stream none) s) same
            (subst (λ (t : NotedStream). IsNoted t (shape_at old stream)) (sym (get_or-set_other before number stream own none apart)) (h.notes stream none here))
      ];
    }

-- the name of a stream of which one byte is noted
pub single_noted : (noted : List NotedStream) (streams : List Shape) (stream place first byte : ℕ) (none : NotedStream) → IsIndexed noted streams → stream < length streams → place ≡ stream → byte ≡ first → first < 256
    → (slice_index_or noted place none).single ≡ byte → (shape_at streams stream).name ≡ first ∷ []
single_noted noted streams stream place first byte none h known here is small same =
    let one : (slice_index_or noted stream none).single ≡ first = ap (λ n. (slice_index_or noted n none).single) (sym here) ∙ same ∙ is in
    (h.notes stream none known).single (omega (arith, one, small)) ∙ ap (λ (b : ℕ). b ∷ []) one
