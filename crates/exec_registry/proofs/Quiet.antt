-- Live queries of which nothing waits.
use Rattle.std.proofs.Common.{◌≡◌, ℕ, zero, suc, ◌<◌, ◌≤◌, inl, inr, List, [], ◌∷◌, ◌++◌, length, take, refl, sym, ap, ◌∙◌, subst, arith, slice_index_or, replicate}
use Rattle.std.specs.List.{flat_map}
use Rattle.std.specs.Int.{bit_at}
use Rattle.std.proofs.lemmas.Nat.Bits.{bit_at-zero}
use Rattle.std.proofs.lemmas.Bool.{cases_lt}
use Rattle.std.proofs.lemmas.List.{length-append}
use Rattle.sql_text.specs.Tuple.{tuple_line}
use Rattle.exec_answer_table.specs.Entries.{Entry, settled}
use Rattle.exec_query.specs.Executor.{spelled, waiting_in, with_given}
use Rattle.exec_registry.specs.Live.{Live}
use Rattle.exec_registry.specs.Registry.{waiting_text}
use Rattle.exec_registry.specs.Written.{WroteOne, WroteFirst}
use Rattle.exec_registry.specs.Waiting.{AreQuiet}

-- all live queries
pub quiet_all : (word : ℕ) (live : List Live) → ((k : ℕ) → bit_at word k ≡ 1 → k < length live) → ((k : ℕ) → k < length live → bit_at word k ≡ 1) → AreQuiet word live
quiet_all word live only all = record {
  only = only;
  quiet = λ k l a off. absurd (let on = all k a in omega (arith, on, off));
}

-- nothing waits at all
pub quiet_after : (live : List Live) → ((i : ℕ) (l : Live) → i < length live → waiting_in (slice_index_or live i l).executor ≡ []) → AreQuiet 0 live
quiet_after live h = record {
  only = λ k on. absurd (let z = bit_at-zero k in omega (arith, z, on));
  quiet = λ k l a off. h k l a;
}

-- a last one of which nothing waits
pub quiet_last : (word : ℕ) (live : List Live) (l' : Live) → AreQuiet word live → waiting_in l'.executor ≡ [] → AreQuiet word (live ++ l' ∷ [])
quiet_last word live l' q none =
    let more = length-append live (l' ∷ []) in
    record {
      only = λ k on. (let f = q.only k on in omega (arith, f, more));
      quiet = λ i l b off. elim (cases_lt i (length live)) [
        | inl k ↦ subst (λ (x : Live). waiting_in x.executor ≡ []) (sym (at_front live i l k)) (q.quiet i l k off)
        | inr k ↦ (let e : i ≡ length live = omega (arith, k, b, more) in subst (λ (x : Live). waiting_in x.executor ≡ []) (sym (ap (λ j. slice_index_or (live ++ l' ∷ []) j l) e ∙ at_last live l)) none)
      ];
    }
  where
    at_front : (xs : List Live) (i : ℕ) (l : Live) → i < length xs → slice_index_or (xs ++ l' ∷ []) i l ≡ slice_index_or xs i l
    at_front [] i l k = absurd (omega (arith, k))
    at_front (x ∷ xs) zero l k = refl
    at_front (x ∷ xs) (suc i) l k = at_front xs i l (omega (arith, k))

    at_last : (xs : List Live) (l : Live) → slice_index_or (xs ++ l' ∷ []) (length xs) l ≡ l'
    at_last [] l = refl
    at_last (x ∷ xs) l = at_last xs l

-- entries that wait for nothing are settled
none_waits : (es : List Entry) → spelled es ≡ [] → es ≡ settled es
none_waits [] h = refl
none_waits (e ∷ es) h = by e.waiting refl (none_waits es) h
  where
    by : (n : ℕ) → e.waiting ≡ n → (spelled es ≡ [] → es ≡ settled es) → (replicate n e.tuple ++ spelled es) ≡ [] → (e ∷ es) ≡ settled (e ∷ es)
    by zero is rest k = (λ j. (let x : Entry = record { tuple = e.tuple; waiting = is j } in x) ∷ rest k j)
    by (suc n) is rest k = absurd cc

-- a live query of which nothing waits is as if it were written
wrote_quiet : (l : Live) → waiting_in l.executor ≡ [] → WroteOne l l
wrote_quiet l none = record {
  name = refl;
  none = none;
  same = ap (λ (es : List Entry). with_given l.executor l.executor.given es) (none_waits l.executor.table.entries none);
  kept = λ pool k. k;
  within = λ pool k. k;
  bases = λ pool base history k. k;
}

-- and so are those that follow
pub wrote_skip : (n m : ℕ) (before now : List Live) → WroteFirst n before now
    → ((i : ℕ) (l : Live) → n ≤ i → i < m → i < length before → waiting_in (slice_index_or before i l).executor ≡ []) → n ≤ m → WroteFirst m before now
wrote_skip n m before now w quiet le = record {
  size = w.size;
  done = λ i l a b. elim (cases_lt i n) [
    | inl k ↦ w.done i l k b
    | inr k ↦ subst (λ (x : Live). WroteOne (slice_index_or before i l) x) (sym (w.others i l k b)) (wrote_quiet (slice_index_or before i l) (quiet i l k a b))
  ];
  others = λ i l a b. w.others i l (omega (arith, a, le)) b;
}

-- and so are all the others
pub wrote_rest : (n : ℕ) (before now : List Live) → WroteFirst n before now
    → ((i : ℕ) (l : Live) → n ≤ i → i < length before → waiting_in (slice_index_or before i l).executor ≡ []) → WroteFirst (length before) before now
wrote_rest n before now w quiet = record {
  size = w.size;
  done = λ i l a b. elim (cases_lt i n) [
    | inl k ↦ w.done i l k b
    | inr k ↦ subst (λ (x : Live). WroteOne (slice_index_or before i l) x) (sym (w.others i l k b)) (wrote_quiet (slice_index_or before i l) (quiet i l k b))
  ];
  others = λ i l a b. absurd (omega (arith, a, b));
}

silent : (l : Live) → waiting_in l.executor ≡ [] → waiting_text l ≡ []
silent l none = ap (λ ts. flat_map (tuple_line l.name) ts) none

-- they have no text, where they follow some
pub text_skip : (n m : ℕ) (xs : List Live) → n ≤ m → ((i : ℕ) (l : Live) → n ≤ i → i < m → i < length xs → waiting_in (slice_index_or xs i l).executor ≡ [])
    → flat_map waiting_text (take m xs) ≡ flat_map waiting_text (take n xs)
text_skip n zero xs le h = ap (λ k. flat_map waiting_text (take k xs)) (let e : 0 ≡ n = omega (arith, le) in e)
text_skip zero (suc m) [] le h = refl
text_skip (suc n) (suc m) [] le h = refl
text_skip zero (suc m) (x ∷ xs) le h =
    ap (λ t. t ++ flat_map waiting_text (take m xs)) (silent x (h 0 x (omega arith) (omega arith) (omega arith)))
    ∙ text_skip 0 m xs (omega arith) (λ i l a b d. h (suc i) l (omega arith) (omega (arith, b)) (omega (arith, d)))
text_skip (suc n) (suc m) (x ∷ xs) le h =
    ap (λ t. waiting_text x ++ t) (text_skip n m xs (omega (arith, le)) (λ i l a b d. h (suc i) l (omega (arith, a)) (omega (arith, b)) (omega (arith, d))))

-- and at the end
pub text_all : (n : ℕ) (xs : List Live) → ((i : ℕ) (l : Live) → n ≤ i → i < length xs → waiting_in (slice_index_or xs i l).executor ≡ []) → flat_map waiting_text (take n xs) ≡ flat_map waiting_text xs
text_all zero [] h = refl
text_all (suc n) [] h = refl
text_all zero (x ∷ xs) h =
    sym (ap (λ t. t ++ flat_map waiting_text xs) (silent x (h 0 x (omega arith) (omega arith)))
    ∙ sym (text_all zero xs (λ i l a b. h (suc i) l (omega arith) (omega (arith, b)))))
text_all (suc n) (x ∷ xs) h = ap (λ t. waiting_text x ++ t) (text_all n xs (λ i l a b. h (suc i) l (omega (arith, a)) (omega (arith, b))))

-- where no bit is set, nothing waits
pub none_quiet : (word : ℕ) (live : List Live) → AreQuiet word live → word ≡ 0 → (i : ℕ) (l : Live) → i < length live → waiting_in (slice_index_or live i l).executor ≡ []
none_quiet word live q none i l a = q.quiet i l a (ap (λ (w : ℕ). bit_at w i) none ∙ bit_at-zero i)

pub none_text : (word : ℕ) (live : List Live) → AreQuiet word live → word ≡ 0 → flat_map waiting_text (take 0 live) ≡ flat_map waiting_text live
none_text word live q none = text_all 0 live (λ i l a b. none_quiet word live q none i l b)
