-- The lines of the answers that wait, written entry by entry.
use Rattle.std.proofs.Common.{◌≡◌, ℕ, ◌+◌, ◌<◌, cond, Bool, true, false, nat_lt, ℤ, List, [], ◌∷◌, ◌++◌, length, take, replicate, refl, sym, ap, ◌∙◌, subst, arith, Some, slice_get}
use Rattle.std.specs.List.{flat_map}
use Rattle.std.proofs.lemmas.Bool.Decides.{nat_tests}
use Rattle.std.proofs.lemmas.List.{take_more}
use Rattle.std.proofs.lemmas.List.Concat.{flat_map-append}
use Rattle.std.proofs.Math.Seq.{take-length}
use Rattle.std.proofs.lemmas.Option.{slice_get_within, get_or_from_slice_get}
use Rattle.io_streams.specs.Sink.{SinkState, Wrote, BrokeOff}
use Rattle.io_streams.proofs.Writing.{Wrote-trans, BrokeOff-at}
use Rattle.sql_text.specs.Tuple.{tuple_line}
use Rattle.exec_answer_table.specs.Entries.{Entry, entry_of, waiting_entries}
use Rattle.exec_query.specs.Executor.{spelled}
use Rattle.exec_query.specs.Written.{answer_lines}

-- the lines of one entry
abbrev pub entry_lines : List ℕ → Entry → List ℕ
entry_lines name entry = answer_lines name (replicate entry.waiting entry.tuple)

by_entry : (name : List ℕ) (es : List Entry) → answer_lines name (spelled es) ≡ flat_map (entry_lines name) es
by_entry name [] = refl
by_entry name (e ∷ es) =
    flat_map-append (tuple_line name) (replicate e.waiting e.tuple) (spelled es) ∙ ap (λ l. entry_lines name e ++ l) (by_entry name es)

-- entries that do not wait have no lines
spelled-waiting : (es : List Entry) → spelled (waiting_entries es) ≡ spelled es
spelled-waiting [] = refl
spelled-waiting (e ∷ es) = by (nat_lt 0 e.waiting) refl (spelled-waiting es)
  where
    by : (b : Bool) → nat_lt 0 e.waiting ≡ b → spelled (waiting_entries es) ≡ spelled es
        → spelled (cond b (e ∷ waiting_entries es) (waiting_entries es)) ≡ replicate e.waiting e.tuple ++ spelled es
    by true h k = ap (λ ts. replicate e.waiting e.tuple ++ ts) k
    by false h k =
        let n : e.waiting ≡ 0 = grind (arith, nat_tests) in
        k ∙ ap (λ (m : ℕ). replicate m e.tuple ++ spelled es) (sym n)

module _ (name : List ℕ) (es : List Entry) (a : SinkState) where
  abbrev ws : List Entry
  ws = waiting_entries es

  -- the lines of one entry more
  pub lines_more : (i n : ℕ) (t : List ℤ) (b c : SinkState) → slice_get ws i ≡ Some (entry_of t n)
      → Wrote a b (answer_lines name (spelled (take i ws))) → Wrote b c (answer_lines name (replicate n t))
      → Wrote a c (answer_lines name (spelled (take (i + 1) ws)))
  lines_more i n t b c e w o =
      let x : Entry = entry_of t n in
      let l : i < length ws = slice_get_within ws i x e in
      let more : take (i + 1) ws ≡ take i ws ++ x ∷ []
      = take_more ws i x l ∙ ap (λ (y : Entry). take i ws ++ y ∷ []) (get_or_from_slice_get ws i x x e) in
      let lines : answer_lines name (spelled (take (i + 1) ws)) ≡ answer_lines name (spelled (take i ws)) ++ answer_lines name (replicate n t)
      = by_entry name (take (i + 1) ws) ∙ ap (flat_map (entry_lines name)) more ∙ flat_map-append (entry_lines name) (take i ws) (x ∷ [])
      ∙ (λ j. sym (by_entry name (take i ws)) j ++ no_more (answer_lines name (replicate n t)) j) in
      subst (Wrote a c) (sym lines) (Wrote-trans a b c (answer_lines name (spelled (take i ws))) (answer_lines name (replicate n t)) w o)
    where
      no_more : (xs : List ℕ) → xs ++ [] ≡ xs
      no_more [] = refl
      no_more (x ∷ xs) = ap (λ ys. x ∷ ys) (no_more xs)

  -- they broke off
  pub lines_broke : (i n : ℕ) (t : List ℤ) (b c : SinkState) → slice_get ws i ≡ Some (entry_of t n)
      → Wrote a b (answer_lines name (spelled (take i ws))) → BrokeOff b c (answer_lines name (replicate n t))
      → BrokeOff a c (answer_lines name (spelled es))
  lines_broke i n t b c e w o =
      let x : Entry = entry_of t n in
      let l : i < length ws = slice_get_within ws i x e in
      let whole : flat_map (entry_lines name) ws ≡ answer_lines name (spelled es) = sym (by_entry name ws) ∙ ap (answer_lines name) (spelled-waiting es) in
      subst (BrokeOff a c) whole
      (BrokeOff-at (entry_lines name) ws i x a b c l (subst (Wrote a b) (by_entry name (take i ws)) w)
      (subst (λ (y : Entry). BrokeOff b c (entry_lines name y)) (sym (get_or_from_slice_get ws i x x e)) o))

  -- all were written
  pub lines_all : (i : ℕ) (b : SinkState) → i ≡ length ws → Wrote a b (answer_lines name (spelled (take i ws))) → Wrote a b (answer_lines name (spelled es))
  lines_all i b e w =
      subst (Wrote a b) (ap (λ n. answer_lines name (spelled (take n ws))) e ∙ ap (λ vs. answer_lines name (spelled vs)) (take-length ws) ∙ ap (answer_lines name) (spelled-waiting es)) w
