-- Rows at the front of a text that were only counted, one after another.
use Rattle.std.proofs.Common.{◌≡◌, ℕ, ◌+◌, ◌<◌, ◌≤◌, Bool, true, List, length, take, drop, length-drop, length-take, refl, ap, sym, ◌∙◌, subst, arith}
use Rattle.exec_registry.specs.Passed.{passed}
use Rattle.exec_registry.specs.Registry.{RegistryValue}
use Rattle.exec_registry.proofs.Passing.{passed_more, passed_none, passed_spares}
use Rattle.io_row_reader.specs.Counted.{IsSomeRowAhead}
use Rattle.cmd_session.specs.Counted as counted
use Rattle.cmd_session.specs.Counted.{AnswersNothing, AreCounted, AreSparedRows, IsSparedRow, no_row, row_more}
use Rattle.cmd_session.specs.Lock.{open_in}
use Rattle.cmd_session.specs.Session.{SessionValue}
use Rattle.cmd_session.proofs.CountedRow.{IsFit, counted_line, fit_at, session_at}

-- no row more is none
nothing_more : (n : ℕ) → n + 0 ≡ n
nothing_more n = omega arith

same_session : (k : SessionValue) (count : ℕ) → count ≡ 0 → session_at k count k.began ≡ k
same_session k count c =
    ap (λ (n : ℕ). session_at k n k.began) c
    ∙ ap (λ (n : ℕ). record k { taken = n; lines = k.lines + 0; registry = passed 0 k.registry }) (nothing_more k.taken)
    ∙ ap (λ (n : ℕ). record k { lines = n; registry = passed 0 k.registry }) (nothing_more k.lines)
    ∙ ap (λ (r : RegistryValue). record k { registry = r }) (passed_none k.registry)

-- one row more is counted behind others
next_session : (k : SessionValue) (before : ℕ) (began : Bool) → session_at k (before + 1) true ≡ session_at (session_at k before began) 1 true
next_session k before began =
    let taken : k.taken + (before + 1) ≡ k.taken + before + 1 = omega arith in
    let lines : k.lines + (before + 1) ≡ k.lines + before + 1 = omega arith in
    ap (λ (n : ℕ). record k { taken = n; lines = k.lines + (before + 1); began = true; registry = passed (before + 1) k.registry }) taken
    ∙ ap (λ (n : ℕ). record k { taken = k.taken + before + 1; lines = n; began = true; registry = passed (before + 1) k.registry }) lines
    ∙ ap (λ (r : RegistryValue). record k { taken = k.taken + before + 1; lines = k.lines + before + 1; began = true; registry = r }) (passed_more before 1 k.registry)

-- a row of a spared stream is a row
pub some_row : (k : SessionValue) (text : List ℕ) (len : ℕ) → IsSparedRow k.streams (open_in k.lock) k.registry.live text len → IsSomeRowAhead k.streams (open_in k.lock) text len
some_row k text len h = record { stream = h.stream; values = h.row.values; row = h.row.row; opens = h.opens }

-- so many rows were counted
record Reached (text : List ℕ) (k : SessionValue) (count begin end : ℕ) : Type 0 where
  began : Bool
  rows : AreCounted text k count begin end (session_at k count began)

-- one row more is answered by nothing
answers : (text : List ℕ) (k : SessionValue) (before begin len : ℕ) (began : Bool) → IsFit k → k.taken + (before + 1) ≤ k.limit → IsSparedRow k.streams (open_in k.lock) k.registry.live (drop begin text) len
    → AnswersNothing (session_at k before began) (take len (drop begin text)) (session_at (session_at k before began) 1 true)
answers text k before begin len began fit room h = λ s seen stands.
    counted_line s (take len (drop begin text)) (session_at k before began) h.stream h.row.values seen (fit_at k before began fit (omega (arith, room))) (omega (arith, room)) (passed_spares before h.stream k.registry h.spared)
    (omega (arith, length-take len (drop begin text), h.row.row.short)) h.row.row.row h.opens stands

one_more : (text : List ℕ) (k : SessionValue) (before start begin len : ℕ) → IsFit k → k.taken + (before + 1) ≤ k.limit → Reached text k before start begin → IsSparedRow k.streams (open_in k.lock) k.registry.live (drop begin text) len
    → AreCounted text k (before + 1) begin (begin + len + 1) (session_at k (before + 1) true)
one_more text k before start begin len fit room h row =
    subst (λ (x : SessionValue). AreCounted text k (before + 1) begin (begin + len + 1) x) (sym (next_session k before h.began))
    (row_more before start len (session_at k before h.began) h.rows (some_row k (drop begin text) len row) (answers text k before begin len h.began fit room row) refl refl)

reached : (text : List ℕ) (k : SessionValue) (count begin end : ℕ) → IsFit k → k.taken + count ≤ k.limit → AreSparedRows k.streams (open_in k.lock) k.registry.live text count begin end → Reached text k count begin end
reached text k count begin end fit room (counted.none c e) = record { began = k.began; rows = no_row c e (same_session k count c) }
reached text k count begin end fit room (counted.more before start len h row c e) =
    let last = one_more text k before start begin len fit (omega (arith, room, c)) (reached text k before start begin fit (omega (arith, room, c)) h) row in
    record {
      began = true;
      rows = subst (λ (n : ℕ). AreCounted text k n begin end (session_at k n true)) (sym c) (subst (λ (n : ℕ). AreCounted text k (before + 1) begin n (session_at k (before + 1) true)) (sym e) last);
    }

-- the rows at the front of a text were counted
pub counted_text : (text : List ℕ) (k kept : SessionValue) (count begin end : ℕ) → IsFit k → k.taken + count ≤ k.limit → 0 < count → AreSparedRows k.streams (open_in k.lock) k.registry.live text count begin end
    → kept ≡ session_at k count true → AreCounted text k count begin end kept
counted_text text k kept count begin end fit room some (counted.none c e) is = absurd (omega (arith, some, c))
counted_text text k kept count begin end fit room some (counted.more before start len h row c e) is =
    let last = one_more text k before start begin len fit (omega (arith, room, c)) (reached text k before start begin fit (omega (arith, room, c)) h) row in
    let left : kept ≡ session_at k (before + 1) true = is ∙ ap (λ (n : ℕ). session_at k n true) c in
    subst (λ (n : ℕ). AreCounted text k n begin end kept) (sym c) (subst (λ (n : ℕ). AreCounted text k (before + 1) begin n kept) (sym e) (subst (λ (x : SessionValue). AreCounted text k (before + 1) begin (begin + len + 1) x) (sym left) last))

-- rows that were counted end before the last LF of a text, and each has a byte
pub counted_within : (text : List ℕ) (k : SessionValue) (count begin end : ℕ) (kept : SessionValue) → 0 < length text → AreCounted text k count begin end kept → end < length text
counted_within text k count begin end kept some (no_row c e is) = omega (arith, e, some)
counted_within text k count begin end kept some (row_more before start len left h row answers c e) = omega (arith, e, row.row.before, length-drop begin text)

pub counted_few : (text : List ℕ) (k : SessionValue) (count begin end : ℕ) (kept : SessionValue) → AreCounted text k count begin end kept → count ≤ end
counted_few text k count begin end kept (no_row c e is) = omega (arith, c)
counted_few text k count begin end kept (row_more before start len left h row answers c e) = (let few = counted_few text k before start begin left h in omega (arith, few, c, e))

pub counted_begin : (text : List ℕ) (k : SessionValue) (count begin end : ℕ) (kept : SessionValue) → 0 < count → AreCounted text k count begin end kept → begin < end
counted_begin text k count begin end kept some (no_row c e is) = absurd (omega (arith, some, c))
counted_begin text k count begin end kept some (row_more before start len left h row answers c e) = omega (arith, e)
