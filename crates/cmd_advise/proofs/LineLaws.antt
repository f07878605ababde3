-- What taking a line comes to.
use Rattle.std.proofs.Common.{◌≡◌, ℕ, ◌+◌, ◌<◌, ◌≤◌, Bool, true, false, if◌then◌else◌, List, [], ◌++◌, length, nat_lt, refl, sym, ap, ◌∙◌, subst, append-nil, arith, Option, Some, None, Ok, Err}
use Rattle.std.specs.declared.result.Result.{Result}
use Rattle.adv_diagnosis.specs.declared.fault.Asks.{Asks}
use Rattle.adv_diagnosis.specs.declared.fault.Asks.TheVariants as asks
use Rattle.adv_diagnosis.specs.declared.fault.Fault.{Fault}
use Rattle.adv_diagnosis.specs.declared.fault.Fault.TheVariants.{LineTooLong}
use Rattle.std.proofs.lemmas.Bool.Decides.{nat_tests}
use Rattle.std.specs.Result.{OnOk}
use Rattle.io_streams.specs.Memory.{MemSinkState, mem_sink_seen}
use Rattle.io_streams.specs.Sink.{Wrote}
use Rattle.sem_query.specs.Query.{QueryValue}
use Rattle.sql_catalog.specs.Streams.{Shape}
use Rattle.adv_mends.specs.declared.advising.QueryAdvice.{QueryAdvice}
use Rattle.adv_mends.specs.Advised.{IsAdvice}
use Rattle.adv_diagnosis.specs.Faults.{IsDiagnosis}
use Rattle.cmd_advise.specs.declared.state.StandingLock.{StandingLock}
use Rattle.cmd_advise.specs.Queries.{query_text}
use Rattle.cmd_advise.specs.State.{State, free_pages, one_fault_more, one_query_more}
use Rattle.cmd_advise.specs.Finding.{fine, fault, query, too_long, fits, ComesOf, FoundBehind, IsFound, advised, after, after_asks, shown, is_row_fault, told_text}
use Rattle.cmd_advise.specs.LineSteps.{TookLine, TookFault, TookSilently, TookQuery, TookAsks}

short-test : (n : ℕ) → n ≤ 1024 → nat_lt 1024 n ≡ false
short-test n short = grind (arith, nat_tests)

long-test : (n : ℕ) → 1024 < n → nat_lt 1024 n ≡ true
long-test n long = grind (arith, nat_tests)

pick-else : (b : Bool) (x y : List ℕ) → b ≡ false → (if b then x else y) ≡ y
pick-else true x y e = cc
pick-else false x y e = refl

pick-then : (b : Bool) (x y : List ℕ) → b ≡ true → (if b then x else y) ≡ x
pick-then true x y e = refl
pick-then false x y e = cc

shown-whole : (line : List ℕ) → length line ≤ 1024 → shown line ≡ line
shown-whole line short = pick-else (nat_lt 1024 (length line)) [] line (short-test (length line) short)

shown-none : (line : List ℕ) → 1024 < length line → shown line ≡ []
shown-none line long = pick-then (nat_lt 1024 (length line)) [] line (long-test (length line) long)

-- what is found for a line under the lock that stands
pub found_locked : (s : State) (o : Option StandingLock) (lock : StandingLock) (streams : List Shape) (live : List (List ℕ)) (line : List ℕ) (r : Result Asks Fault) → o ≡ s.lock → o ≡ Some lock → streams ≡ s.streams → live ≡ s.live
    → FoundBehind streams live (Some lock) line r → IsFound s line r
found_locked s o lock streams live line r e f g h found =
    subst (λ (z : Option StandingLock). FoundBehind s.streams s.live z line r) (sym f ∙ e)
    (subst (λ (z : List Shape). FoundBehind z s.live (Some lock) line r) g (subst (λ (z : List (List ℕ)). FoundBehind streams z (Some lock) line r) h found))

-- and where none stands
pub found_open : (s : State) (o : Option StandingLock) (streams : List Shape) (live : List (List ℕ)) (line : List ℕ) (r : Result Asks Fault) → o ≡ s.lock → o ≡ None → streams ≡ s.streams → live ≡ s.live
    → IsDiagnosis streams live line r → IsFound s line r
found_open s o streams live line r e f g h found =
    subst (λ (z : Option StandingLock). FoundBehind s.streams s.live z line r) (sym f ∙ e)
    (subst (λ (z : List Shape). IsDiagnosis z s.live line r) g (subst (λ (z : List (List ℕ)). IsDiagnosis streams z line r) h found))

-- a line of at most 1,024 bytes is at fault
pub took_fault : (line : List ℕ) (wrong : Fault) (s t : State) (held now : List ℕ) → length line ≤ 1024 → IsFound s line (Err wrong) → TookFault line wrong s t held now → TookLine line s t held now
took_fault line wrong s t held now short is took = record {
  finding = fault wrong;
  is = fits short (Err wrong) is refl;
  state = took.state;
  text = took.text ∙ ap (λ l. held ++ told_text s l wrong) (sym (shown-whole line short));
}

-- a line is too long
pub took_long : (line : List ℕ) (s t : State) (held now : List ℕ) → 1024 < length line → TookFault [] LineTooLong s t held now → TookLine line s t held now
took_long line s t held now long took = record {
  finding = fault LineTooLong;
  is = too_long long refl;
  state = took.state;
  text = took.text ∙ ap (λ l. held ++ told_text s l LineTooLong) (sym (shown-none line long));
}

silently : (line : List ℕ) (a : Asks) (s t : State) (held now : List ℕ) → length line ≤ 1024 → IsFound s line (Ok a) → ComesOf s (Ok a) (fine a) → TookSilently (after_asks s a) t held now → TookLine line s t held now
silently line a s t held now short is comes took = record {
  finding = fine a;
  is = fits short (Ok a) is comes;
  state = took.state;
  text = took.text ∙ sym (append-nil held);
}

-- a line of at most 1,024 bytes asks for this
pub took_asks : (line : List ℕ) (a : Asks) (s t : State) (held now : List ℕ) → length line ≤ 1024 → IsFound s line (Ok a) → TookAsks a s t held now → TookLine line s t held now
took_asks line asks.Nothing s t held now short is took = silently line asks.Nothing s t held now short is refl took
took_asks line asks.Row s t held now short is took = silently line asks.Row s t held now short is refl took
took_asks line (asks.Stream name columns) s t held now short is took = silently line (asks.Stream name columns) s t held now short is refl took
took_asks line (asks.Query name q shared) s t held now short is took = record {
  finding = query (advised s name q took.advice);
  is = fits short (Ok (asks.Query name q shared)) is (record { advice = took.advice; right = took.right; is = refl });
  state = took.state;
  text = took.text;
}
took_asks line asks.Explain s t held now short is took = silently line asks.Explain s t held now short is refl took
took_asks line (asks.Drop name) s t held now short is took = silently line (asks.Drop name) s t held now short is refl took
took_asks line asks.Other s t held now short is took = silently line asks.Other s t held now short is refl took
took_asks line (asks.Lock key streams) s t held now short is took = silently line (asks.Lock key streams) s t held now short is refl took
took_asks line asks.Unlock s t held now short is took = silently line asks.Unlock s t held now short is refl took

-- the same where taking succeeds
pub fault_taken : {E : Type 0} (r : Result Unit E) (line : List ℕ) (wrong : Fault) (s t : State) (held now : List ℕ) → length line ≤ 1024 → IsFound s line (Err wrong) → OnOk r (TookFault line wrong s t held now)
    → OnOk r (TookLine line s t held now)
fault_taken (Ok done) line wrong s t held now short is took = took_fault line wrong s t held now short is took
fault_taken (Err e) line wrong s t held now short is took = tt

pub asks_taken : {E : Type 0} (r : Result Unit E) (line : List ℕ) (a : Asks) (s t : State) (held now : List ℕ) → length line ≤ 1024 → IsFound s line (Ok a) → OnOk r (TookAsks a s t held now)
    → OnOk r (TookLine line s t held now)
asks_taken (Ok done) line a s t held now short is took = took_asks line a s t held now short is took
asks_taken (Err e) line a s t held now short is took = tt

-- what is said of a query that was advised on was put behind what is held, and the query was taken
pub query_taken : {E : Type 0} (r : Result Unit E) (name : List ℕ) (q : QueryValue) (shared : Bool) (advice : QueryAdvice) (number free : ℕ) (s t : State) (streams : List Shape) (before after : MemSinkState)
    → number ≡ s.lines + 1 → free ≡ free_pages s → streams ≡ s.streams → IsAdvice shared q advice
    → Wrote (mem_sink_seen before) (mem_sink_seen after) (query_text streams (record { number = number; name = name; query = q; advice = advice; free = free }))
    → OnOk r (t ≡ one_query_more s name advice.judgement) → OnOk r (TookQuery name q shared s t before.bytes after.bytes)
query_taken (Ok done) name q shared advice number free s t streams before after e f h right wrote is = record {
  advice = advice;
  right = right;
  state = is;
  text = wrote.bytes ∙ ap (λ (l : List Shape). before.bytes ++ query_text l (record { number = number; name = name; query = q; advice = advice; free = free })) h
      ∙ ap (λ (n : ℕ). before.bytes ++ query_text s.streams (record { number = n; name = name; query = q; advice = advice; free = free })) e
      ∙ ap (λ (n : ℕ). before.bytes ++ query_text s.streams (record { number = s.lines + 1; name = name; query = q; advice = advice; free = n })) f;
}
query_taken (Err x) name q shared advice number free s t streams before after e f h right wrote is = tt

-- what is said of a line at fault was put behind what is held, and the line was counted
pub fault_told : (line : List ℕ) (wrong : Fault) (s t : State) (before after : MemSinkState) → Wrote (mem_sink_seen before) (mem_sink_seen after) (told_text s line wrong) → (row : Bool) → row ≡ is_row_fault line wrong → t ≡ one_fault_more s row
    → TookFault line wrong s t before.bytes after.bytes
fault_told line wrong s t before after wrote row e is = record { state = is ∙ ap (one_fault_more s) e; text = wrote.bytes }
