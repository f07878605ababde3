-- The live queries are written one after the other.
use Rattle.std.proofs.Common.{◌≡◌, ℕ, suc, ◌+◌, ◌<◌, inl, inr, List, [], ◌∷◌, ◌++◌, length, take, drop, take-append-drop, append-nil, refl, sym, ap, ◌∙◌, subst, arith, slice_get, slice_index_or, slice_set, Some}
use Rattle.std.proofs.lemmas.Bool.{cases_eq}
use Rattle.std.proofs.lemmas.List.{length-set, get_or-set_same, get_or-set_other, get_or_default}
use Rattle.std.specs.Prelude.{⊤}
use Rattle.std.specs.List.{flat_map}
use Rattle.std.specs.declared.result.Result.{Result}
use Rattle.std.specs.declared.result.Result.TheVariants.{Ok, Err}
use Rattle.std.proofs.Math.Seq.{take-suc}
use Rattle.std.proofs.lemmas.Grind.{flat_map-append}
use Rattle.io_streams.specs.Sink.{SinkState, Writes, Wrote, BrokeOff}
use Rattle.io_streams.proofs.Writing.{BrokeOff-stop}
use Rattle.exec_answer_lines.specs.Gathering.{Gathered}
use Rattle.exec_answer_lines.proofs.Gathering.{gathered_more, gathered_broke, gathered_alone, gathered_written}
use Rattle.exec_answer_table.specs.Entries.{settled}
use Rattle.exec_query.specs.Executor.{ExecutorValue, with_given}
use Rattle.exec_registry.specs.declared.queries.Runner.{Runner}
use Rattle.exec_registry.specs.Counted.{run_to, shown}
use Rattle.exec_registry.specs.Live.{Live, live_of, named}
use Rattle.exec_registry.specs.Registry.{waiting_text}
use Rattle.exec_registry.specs.Written.{WroteOne, WroteAt, WroteFirst, GathersNext, GatheredSo}
use Rattle.exec_registry.proofs.SideBySide.{live_named, set_named}
use Rattle.exec_registry.proofs.Shown.{run_stands, shown_set, sized}

pub wrote_none : (live : List Live) → WroteFirst 0 live live
wrote_none live = record { size = refl; done = λ i l a b. absurd (omega arith); others = λ i l a b. refl }

pub wrote_more : (n : ℕ) (before now : List Live) (l' d : Live) → WroteFirst n before now → n < length before → WroteOne (slice_index_or now n d) l' → WroteFirst (suc n) before (slice_set now n l')
wrote_more n before now l' d w within one =
    let here : n < length now = omega (arith, w.size, within) in
    record {
      size = length-set now n l' ∙ w.size;
      done = λ k c a b. elim (cases_eq k n) [
        | inl e ↦ subst (λ j. WroteOne (slice_index_or before j c) (slice_index_or (slice_set now n l') j c)) (sym e)
            (subst (λ x. WroteOne (slice_index_or before n c) x) (sym (get_or-set_same now n l' c here))
            (subst (λ x. WroteOne x l') (w.others n d (omega arith) within ∙ get_or_default before n d c within) one))
        | inr ne ↦ subst (λ x. WroteOne (slice_index_or before k c) x) (sym (get_or-set_other now n k l' c ne)) (w.done k c (omega (arith, a, ne)) b)
      ];
      others = λ k c a b. get_or-set_other now n k l' c (λ e. omega (arith, e, a)) ∙ w.others k c (omega arith) b;
    }

-- the text of one more
text_more : (xs : List Live) (n : ℕ) (d : Live) → n < length xs → flat_map waiting_text (take (suc n) xs) ≡ flat_map waiting_text (take n xs) ++ waiting_text (slice_index_or xs n d)
text_more xs n d within =
    ap (flat_map waiting_text) (take-suc xs n d within) ∙ flat_map-append waiting_text (take n xs) (slice_index_or xs n d ∷ []) ∙ ap (λ t. flat_map waiting_text (take n xs) ++ t) (append-nil (waiting_text (slice_index_or xs n d)))

-- the text of all, with that of one in the middle
text_at : (xs : List Live) (n : ℕ) (d : Live) → n < length xs → (flat_map waiting_text (take n xs) ++ waiting_text (slice_index_or xs n d)) ++ flat_map waiting_text (drop (suc n) xs) ≡ flat_map waiting_text xs
text_at xs n d within =
    ap (λ t. t ++ flat_map waiting_text (drop (suc n) xs)) (sym (text_more xs n d within))
    ∙ sym (flat_map-append waiting_text (take (suc n) xs) (drop (suc n) xs))
    ∙ ap (flat_map waiting_text) (take-append-drop (suc n) xs)

-- one more was gathered, or given up
pub gathered_next : {E : Type 0} (gathered result : Result ⊤ E) (xs : List Live) (n : ℕ) (d : Live) (a b c : SinkState) (now later : List ℕ) → n < length xs
    → GatheredSo gathered a b now (flat_map waiting_text (take n xs)) (flat_map waiting_text xs)
    → GathersNext gathered result b c now later (waiting_text (slice_index_or xs n d))
    → GatheredSo result a c later (flat_map waiting_text (take (suc n) xs)) (flat_map waiting_text xs)
gathered_next (Ok x) (Ok y) xs n d a b c now later within so next = rw (text_more xs n d within) (gathered_more a b c [] now later _ _ so next)
gathered_next (Ok x) (Err e) xs n d a b c now later within so next =
    subst (BrokeOff a c) (text_at xs n d within) (BrokeOff-stop a c _ _ (gathered_broke a b c [] now _ _ so next))
gathered_next {E} (Err e) result xs n d a b c now later within so next =
    subst (λ (r : Result ⊤ E). GatheredSo r a c later (flat_map waiting_text (take (suc n) xs)) (flat_map waiting_text xs)) (sym next.0)
    (subst (λ s. BrokeOff a s (flat_map waiting_text xs)) (sym next.1) so)

-- all were gathered, and what is gathered was written
pub gathered_all : {E : Type 0} (gathered result : Result ⊤ E) (x : ⊤) (a b c : SinkState) (now front text : List ℕ) → gathered ≡ Ok x → front ≡ text
    → GatheredSo gathered a b now front text → Writes result b c now → Writes result a c text
gathered_all {E} gathered result x a b c now front text is e so next =
    subst (Writes result a c) e (gathered_written result a b c now front (subst (λ (r : Result ⊤ E). GatheredSo r a b now front text) is so) next)

-- the text broke off before
pub gathered_fault : {E : Type 0} (gathered : Result ⊤ E) (fault : E) (a b : SinkState) (now front text : List ℕ) → gathered ≡ Err fault
    → GatheredSo gathered a b now front text → BrokeOff a b text
gathered_fault {E} gathered fault a b now front text is so = subst (λ (r : Result ⊤ E). GatheredSo r a b now front text) is so

-- where nothing is gathered, all were written
pub gathered_none_left : {E : Type 0} (result : Result ⊤ E) (a c : SinkState) (now front text : List ℕ) → now ≡ [] → front ≡ text
    → GatheredSo result a c now front text → Writes result a c text
gathered_none_left {E} (Ok x) a c now front text none e so = subst (Wrote a c) e (gathered_alone {E = E} (Ok x) a c front (subst (λ (t : List ℕ). Gathered a c [] t front) none so))
gathered_none_left (Err x) a c now front text none e so = so

-- a live query of which so many rows were counted was written or given up
wrote_counted : (rows : ℕ) (name : List ℕ) (before after : Runner) (e : ExecutorValue) → e ≡ run_to rows before → after.before ≡ before.before
    → after.executor ≡ with_given e e.given (settled e.table.entries) → WroteOne (named name e) (named name after.executor)
    → WroteOne (named name (run_to rows before)) (named name (run_to rows after))
wrote_counted rows name before after e is counted same one =
    let given : after.executor.given ≡ after.before + rows
    = (let a = ap (λ (x : ExecutorValue). x.given) same in let b = ap (λ (x : ExecutorValue). x.given) is in omega (arith, a, b, counted)) in
    let later : after.executor ≡ run_to rows after = ap (λ n. with_given after.executor n after.executor.table.entries) given in
    subst (λ (x : ExecutorValue). WroteOne (named name (run_to rows before)) (named name x)) later
    (subst (λ (x : ExecutorValue). WroteOne (named name x) (named name after.executor)) is one)

-- so was the one at a place
pub wrote_at : (names : List (List ℕ)) (items : List Runner) (rows place : ℕ) (live : List Live) (name : List ℕ) (own after : Runner) (caught : ExecutorValue)
    → length names ≡ length items → live_of names (shown rows items) ≡ live → slice_get names place ≡ Some name → place < length items → own ≡ slice_index_or items place own
    → caught ≡ run_to rows own → after.before ≡ own.before → after.executor ≡ with_given caught caught.given (settled caught.table.entries)
    → WroteOne (named name caught) (named name after.executor) → WroteAt place live (live_of names (shown rows (slice_set items place after)))
wrote_at names items rows place live name own after caught same view there within at is counted kept one =
    let side = sized rows names items same in
    let later : ExecutorValue = run_to rows after in
    record {
      live = named name later;
      wrote = λ l. subst (λ (x : Live). WroteOne x (named name later))
          (sym (live_named names (shown rows items) live place name (run_to rows own) l side view there (run_stands rows items place own within at)))
          (wrote_counted rows name own after caught is counted kept one);
      set = ap (λ (es : List ExecutorValue). live_of names es) (shown_set rows items place after) ∙ set_named names (shown rows items) live place name later side view there;
    }
