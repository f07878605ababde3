-- What is answered to a row is the future answers that cells and table tell, and the table has room for it.
use Rattle.std.proofs.Common.{◌≡◌, ◌==◌, nat_eq, not, cond, Bool, true, false, ℤ, List, [], ◌∷◌, map, length, refl, sym, ap, ◌∙◌, subst, Option, Some, None}
use Rattle.std.specs.List.{list_any}
use Rattle.std.specs.Option.{option_to_list}
use Rattle.sem_query.specs.declared.plan.Plan.{Plan}
use Rattle.sem_query.specs.declared.plan.Plan.TheVariants as plan
use Rattle.sem_query.specs.Query.{QueryValue, is_filter}
use Rattle.sem_query.specs.Tuples.{is_same, sorted, new_tuples}
use Rattle.sem_query.specs.Meaning.{Arrival}
use Rattle.sem_query.specs.Filter.{filter_tuple}
use Rattle.sem_query.specs.Numbers.{parts_of}
use Rattle.sem_query.specs.Combinations.{Reading, Found}
use Rattle.sem_query.specs.Future.{spelled_out, waiting, future}
use Rattle.sem_laws.specs.Growth.{occurs}
use Rattle.sem_laws.proofs.Tests.{and-left, not_both}
use Rattle.sem_laws.proofs.Counts.{times}
use Rattle.sem_laws.proofs.Order.{Rises, rises_nil, rises_more, ascending-rises, times-ascending}
use Rattle.sem_laws.proofs.Sufficiency.{future-is}
use Rattle.sem_laws.proofs.Interleaving.{occurs-is}
use Rattle.exec_answer_table.specs.Entries.{Entry, entry_of, Ascends, has, waiting_of, settled, tuples_of, waiting_at}
use Rattle.exec_answer_table.specs.Order.{tuple_order}
use Rattle.std.specs.declared.cmp.Ordering.{Ordering}
use Rattle.std.specs.declared.cmp.Ordering.TheVariants.{Less, Equal, Greater}
use Rattle.exec_answer_table.proofs.Changed.{ascends_settled}
use Rattle.exec_answer_table.proofs.Tuples.{has_tuple}
use Rattle.exec_query.specs.Executor.{cleared}
use Rattle.exec_query.specs.CellSteps.{HasParts, all_found, answered_by}
use Rattle.exec_query.proofs.Founds.{all_found-spelled}

-- the entries before a row ascend
pub cleared-ascends : (d : Bool) (es : List Entry) → Ascends es → Ascends (cleared d es)
cleared-ascends true es a = ascends_settled es a
cleared-ascends false es a = tt

-- they wait for nothing
pub settled-waits : (z : List ℤ) (es : List Entry) → waiting_of z (settled es) ≡ 0
unfolding waiting_of
settled-waits z [] = refl
settled-waits z (e ∷ es) = at (tuple_order z e.tuple) (settled-waits z es)
  where
    at : (o : Ordering) → waiting_of z (settled es) ≡ 0
        → waiting_at o (entry_of e.tuple 0) (waiting_of z (settled es)) ≡ 0
    at Less h = h
    at Equal h = refl
    at Greater h = h

-- and are of the same tuples
pub settled-tuples : (es : List Entry) → tuples_of (settled es) ≡ tuples_of es
settled-tuples [] = refl
settled-tuples (e ∷ es) = ap (λ (ts : List (List ℤ)). e.tuple ∷ ts) (settled-tuples es)

pub settled-has : (z : List ℤ) (es : List Entry) → has z (settled es) ≡ has z es
settled-has z es = sym (has_tuple z (settled es)) ∙ ap (list_any (is_same z)) (settled-tuples es) ∙ has_tuple z es

-- a filter has no DISTINCT
pub filter_plain : (q : QueryValue) → is_filter q ≡ true → q.distinct ≡ false
filter_plain q e = by q.distinct (and-left (not q.distinct) (nat_eq (length q.from) 1) e)
  where
    by : (b : Bool) → not b ≡ true → b ≡ false
    by true h = absurd cc
    by false h = refl

module _ (q : QueryValue) (read : Reading) (table : List (List ℤ)) (r : Arrival) where
  abbrev named : Bool
  named = list_any (λ stream. r.stream == stream) q.from

  own-spelled : (o : Option (List ℤ)) → spelled_out (map (λ t. let f : Found = record { tuple = t; count = 1 } in f) (option_to_list o)) ≡ option_to_list o
  own-spelled None = refl
  own-spelled (Some t) = refl

  -- without DISTINCT the future answers have each tuple as often as it is found
  pub plain_future : (p : Plan) → HasParts q p → q.distinct ≡ false → (z : List ℤ)
      → occurs z (future q (parts_of p) read table r) ≡ times z (spelled_out (answered_by q p read r))
  plain_future plan.Filter is d z =
      occurs-is z (future q [] read table r)
      ∙ ap (times z) (future-is q [] read table r named true refl is ∙ sym (own-spelled (filter_tuple q r)))
  plain_future (plan.Parts parts numbers) is d z =
      occurs-is z (future q parts read table r) ∙ by named refl
    where
      by : (b : Bool) → named ≡ b → times z (future q parts read table r) ≡ times z (spelled_out (cond b (all_found q parts read r) []))
      by true e =
          ap (times z) (future-is q parts read table r true false e is.0 ∙ ap (λ b. cond b (sorted (new_tuples table (waiting q parts read r))) (sorted (waiting q parts read r))) d)
          ∙ times-ascending z (waiting q parts read r) ∙ ap (times z) (sym (all_found-spelled q parts read r))
      by false e = ap (times z) (future-is q parts read table r false false e is.0)

  -- with DISTINCT they are the tuples found that are not in the table
  pub new_future : (p : Plan) → HasParts q p → q.distinct ≡ true
      → future q (parts_of p) read table r ≡ sorted (new_tuples table (spelled_out (answered_by q p read r)))
  new_future plan.Filter is d = absurd (not_both _ d (filter_plain q is))
  new_future (plan.Parts parts numbers) is d = by named refl
    where
      by : (b : Bool) → named ≡ b → future q parts read table r ≡ sorted (new_tuples table (spelled_out (cond b (all_found q parts read r) [])))
      by true e =
          future-is q parts read table r true false e is.0 ∙ ap (λ b. cond b (sorted (new_tuples table (waiting q parts read r))) (sorted (waiting q parts read r))) d
          ∙ ap (λ ts. sorted (new_tuples table ts)) (sym (all_found-spelled q parts read r))
      by false e = future-is q parts read table r false false e is.0

  -- they ascend
  pub future-rises : (p : Plan) → HasParts q p → Rises (future q (parts_of p) read table r)
  future-rises plan.Filter is = subst Rises (sym (future-is q [] read table r named true refl is)) (by (filter_tuple q r))
    where
      by : (o : Option (List ℤ)) → Rises (option_to_list o)
      by None = rises_nil
      by (Some t) = rises_more (λ u h. elim h [ ]) rises_nil
  future-rises (plan.Parts parts numbers) is = by named refl
    where
      kind : (b : Bool) → Rises (cond b (sorted (new_tuples table (waiting q parts read r))) (sorted (waiting q parts read r)))
      kind true = ascending-rises (new_tuples table (waiting q parts read r))
      kind false = ascending-rises (waiting q parts read r)

      by : (b : Bool) → named ≡ b → Rises (future q parts read table r)
      by true e = subst Rises (sym (future-is q parts read table r true false e is.0)) (kind q.distinct)
      by false e = subst Rises (sym (future-is q parts read table r false false e is.0)) rises_nil
