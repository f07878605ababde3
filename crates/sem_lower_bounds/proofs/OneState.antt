-- A filter needs one state.
use Rattle.std.proofs.Common.{◌≡◌, List, [], ◌∷◌, refl, sym, arith}
use Rattle.std.specs.Option.{option_to_list}
use Rattle.sem_query.proofs.FilterAlone.{filters_alone}
use Rattle.sem_query.specs.Query.{QueryValue}
use Rattle.sem_query.specs.Filter.{filter_tuple}
use Rattle.sem_query.specs.Meaning.{Arrival}
use Rattle.sem_lower_bounds.specs.States.{Evaluator, after, FiltersNeedFewStates}

forgetful : QueryValue → Evaluator
forgetful q = record { start = 0; step = λ s r. 0; says = λ s r. option_to_list (filter_tuple q r) }

stays : (q : QueryValue) (history : List Arrival) → 0 ≡ after (forgetful q) 0 history
unfolding forgetful
stays q [] = refl
stays q (r ∷ history) = stays q history

pub filters-need-few-states : FiltersNeedFewStates
unfolding forgetful
filters-need-few-states q is = (
  forgetful q,
  (λ history r. sym (filters_alone q history r is)),
  (λ b. record {
    n = 1;
    most = 1;
    states = record {
      states = 0 ∷ [];
      size = omega arith;
      all = λ history l w. (0, omega arith, stays q history);
    };
    few = omega arith;
  }),
)
