-- The live query that a RESUME line names, and what loading does to it.
use Rattle.std.proofs.Common.{◌≡◌, ◌≢◌, nat_eq, ℕ, zero, suc, ◌+◌, ◌<◌, ◌≤◌, Bool, true, false, cond, not, List, [], ◌∷◌, length, Option, Some, None, Ok, Err, MatchResult, refl, sym, ap, ◌∙◌, subst, arith, slice_get, slice_set, slice_index_or, option_and_then, option_map, ℤ, ◌||◌}
use Rattle.std.specs.declared.result.Result.{Result}
use Rattle.std.specs.List.{position, position_or_len, list_any}
use Rattle.std.specs.Str.{bytes_eq}
use Rattle.std.proofs.lemmas.Bool.Decides.{nat_tests}
use Rattle.std.proofs.Math.ListN.{get_or-eq_default}
use Rattle.std.proofs.lemmas.Option.{slice_get_within, get_or_from_slice_get}
use Rattle.sem_query.specs.declared.atom.Attr.{Attr}
use Rattle.sem_query.specs.declared.cell.Cell.{Cell}
use Rattle.sem_query.specs.declared.plan.Plan.{Plan}
use Rattle.sem_query.specs.Bases.{Base}
use Rattle.sem_query.specs.Query.{QueryValue}
use Rattle.sem_query.specs.Numbers.{parts_of}
use Rattle.sem_query.specs.Sharing.{Box, kept_boxes, sizes_in}
use Rattle.sem_forms.specs.Forms.{IsFormPlanOf}
use Rattle.exec_pool.specs.Extents.{PoolValue}
use Rattle.sem_laws.proofs.SharedCells.{into-size}
use Rattle.exec_query.specs.Executor as executor
use Rattle.exec_query.specs.Executor.{list_in}
use Rattle.exec_restore.specs.Loadable.{is_empty, kind_at, filled_cell}
use Rattle.exec_query.specs.Bases.{StandsFrom}
use Rattle.exec_query.proofs.Bases.{bases-and-histories}
use Rattle.exec_query.specs.Loading.{loaded_given, loaded_cell, loaded_tuple}
use Rattle.exec_registry.specs.Live.{Live, LiveQuery, boxes_of, base_in, with_base, plan_cells}
use Rattle.exec_registry.specs.Loaded.{LoadsThere, LoadsAt}
use Rattle.exec_registry.specs.Registry.{RegistryValue, IsLiveFor, AreLiveFor}
use Rattle.exec_registry.proofs.Whole.{found_place, not_found}
use Rattle.cmd_session.specs.Request.{Request, refused}
use Rattle.cmd_session.specs.Requests.{live_named, natural, natural_upto, loaded_request, load_request, given_request, cell_request, tuple_request}
use Rattle.cmd_session.specs.Resuming.{IsStanding, place_to_set, Sets}
use Rattle.cmd_session.specs.State.{State, from_base, set_base}
use Rattle.sql_replies.specs.declared.refusal.Refusal.{Refusal}
use Rattle.sql_replies.specs.declared.refusal.Refusal.TheVariants.{UnknownQuery, Late, Arity, Value}
use Rattle.cmd_session.proofs.LinesKept.{kept_same, first_of, others_of, announced_are_kept}

-- a name is found at the same place among what is kept and among the live queries
same_place : (name : List ℕ) (pool : PoolValue) (live : List Live) (queries : List LiveQuery) → AreLiveFor pool live queries
    → position_or_len (λ (l : Live). bytes_eq l.name name) live ≡ position_or_len (λ (q : LiveQuery). bytes_eq q.name name) queries
same_place name pool [] [] all = refl
same_place name pool [] (q ∷ queries) all = absurd (omega (arith, all.size))
same_place name pool (l ∷ live) [] all = absurd (omega (arith, all.size))
same_place name pool (l ∷ live) (q ∷ queries) all =
    ap (λ n. cond (not (bytes_eq n name)) (1 + position_or_len (λ (x : Live). bytes_eq x.name name) live) 0) (first_of pool l live q queries all).name
    ∙ ap (λ k. cond (not (bytes_eq q.name name)) (1 + k) 0) (same_place name pool live queries (others_of pool l live q queries all))

-- a live query at a place: the one of a name, and what it is to set its base
pub record IsFoundWith (place : ℕ) (queries : List LiveQuery) (named : Option LiveQuery) (sets : Base → List LiveQuery) : Type 0 where
  pub live : LiveQuery
  pub there : slice_get queries place ≡ Some live
  pub is : named ≡ Some live
  pub set_is : (base : Base) → slice_set queries place (from_base base live) ≡ sets base

abbrev pub IsFoundAt : List ℕ → ℕ → List LiveQuery → Type 0
IsFoundAt name place queries = IsFoundWith place queries (live_named name queries) (λ base. set_base name base queries)

found_first : (q : LiveQuery) (queries : List LiveQuery) (n : ℕ) (named : Option LiveQuery) (sets : Base → List LiveQuery) → n ≡ 0
    → IsFoundWith n (q ∷ queries) (Some q) (λ base. from_base base q ∷ queries)
found_first q queries n named sets e =
    subst (λ m. IsFoundWith m (q ∷ queries) (Some q) (λ base. from_base base q ∷ queries)) (sym e) (record { live = q; there = refl; is = refl; set_is = λ base. refl })

found_later : (q : LiveQuery) (queries : List LiveQuery) (n k : ℕ) (named : Option LiveQuery) (sets : Base → List LiveQuery) → suc k ≡ n → IsFoundWith k queries named sets
    → IsFoundWith n (q ∷ queries) named (λ base. q ∷ sets base)
found_later q queries n k named sets e f =
    subst (λ m. IsFoundWith m (q ∷ queries) named (λ base. q ∷ sets base)) e
    (record { live = f.live; there = f.there; is = f.is; set_is = λ base. ap (λ qs. q ∷ qs) (f.set_is base) })

found_by : (b : Bool) (q : LiveQuery) (queries : List LiveQuery) (n k : ℕ) (named : Option LiveQuery) (sets : Base → List LiveQuery) → n ≡ cond (not b) (1 + k) 0
    → (suc k ≡ n → IsFoundWith k queries named sets) → IsFoundWith n (q ∷ queries) (cond b (Some q) named) (λ base. cond b (from_base base q ∷ queries) (q ∷ sets base))
found_by true q queries n k named sets e rest = found_first q queries n named sets e
found_by false q queries n k named sets e rest = (let next : suc k ≡ n = omega (arith, e) in found_later q queries n k named sets next (rest next))

found_live : (name : List ℕ) (queries : List LiveQuery) (n : ℕ) → n ≡ position_or_len (λ (q : LiveQuery). bytes_eq q.name name) queries → n < length queries → IsFoundAt name n queries
found_live name [] n e within = absurd (omega (arith, within))
found_live name (q ∷ queries) n e within =
    let k = position_or_len (λ (x : LiveQuery). bytes_eq x.name name) queries in
    found_by (bytes_eq q.name name) q queries n k (live_named name queries) (λ base. set_base name base queries) e
    (λ next. found_live name queries k refl (omega (arith, next, within)))

pub found_at : (name : List ℕ) (pool : PoolValue) (live : List Live) (queries : List LiveQuery) (place : ℕ) → AreLiveFor pool live queries
    → position (λ (l : Live). bytes_eq l.name name) live ≡ Some place → IsFoundAt name place queries
found_at name pool live queries place all e =
    let found = found_place name live place e in
    found_live name queries place (found.1 ∙ same_place name pool live queries all) (omega (arith, found.0, all.size))

-- or none has the name
none_by : (b any : Bool) (q : LiveQuery) (named : Option LiveQuery) → (b || any) ≡ false → (any ≡ false → named ≡ None) → cond b (Some q) named ≡ None
none_by true any q named e rest = absurd cc
none_by false any q named e rest = rest e

none_live : (name : List ℕ) (pool : PoolValue) (live : List Live) (queries : List LiveQuery) → AreLiveFor pool live queries → list_any (λ (l : Live). bytes_eq l.name name) live ≡ false
    → live_named name queries ≡ None
none_live name pool [] [] all e = refl
none_live name pool [] (q ∷ queries) all e = absurd (omega (arith, all.size))
none_live name pool (l ∷ live) [] all e = absurd (omega (arith, all.size))
none_live name pool (l ∷ live) (q ∷ queries) all e =
    let any = list_any (λ (x : Live). bytes_eq x.name name) live in
    none_by (bytes_eq q.name name) any q (live_named name queries) (ap (λ n. bytes_eq n name || any) (sym (first_of pool l live q queries all).name) ∙ e)
    (none_live name pool live queries (others_of pool l live q queries all))

-- a word that refuses the line before it is read what it sets
refused_by : (began : Bool) (name : List ℕ) (r : RegistryValue) (s : State) (load : LiveQuery → Request) (place : Option ℕ) (word : Refusal) → IsStanding r began s
    → position (λ (l : Live). bytes_eq l.name name) r.live ≡ place → place_to_set began place ≡ Err word → load_request s name load (live_named name s.queries) ≡ refused word
refused_by began name r s load None word h at e =
    let named = none_live name r.pool r.live s.queries h.queries (not_found name r.live at) in
    let same : UnknownQuery ≡ word = cc in
    ap (load_request s name load) named ∙ ap refused same
refused_by true name r s load (Some place) word h at e =
    let found = found_at name r.pool r.live s.queries place h.queries at in
    let same : Late ≡ word = cc in
    ap (load_request s name load) found.is ∙ ap (λ b. cond b (refused Late) (load found.live)) (sym h.began) ∙ ap refused same
refused_by false name r s load (Some place) word h at e = absurd cc

pub refused_first : (began : Bool) (name : List ℕ) (r : RegistryValue) (s : State) (load : LiveQuery → Request) (word : Refusal) → IsStanding r began s
    → place_to_set began (position (λ (l : Live). bytes_eq l.name name) r.live) ≡ Err word → load_request s name load (live_named name s.queries) ≡ refused word
refused_first began name r s load word h e = refused_by began name r s load (position (λ (l : Live). bytes_eq l.name name) r.live) word h refl e

-- the live query that the line sets something of
pub record IsToSet (name : List ℕ) (place : ℕ) (s : State) : Type 0 where
  pub found : IsFoundAt name place s.queries
  pub asks : (load : LiveQuery → Request) → load_request s name load (live_named name s.queries) ≡ load found.live

to_set_by : (began : Bool) (name : List ℕ) (r : RegistryValue) (s : State) (o : Option ℕ) (place : ℕ) → IsStanding r began s
    → position (λ (l : Live). bytes_eq l.name name) r.live ≡ o → place_to_set began o ≡ Ok place → IsToSet name place s
to_set_by began name r s None place h at e = absurd cc
to_set_by true name r s (Some other) place h at e = absurd cc
to_set_by false name r s (Some other) place h at e =
    let same : other ≡ place = cc in
    let found : IsFoundAt name place s.queries = found_at name r.pool r.live s.queries place h.queries (at ∙ ap Some same) in
    record {
      found = found;
      asks = λ load. ap (load_request s name load) found.is ∙ ap (λ b. cond b (refused Late) (load found.live)) (sym h.began);
    }

pub to_set : (began : Bool) (name : List ℕ) (r : RegistryValue) (s : State) (place : ℕ) → IsStanding r began s
    → place_to_set began (position (λ (l : Live). bytes_eq l.name name) r.live) ≡ Ok place → IsToSet name place s
to_set began name r s place h e = to_set_by began name r s (position (λ (l : Live). bytes_eq l.name name) r.live) place h refl e

-- the live query that goes on from what is kept
abbrev pub kept_so_far : LiveQuery → LiveQuery
kept_so_far live = from_base (base_in live) live

-- what runs the live query at a place is sound
abbrev pub AreSoundAt : List Live → ℕ → Type 0
AreSoundAt live place = (d : Live) → executor.IsSound (slice_index_or live place d).executor

one_so_far : (pool : PoolValue) (l : Live) (q : LiveQuery) → IsLiveFor pool l q → executor.IsSound l.executor → IsLiveFor pool l (kept_so_far q)
one_so_far pool l q is sound = record {
  name = is.name;
  query = is.query;
  shared = is.shared;
  plan = is.plan;
  stands = subst (λ (b : Base). StandsFrom l.executor pool b []) (kept_same pool l q is) ((bases-and-histories l.executor pool sound).2 q.base q.history is.stands);
}

each_more : (pool : PoolValue) (l : Live) (live : List Live) (q : LiveQuery) (queries : List LiveQuery) → IsLiveFor pool l q → AreLiveFor pool live queries
    → (i : ℕ) (c : Live) (d : LiveQuery) → i < length (l ∷ live) → IsLiveFor pool (slice_index_or (l ∷ live) i c) (slice_index_or (q ∷ queries) i d)
each_more pool l live q queries first all zero c d a = first
each_more pool l live q queries first all (suc i) c d a = all.each i c d (omega (arith, a))

pub one_more : (pool : PoolValue) (l : Live) (live : List Live) (q : LiveQuery) (queries : List LiveQuery) → IsLiveFor pool l q → AreLiveFor pool live queries → AreLiveFor pool (l ∷ live) (q ∷ queries)
one_more pool l live q queries first all = record { size = omega (arith, all.size); each = each_more pool l live q queries first all }

-- the registry stands for the live queries too of which one goes on from what is kept
stands_so_far : (pool : PoolValue) (live : List Live) (queries : List LiveQuery) (place : ℕ) (q : LiveQuery) → AreLiveFor pool live queries → slice_get queries place ≡ Some q → AreSoundAt live place
    → AreLiveFor pool live (slice_set queries place (kept_so_far q))
stands_so_far pool live [] place q all there sound = absurd cc
stands_so_far pool [] (x ∷ queries) place q all there sound = absurd (omega (arith, all.size))
stands_so_far pool (l ∷ live) (x ∷ queries) zero q all there sound =
    let same : x ≡ q = cc in
    subst (λ (y : LiveQuery). AreLiveFor pool (l ∷ live) (kept_so_far y ∷ queries)) same
    (one_more pool l live (kept_so_far x) queries (one_so_far pool l x (first_of pool l live x queries all) (sound l)) (others_of pool l live x queries all))
stands_so_far pool (l ∷ live) (x ∷ queries) (suc place) q all there sound =
    one_more pool l live x (slice_set queries place (kept_so_far q)) (first_of pool l live x queries all)
    (stands_so_far pool live queries place q (others_of pool l live x queries all) there sound)

get_set : (queries : List LiveQuery) (place : ℕ) (q x : LiveQuery) → slice_get queries place ≡ Some q → slice_get (slice_set queries place x) place ≡ Some x
get_set [] place q x there = absurd cc
get_set (y ∷ queries) zero q x there = refl
get_set (y ∷ queries) (suc place) q x there = get_set queries place q x there

set_twice : (queries : List LiveQuery) (place : ℕ) (x y : LiveQuery) → slice_set (slice_set queries place x) place y ≡ slice_set queries place y
set_twice [] place x y = refl
set_twice (z ∷ queries) zero x y = refl
set_twice (z ∷ queries) (suc place) x y = ap (λ qs. z ∷ qs) (set_twice queries place x y)

-- what a load answered, and what the line did
abbrev pub IsAnswerOf : {T : Type 0} → Bool → Result T Refusal → Type 0
IsAnswerOf taken result = MatchResult result (λ x. taken ≡ true) (λ word. (taken ≡ false) × (word ≡ Value))

sets_by : {T : Type 0} (result : Result T Refusal) (taken : Bool) (name : List ℕ) (o : Option Base) (live : LiveQuery) (place : ℕ) (queries others : List LiveQuery) (old new : RegistryValue)
    → IsAnswerOf taken result → LoadsThere taken o live place queries old new → ((base : Base) → slice_set queries place (with_base base live) ≡ set_base name base others)
    → Sets result (loaded_request name o) others old new
sets_by (Ok x) taken name (Some base) live place queries others old new a l e =
    record { name = name; base = base; asks = refl; stands = subst (λ qs. AreLiveFor new.pool new.live qs) (e base) l.1 }
sets_by (Err word) taken name (Some base) live place queries others old new a l e = absurd (differ (sym l.0 ∙ a.0))
  where
    differ : true ≡ false → ⊥
    differ p = cc
sets_by (Ok x) taken name None live place queries others old new a l e = absurd (differ (sym a ∙ l.0))
  where
    differ : true ≡ false → ⊥
    differ p = cc
sets_by (Err word) taken name None live place queries others old new a l e = (ap refused (sym a.1), l.1)

-- a load did what its line asks for
pub sets_loaded : {T : Type 0} (result : Result T Refusal) (taken : Bool) (name : List ℕ) (load : LiveQuery → Option Base) (request : Request) (place : ℕ) (s : State) (old new : RegistryValue)
    → (t : IsToSet name place s) → request ≡ loaded_request name (load (kept_so_far t.found.live)) → IsAnswerOf taken result → AreLiveFor old.pool old.live s.queries → AreSoundAt old.live place → LoadsAt taken place load old new
    → Sets result request s.queries old new
sets_loaded result taken name load request place s old new t e a h sound l =
    subst (λ (r : Request). Sets result r s.queries old new) (sym e)
    (sets_by result taken name (load (kept_so_far t.found.live)) (kept_so_far t.found.live) place (slice_set s.queries place (kept_so_far t.found.live)) s.queries old new a
    (l (slice_set s.queries place (kept_so_far t.found.live)) (kept_so_far t.found.live) (stands_so_far old.pool old.live s.queries place t.found.live h t.found.there sound) (get_set s.queries place t.found.live (kept_so_far t.found.live) t.found.there) refl)
    (λ base. set_twice s.queries place (kept_so_far t.found.live) (from_base base t.found.live) ∙ t.found.set_is base))

-- there is no cell behind those that are kept
pub past_cells : (list : List Box) (n : ℕ) (v : ℤ) (base : Base) → length base.cells ≤ n → loaded_cell list n v base ≡ None
past_cells list n v base past =
    ap (λ (c : Cell). cond (is_empty c) (option_map (λ (d : Cell). record base { cells = slice_set base.cells n d }) (option_and_then (λ kind. filled_cell base.given kind v) (kind_at list n))) None)
    (get_or-eq_default base.cells Cell.Present past)

-- as many cells as a plan announces
cells_of_base : (pool : PoolValue) (live : List Live) (queries : List LiveQuery) (place : ℕ) (q : LiveQuery) (d : Live) (plan : Plan) → AreLiveFor pool live queries → slice_get queries place ≡ Some q
    → plan ≡ (slice_index_or live place d).executor.plan → IsFormPlanOf (slice_index_or live place d).executor.shared (slice_index_or live place d).executor.query plan
    → length (base_in q).cells ≡ plan_cells plan
cells_of_base pool live queries place q d plan all there e is =
    let within = slice_get_within queries place q there in
    let x = slice_index_or live place d in
    let y = slice_index_or queries place q in
    let its : IsLiveFor pool x y = all.each place d q (omega (arith, within, all.size)) in
    let same = get_or_from_slice_get queries place q q there in
    ap (λ (z : LiveQuery). length (base_in z).cells) (sym same)
    ∙ ap (λ (b : Base). length b.cells) (sym (kept_same pool x y its))
    ∙ into-size x.executor.query (list_in x.executor) y.base.cells its.stands.size y.history
    ∙ ap (λ (p : Plan). sizes_in (kept_boxes x.executor.shared x.executor.query (parts_of p))) (sym e)
    ∙ sym (announced_are_kept x.executor.shared x.executor.query plan is)

-- what RESUME q AS n asks for, where the line is not refused before
pub given_refused : (began : Bool) (name : List ℕ) (r : RegistryValue) (s : State) (z : ℤ) (word : Refusal) → IsStanding r began s
    → place_to_set began (position (λ (l : Live). bytes_eq l.name name) r.live) ≡ Err word → given_request s name z ≡ refused word
given_refused began name r s z word h e =
    refused_first began name r s (λ live. loaded_request name (option_and_then (λ n. loaded_given n (base_in live)) (natural_upto s.taken z))) word h e

pub given_asks : (name : List ℕ) (place : ℕ) (s : State) (z : ℤ) (count : ℕ) (o : Option ℕ) → (t : IsToSet name place s) → count ≡ s.taken → natural_upto count z ≡ o
    → given_request s name z ≡ loaded_request name (option_and_then (λ n. loaded_given n (base_in t.found.live)) o)
given_asks name place s z count o t e f =
    t.asks (λ live. loaded_request name (option_and_then (λ n. loaded_given n (base_in live)) (natural_upto s.taken z)))
    ∙ ap (λ (p : Option ℕ). loaded_request name (option_and_then (λ n. loaded_given n (base_in t.found.live)) p)) (ap (λ m. natural_upto m z) (sym e) ∙ f)

-- what RESUME q FROM i v asks for
pub cell_refused : (began : Bool) (name : List ℕ) (r : RegistryValue) (s : State) (i v : ℤ) (word : Refusal) → IsStanding r began s
    → place_to_set began (position (λ (l : Live). bytes_eq l.name name) r.live) ≡ Err word → cell_request s name i v ≡ refused word
cell_refused began name r s i v word h e =
    refused_first began name r s (λ live. loaded_request name (option_and_then (λ n. loaded_cell (boxes_of live) n v (base_in live)) (natural i))) word h e

pub cell_asks : (name : List ℕ) (place : ℕ) (s : State) (i v : ℤ) (o : Option ℕ) → (t : IsToSet name place s) → natural i ≡ o
    → cell_request s name i v ≡ loaded_request name (option_and_then (λ n. loaded_cell (boxes_of t.found.live) n v (base_in t.found.live)) o)
cell_asks name place s i v o t f =
    t.asks (λ live. loaded_request name (option_and_then (λ n. loaded_cell (boxes_of live) n v (base_in live)) (natural i)))
    ∙ ap (λ (p : Option ℕ). loaded_request name (option_and_then (λ n. loaded_cell (boxes_of t.found.live) n v (base_in t.found.live)) p)) f

-- there is no cell of a number that is none, or that is not below those that the plan announces
pub no_cell : (name : List ℕ) (place : ℕ) (s : State) (i v : ℤ) (cells : ℕ) (o : Option ℕ) → (t : IsToSet name place s) → natural i ≡ o → length (base_in t.found.live).cells ≡ cells
    → ((n : ℕ) → natural i ≡ Some n → cells ≤ n) → cell_request s name i v ≡ refused Value
no_cell name place s i v cells None t f e past = cell_asks name place s i v None t f
no_cell name place s i v cells (Some n) t f e past =
    cell_asks name place s i v (Some n) t f
    ∙ ap (loaded_request name) (past_cells (boxes_of t.found.live) n v (base_in t.found.live) (omega (arith, e, past n f)))

-- what RESUME q SELECT v1 v2 .. asks for
abbrev pub tuple_load : List ℕ → List ℤ → LiveQuery → Request
tuple_load name t live =
    cond (nat_eq (length t) (length live.query.select)) (loaded_request name (loaded_tuple live.query (parts_of live.plan) t (base_in live))) (refused Arity)

pub tuple_refused : (began : Bool) (name : List ℕ) (r : RegistryValue) (s : State) (t : List ℤ) (word : Refusal) → IsStanding r began s
    → place_to_set began (position (λ (l : Live). bytes_eq l.name name) r.live) ≡ Err word → tuple_request s name t ≡ refused word
tuple_refused began name r s t word h e = refused_first began name r s (tuple_load name t) word h e

-- as many columns are selected of what is kept
same_width : (pool : PoolValue) (live : List Live) (queries : List LiveQuery) (place : ℕ) (q : LiveQuery) (d : Live) → AreLiveFor pool live queries → slice_get queries place ≡ Some q
    → length (slice_index_or live place d).executor.query.select ≡ length q.query.select
same_width pool live queries place q d all there =
    let within = slice_get_within queries place q there in
    ap (λ (x : QueryValue). length x.select) (all.each place d q (omega (arith, within, all.size))).query
    ∙ ap (λ (y : LiveQuery). length y.query.select) (get_or_from_slice_get queries place q q there)

pub width_is : (pool : PoolValue) (live : List Live) (queries : List LiveQuery) (place : ℕ) (q : LiveQuery) (kept : QueryValue) (select : List Attr) → AreLiveFor pool live queries
    → slice_get queries place ≡ Some q → place < length live → ((d : Live) → kept ≡ (slice_index_or live place d).executor.query) → select ≡ kept.select → length select ≡ length q.query.select
width_is pool [] queries place q kept select all there within e f = absurd (omega (arith, within))
width_is pool (l ∷ live) queries place q kept select all there within e f =
    ap length f ∙ ap (λ (x : QueryValue). length x.select) (e l) ∙ same_width pool (l ∷ live) queries place q l all there

pub cells_are : (pool : PoolValue) (live : List Live) (queries : List LiveQuery) (place : ℕ) (q : LiveQuery) (plan : Plan) (cells : ℕ) → AreLiveFor pool live queries → slice_get queries place ≡ Some q
    → place < length live → ((d : Live) → plan ≡ (slice_index_or live place d).executor.plan)
    → ((d : Live) → IsFormPlanOf (slice_index_or live place d).executor.shared (slice_index_or live place d).executor.query plan) → cells ≡ plan_cells plan → length (base_in q).cells ≡ cells
cells_are pool [] queries place q plan cells all there within e is n = absurd (omega (arith, within))
cells_are pool (l ∷ live) queries place q plan cells all there within e is n = cells_of_base pool (l ∷ live) queries place q l plan all there (e l) (is l) ∙ sym n

unlike : (a b : ℕ) → a ≢ b → nat_eq a b ≡ false
unlike a b h = grind (arith, nat_tests)

alike : (a b : ℕ) → a ≡ b → nat_eq a b ≡ true
alike a b h = grind (arith, nat_tests)

pub wrong_width : (name : List ℕ) (place : ℕ) (s : State) (t : List ℤ) (n : ℕ) → (f : IsToSet name place s) → n ≡ length f.found.live.query.select → length t ≢ n → tuple_request s name t ≡ refused Arity
wrong_width name place s t n f e h =
    f.asks (tuple_load name t)
    ∙ ap (λ b. cond b (loaded_request name (loaded_tuple f.found.live.query (parts_of f.found.live.plan) t (base_in f.found.live))) (refused Arity))
    (ap (nat_eq (length t)) (sym e) ∙ unlike (length t) n h)

pub tuple_asks : (name : List ℕ) (place : ℕ) (s : State) (t : List ℤ) (n : ℕ) → (f : IsToSet name place s) → n ≡ length f.found.live.query.select → length t ≡ n
    → tuple_request s name t ≡ loaded_request name (loaded_tuple f.found.live.query (parts_of f.found.live.plan) t (base_in f.found.live))
tuple_asks name place s t n f e h =
    f.asks (tuple_load name t)
    ∙ ap (λ b. cond b (loaded_request name (loaded_tuple f.found.live.query (parts_of f.found.live.plan) t (base_in f.found.live))) (refused Arity))
    (ap (nat_eq (length t)) (sym e) ∙ alike (length t) n h)
