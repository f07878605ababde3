-- How a live query runs, and that its names stay there.
use Rattle.std.proofs.Common.{◌≡◌, ℕ, suc, ◌+◌, ◌<◌, ◌≤◌, Bool, true, false, cond, not, List, [], ◌∷◌, ◌++◌, length, refl, sym, ap, ◌∙◌, subst, arith, slice_index_or, All, Some, Ok, Err, nat_lt, ◌||◌}
use Rattle.std.specs.List.{position, position_or_len, list_any}
use Rattle.std.proofs.lemmas.Bool.Decides.{nat_tests}
use Rattle.std.specs.Str.{bytes_eq}
use Rattle.sql_catalog.specs.Streams.{Shape, is_duplicate, with_stream}
use Rattle.sql_parser.specs.Resolution.{HasNamed}
use Rattle.sql_parser.proofs.Placed.{stays_named}
use Rattle.sem_query.specs.Query.{QueryValue}
use Rattle.exec_pool.specs.Extents.{PoolValue}
use Rattle.sql_explain.specs.Text.{explain_text}
use Rattle.exec_registry.specs.Live.{Live, LiveQuery}
use Rattle.sem_query.specs.declared.plan.Plan.{Plan}
use Rattle.sem_forms.specs.Forms.{IsFormPlanOf}
use Rattle.std.specs.declared.result.Result.{Result}
use Rattle.exec_registry.specs.declared.refusal.CreateError.{CreateError}
use Rattle.exec_registry.specs.declared.verdict.Verdict.{Verdict}
use Rattle.exec_registry.specs.Judged.{Creates}
use Rattle.exec_registry.specs.Registry.{RegistryValue, AreLiveFor, KeepQueries, GivenUpto}
use Rattle.exec_registry.proofs.Whole.{found_place, added_all}
use Rattle.cmd_session.specs.Replies.{explained_text}

-- how the live query at a place runs
abbrev text_at : List Shape → List ℕ → List Live → ℕ → Live → List ℕ
text_at streams name live n d = explain_text streams name (slice_index_or live n d).executor.query (slice_index_or live n d).executor.plan

one_explained : (b : Bool) (streams : List Shape) (name : List ℕ) (l d : Live) (live : List Live) (n k : ℕ) (text rest : List ℕ) → n ≡ cond (not b) (1 + k) 0 → text ≡ text_at streams name (l ∷ live) 0 d
    → (suc k ≡ n → rest ≡ text_at streams name live k d) → cond b text rest ≡ text_at streams name (l ∷ live) n d
one_explained true streams name l d live n k text rest e plain go = plain ∙ ap (λ (m : ℕ). text_at streams name (l ∷ live) m d) (sym e)
one_explained false streams name l d live n k text rest e plain go =
    let next : suc k ≡ n = omega (arith, e) in
    go next ∙ ap (λ (m : ℕ). text_at streams name (l ∷ live) m d) next

-- the text of the first live query of a name, where it stands at a place
explained_at : (streams : List Shape) (name : List ℕ) (pool : PoolValue) (live : List Live) (queries : List LiveQuery) (n : ℕ) (d : Live) → AreLiveFor pool live queries
    → n ≡ position_or_len (λ (l : Live). bytes_eq l.name name) live → n < length live
    → explained_text streams name queries ≡ text_at streams name live n d
explained_at streams name pool [] queries n d all e within = absurd (omega (arith, within))
explained_at streams name pool (l ∷ live) [] n d all e within = absurd (omega (arith, all.size))
explained_at streams name pool (l ∷ live) (q ∷ queries) n d all e within =
    let here = all.each 0 l q (omega arith) in
    let others : AreLiveFor pool live queries = record { size = omega (arith, all.size); each = λ i c x a. all.each (suc i) c x (omega arith) } in
    let k : ℕ = position_or_len (λ (x : Live). bytes_eq x.name name) live in
    let same : bytes_eq q.name name ≡ bytes_eq l.name name = ap (λ m. bytes_eq m name) (sym here.name) in
    let text : List ℕ = explain_text streams name q.query q.plan in
    let plain : text ≡ explain_text streams name l.executor.query l.executor.plan
    = ap (λ x. explain_text streams name x q.plan) (sym here.query) ∙ ap (explain_text streams name l.executor.query) (sym here.plan) in
    ap (λ b. cond b text (explained_text streams name queries)) same
    ∙ one_explained (bytes_eq l.name name) streams name l d live n k text (explained_text streams name queries) e plain
    (λ next. explained_at streams name pool live queries k d others refl (omega (arith, next, within)))

pub explained_here : (streams : List Shape) (name : List ℕ) (pool : PoolValue) (live : List Live) (queries : List LiveQuery) (place : ℕ) (d : Live) → AreLiveFor pool live queries
    → position (λ (l : Live). bytes_eq l.name name) live ≡ Some place
    → explained_text streams name queries ≡ explain_text streams name (slice_index_or live place d).executor.query (slice_index_or live place d).executor.plan
explained_here streams name pool live queries place d all e =
    let found = found_place name live place e in explained_at streams name pool live queries place d all found.1 found.0

-- the names of the live queries stay there
pub named_kept : (streams : List Shape) (old new : List Live) → All (λ (l : Live). HasNamed streams l.executor.query) old → KeepQueries old new → All (λ (l : Live). HasNamed streams l.executor.query) new
named_kept streams old new all keep i l a = (let k = keep i l a in subst (HasNamed streams) (sym k.2.query) (all k.0 l k.1))

pub named_more : (streams more : List Shape) (live : List Live) → All (λ (l : Live). HasNamed streams l.executor.query) live → All (λ (l : Live). HasNamed (streams ++ more) l.executor.query) live
named_more streams more live all i l a = stays_named streams more (slice_index_or live i l).executor.query (all i l a)

pub named_added : (streams : List Shape) (q : QueryValue) (live : List Live) (l : Live) → All (λ (x : Live). HasNamed streams x.executor.query) live → l.executor.query ≡ q → HasNamed streams q
    → All (λ (x : Live). HasNamed streams x.executor.query) (live ++ l ∷ [])
named_added streams q live l all e h = added_all (λ (x : Live). HasNamed streams x.executor.query) live l all (subst (HasNamed streams) (sym e) h)

-- the query at a place, and its plan, whatever stands for a place outside
pub query_is_named : (streams : List Shape) (q : QueryValue) (live : List Live) (place : ℕ) → place < length live → All (λ (l : Live). HasNamed streams l.executor.query) live
    → ((d : Live) → q ≡ (slice_index_or live place d).executor.query) → HasNamed streams q
query_is_named streams q [] place within all e = absurd (omega (arith, within))
query_is_named streams q (l ∷ live) place within all e = subst (HasNamed streams) (sym (e l)) (all place l within)

pub plan_is_its : (q : QueryValue) (p : Plan) (live : List Live) (place : ℕ) → place < length live → ((d : Live) → q ≡ (slice_index_or live place d).executor.query)
    → ((d : Live) → IsFormPlanOf (slice_index_or live place d).executor.shared (slice_index_or live place d).executor.query p) → (shared : Bool) × IsFormPlanOf shared q p
plan_is_its q p [] place within e i = absurd (omega (arith, within))
plan_is_its q p (l ∷ live) place within e i =
    let shared : Bool = (slice_index_or (l ∷ live) place l).executor.shared in (shared, subst (λ (x : QueryValue). IsFormPlanOf shared x p) (sym (e l)) (i l))

pub text_is_its : (streams : List Shape) (name : List ℕ) (pool : PoolValue) (live : List Live) (queries : List LiveQuery) (place : ℕ) (q : QueryValue) (p : Plan) → AreLiveFor pool live queries
    → position (λ (l : Live). bytes_eq l.name name) live ≡ Some place → place < length live → ((d : Live) → q ≡ (slice_index_or live place d).executor.query)
    → ((d : Live) → p ≡ (slice_index_or live place d).executor.plan) → explain_text streams name q p ≡ explained_text streams name queries
text_is_its streams name pool [] queries place q p all found within e f = absurd (omega (arith, within))
text_is_its streams name pool (l ∷ live) queries place q p all found within e f =
    ap (λ (x : QueryValue). explain_text streams name x p) (e l)
    ∙ ap (explain_text streams name (slice_index_or (l ∷ live) place l).executor.query) (f l)
    ∙ sym (explained_here streams name pool (l ∷ live) queries place l all found)

-- the names are there after the decision on a query
pub named_decided : (streams : List Shape) (name : List ℕ) (q : QueryValue) (shared : Bool) (result : Result Verdict CreateError) (old new : RegistryValue) → HasNamed streams q
    → All (λ (l : Live). HasNamed streams l.executor.query) old.live → Creates old name q shared result new → All (λ (l : Live). HasNamed streams l.executor.query) new.live
named_decided streams name q shared (Ok verdict) old new h all c =
    subst (λ (x : List Live). All (λ (l : Live). HasNamed streams l.executor.query) x) (sym c.list) (named_added streams q old.live c.last all c.asked h)
named_decided streams name q shared (Err why) old new h all c = subst (λ (x : List Live). All (λ (l : Live). HasNamed streams l.executor.query) x) (sym c.live) all

-- no live query was given more after the decision on a query
pub given_decided : (n : ℕ) (name : List ℕ) (q : QueryValue) (shared : Bool) (result : Result Verdict CreateError) (old new : RegistryValue) → GivenUpto n old → Creates old name q shared result new → GivenUpto n new
given_decided n name q shared (Ok verdict) old new g c = c.given n g
given_decided n name q shared (Err why) old new g c = subst (λ (x : List Live). All (λ (l : Live). l.executor.given ≤ n) x) (sym c.live) g

-- the names are there where a stream may have been added
pub named_with : (streams : List Shape) (shape : Shape) (live : List Live) → All (λ (l : Live). HasNamed streams l.executor.query) live → All (λ (l : Live). HasNamed (with_stream streams shape) l.executor.query) live
named_with streams shape live all = by (is_duplicate streams shape) (nat_lt (length streams) 16)
  where
    by : (b c : Bool) → All (λ (l : Live). HasNamed (cond b streams (cond c (streams ++ shape ∷ []) streams)) l.executor.query) live
    by true c = all
    by false true = named_more streams (shape ∷ []) live all
    by false false = all

more : (a n : ℕ) → nat_lt (1 + a) (suc n) ≡ true → nat_lt a n ≡ true
more a n t = grind (arith, nat_tests)

within_one : (b : Bool) (a n : ℕ) (any : Bool) → nat_lt (cond (not b) (1 + a) 0) (suc n) ≡ true → (nat_lt a n ≡ true → any ≡ true) → (b || any) ≡ true
within_one true a n any t f = refl
within_one false a n any t f = f (more a n t)

one_within : (name : List ℕ) (live : List Live) → nat_lt (position_or_len (λ (l : Live). bytes_eq l.name name) live) (length live) ≡ true → list_any (λ (l : Live). bytes_eq l.name name) live ≡ true
one_within name [] t = absurd (none t)
  where
    none : nat_lt 0 0 ≡ true → ⊥
    none t = grind (arith, nat_tests)
one_within name (l ∷ live) t = within_one (bytes_eq l.name name) (position_or_len (λ (x : Live). bytes_eq x.name name) live) (length live) _ t (one_within name live)

-- a name that is found is there
pub found_name : (name : List ℕ) (live : List Live) (place : ℕ) → position (λ (l : Live). bytes_eq l.name name) live ≡ Some place → list_any (λ (l : Live). bytes_eq l.name name) live ≡ true
found_name name live place e = (let found = found_place name live place e in one_within name live (less found.0 found.1))
  where
    less : (place < length live) → place ≡ position_or_len (λ (l : Live). bytes_eq l.name name) live → nat_lt (position_or_len (λ (l : Live). bytes_eq l.name name) live) (length live) ≡ true
    less w s = grind (arith, nat_tests)
