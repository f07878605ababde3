-- Each live query can be created again by a line of at most 1,024 bytes.
use Rattle.std.proofs.Common.{◌≡◌, ℕ, ◌≤◌, Bool, true, false, cond, List, [], ◌∷◌, ◌++◌, length, get_or, sym, ap, ◌∙◌, subst, All, Ok, Err, nat_lt}
use Rattle.std.specs.declared.result.Result.{Result}
use Rattle.sem_query.specs.Query.{QueryValue}
use Rattle.sql_catalog.specs.Streams.{Shape, is_duplicate, with_stream}
use Rattle.sql_parser.specs.declared.tree.SelectAst.{SelectAst}
use Rattle.sql_parser.specs.declared.tree.Statement.TheVariants.{CreateQuery}
use Rattle.sql_printer.specs.Printed.{create_line}
use Rattle.sql_parser.specs.Resolution.{HasNamed}
use Rattle.sql_parser.proofs.NamedAgain.{names_stay}
use Rattle.exec_registry.specs.declared.refusal.CreateError.{CreateError}
use Rattle.exec_registry.specs.declared.verdict.Verdict.{Verdict}
use Rattle.exec_registry.specs.Judged.{Creates}
use Rattle.exec_registry.specs.Live.{Live}
use Rattle.exec_registry.specs.Registry.{RegistryValue, KeepQueries, AsksTheSame}
use Rattle.exec_registry.proofs.Whole.{added_all}
use Rattle.cmd_session.specs.Checkpoint.{create_again}
use Rattle.cmd_session.specs.CheckpointLines.{live_line}

-- the line that creates a live query again is short
abbrev pub IsShortLive : List Shape → Live → Type 0
IsShortLive streams l = length (live_line streams l) ≤ 1024

same_line : (streams : List Shape) (l m : Live) → AsksTheSame l m → live_line streams l ≡ live_line streams m
same_line streams l m s =
    ap (λ n. create_again streams n l.executor.query l.executor.shared) s.name
    ∙ ap (λ (q : QueryValue). create_again streams m.name q l.executor.shared) s.query
    ∙ ap (create_again streams m.name m.executor.query) s.shared

-- it stays so, while each live query asks what one did before
pub short_kept : (streams : List Shape) (old new : List Live) → All (IsShortLive streams) old → KeepQueries old new → All (IsShortLive streams) new
short_kept streams old new all keep i l a =
    (let k = keep i l a in
    subst (λ text. length text ≤ 1024) (sym (same_line streams (get_or new i l) (get_or old k.0 l) k.2)) (all k.0 l k.1))

-- and where more streams are there
pub again_more : (streams more : List Shape) (name : List ℕ) (q : QueryValue) (shared : Bool) → HasNamed streams q → create_again (streams ++ more) name q shared ≡ create_again streams name q shared
again_more streams more name q shared h = ap (λ (select : SelectAst). create_line (CreateQuery name select shared)) (names_stay streams more q h)

short_more : (streams more : List Shape) (live : List Live) → All (λ (l : Live). HasNamed streams l.executor.query) live → All (IsShortLive streams) live → All (IsShortLive (streams ++ more)) live
short_more streams more live named all i l a =
    (let x = get_or live i l in
    subst (λ text. length text ≤ 1024) (sym (again_more streams more x.name x.executor.query x.executor.shared (named i l a))) (all i l a))

pub short_with : (streams : List Shape) (shape : Shape) (live : List Live) → All (λ (l : Live). HasNamed streams l.executor.query) live → All (IsShortLive streams) live
    → All (IsShortLive (with_stream streams shape)) live
short_with streams shape live named all = by (is_duplicate streams shape) (nat_lt (length streams) 16)
  where
    by : (b c : Bool) → All (IsShortLive (cond b streams (cond c (streams ++ shape ∷ []) streams))) live
    by true c = all
    by false true = short_more streams (shape ∷ []) live named all
    by false false = all

-- after the decision on a query that can be created again
pub short_decided : (streams : List Shape) (name : List ℕ) (q : QueryValue) (shared : Bool) (result : Result Verdict CreateError) (old new : RegistryValue) → length (create_again streams name q shared) ≤ 1024
    → All (IsShortLive streams) old.live → Creates old name q shared result new → All (IsShortLive streams) new.live
short_decided streams name q shared (Ok verdict) old new short all c =
    let line : live_line streams c.last ≡ create_again streams name q shared
    = ap (λ n. create_again streams n c.last.executor.query c.last.executor.shared) c.named
    ∙ ap (λ (x : QueryValue). create_again streams name x c.last.executor.shared) c.asked
    ∙ ap (create_again streams name q) c.sharing in
    subst (λ (x : List Live). All (IsShortLive streams) x) (sym c.list)
    (added_all (IsShortLive streams) old.live c.last all (subst (λ text. length text ≤ 1024) (sym line) short))
short_decided streams name q shared (Err why) old new short all c = subst (λ (x : List Live). All (IsShortLive streams) x) (sym c.live) all
