-- Plans that are alike but for where their boxes begin are the same where these begin alike.
use Rattle.std.proofs.Common.{◌≡◌, ℕ, zero, suc, ◌+◌, ◌<◌, List, [], ◌∷◌, length, slice_index_or, sym, ◌∙◌, refl, subst, arith}
use Rattle.sem_query.specs.declared.plan.PartPlan.{PartPlan}
use Rattle.sem_query.specs.declared.plan.StreamPlan.{StreamPlan}
use Rattle.sem_query.specs.Plan.{stream_at, FollowIn, Follow}
use Rattle.sem_query.proofs.Has.{Has, first, later}
use Rattle.sem_laws.proofs.LaidOut.{no_stream}
use Rattle.sem_laws.proofs.Numbering.{same-lists}
use Rattle.sem_laws.proofs.OneSharedPlan.{AlikeParts, AllAlikeParts, nothing, another}

-- parts that are alike are the same where their boxes begin alike
part_same : (p r : PartPlan) → AlikeParts p r → ((place : ℕ) → place < length p.streams.items → (stream_at p place).base ≡ (stream_at r place).base) → p ≡ r
part_same p r g base =
    let streams : p.streams.items ≡ r.streams.items = same-lists p.streams.items r.streams.items no_stream g.count (λ place l.
    let a = g.boxes place l in
    let b = base place l in
    λ i. record { dims = record { items = a.dims i }; kind = a.kind i; base = b i; size = a.size i }) in
    λ i. record { signs = record { items = g.signs i }; streams = record { items = streams i }; equal = record { items = g.equal i }; less = record { items = g.less i }; local = g.local i; soft = record { items = g.soft i } }

-- and so are lists of them
pub plans_same : (plan other : List PartPlan) → AllAlikeParts plan other
    → ((p r : PartPlan) → Has plan p → Has other r → AlikeParts p r → (place : ℕ) → place < length p.streams.items → (stream_at p place).base ≡ (stream_at r place).base) → plan ≡ other
plans_same [] [] nothing h = refl
plans_same [] (r ∷ other) k h = elim k [ ]
plans_same (p ∷ plan) [] k h = elim k [ ]
plans_same (p ∷ plan) (r ∷ other) (another g k) h =
    let a = part_same p r g (h p r first first g) in
    let b = plans_same plan other k (λ x y m o. h x y (later m) (later o)) in
    λ i. a i ∷ b i

-- of streams with the same sizes, that follow each other from one number on, each begins where the other does
begin_alike : (next : ℕ) (ss ts : List StreamPlan) (P R : ℕ → Type 0) → length ss ≡ length ts → FollowIn next ss P → FollowIn next ts R
    → ((place : ℕ) → place < length ss → (slice_index_or ss place no_stream).size ≡ (slice_index_or ts place no_stream).size)
    → (place : ℕ) → place < length ss → (slice_index_or ss place no_stream).base ≡ (slice_index_or ts place no_stream).base
begin_alike next [] ts P R n f g z place l = absurd (omega (arith, l))
begin_alike next (s ∷ ss) [] P R n f g z place l = absurd (omega (arith, n))
begin_alike next (s ∷ ss) (t ∷ ts) P R n f g z zero l = f.0 ∙ sym g.0
begin_alike next (s ∷ ss) (t ∷ ts) P R n f g z (suc place) l =
    begin_alike (next + s.size) ss ts P R (omega (arith, n)) f.1 (subst (λ m. FollowIn (next + m) ts R) (sym (z 0 (omega arith))) g.1) (λ k m. z (suc k) (omega (arith, m))) place (omega (arith, l))

-- and what comes behind them goes on from one number
go_on : (next : ℕ) (ss ts : List StreamPlan) (P R : ℕ → Type 0) → length ss ≡ length ts → FollowIn next ss P → FollowIn next ts R
    → ((place : ℕ) → place < length ss → (slice_index_or ss place no_stream).size ≡ (slice_index_or ts place no_stream).size) → (n : ℕ) × P n × R n
go_on next [] [] P R n f g z = (next, f, g)
go_on next [] (t ∷ ts) P R n f g z = absurd (omega (arith, n))
go_on next (s ∷ ss) [] P R n f g z = absurd (omega (arith, n))
go_on next (s ∷ ss) (t ∷ ts) P R n f g z =
    go_on (next + s.size) ss ts P R (omega (arith, n)) f.1 (subst (λ m. FollowIn (next + m) ts R) (sym (z 0 (omega arith))) g.1) (λ k m. z (suc k) (omega (arith, m)))

-- plans that are alike are the same where their boxes follow each other from one number on
pub plans_follow : (next : ℕ) (plan other : List PartPlan) → AllAlikeParts plan other → Follow next plan → Follow next other → plan ≡ other
plans_follow next [] [] nothing f g = refl
plans_follow next [] (r ∷ other) k f g = elim k [ ]
plans_follow next (p ∷ plan) [] k f g = elim k [ ]
plans_follow next (p ∷ plan) (r ∷ other) (another a k) f g =
    let sizes : (place : ℕ) → place < length p.streams.items → (slice_index_or p.streams.items place no_stream).size ≡ (slice_index_or r.streams.items place no_stream).size = λ place l. (a.boxes place l).size in
    let o = go_on next p.streams.items r.streams.items (λ n. Follow n plan) (λ n. Follow n other) a.count f g sizes in
    let h : p ≡ r = part_same p r a (begin_alike next p.streams.items r.streams.items (λ n. Follow n plan) (λ n. Follow n other) a.count f g sizes) in
    let t : plan ≡ other = plans_follow o.0 plan other k o.1 o.2 in
    λ i. h i ∷ t i
