-- A state to which the lines of a checkpoint lead goes on as the one that it tells of.
use Rattle.std.proofs.Common.{ℕ, ◌≤◌, Bool, List, [], ◌∷◌, sym, subst, arith, All}
use Rattle.std.proofs.lemmas.List.Elements.{All-nil, All-head, All-tail}
use Rattle.sem_query.specs.declared.plan.Plan.{Plan}
use Rattle.sem_query.specs.Query.{QueryValue, IsWithinLimits}
use Rattle.sem_query.specs.Domains.{RowKeeps, RowsKeep}
use Rattle.sem_forms.specs.Forms.{MeetsForm, IsFormPlanOf}
use Rattle.sem_query.specs.Bases.{Base}
use Rattle.sql_catalog.specs.Streams.{Shape}
use Rattle.sql_parser.specs.Resolution.{HasNamed}
use Rattle.exec_registry.specs.Live.{LiveQuery}
use Rattle.cmd_session.specs.State.{State}
use Rattle.cmd_session.specs.Restoring.{IsAlike, AreAllAlike, AreAlike}
use Rattle.law_resume.specs.Sound.{IsSoundIn, IsSoundState}
use Rattle.law_resume.specs.Continuing.{GoOnAlike, IsResumed, ResumedContinuesAlike}
use Rattle.law_resume.proofs.Pairs.{Pair, same, alike, Pairs}
use Rattle.law_resume.proofs.AlikeReplies.{AreSoundAlike}
use Rattle.law_resume.proofs.AtBase.{IsAtBase, AreAtBase, resumed_at_base}
use Rattle.law_resume.proofs.Continuing.{all_go_on}

turned : (q p : LiveQuery) → IsAlike p q → IsAlike q p
turned q p a = record { name = sym a.name; query = sym a.query; shared = sym a.shared; plan = sym a.plan; kept = sym a.kept }

sound_at_base : (streams : List Shape) (taken : ℕ) (q p : LiveQuery) → IsAlike q p → IsSoundIn streams taken q → IsAtBase p → IsSoundIn streams taken p
sound_at_base streams taken q p a s b = record {
  limits = subst IsWithinLimits a.query s.limits;
  met = subst MeetsForm a.query s.met;
  named = subst (HasNamed streams) a.query s.named;
  plan =
      subst (λ (x : Plan). IsFormPlanOf p.shared p.query x) a.plan
      (subst (λ (x : QueryValue). IsFormPlanOf p.shared x q.plan) a.query (subst (λ (x : Bool). IsFormPlanOf x q.query q.plan) a.shared s.plan));
  rows = subst (RowsKeep p.query) (sym b.none) (All-nil (RowKeeps p.query));
  size = b.size;
  given = subst (λ (x : Base). x.given ≤ taken) a.kept s.given;
}

pairs_at_base : (streams : List Shape) (taken : ℕ) (qs ps : List LiveQuery) → AreAllAlike ps qs → All (IsSoundIn streams taken) qs → AreAtBase ps → Pairs streams taken qs ps
pairs_at_base streams taken [] [] a s b = tt
pairs_at_base streams taken [] (p ∷ ps) a s b = absurd a
pairs_at_base streams taken (q ∷ qs) [] a s b = absurd a
pairs_at_base streams taken (q ∷ qs) (p ∷ ps) a s b =
    let one : IsAlike q p = turned q p a.0 in
    let own : IsSoundIn streams taken q = All-head (IsSoundIn streams taken) q qs s in
    (alike one own (sound_at_base streams taken q p one own b.0), pairs_at_base streams taken qs ps a.1 (All-tail (IsSoundIn streams taken) q qs s) b.1)

sound_resumed : (s t : State) → IsSoundState s → IsResumed t → AreAlike t s → AreSoundAlike s t
sound_resumed s t sound is a = record {
  limit = sym a.limit;
  pages = sym a.pages;
  streams = sym a.streams;
  taken = sym a.taken;
  pairs = pairs_at_base s.streams s.taken s.queries t.queries a.queries sound.queries (resumed_at_base t is);
  small = sound.limit;
  within = sound.within;
  lock = sym a.lock;
}

-- the same, the other way round
pair_turned : (streams : List Shape) (taken : ℕ) (q p : LiveQuery) → Pair streams taken q p → Pair streams taken p q
pair_turned streams taken q p (same e) = same (sym e)
pair_turned streams taken q p (alike a s t) = alike (turned p q a) t s

pairs_turned : (streams : List Shape) (taken : ℕ) (qs ps : List LiveQuery) → Pairs streams taken qs ps → Pairs streams taken ps qs
pairs_turned streams taken [] [] h = tt
pairs_turned streams taken [] (p ∷ ps) h = absurd h
pairs_turned streams taken (q ∷ qs) [] h = absurd h
pairs_turned streams taken (q ∷ qs) (p ∷ ps) h = (pair_turned streams taken q p h.0, pairs_turned streams taken qs ps h.1)

sound_turned : (s t : State) → AreSoundAlike s t → AreSoundAlike t s
sound_turned s t a =
    let small = a.small in
    let within = a.within in
    let limit = a.limit in
    let taken = a.taken in
    record {
      limit = sym a.limit;
      pages = sym a.pages;
      streams = sym a.streams;
      taken = sym a.taken;
      pairs =
          subst (λ (x : List Shape). Pairs x t.taken t.queries s.queries) a.streams
          (subst (λ n. Pairs s.streams n t.queries s.queries) a.taken (pairs_turned s.streams s.taken s.queries t.queries a.pairs));
      small = omega (arith, small, limit);
      within = omega (arith, within, limit, taken);
      lock = sym a.lock;
    }

go_on_alike : (s t : State) → AreSoundAlike s t → GoOnAlike s t
go_on_alike s t a lines answers n h = (let goes = all_go_on s t lines answers a n h in (goes.answered, goes.replied, goes.next))

pub resumed_continues_alike : ResumedContinuesAlike
resumed_continues_alike s t sound is a =
    let both = sound_resumed s t sound is a in
    (go_on_alike s t both, go_on_alike t s (sound_turned s t both))
