-- By which form a query is judged is one, and what that says of it.
use Rattle.std.proofs.Common.{◌≡◌, ◌⊎◌, Bool, true, false, inl, inr, refl}
use Rattle.std.specs.Prelude.{IsTrue, IsFalse, not, ◌&&◌}
use Rattle.sem_query.specs.Query.{QueryValue}
use Rattle.cert_checker.specs.declared.shown.Shown.{Shown}
use Rattle.cmd_certify.specs.Judged.{IsJudgedBy, plain, whole, split}

pub not_both : {b : Bool} → IsTrue b → IsFalse b → ⊥
not_both {b} t f = cc

pub first_true : (b c : Bool) → IsTrue (b && c) → IsTrue b
first_true true c e = refl
first_true false c e = e

pub one_judged : (q : QueryValue) (s t : Shown) → IsJudgedBy q s → IsJudgedBy q t → s ≡ t
one_judged q s t (plain never) (plain neither) = refl
one_judged q s t (plain never) (whole by has) = absurd (not_both by never)
one_judged q s t (plain never) (split by lacks) = absurd (not_both by never)
one_judged q s t (whole by has) (plain never) = absurd (not_both by never)
one_judged q s t (whole by has) (whole also have) = refl
one_judged q s t (whole by has) (split also lacks) = absurd (lacks has)
one_judged q s t (split by lacks) (plain never) = absurd (not_both by never)
one_judged q s t (split by lacks) (whole also has) = absurd (lacks has)
one_judged q s t (split by lacks) (split also missing) = refl

-- what is judged by its form is no filter
pub unfiltered : (b c : Bool) → IsTrue (b && not c) → IsTrue c → ⊥
unfiltered true true e f = absurd cc
unfiltered true false e f = absurd cc
unfiltered false c e f = absurd cc

-- a query that is not judged by its plain parts is compact
pub compact_or_plain : (q : QueryValue) (s : Shown) → IsJudgedBy q s → IsTrue q.compact ⊎ (s ≡ Shown.Plain)
compact_or_plain q s (plain never) = inr refl
compact_or_plain q s (whole by has) = inl (first_true q.compact _ by)
compact_or_plain q s (split by lacks) = inl (first_true q.compact _ by)
