-- What the whole form of a part comes to.
use Rattle.std.proofs.Common.{Some}
use Rattle.sem_query.specs.declared.atom.Attr.{Attr}
use Rattle.sem_query.specs.declared.condition.Condition.TheVariants.{C3}
use Rattle.sem_query.specs.declared.first_break.Break.{Break}
use Rattle.sem_query.specs.FirstBreak.{IsFirst}
use Rattle.sem_query.specs.Query.{QueryValue}
use Rattle.sem_forms.specs.SplitBreaks.{IsOpenDim, IsPartBreak}
use Rattle.sem_forms.specs.SplitBreaks as breaks
use Rattle.sem_whole.proofs.Planned.{plans_tell_breaks}
use Rattle.sem_whole.specs.Signed.{IsWellFormed}
use Rattle.plan_whole_form.specs.declared.whole.WholePart.{WholePart}
use Rattle.plan_whole_form.specs.Part.{form_of, IsWholePart, IsBroken}

-- ---- what it comes to

pub breaks_condition : (r : QueryValue) (b : Break) → IsBroken r b → IsPartBreak r (Some b)
breaks_condition r b h = breaks.broken h.links h.are_links b h.first

pub lacks_end : (r : QueryValue) → IsWellFormed r → (p : WholePart) → IsWholePart r p → (a : Attr) → IsFirst (IsOpenDim r (form_of p)) (Some a) → IsPartBreak r (Some record { condition = C3; attr = a })
lacks_end r formed p is a h = breaks.unbounded (form_of p) is.plan ((plans_tell_breaks r formed (form_of p) is.plan).0 is.finite) a h
