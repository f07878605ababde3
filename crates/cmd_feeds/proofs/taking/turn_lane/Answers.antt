use Rattle.std.proofs.Common.{inl, inr, refl}
use Rattle.cmd_feeds.proofs.Bounds.{open-of}
use Rattle.cmd_feeds.proofs.taking.turn_lane.Goals as goal

pub returns-in-Ended-clause-turned : goal.returns-in-Ended-clause-turned
returns-in-Ended-clause-turned g c = λ s stands.
    let t = c.in-Ended.ensures.turned s stands in
    (t.0, t.1, refl)

pub returns-in-Ok-clause-turned : goal.returns-in-Ok-clause-turned
returns-in-Ok-clause-turned g c = λ s stands.
    let t = c.in-Failed.ensures.turned s stands in
    (record { between = _; left = _; met = t.0; name = _; name' = _; told = c.in-Ok.ensures }, t.1, refl)

pub returns-in-Err-clause-turned : goal.returns-in-Err-clause-turned
returns-in-Err-clause-turned g c = λ s stands.
    let t = c.in-Failed.ensures.turned s stands in
    inr (record { between = _; left = _; met = t.0; name = _; name' = _; told = c.in-Err.ensures }, refl)

pub returns-in-Full-clause-turned : goal.returns-in-Full-clause-turned
returns-in-Full-clause-turned g c = λ s stands. (c.in-Full.ensures.turned s stands, open-of _ c.requires.yet)

pub returns-in-Stopped-clause-turned : goal.returns-in-Stopped-clause-turned
returns-in-Stopped-clause-turned g c = λ s stands. inl (c.in-Stopped.ensures.turned s stands, open-of _ c.requires.yet)
