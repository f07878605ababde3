-- What gathering a text does: some of what is gathered may be written.
use Rattle.std.specs.Prelude.{◌≡◌, ℕ, List, ◌++◌}
use Rattle.std.specs.declared.result.Result.{Result}
use Rattle.std.specs.declared.result.Result.TheVariants.{Ok, Err}
use Rattle.io_streams.specs.Sink.{SinkState, Wrote, BrokeOff}

-- what was gathered before, and the text, were written but for what is gathered now
pub record Gathered (before after : SinkState) (held now text : List ℕ) : Type 0 where
  pub written : List ℕ
  pub wrote : Wrote before after written
  pub whole : written ++ now ≡ held ++ text

-- What a call that gathers a text does.
abbrev pub Gathers : {T E : Type 0} → Result T E → SinkState → SinkState → List ℕ → List ℕ → List ℕ → Type 0
Gathers (Ok x) before after held now text = Gathered before after held now text
Gathers (Err e) before after held now text = BrokeOff before after (held ++ text)
