-- What of a text was passed on to the sink below, and what is held of it.
use Rattle.std.proofs.Common.{◌≡◌, ℕ, ◌≤◌, List, ◌++◌, sym, ap, ◌∙◌, append_assoc, None, Some, IfSome}
use Rattle.std.specs.declared.option.Option.{Option}
use Rattle.std.specs.Io.KnownBytes.{Appends, append_known}
use Rattle.io_streams.specs.Gathered.{told_length}
use Rattle.io_streams.proofs.Writing.{front-of}

-- A front of a text was passed on, behind what was written before, and the rest of it is held.
pub record Passed (before now : Option (List ℕ)) (front text held : List ℕ) : Type 0 where
  pub passed : List ℕ
  pub written : Appends before now (front ++ passed)
  pub whole : passed ++ held ≡ text

-- a text was written to the gatherer
pub passed-more : (before below below' : Option (List ℕ)) (front text held held' more : List ℕ) → IfSome before (λ _. Passed before below front text held)
    → Appends (append_known below held) (append_known below' held') more → told_length below ≤ told_length below' → IfSome before (λ _. Passed before below' front (text ++ more) held')
passed-more None below below' front text held held' more p q le = tt
passed-more (Some b) None below' front text held held' more p q le = absurd p.written
passed-more (Some b) (Some x) None front text held held' more p q le = absurd q
passed-more (Some b) (Some x) (Some y) front text held held' more p q le =
    let h = front-of x y held' (held ++ more) (q ∙ append_assoc x held more) le in
    record {
      passed = p.passed ++ h.0;
      written = h.1 ∙ ap (λ l. l ++ h.0) p.written ∙ append_assoc b (front ++ p.passed) h.0 ∙ ap (λ l. b ++ l) (append_assoc front p.passed h.0);
      whole = append_assoc p.passed h.0 held' ∙ ap (λ l. p.passed ++ l) h.2 ∙ sym (append_assoc p.passed held more) ∙ ap (λ l. l ++ more) p.whole;
    }

-- a front of what was held was passed on
pub passed-flush : (before below below' : Option (List ℕ)) (front text held part left : List ℕ) → IfSome before (λ _. Passed before below front text held)
    → held ≡ part ++ left → Appends below below' part → IfSome before (λ _. Passed before below' front text left)
passed-flush None below below' front text held part left p e w = tt
passed-flush (Some b) None below' front text held part left p e w = absurd p.written
passed-flush (Some b) (Some x) None front text held part left p e w = absurd w
passed-flush (Some b) (Some x) (Some y) front text held part left p e w = record {
  passed = p.passed ++ part;
  written = w ∙ ap (λ l. l ++ part) p.written ∙ append_assoc b (front ++ p.passed) part ∙ ap (λ l. b ++ l) (append_assoc front p.passed part);
  whole = append_assoc p.passed part left ∙ ap (λ l. p.passed ++ l) (sym e) ∙ p.whole;
}

-- all that was held was passed on
pub passed-all : (before below below' : Option (List ℕ)) (front text held : List ℕ) → IfSome before (λ _. Passed before below front text held) → Appends below below' held → Appends before below' (front ++ text)
passed-all None below below' front text held p w = tt
passed-all (Some b) None below' front text held p w = absurd p.written
passed-all (Some b) (Some x) None front text held p w = absurd w
passed-all (Some b) (Some x) (Some y) front text held p w =
    w ∙ ap (λ l. l ++ held) p.written ∙ append_assoc b (front ++ p.passed) held ∙ ap (λ l. b ++ l) (append_assoc front p.passed held ∙ ap (λ l. front ++ l) p.whole)

pub IfSome-map : {X : Type 0} (o : Option X) (P Q : X → Type 0) → ((x : X) → P x → Q x) → IfSome o P → IfSome o Q
IfSome-map None P Q f h = tt
IfSome-map (Some x) P Q f h = f x h
