-- The lines of an image's precincts, written one after another in packet order.
use Rattle.std.proofs.Common.{◌≡◌, ℕ, List, [], ◌∷◌, ◌++◌, refl, sym, ◌∙◌, ap, append_assoc}
use Rattle.std.specs.List.{flat_map}
use Rattle.std.proofs.lemmas.Grind.{flat_map-append}
use Rattle.std.proofs.lemmas.List.{append-nil}
use Rattle.codestream_model.specs.Values.{Head, Place}
use Rattle.codestream_model.specs.Precincts.{IsPrecinct}
use Rattle.codestream_model.specs.PacketOrder.{packet_order}
use Rattle.pcrl_order.specs.Later.{later}
use Rattle.scl_outside.specs.Meaning.{Meaning}
use Rattle.scl_outside.specs.Events.{Event, Wrote, WriteFailed}
use Rattle.scl_outside.specs.Steps.{Step}
use Rattle.scl_outside.specs.declared.duct.PutOut.TheVariants.{Done as Put}
use Rattle.scl_run.specs.declared.ending.Ending.TheVariants.{Done, WriteFault}
use Rattle.scl_cli.specs.OrderLines.{place_line, order_lines}
use Rattle.scl_outside.specs.Writing.{Puts}
use Rattle.scl_cli.specs.Showing.{Shows}
use Rattle.scl_cli.proofs.Shown.{wrote_more, wrote_front, orders, orders_front}

-- the lines of the precincts before one were written
pub record OrderSoFar (h : Head) (s t : Meaning) (p : Place) (es : List Event) : Type 0 where
  pub before : List Place
  pub order : packet_order h ≡ before ++ p ∷ later h p
  pub place : IsPrecinct h p
  pub wrote : Puts (flat_map (place_line h) before) s t Put es

-- at the first precinct nothing was
pub at_first : (h : Head) (s : Meaning) (p : Place) → packet_order h ≡ p ∷ later h p → IsPrecinct h p → OrderSoFar h s s p []
at_first h s p first is = record { before = []; order = first; place = is; wrote = record { trace = refl; within = tt; gives = refl } }

-- the lines of some precincts and of one more
lines_more : (h : Head) (before : List Place) (p : Place) → flat_map (place_line h) (before ++ p ∷ []) ≡ flat_map (place_line h) before ++ place_line h p
lines_more h before p = flat_map-append (place_line h) before (p ∷ []) ∙ ap (λ (l : List ℕ). flat_map (place_line h) before ++ l) (append-nil (place_line h p))

-- one more line was written
pub line_written : (h : Head) (s t u : Meaning) (p : Place) (line : List ℕ) (es : List Event) (o : OrderSoFar h s t p es) → line ≡ place_line h p → Step t (Wrote line) u
    → Puts (flat_map (place_line h) (o.before ++ p ∷ [])) s u Put (es ++ Wrote line ∷ [])
line_written h s t u p line es o is step =
    wrote_more (flat_map (place_line h) o.before) line (flat_map (place_line h) (o.before ++ p ∷ [])) s t u es (lines_more h o.before p ∙ ap (λ (l : List ℕ). flat_map (place_line h) o.before ++ l) (sym is)) o.wrote step

-- and the next precinct follows
pub at_next : (h : Head) (s t u : Meaning) (p q : Place) (line : List ℕ) (es : List Event) → OrderSoFar h s t p es → line ≡ place_line h p → Step t (Wrote line) u → later h p ≡ q ∷ later h q → IsPrecinct h q
    → OrderSoFar h s u q (es ++ Wrote line ∷ [])
at_next h s t u p q line es o is step next place = record {
  before = o.before ++ p ∷ [];
  order = o.order ∙ (ap (λ (l : List Place). o.before ++ p ∷ l) next ∙ sym (append_assoc o.before (p ∷ []) (q ∷ later h q)));
  place = place;
  wrote = line_written h s t u p line es o is step;
}

-- or it was the last
pub at_last : (h : Head) (s t u : Meaning) (p : Place) (line : List ℕ) (es : List Event) → OrderSoFar h s t p es → line ≡ place_line h p → Step t (Wrote line) u → later h p ≡ [] → Shows (order_lines h) s u Done (es ++ Wrote line ∷ [])
at_last h s t u p line es o is step last =
    orders (order_lines h) (flat_map (place_line h) (o.before ++ p ∷ [])) s u (es ++ Wrote line ∷ [])
    (ap (λ (l : List Place). flat_map (place_line h) l) (sym (o.order ∙ ap (λ (l : List Place). o.before ++ p ∷ l) last))) (line_written h s t u p line es o is step)

-- a prefix of the line was written
pub line_broken : (h : Head) (s t u : Meaning) (p : Place) (line front rest : List ℕ) (es : List Event) → OrderSoFar h s t p es → line ≡ place_line h p → line ≡ front ++ rest → Step t (WriteFailed front) u
    → Shows (order_lines h) s u WriteFault (es ++ WriteFailed front ∷ [])
line_broken h s t u p line front rest es o is split step =
    orders_front (order_lines h) (order_lines h) s u (es ++ WriteFailed front ∷ []) refl
    (wrote_front (flat_map (place_line h) o.before) line front rest (flat_map (place_line h) (later h p)) (order_lines h) s t u es all split o.wrote step)
  where
    all : order_lines h ≡ (flat_map (place_line h) o.before ++ line) ++ flat_map (place_line h) (later h p)
    all =
        ap (λ (l : List Place). flat_map (place_line h) l) (o.order ∙ sym (append_assoc o.before (p ∷ []) (later h p)))
        ∙ (flat_map-append (place_line h) (o.before ++ p ∷ []) (later h p)
        ∙ ap (λ (l : List ℕ). l ++ flat_map (place_line h) (later h p)) (lines_more h o.before p ∙ ap (λ (l : List ℕ). flat_map (place_line h) o.before ++ l) (sym is)))
