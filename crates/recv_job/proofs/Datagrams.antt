-- One datagram, taken.
use Rattle.std.proofs.Common.{◌≡◌, ◌<◌, ◌≤◌, ◌-◌, ◌^◌, ◌==◌, ◌&&◌, ◌⊎◌, ◌++◌, ℕ, Bool, false, List, [], ◌∷◌, length, take, refl, sym, ◌∙◌, ap, subst, arith, inl, inr}
use Rattle.std.specs.Prelude.{min}
use Rattle.std.proofs.lemmas.List.{append-nil, take_all}
use Rattle.wire_model.specs.Bytes.{IsBytes}
use Rattle.wire_model.specs.Datagram.{datagram_of, is_well_formed}
use Rattle.stream_model.specs.Commands.{release_lines}
use Rattle.stream_model.specs.Decoder.{Release, one_more}
use Rattle.stream_model.specs.Receiver.{take_frame}
use Rattle.stream_model.proofs.CountedFrames.{malformed_frames_are_counted_alone}
use Rattle.scl_outside.specs.Meaning.{Meaning}
use Rattle.scl_outside.specs.Events.{Event}
use Rattle.scl_outside.specs.declared.duct.PutOut.{PutOut}
use Rattle.scl_outside.specs.declared.duct.PutOut.TheVariants.{Done, WriteFault}
use Rattle.scl_outside.proofs.Putting.{puts_nothing}
use Rattle.scl_outside.proofs.ReadBytes.{no_bytes}
use Rattle.stream_receiver.specs.States.{ReceiverState, counted}
use Rattle.receiving_job.specs.Giving.{IsReady, IsLeft, Gives}
use Rattle.receiving_job.proofs.TurnsTaken.{refused_frame, not_long}
use Rattle.recv_job.specs.Turns.{TakesWhat, LeavesBy}

-- an empty datagram, or one of more than 9,000 bytes, isn't well formed
no_items : (d : List ℕ) → length d ≡ 0 → d ≡ []
no_items [] e = refl
no_items (x ∷ d) e = absurd (omega (arith, e))

pub is_malformed : (d : List ℕ) (n : ℕ) (k : Bool) → n ≡ min (length d) 9001 → (n ≡ 0) ⊎ (9000 < n) → (is_well_formed d && k) ≡ false
is_malformed d n k size (inl e) =
    let none : length d ≡ 0 = omega (arith, size, e) in
    let P : List ℕ → Type 0 = λ l. (is_well_formed l && k) ≡ false in
    subst P (sym (no_items d none)) refl
is_malformed d n k size (inr e) = not_long d k (omega (arith, size, e))

-- it is counted alone
pub takes_refused : (xs : List Release) (r s : ReceiverState) (d : List ℕ) (m : Meaning) → (is_well_formed d && ((datagram_of d).rtp.kind == r.pick.kind)) ≡ false → IsReady r → counted r.rules < 2 ^ 64 - 1
    → s ≡ record r { rules = record r.rules { refused = one_more r.rules.refused } } → TakesWhat xs r d Done s m m []
takes_refused xs r s d m wrong ready few new =
    let gone = refused_frame r s d wrong ready few new in
    record {
      text = [];
      adds = ap (λ l. release_lines (xs ++ l)) gone.2 ∙ (ap release_lines (append-nil xs) ∙ sym (append-nil (release_lines xs)));
      puts = puts_nothing m;
      left = ([], record { are_bytes = no_bytes; same = malformed_frames_are_counted_alone r.pick r.rules [] refl ∙ sym (malformed_frames_are_counted_alone r.pick r.rules d wrong) }, gone.0, gone.1);
    }

-- any other is what was got
pub got_is : (d bytes : List ℕ) (n : ℕ) → n ≡ min (length d) 9001 → bytes ≡ take 9001 d → n ≤ 9000 → bytes ≡ d
got_is d bytes n size is few = is ∙ take_all 9001 d (omega (arith, size, few))

pub takes_given : (xs : List Release) (HasPut : List Release → Type 0) (r s : ReceiverState) (d bytes : List ℕ) (result : PutOut) (m n : Meaning) (es : List Event) → bytes ≡ d → IsBytes bytes
    → Gives release_lines HasPut xs (take_frame r.pick r.rules bytes) result s m n es → TakesWhat xs r d result s m n es
takes_given xs HasPut r s d bytes result m n es same are g = subst (λ l. TakesWhat xs r l result s m n es) same (record {
  text = g.puts.text;
  adds = g.puts.adds;
  puts = g.puts.puts;
  left = left_of result g.left;
})
  where
    left_of : (result : PutOut) → IsLeft result (take_frame r.pick r.rules bytes) s → LeavesBy result r bytes s
    left_of Done l = (bytes, record { are_bytes = are; same = refl }, l.0, l.1)
    left_of WriteFault l = tt
