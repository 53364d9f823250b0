-- A new sender has read nothing and given nothing.
use Rattle.std.proofs.Common.{◌≡◌, ◌+◌, ◌*◌, ◌%◌, ◌^◌, ℕ, true, false, List, [], length, drop, refl, sym, subst, ap, ◌∙◌, inl, arith}
use Rattle.std.proofs.Math.ListN.{drop_of_length-le}
use Rattle.stream_model.specs.Cut.{Plan, IsPlan, stamp_at}
use Rattle.codestream_walk.specs.Walking.{AtStart, Walking, IsStart}
use Rattle.codestream_walk.proofs.Bytes.{no_bytes}
use Rattle.packetiser.specs.Filling.{empty}
use Rattle.packetiser.specs.Packing.{Packing}
use Rattle.packetiser.specs.Sending.{HasRead, Sender}

pub new_sender : (p : Plan) (v : Packing) → IsPlan p → v.plan ≡ p → IsStart v.seen.walk → v.filling ≡ empty → v.rest ≡ [] → v.eoc ≡ false → v.stamp ≡ p.stamp → v.given ≡ 0 → v.live ≡ true → Sender p [] [] v
new_sender p v plan e start none left eoc stamp given live =
    let W : Walking → Type 0 = λ w. HasRead p [] w [] [] [] in
    let first : HasRead p [] (record { hand = []; offset = 0; codestreams = 0; stage = AtStart }) [] [] [] = record {
      is_plan = plan;
      whole = refl;
      are_bytes = no_bytes;
      within = omega arith;
      knows = record { codestreams = []; front = []; whole = refl; are_parts = tt; count = refl; few = omega arith; room = inl refl; offset = refl; is_known = (refl, refl) };
      live = refl;
      fit = tt;
    } in
    let s : v.stamp ≡ stamp_at v.plan 0 = stamp ∙ ((let k : p.stamp ≡ (p.stamp + 0 * p.step) % 2 ^ 32 = omega (arith, plan.stamp) in k) ∙ ap (λ q. stamp_at q 0) (sym e)) in
    record {
      consumed = [];
      parts = [];
      known = [];
      sent = [];
      plan = e;
      has_read = subst W (sym start) first;
      live = live;
      put_in = inl (record { none = refl; nothing_left = left; is_empty = none; not_eoc = eoc; stamp = s; sent_is = refl });
      carried = omega (arith, ap (λ f. length f.payload) none, ap length left);
      given_is = refl;
      count = given;
      few = omega arith;
    }

-- all bytes that the reader gave are put in
pub nothing_left : (bytes given : List ℕ) → bytes ≡ given → drop (length bytes) given ≡ []
nothing_left bytes given e = drop_of_length-le given (omega (arith, ap length e))
