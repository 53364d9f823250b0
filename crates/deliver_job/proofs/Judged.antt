-- A capture judged by the bounds of its frames.
use Rattle.std.proofs.Common.{◌≡◌, ◌<◌, ◌≤◌, ℕ, List, [], length, drop, get_or, refl, sym, subst, ◌∙◌, ap, arith}
use Rattle.std.specs.Prelude.{Some, None}
use Rattle.std.proofs.lemmas.List.{drop_all, length-drop}
use Rattle.wire_model.specs.Bytes.{IsBytes}
use Rattle.wire_model.specs.Framing.{framing, Splits, whole_frames}
use Rattle.wire_model.proofs.FramingLaws.{bytes_split}
use Rattle.delivery_model.specs.Delivering.{Range, most_delivered, CutFrame, NoSuchDatagram, first_missing, Delivers}
use Rattle.scl_run.specs.declared.ending.Reason.TheVariants as reason
use Rattle.scl_outside.specs.Meaning.{Meaning}
use Rattle.scl_outside.specs.Events.{Event}
use Rattle.scl_outside.specs.declared.duct.PutOut.TheVariants.{Done as Put, WriteFault as NotPut}
use Rattle.scl_outside.specs.Writing.{Puts}
use Rattle.scl_run.specs.declared.ending.Refusal.{Refusal}
use Rattle.scl_run.specs.declared.ending.Ending.TheVariants.{Done, WriteFault, Refused, NoMemory}
use Rattle.deliver_job.specs.Bounds.{frame_bounds}
use Rattle.deliver_job.specs.Writing.{listed}
use Rattle.deliver_job.specs.DeliverInput.{RefusesDelivery}
use Rattle.deliver_job.specs.Answering.{Answers}
use Rattle.deliver_job.proofs.BoundsLaws.{last_bound}

-- a capture of no more bytes than its whole frames have is these
all_whole : (capture : List ℕ) → IsBytes capture → length capture ≤ length (framing (whole_frames capture)) → Splits capture (whole_frames capture) []
all_whole capture fits all =
    let P : List ℕ → Type 0 = λ l. Splits capture (whole_frames capture) l in
    subst P (drop_all (length (framing (whole_frames capture))) capture all) (bytes_split capture fits)

pub is_cut : (list : List Range) (capture : List ℕ) (n end d : ℕ) → IsBytes capture → length capture ≤ most_delivered → n ≡ length (whole_frames capture) → end ≡ get_or (frame_bounds (whole_frames capture)) n d → end < length capture
    → RefusesDelivery list capture (record { at = end; reason = reason.CutFrame })
is_cut list capture n end d fits short count last more =
    let frames = whole_frames capture in
    let place : end ≡ length (framing frames) = last_bound capture n end d count last in (
      CutFrame,
      refl,
      (
        short,
        record {
          frames = frames;
          rest = drop (length (framing frames)) capture;
          splits = bytes_split capture fits;
          some = omega (arith, length-drop (length (framing frames)) capture, more, place);
          place = place;
        },
      ),
    )

pub lacks : (list : List Range) (capture : List ℕ) (n end d at : ℕ) → IsBytes capture → length capture ≤ most_delivered → n ≡ length (whole_frames capture) → end ≡ get_or (frame_bounds (whole_frames capture)) n d → length capture ≤ end
    → first_missing list n ≡ Some at → RefusesDelivery list capture (record { at = at; reason = reason.NoSuchDatagram })
lacks list capture n end d at fits short count last all missing = (
  NoSuchDatagram,
  refl,
  (
    short,
    record {
      frames = whole_frames capture;
      splits = all_whole capture fits (omega (arith, all, last_bound capture n end d count last));
      missing = ap (first_missing list) (sym count) ∙ missing;
    },
  ),
)

pub delivers : (list : List Range) (capture : List ℕ) (n end d : ℕ) → IsBytes capture → length capture ≤ most_delivered → n ≡ length (whole_frames capture) → end ≡ get_or (frame_bounds (whole_frames capture)) n d → length capture ≤ end
    → first_missing list n ≡ None → Delivers list capture (whole_frames capture)
delivers list capture n end d fits short count last all none = record {
  splits = all_whole capture fits (omega (arith, all, last_bound capture n end d count last));
  short = short;
  has_all = ap (first_missing list) (sym count) ∙ none;
}

-- the answers to a capture: nothing where memory ran out,
pub no_memory : (list : List Range) (capture : List ℕ) (s : Meaning) → Answers list capture s s NoMemory []
no_memory list capture s = record { trace = refl; within = tt; gives = refl }

-- nothing where it is refused,
pub refused : (list : List Range) (capture : List ℕ) (s : Meaning) (r : Refusal) → RefusesDelivery list capture r → Answers list capture s s (Refused r) []
refused list capture s r refuses = record { trace = refl; within = tt; gives = (refuses, refl) }

-- and else the listed frames, or a prefix of them
pub delivered : (list : List Range) (capture : List ℕ) (s t : Meaning) (es : List Event) → Delivers list capture (whole_frames capture) → Puts (listed list (whole_frames capture)) s t Put es → Answers list capture s t Done es
delivered list capture s t es d p = record { trace = p.trace; within = p.within; gives = ((whole_frames capture, d), p.gives) }

pub not_delivered : (list : List Range) (capture : List ℕ) (s t : Meaning) (es : List Event) → Delivers list capture (whole_frames capture) → Puts (listed list (whole_frames capture)) s t NotPut es → Answers list capture s t WriteFault es
not_delivered list capture s t es d p = record { trace = p.trace; within = p.within; gives = ((whole_frames capture, d), p.gives) }
