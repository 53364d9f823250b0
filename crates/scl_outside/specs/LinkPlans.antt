-- What the link to a peer is planned to answer.
use Rattle.std.specs.Prelude.{◌≡◌, ◌+◌, ◌-◌, ◌^◌, ℕ, Bool, true, false, List, [], ◌∷◌, Option, Some, None, map, option_map, slice_get, slice_set, get_or, min, unwrap_or}
use Rattle.scl_outside.specs.Meaning.{Reply, Parcel}
use Rattle.scl_outside.specs.Events.{Offered, peer_fails}
use Rattle.scl_outside.specs.Steps.{Counts}
use Rattle.scl_outside.specs.Record.{told_of, room_of, with_room}
use Rattle.scl_outside.specs.Texts.{texts_of, kept_texts, texts_room, texts_after}
use Rattle.scl_outside.specs.WireAnswers.{answer_of, parcel}
use Rattle.scl_outside.specs.declared.links.LinkPlan.{LinkPlan}
use Rattle.scl_outside.specs.declared.links.LinkReply.{LinkReply}
use Rattle.scl_outside.specs.declared.links.Links.{Links}
use Rattle.scl_outside.specs.declared.outside.SendOut.{SendOut}
use Rattle.scl_outside.specs.declared.outside.SendOut.TheVariants.{Sent, NotReady, Failed}

-- A link gives its planned answers one after another, and from then on the last one. A link without a plan
-- always sends.
abbrev pub planned_answer : Option LinkPlan → ℕ → SendOut
planned_answer None number = Sent
planned_answer (Some plan) number = get_or plan.first.items number plan.later

-- Where nothing fails, a planned failure is read as not ready.
abbrev pub read_as : Bool → SendOut → SendOut
read_as never_fails Sent = Sent
read_as never_fails NotReady = NotReady
read_as true Failed = NotReady
read_as false Failed = Failed

-- The next call to a peer answers this.
abbrev pub next_answer : Links → ℕ → SendOut
next_answer l peer =
    read_as l.never_fails (planned_answer (slice_get l.plans.items peer) (get_or l.asked peer 0))

-- A recorded answer is this reply.
abbrev pub reply_of : LinkReply → Reply
reply_of r = record { peer = r.peer; answer = answer_of r.answer }

-- These replies were given, as far as they are told.
abbrev pub replies_of : Links → Option (List Reply)
replies_of l = option_map (map reply_of) (told_of l.replies)

-- A call to a peer leaves these datagrams in the record of those sent.
abbrev pub sent_after : SendOut → Links → Parcel → Option (List Parcel)
sent_after Sent l one = texts_after l.sent one
sent_after NotReady l one = texts_of l.sent
sent_after Failed l one = texts_of l.sent

-- A call to a peer counts a failure of that peer alone.
abbrev pub faults_after : SendOut → List ℕ → ℕ → List ℕ
faults_after Sent faults peer = faults
faults_after NotReady faults peer = faults
faults_after Failed faults peer = slice_set faults peer (min (get_or faults peer 0 + 1) (2 ^ 64 - 1))

-- A call to a peer answers what is planned for its link, and records the answer and what was sent.
pub record SendsNext (l : Links) (peer : ℕ) (bytes : List ℕ) (result : SendOut) (m : Links) : Type 0 where
  pub gives : result ≡ next_answer l peer
  pub asked : m.asked ≡ slice_set l.asked peer (min (get_or l.asked peer 0 + 1) (2 ^ 64 - 1))
  pub faults : m.faults ≡ faults_after result l.faults peer
  pub counts : (p : ℕ)
      → Counts (peer_fails p (Offered (parcel peer bytes) (answer_of result)))
      (get_or l.faults p 0) (get_or m.faults p 0)
  pub sent : texts_of m.sent ≡ sent_after result l (parcel peer bytes)
  pub kept : kept_texts m.sent ≡ unwrap_or (texts_of m.sent) (kept_texts l.sent)
  pub replies : replies_of m
      ≡ with_room (room_of l.replies) (replies_of l) (record { peer = peer; answer = answer_of result } ∷ [])
  pub plans : m.plans ≡ l.plans
  pub never_fails : m.never_fails ≡ l.never_fails
  pub room : texts_room m.sent ≡ texts_room l.sent
  pub replies_room : room_of m.replies ≡ room_of l.replies
