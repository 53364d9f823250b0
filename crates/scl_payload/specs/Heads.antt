-- The heads of the code and the values of the layout, each as the other.
use Rattle.std.specs.Prelude.{◌≡◌, ℕ, List}
use Rattle.wire_model.specs.Payload.{MainFields, BodyFields, PayloadFields, Main as MainValues, Body as BodyValues, IsPayload}
use Rattle.scl_payload.specs.declared.head.MainHead.{MainHead}
use Rattle.scl_payload.specs.declared.head.BodyHead.{BodyHead}
use Rattle.scl_payload.specs.declared.head.Payload.{Payload}
use Rattle.scl_payload.specs.declared.head.Payload.TheVariants.{Main, Body}

-- The values that a head holds, with ORDH, which no head has, as 0.
abbrev pub fields_of : Payload → PayloadFields
fields_of (Main h) = MainValues (record { ordh = 0; eseq = h.eseq; xtrac = h.xtrac })
fields_of (Body h) = BodyValues (record { res = h.res; eseq = h.eseq; ordb = h.ordb; pos = h.pos; pid = h.pid })

-- the head that holds the values of a Main
abbrev pub main_head_of : MainFields → MainHead
main_head_of h = record { eseq = h.eseq; xtrac = h.xtrac }

-- the head that holds the values of a Body
abbrev pub body_head_of : BodyFields → BodyHead
body_head_of h = record { res = h.res; eseq = h.eseq; ordb = h.ordb; pos = h.pos; pid = h.pid }

-- the head that holds the values of either; ORDH is in none
abbrev pub head_of : PayloadFields → Payload
head_of (MainValues h) = Main (main_head_of h)
head_of (BodyValues h) = Body (body_head_of h)

-- The bytes are a payload with these codestream bytes, and this head holds its values.
abbrev pub IsReadAs : Payload → List ℕ → List ℕ → Type 0
IsReadAs head codestream bytes = (h : PayloadFields) × (head ≡ head_of h) × IsPayload h codestream bytes

-- the answer that holds these values and this start of the codestream bytes
abbrev pub read_as : PayloadFields → ℕ → Payload × ℕ
read_as h start = (head_of h, start)

-- A Body header of the program as the values of the definitions.
abbrev pub values_of : BodyHead → BodyFields
values_of h = record { res = h.res; eseq = h.eseq; ordb = h.ordb; pos = h.pos; pid = h.pid }
