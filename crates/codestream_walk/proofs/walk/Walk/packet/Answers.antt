use Rattle.std.proofs.Common.{◌≡◌, Option, Some, None, sym, subst, ◌∙◌, refl}
use Rattle.std.specs.Option.{IsSome}
use Rattle.codestream_model.specs.Values.{Head, Place}
use Rattle.codestream_model.specs.Precincts.{IsPrecinct}
use Rattle.codestream_walk.specs.Walks.{Walked, ShowsPacket}
use Rattle.codestream_walk.proofs.walk.Walk.packet.Goals as goal

same_head : (h g : Head) → Some h ≡ Some g → g ≡ h
same_head h g e = cc

is_some : (o : Option Head) (h : Head) → o ≡ Some h → IsSome o
is_some (Some x) h e = refl
is_some None h e = absurd (cc)

pub geometry-requires : goal.geometry-requires
geometry-requires c =
    let P : Walked → Type 0 = λ v. ShowsPacket v in
    let r = subst P (sym c.self.view_is) c.requires in
    is_some c.self.inside.pieces.head r.0 r.1

pub pid-requires : goal.pid-requires
pid-requires c =
    let P : Walked → Type 0 = λ v. ShowsPacket v in
    let r = subst P (sym c.self.view_is) c.requires in
    let H : Head → Type 0 = λ h. IsPrecinct h c.self.inside.pieces.place in
    let Q : Place → Type 0 = λ p. IsPrecinct c.geometry.result.now p in
    subst Q (sym c.place-place.ensures) (subst H (same_head c.geometry.result.now r.0 (c.geometry.ensures ∙ r.1)) r.2)
