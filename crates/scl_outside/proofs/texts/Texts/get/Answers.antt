use Rattle.std.proofs.Common.{arith}
use Rattle.scl_outside.proofs.TextsCut.{length-texts, place_known, text_known}
use Rattle.scl_outside.proofs.texts.Texts.get.Goals as goal

pub index-place-requires : goal.index-place-requires
index-place-requires c =
    let l = length-texts c.args.self.now.bytes.items c.args.self.now.places.items in
    omega (arith, c.args.self.now.places.ok.0, c.requires)

pub slice_bounds-result-count : goal.slice_bounds-result-count
slice_bounds-result-count c = (place_known _ _ _ _ c.args.self.now.inside c.requires c.index-place.ensures).0

pub slice_bounds-result-start : goal.slice_bounds-result-start
slice_bounds-result-start c = let h = place_known _ _ _ _ c.args.self.now.inside c.requires c.index-place.ensures in omega (arith, h.0, h.1)

pub slice_bounds-result-end : goal.slice_bounds-result-end
slice_bounds-result-end c = let h = place_known _ _ _ _ c.args.self.now.inside c.requires c.index-place.ensures in omega (arith, h.0, h.1)

pub returns : goal.returns
returns c = rw c.deref.ensures.value (text_known c.args.self.now.bytes.items c.args.self.now.places.items c.args.index c.index-place.result.now c.requires c.index-place.ensures)
