use Rattle.codestream_model.proofs.BandParts.{parts_cover_bands}
use Rattle.codestream_model.proofs.laws.parts_cover_bands.Goals as goal

pub returns : goal.returns
returns c = parts_cover_bands
