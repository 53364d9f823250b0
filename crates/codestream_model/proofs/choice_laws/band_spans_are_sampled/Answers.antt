use Rattle.codestream_model.proofs.BandSpans.{band_spans_are_sampled}
use Rattle.codestream_model.proofs.choice_laws.band_spans_are_sampled.Goals as goal

pub returns : goal.returns
returns c = band_spans_are_sampled
