-- What stops the reading of a label.
use Rattle.stuffed_bits.specs.declared.stop.Stop.{Stop}
use Rattle.stuffed_bits.specs.declared.stop.Stop.TheVariants as bits
use Rattle.tag_tree.specs.declared.stop.LabelStop.{LabelStop}
use Rattle.tag_tree.specs.declared.stop.LabelStop.TheVariants.{Need, Stuffed}

-- What stops the reading of a label where the reading of its bits stops.
abbrev pub label_stop : Stop → LabelStop
label_stop bits.Need = Need
label_stop bits.Stuffed = Stuffed
