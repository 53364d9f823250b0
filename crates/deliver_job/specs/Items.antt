-- The list of positions as the program has it.
use Rattle.std.specs.Prelude.{List, map}
use Rattle.delivery_model.specs.Delivering.{Range}
use Rattle.deliver_job.specs.declared.items.Item.{Item}
use Rattle.deliver_job.specs.declared.items.Item.TheVariants.{One, Span}

-- The positions of an item.
abbrev pub range_of : Item → Range
range_of (One position) = record { first = position; last = position }
range_of (Span first last) = record { first = first; last = last }

-- The positions of a list, item by item.
abbrev pub ranges_of : List Item → List Range
ranges_of list = map range_of list
