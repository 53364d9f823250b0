-- How a list of positions is spelt.
use Rattle.std.specs.Prelude.{◌≤◌, ◌<◌, ◌^◌, ◌++◌, ℕ, List, [], ◌∷◌, length, codes, decimal}
use Rattle.std.specs.List.{AllByRecursion}
use Rattle.deliver_job.specs.declared.items.Item.{Item}
use Rattle.deliver_job.specs.declared.items.Item.TheVariants.{One, Span}

-- The character between the first and the last of several positions.
abbrev pub hyphen : ℕ
hyphen = 45

-- The character between two items.
abbrev pub comma : ℕ
comma = 44

-- The word of an item is a position, or the first and the last of several with a hyphen between them.
abbrev pub item_word : Item → List ℕ
item_word (One position) = decimal position
item_word (Span first last) = decimal first ++ hyphen ∷ decimal last

-- Positions are below 2^32, and the first of several isn't greater than the last.
abbrev pub IsItem : Item → Type 0
IsItem (One position) = position < 2 ^ 32
IsItem (Span first last) = (first ≤ last) × (last < 2 ^ 32)

-- The word of one or more items has a comma between two of them.
abbrev pub items_word : Item → List Item → List ℕ
items_word item [] = item_word item
items_word item (next ∷ list) = item_word item ++ comma ∷ items_word next list

-- The word of a list is `none` where it has no item.
abbrev pub list_word : List Item → List ℕ
list_word [] = codes "none"
list_word (item ∷ list) = items_word item list

-- A list has at most 4,096 items, whose word has at most 65,536 bytes.
pub record IsList (list : List Item) : Type 0 where
  pub each : AllByRecursion IsItem list
  pub few : length list ≤ 4096
  pub short : length (list_word list) ≤ 65536
