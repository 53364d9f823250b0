-- A list of positions that is read item by item.
use Rattle.std.specs.Prelude.{◌≡◌, ◌≤◌, ◌++◌, ℕ, List, [], ◌∷◌, length}
use Rattle.std.specs.List.{AllByRecursion}
use Rattle.deliver_job.specs.declared.items.Item.{Item}
use Rattle.deliver_job.specs.Positions.{IsItem, comma, item_word, items_word}

-- The words of items with a comma after each.
abbrev pub comma_words : List Item → List ℕ
comma_words [] = []
comma_words (item ∷ list) = item_word item ++ comma ∷ comma_words list

-- The word is that of some items, and these are they.
pub record SpellsItems (word : List ℕ) (list : List Item) : Type 0 where
  pub each : AllByRecursion IsItem list
  pub few : length list ≤ 4096
  pub spelt : (item : Item) × (more : List Item) × (list ≡ item ∷ more) × (word ≡ items_word item more)
