-- The cases of an element, and an element with others after it.
-- The laws on what begins an element, or a list of elements, use these.
use Rattle.std.specs.Prelude.{ℕ, List}
use Rattle.bac_data.specs.OpenValue.{Element, group, Elements, more}
use Rattle.bac_data.specs.Spells.{SpellsContext, Spells, SpellsAll}

-- The lists that spell a context primitive, by its number and its contents.
abbrev pub SpellsContextOf : ℕ × List ℕ → List ℕ → Type 0
SpellsContextOf p b = SpellsContext p.0 p.1 b

-- The lists that spell a group, by its number and its elements.
abbrev pub SpellsGroup : ℕ × Elements → List ℕ → Type 0
SpellsGroup p b = Spells (group p.0 p.1) b

-- The lists that spell an element with others after it, as a list of elements that has a first one.
abbrev pub SpellsMore : Element × Elements → List ℕ → Type 0
SpellsMore p b = SpellsAll (more p.0 p.1) b
