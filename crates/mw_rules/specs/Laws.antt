-- What is true of rules whatever the bag and the list of places are.
use Rattle.std.specs.Prelude.{ℕ, ◌<◌, ◌≤◌, ◌≡◌, true}
use Rattle.mw_rules.specs.Rule.{Rule, IsWithin}
use Rattle.mw_rules.specs.Holds.{Bag, Places, holds}
use Rattle.mw_rules.specs.Names.{names_item, names_place}

-- the second bag has no less of each item
abbrev pub HasNoLess : Bag → Bag → Type 0
HasNoLess a b = (i : ℕ) → a i ≤ b i

-- each place of the first list is in the second
abbrev pub IsPartOf : Places → Places → Type 0
IsPartOf v w = (p : ℕ) → v p ≡ true → w p ≡ true

-- the bags have as many of each item that the rule names
abbrev pub AgreesOnItems : Rule → Bag → Bag → Type 0
AgreesOnItems r a b = (i : ℕ) → names_item r i ≡ true → a i ≡ b i

-- the lists agree on each place that the rule names
abbrev pub AgreesOnPlaces : Rule → Places → Places → Type 0
AgreesOnPlaces r v w = (p : ℕ) → names_place r p ≡ true → v p ≡ w p

-- with greater counts and more places a rule that holds still holds
abbrev pub StaysTrue : Type 0
StaysTrue =
    (r : Rule) (a b : Bag) (v w : Places) → HasNoLess a b → IsPartOf v w → holds r a v ≡ true
    → holds r b w ≡ true

-- whether a rule holds hangs on the items and places that it names alone
abbrev pub HangsOnNames : Type 0
HangsOnNames =
    (r : Rule) (a b : Bag) (v w : Places) → AgreesOnItems r a b → AgreesOnPlaces r v w
    → holds r a v ≡ holds r b w

-- each item and each place that a rule names is within the numbers that the rule is within
abbrev pub NamesLieWithin : Type 0
NamesLieWithin = (r : Rule) (items places : ℕ) → IsWithin items places r
    → ((i : ℕ) → names_item r i ≡ true → i < items)
    × ((p : ℕ) → names_place r p ≡ true → p < places)
