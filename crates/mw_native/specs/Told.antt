-- Rules that a closure answers.
use Rattle.std.specs.Prelude.{ℕ, suc, ◌≡◌, List, [], ◌∷◌, Bool, length}
use Rattle.std.specs.List.{AllZip}
use Rattle.std.specs.Borrow.{Bor}
use Rattle.mw_rules.specs.Rule.{Rule, IsWithin}
use Rattle.mw_rules.specs.Holds.{bag_of, places_of, holds}
use Rattle.mw_rules.specs.Names.{AreNames}
use Rattle.mw_rules.specs.declared.named.Named.{Named}

-- what is asked of a call with a rule's number, counts of items and flags of places
abbrev pub Pre : Type 1
Pre = ℕ → Bor (List ℕ) → Bor (List Bool) → Type 0

-- what such a call returns
abbrev pub Post : Type 1
Post = ℕ → Bor (List ℕ) → Bor (List Bool) → Bool → Type 0

-- it may be called with this number and any counts and flags that the rule is within, and returns whether the rule holds
pub record AnswersRule (pre : Pre) (post : Post) (number : ℕ) (rule : Rule) : Type 0 where
  pub callable : (counts : Bor (List ℕ)) (places : Bor (List Bool))
      → IsWithin (length counts.now) (length places.now) rule → pre number counts places
  pub answer : (counts : Bor (List ℕ)) (places : Bor (List Bool)) (answer : Bool)
      → IsWithin (length counts.now) (length places.now) rule → post number counts places answer
      → answer ≡ holds rule (bag_of counts.now) (places_of places.now)

-- the same of each of these rules by its number, the first of which is this one
abbrev pub AnswersFrom : Pre → Post → ℕ → List Rule → Type 0
AnswersFrom pre post n [] = Unit {0}
AnswersFrom pre post n (r ∷ rs) = AnswersRule pre post n r × AnswersFrom pre post (suc n) rs

-- these are the items and the places that the rule names
abbrev pub IsNamed : Rule → Named → Type 0
IsNamed rule named = AreNames rule named.items named.places

-- these are the names of the rules, in order, and the closure answers each rule by its number, from 0
pub record AreTold (pre : Pre) (post : Post) (named : List Named) (rules : List Rule) : Type 0 where
  pub names : AllZip IsNamed rules named
  pub answers : AnswersFrom pre post 0 rules
