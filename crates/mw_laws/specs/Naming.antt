-- What the records of a room's lives name.
use Rattle.std.specs.Prelude.{ℕ, ◌≤◌, List, IsTrue, All, is_some, length}
use Rattle.mw_model.specs.Seed.{Seed, slot_of}
use Rattle.mw_protocol.specs.Lives.{Step, after_all, left_by, life_after_all, new_life}
use Rattle.mw_protocol.specs.Records.{Record}
use Rattle.mw_protocol.specs.Named.{are_named}
use Rattle.mw_laws.specs.Kept.{journal_after}

-- no slot has more names than there are teams, and each location is one of a slot that is there
pub record NamesFit (seed : Seed) : Type 0 where
  pub names : All (λ slot. length slot.names ≤ seed.teams) seed.slots
  pub locations : All (λ held. IsTrue (is_some (slot_of seed held.slot))) seed.locations

-- in any life of any run of such a seed, each record of the journal names only what the seed has, and so does each that a crash then leaves
pub record JournalsAreNamed : Type 0 where
  pub journal : (seed : Seed) (steps : List Step) → NamesFit seed
      → IsTrue (are_named seed (journal_after seed steps))
  pub left : (seed : Seed) (steps : List Step) (more : ℕ) → NamesFit seed
      → IsTrue (are_named seed (left_by (life_after_all seed steps) more))
  -- and so it is in each life that begins with records which name only what the seed has, whoever wrote them
  pub anywhere : (seed : Seed) (journal : List Record) (place : ℕ) (steps : List Step)
      → NamesFit seed → IsTrue (are_named seed journal)
      → IsTrue (are_named seed (after_all (new_life seed journal place) steps).room.journal)
