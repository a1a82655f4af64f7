-- What `tables` writes and prints, and how it ends.
use Rattle.std.specs.Prelude.{◌≡◌, ◌≢◌, ◌⊎◌, ℕ, List, Option, Ok, codes, ⊤}
use Rattle.std.specs.Io.KnownBytes.{Keeps, Appends}
use Rattle.mw_edges.specs.Causes.{PutsFront, Rose}
use Rattle.mw_tables.specs.WorldOf.{WorldOf}
use Rattle.mw_tables.specs.PlayersOf.{PlayersOf}
use Rattle.mw_causes.specs.GenerateCauses.{generate_status, generate_line}
use Rattle.mw_causes.specs.Ends.{Told, Ends}
use Rattle.mw_causes.specs.Tables.{Files}
use Rattle.mw_causes.specs.Wrote.{Wrote, Untouched, HasFile, HasFailed}
use Rattle.mw_causes.specs.declared.stop.Stop.{Stop}
use Rattle.mw_causes.specs.declared.stop.Stop.TheVariants.{Fault, Memory, Refused}
use Rattle.mw_causes.specs.declared.generate_cause.GenerateCause.{GenerateCause}
use Rattle.mw_clock.specs.Clockwork.{clockwork, players}
use Rattle.mw_clock.specs.Tables.{world_text, players_text}
use Rattle.mw_clock.specs.Words.{TableWords}

-- the texts stand for the world of so many gears and for its player
pub record AreTables (asked : TableWords) (world played : List ℕ) : Type 0 where
  pub world_is : world ≡ world_text asked.gears
  pub players_are : played ≡ players_text asked.world_name
  pub stands_for_world : WorldOf world (Ok (clockwork asked.gears))
  pub stands_for_players : PlayersOf played (Ok (players asked.world_name))

-- each file but these two is as it was
abbrev pub SameButBoth : TableWords → Files → Files → Type 0
SameButBoth asked before after =
    (n : List ℕ) → n ≢ asked.world_name → n ≢ asked.players_name → after n ≡ before n

-- the two files hold these texts
pub record HasBoth (wrote : Wrote) (asked : TableWords) (world played : List ℕ) : Type 0 where
  pub world_written : HasFile wrote asked.world_name world
  pub players_written : HasFile wrote asked.players_name played

-- what is printed
abbrev pub tables_made : List ℕ
tables_made = codes "tables made\n"

-- memory may run out, and nothing else stops it before it writes
abbrev pub IsUntabled : Stop GenerateCause → Type 0
IsUntabled Fault = ⊥
IsUntabled Memory = ⊤
IsUntabled (Refused cause) = ⊥

-- both files are written and a front of the text is put; or a write was refused, and nothing is put
pub record WritesSomeTables (wrote : Wrote) (asked : TableWords)
    (old new : Option (List ℕ)) : Type 0 where
  pub world : List ℕ
  pub played : List ℕ
  pub are : AreTables asked world played
  pub others : SameButBoth asked wrote.before wrote.after
  pub left : (HasBoth wrote asked world played × PutsFront old new tables_made)
      ⊎ (Rose wrote.refused_before wrote.refused_after × Keeps old new)

-- both files were written, and just the text was put
pub record AreWritten (wrote : Wrote) (asked : TableWords)
    (old new : Option (List ℕ)) : Type 0 where
  pub world : List ℕ
  pub played : List ℕ
  pub are : AreTables asked world played
  pub others : SameButBoth asked wrote.before wrote.after
  pub written : HasBoth wrote asked world played
  pub put : Appends old new tables_made

-- how `tables` ended with a status, with what the out sink held and how often it failed
abbrev pub TablesEnd : ℕ → Wrote → TableWords → Told → Told → Type 0
TablesEnd status wrote asked out told =
    Ends generate_status generate_line IsUntabled (Untouched wrote out.old out.new)
    (WritesSomeTables wrote asked out.old out.new) (HasFailed wrote out)
    (AreWritten wrote asked out.old out.new) status told
