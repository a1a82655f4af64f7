-- Files that hold the tables are joined to the joint of `Clockwork`.
use Rattle.std.proofs.Common.{◌≡◌, ℕ, List, [], ◌∷◌, Option, Some, Ok, sym, ap₂, ◌∙◌, subst}
use Rattle.mw_edges.specs.Folders.{GivesFile}
use Rattle.mw_edges.specs.declared.folder.FileRead.TheVariants.{Whole}
use Rattle.mw_multi.specs.World.{World}
use Rattle.mw_multi.specs.Players.{Players}
use Rattle.mw_multi.specs.Files.{world_files}
use Rattle.mw_tables.specs.WorldOf.{WorldOf, world_at}
use Rattle.mw_tables.specs.PlayersOf.{players_at}
use Rattle.mw_causes.specs.Tables.{Files, world_limit, max_table_file, max_world_files, WorldsOf}
use Rattle.mw_causes.proofs.OneMeaning.{one_value}
use Rattle.mw_clock.specs.Clockwork.{clockwork, players}
use Rattle.mw_clock.specs.Laws.{TablesJoin}
use Rattle.mw_clock.specs.Seeds.{IsClockJoint}
use Rattle.mw_clock.proofs.Joints.{joined}
use Rattle.mw_clock.proofs.Seeded.{joint_is}

content : (file : Option (Option (List ℕ))) (limit : ℕ) (told bytes : List ℕ) → file ≡ Some (Some told) → GivesFile file limit (Whole bytes) → bytes ≡ told
content file limit told bytes is given = let h = subst (λ f. GivesFile f limit (Whole bytes)) is given in h.0

one_world : (files : Files) (name world : List ℕ) (w : World) (worlds : List World) → files name ≡ Some (Some world) → WorldOf world (Ok w) → WorldsOf files max_world_files (name ∷ []) worlds → worlds ≡ w ∷ []
one_world files name world w worlds told stands (bytes, v, vs, is, given, read, none) =
    let same : bytes ≡ world = content (files name) (world_limit max_world_files) world bytes told given in
    is ∙ ap₂ ◌∷◌ (one_value world_at bytes world v w same read stands) none

pub tables_join : TablesJoin
tables_join files asked world played joint size are told_world told_players made =
    let t = made.tables in
    let same : t.bytes ≡ played = content (files asked.players_name) max_table_file played t.bytes told_players t.is_file in
    let players_are : made.players ≡ players asked.world_name = one_value players_at t.bytes played made.players (players asked.world_name) same t.are_players are.stands_for_players in
    let found = subst (λ (ps : Players). WorldsOf files max_world_files (world_files ps) made.worlds) players_are t.are_worlds in
    let worlds_are : made.worlds ≡ clockwork asked.gears ∷ [] = one_world files asked.world_name world (clockwork asked.gears) made.worlds told_world are.stands_for_world found in
    let is = joint_is asked.gears asked.world_name made.worlds made.players joint size worlds_are players_are made.joined in
    subst (IsClockJoint asked.gears) (sym is) (joined asked.gears size)
