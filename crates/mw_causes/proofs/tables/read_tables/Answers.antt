use Rattle.std.proofs.Common.{◌≡◌, length, subst, ap, ◌∙◌}
use Rattle.mw_multi.specs.Files.{world_files}
use Rattle.mw_causes.specs.Tables.{Files, max_world_files, WorldsOf, HasTableCause}
use Rattle.mw_causes.proofs.Endings.{passed_exit}
use Rattle.mw_causes.proofs.Reading.{as_many_worlds, worlds_cause}
use Rattle.mw_causes.proofs.tables.read_tables.Goals as goal

pub returns-in_err-worlds-clause-err : goal.returns-in_err-worlds-clause-err
returns-in_err-worlds-clause-err g c =
    let files = g.F.Folder.holds c.args.folder.now in
    let read = c.in_ok-players.ensures.ok in
    let r = c.from_residual-in_err-worlds in
    passed_exit (HasTableCause files (g.F.Folder.may_fail c.args.folder.now) c.args.name.now) r.result _
    (worlds_cause files (g.F.Folder.holds c.players_in.new.folder) (g.F.Folder.may_fail c.args.folder.now) (g.F.Folder.may_fail c.players_in.new.folder) c.args.name.now read.0 c.in_ok-players.players c.as_slice.result.now _ c.in_ok-players.ensures.same c.in_ok-players.ensures.sound (c.as_slice.ensures ∙ c.in_ok-files.ensures)
    read.1 read.2 c.in_err-worlds.ensures.err) r.ensures.1

pub returns-clause-ok : goal.returns-clause-ok
returns-clause-ok g c =
    let files = g.F.Folder.holds c.args.folder.now in
    let later = g.F.Folder.holds c.players_in.new.folder in
    let read = c.in_ok-players.ensures.ok in
    let there : later ≡ files = λ i n. c.in_ok-players.ensures.same n i in
    let of_names = subst (λ ns. WorldsOf later max_world_files ns c.in_ok-worlds.worlds) (c.as_slice.ensures ∙ c.in_ok-files.ensures) c.in_ok-worlds.ensures.ok in
    record {
      bytes = read.0;
      is_file = read.1;
      are_players = read.2;
      are_worlds = subst (λ (fs : Files). WorldsOf fs max_world_files (world_files c.in_ok-players.players) c.in_ok-worlds.worlds) there of_names;
    }

pub returns-clause-number : goal.returns-clause-number
returns-clause-number g c =
    as_many_worlds _ max_world_files _ c.in_ok-worlds.worlds c.in_ok-worlds.ensures.ok ∙ ap length c.as_slice.ensures ∙ ap length c.in_ok-files.ensures
