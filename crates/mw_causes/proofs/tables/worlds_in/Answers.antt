use Rattle.std.proofs.Common.{◌≡◌, ◌⊎◌, ◌+◌, ◌-◌, List, [], ◌∷◌, ◌++◌, drop, refl, sym, ap, ◌∙◌, subst, inr, arith, append_assoc, append-nil}
use Rattle.std.proofs.lemmas.List.{drop_all}
use Rattle.mw_edges.specs.Folders.{GivesFile}
use Rattle.mw_edges.specs.declared.folder.FileRead.TheVariants.{Whole}
use Rattle.mw_multi.specs.World.{World}
use Rattle.mw_causes.specs.Tables.{max_world_files, world_limit, WorldsOf, AreWorldsStopped}
use Rattle.mw_causes.specs.declared.stop.Stop.TheVariants.{Memory}
use Rattle.mw_seeds.proofs.Pushed.{drop_next}
use Rattle.mw_causes.proofs.Endings.{passed_exit}
use Rattle.mw_causes.proofs.Reading.{worlds_stopped}
use Rattle.mw_causes.proofs.tables.worlds_in.Goals as goal

pub loop-file-preserved : goal.loop-file-preserved
loop-file-preserved g c =
    let l = c.loop-file in
    let files = g.F.Folder.holds c.args.folder.now in
    let may_fail = g.F.Folder.may_fail c.args.folder.now in
    let name = c.file-item.result in
    let r = c.in_ok-read.read in
    let read = c.in_ok-read.ensures.ok in
    let rest = drop (l.file-index + 1) c.args.files.now in
    let next : drop l.file-index c.args.files.now ≡ name ∷ rest = drop_next c.args.files.now l.file-index name c.loop-file-test.true c.file-item.is in
    let is_file : GivesFile (files name) (world_limit l.left) (Whole read.0) = subst (λ told. GivesFile told (world_limit l.left) (Whole read.0)) (l.invariant.same name) read.2 in
    let grown : c.push.new.self ≡ l.worlds ++ r.world ∷ [] = c.in_ok-push.ensures.ok in record {
      worlds = λ ws h. subst (λ (worlds : List World). WorldsOf files max_world_files c.args.files.now worlds)
          (sym (append_assoc l.worlds (r.world ∷ []) ws) ∙ ap (λ front. front ++ ws) (sym grown))
          (l.invariant.worlds (r.world ∷ ws) (subst (λ names. WorldsOf files l.left names (r.world ∷ ws)) (sym next)
          (read.0, r.world, ws, refl, is_file, read.3, subst (λ n. WorldsOf files (l.left - n) rest ws) read.1 h)));
      stopped = λ stop h. l.invariant.stopped stop (subst (λ names. AreWorldsStopped files may_fail l.left names stop) (sym next)
          (inr (read.0, r.world, is_file, read.3, subst (λ n. AreWorldsStopped files may_fail (l.left - n) rest stop) read.1 h)));
      same = λ n. c.in_ok-read.ensures.same n ∙ l.invariant.same n;
      later = omega (arith, l.invariant.later, c.in_ok-read.ensures.later);
      sound = λ may. l.invariant.sound (c.in_ok-read.ensures.sound may);
      unrefused = c.in_ok-read.ensures.unrefused ∙ l.invariant.unrefused;
    }

pub returns-clause-ok : goal.returns-clause-ok
returns-clause-ok g c =
    let l = c.loop-file in
    let files = g.F.Folder.holds c.args.folder.now in
    let none : drop l.file-index c.args.files.now ≡ [] = drop_all l.file-index c.args.files.now c.loop-file-test.false in
    subst (λ (worlds : List World). WorldsOf files max_world_files c.args.files.now worlds) (append-nil l.worlds)
    (l.invariant.worlds [] (subst (λ names. WorldsOf files l.left names []) (sym none) refl))

pub returns-in_err-read-clause-err : goal.returns-in_err-read-clause-err
returns-in_err-read-clause-err g c =
    let l = c.loop-file in
    let files = g.F.Folder.holds c.args.folder.now in
    let may_fail = g.F.Folder.may_fail c.args.folder.now in
    let name = c.file-item.result in
    passed_exit (λ stop. (stop ≡ Memory) ⊎ AreWorldsStopped files may_fail max_world_files c.args.files.now stop) c.from_residual.result _
    (worlds_stopped files (g.F.Folder.holds l.folder name) may_fail (g.F.Folder.may_fail l.folder) l.left c.args.files.now (drop l.file-index c.args.files.now) (drop (l.file-index + 1) c.args.files.now) name _
    (l.invariant.same name) l.invariant.sound (drop_next c.args.files.now l.file-index name c.loop-file-test.true c.file-item.is) (l.invariant.stopped _) c.in_err-read.ensures.err)
    c.from_residual.ensures.1
