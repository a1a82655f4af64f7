-- Files that are read one after another.
use Rattle.std.proofs.Common.{◌≡◌, ◌⊎◌, inl, inr, ℕ, suc, ◌-◌, List, [], ◌∷◌, length, Ok, Bool, Option, sym, subst, ap, ◌∙◌}
use Rattle.std.specs.Prelude.{IsTrue}
use Rattle.mw_edges.specs.Folders.{GivesFile}
use Rattle.mw_edges.specs.declared.folder.FileRead.TheVariants.{Whole}
use Rattle.mw_multi.specs.World.{World}
use Rattle.mw_multi.specs.Players.{Players}
use Rattle.mw_multi.specs.Files.{world_files}
use Rattle.mw_multi.specs.declared.refusal.JointRefusal.{JointRefusal}
use Rattle.mw_tables.specs.PlayersOf.{PlayersOf}
use Rattle.mw_causes.specs.Tables.{Files, max_table_file, max_world_files, world_limit, WorldsOf, IsWorldStopped, AreWorldsStopped, AreTablesStopped, HasTableCause}
use Rattle.mw_causes.specs.declared.stop.Stop.{Stop}
use Rattle.mw_causes.specs.declared.stop.Stop.TheVariants.{Fault, Memory, Refused}
use Rattle.mw_causes.specs.declared.table_cause.TableCause.{TableCause}
use Rattle.mw_causes.specs.declared.table_cause.TableCause.TheVariants.{TooLong, File, Joined}
use Rattle.mw_causes.proofs.Unread.{world_before, worlds_before}

-- ---- causes

-- no reading of files stops since tables can't be joined
worlds_unjoined : (files : Files) (may_fail : Bool) (left : ℕ) (names : List (List ℕ)) (refusal : JointRefusal) → AreWorldsStopped files may_fail left names (Refused (Joined refusal)) → ⊥
worlds_unjoined files may_fail left [] refusal h = h
worlds_unjoined files may_fail left (name ∷ names) refusal (inl (inl h)) = h
worlds_unjoined files may_fail left (name ∷ names) refusal (inl (inr h)) = h.2
worlds_unjoined files may_fail left (name ∷ names) refusal (inr h) = worlds_unjoined files may_fail (left - length h.0) names refusal h.4

tables_unjoined : (files : Files) (may_fail : Bool) (name : List ℕ) (refusal : JointRefusal) → AreTablesStopped files may_fail name (Refused (Joined refusal)) → ⊥
tables_unjoined files may_fail name refusal (inl (inl h)) = h
tables_unjoined files may_fail name refusal (inl (inr h)) = h.2
tables_unjoined files may_fail name refusal (inr h) = worlds_unjoined files may_fail _ _ refusal h.4

-- why files give no tables is why there is no joint
pub stopped_cause : (files : Files) (may_fail : Bool) (name : List ℕ) (stop : Stop TableCause) → AreTablesStopped files may_fail name stop → HasTableCause files may_fail name stop
stopped_cause files may_fail name Fault h = h
stopped_cause files may_fail name Memory h = tt
stopped_cause files may_fail name (Refused (TooLong file)) h = h
stopped_cause files may_fail name (Refused (File file kind path)) h = h
stopped_cause files may_fail name (Refused (Joined refusal)) h = absurd (tables_unjoined files may_fail name refusal h)

pub unread_cause : (files : Files) (may_fail : Bool) (name : List ℕ) (stop : Stop TableCause) → (stop ≡ Memory) ⊎ AreTablesStopped files may_fail name stop → HasTableCause files may_fail name stop
unread_cause files may_fail name stop (inl e) = subst (HasTableCause files may_fail name) (sym e) tt
unread_cause files may_fail name stop (inr h) = stopped_cause files may_fail name stop h

-- the same of the world files that players name, which were read after their file
pub worlds_cause : (files later : Files) (may_fail may_later : Bool) (name bytes : List ℕ) (players : Players) (names : List (List ℕ)) (stop : Stop TableCause) → ((n : List ℕ) → later n ≡ files n) → (IsTrue may_later → IsTrue may_fail)
    → names ≡ world_files players → GivesFile (files name) max_table_file (Whole bytes) → PlayersOf bytes (Ok players) → (stop ≡ Memory) ⊎ AreWorldsStopped later may_later max_world_files names stop → HasTableCause files may_fail name stop
worlds_cause files later may_fail may_later name bytes players names stop same sound named file is (inl e) = unread_cause files may_fail name stop (inl e)
worlds_cause files later may_fail may_later name bytes players names stop same sound named file is (inr h) =
    let before : AreWorldsStopped later may_fail max_world_files names stop = worlds_before may_later may_fail sound later max_world_files names stop h in
    let there : later ≡ files = λ i n. same n i in
    let of_names : AreWorldsStopped later may_fail max_world_files (world_files players) stop = subst (λ ns. AreWorldsStopped later may_fail max_world_files ns stop) named before in
    unread_cause files may_fail name stop (inr (inr (bytes, players, file, is, subst (λ (fs : Files). AreWorldsStopped fs may_fail max_world_files (world_files players) stop) there of_names)))

-- a world file gives no world, behind others that gave theirs
pub worlds_stopped : (files : Files) (told : Option (Option (List ℕ))) (may_fail may_later : Bool) (left : ℕ) (all rest names : List (List ℕ)) (name : List ℕ) (stop : Stop TableCause) → told ≡ files name → (IsTrue may_later → IsTrue may_fail)
    → rest ≡ name ∷ names → (AreWorldsStopped files may_fail left rest stop → AreWorldsStopped files may_fail max_world_files all stop) → IsWorldStopped told may_later (world_limit left) name stop
    → (stop ≡ Memory) ⊎ AreWorldsStopped files may_fail max_world_files all stop
worlds_stopped files told may_fail may_later left all rest names name stop same sound next before h =
    let here : IsWorldStopped (files name) may_fail (world_limit left) name stop = subst (λ t. IsWorldStopped t may_fail (world_limit left) name stop) same (world_before may_later may_fail sound told (world_limit left) name stop h) in
    inr (before (subst (λ ns. AreWorldsStopped files may_fail left ns stop) (sym next) (inl here)))

-- ---- as many worlds as files

pub as_many_worlds : (files : Files) (left : ℕ) (names : List (List ℕ)) (worlds : List World) → WorldsOf files left names worlds → length worlds ≡ length names
as_many_worlds files left [] worlds h = ap length h
as_many_worlds files left (name ∷ names) worlds h =
    ap length h.3 ∙ ap suc (as_many_worlds files (left - length h.0) names h.2 h.6)
