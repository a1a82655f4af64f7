-- A room that was never begun.
use Rattle.std.proofs.Common.{◌≡◌, ℕ, List, [], Option, Some, Bool, codes, refl, inl, inr}
use Rattle.std.proofs.KnownBytes.{Keeps-refl}
use Rattle.mw_causes.specs.Ends.{IsTold, Told}
use Rattle.mw_causes.specs.Tables.{Files}
use Rattle.mw_causes.specs.declared.stop.Stop.TheVariants as stop
use Rattle.mw_link.specs.declared.link.Heard.{Heard}
use Rattle.mw_multidata.specs.Digest.{digest_of}
use Rattle.mw_offline.specs.FilesAround.{files_around}
use Rattle.mw_offline.proofs.Driving.{same_folder, unmoved_leaves}
use Rattle.mw_session.specs.declared.served.Served.{Served}
use Rattle.mw_words.specs.declared.command_line.ServeWords.{ServeWords}
use Rattle.mw_serve.specs.Serving.{ServeEnds}
use Rattle.mw_serve.proofs.Sending.{none_keeps}

-- memory ran out before a folder, a gate or an out sink was touched
module _ {T D : Type 0} (heard_by : T → List Heard) (sent_by : T → List (List ℕ)) (line_faults : T → ℕ) (opened_at : T → ℕ) (is_shut : T → Bool) (may_leave : D → List ℕ → Type 0)
    {F : Type 0} (holds : F → Files) (images : F → List ℕ → List ℕ → Type 0) (opened : F → List ℕ → Bool) (may_fail : F → Bool) (faults : F → ℕ)
  where
    pub unstarted_serve : (folder : F) (named : ServeWords) (held : Option (List ℕ)) (count : ℕ) (told : Told) (status : ℕ) (served : List (List (Served T))) → served ≡ []
        → status ≡ 6 → IsTold told (codes "no memory\n")
        → ServeEnds heard_by sent_by line_faults opened_at is_shut may_leave status (files_around holds images opened may_fail faults folder folder) named served (record { old = held; new = held; before = count; now = count }) told
    unstarted_serve folder named held count told status served none is_status line = record {
      ends = inr (
        stop.Memory,
        inl record {
          seed_stop = stop.Memory;
          is = refl;
          cause = tt;
          none = none;
          quiet = Keeps-refl held;
          files_stay = (same_folder holds images opened may_fail faults folder).each;
        },
        record { named = stop.Memory; is = inl refl; is_status = is_status; line = line },
      );
      leaves = unmoved_leaves (files_around holds images opened may_fail faults folder folder) (same_folder holds images opened may_fail faults folder) (Some named.journal);
      kept = λ bytes seed was is. none_keeps sent_by (files_around holds images opened may_fail faults folder folder) named.journal (digest_of bytes) seed served none (λ c image. image);
    }
