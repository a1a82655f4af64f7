-- Files of which a crash might have left more at first.
use Rattle.std.proofs.Common.{ℕ, List, Bool, Option}
use Rattle.mw_disk.specs.Crash.{Stays}
use Rattle.mw_protocol.specs.Records.{Record}
use Rattle.mw_checkpoint.specs.Checkpointing.{AreSettled}
use Rattle.mw_checkpoint.specs.Pair.{other_of}
use Rattle.mw_pair.specs.Choosing.{IsOpenedRoom, IsUnplayed}
use Rattle.mw_pair.specs.Folders.{IsOpenedAtMost}
use Rattle.mw_pair.specs.Making.{BytesStay}
use Rattle.mw_pair.specs.Names.{file_names, journal_name}
use Rattle.mw_pair.specs.Thinning.{KeepAllowed, KeepSettled, bytes_in}
use Rattle.mw_pair.specs.declared.choosing.Chosen.{Chosen}
use Rattle.mw_pair.proofs.Lifted.{fewer_stand}

module _ (holds : List ℕ → Option (Option (List ℕ))) (first second : List ℕ → List ℕ → Type 0) (fewer : (n : List ℕ) → Stays (first n) (second n)) (choice digest : List ℕ) where
  settled_since : (allowed : List (List Record)) → AreSettled (bytes_in holds) first digest (file_names choice) allowed → AreSettled (bytes_in holds) second digest (file_names choice) allowed
  settled_since allowed s = record {
    bytes = s.bytes;
    tells = s.tells;
    stand = fewer_stand first second digest allowed (file_names choice) (file_names choice) (fewer choice) (λ n. fewer (journal_name choice n)) s.stand;
  }

  pub keep_since : (left : List ℕ → List ℕ → Type 0) → KeepAllowed holds second left choice digest → KeepAllowed holds first left choice digest
  keep_since left keeps allowed s = keeps allowed (settled_since allowed s)

  pub settle_since : (left : List ℕ → List ℕ → Type 0) → KeepSettled holds second left choice digest → KeepSettled holds first left choice digest
  settle_since left keeps allowed s some = keeps allowed (settled_since allowed s) some

  pub bytes_since : (later : List ℕ → Option (Option (List ℕ))) (left : List ℕ → List ℕ → Type 0) → BytesStay holds later second left choice → BytesStay holds later first left choice
  bytes_since later left stays n one byte = let s = stays n one byte in (s.0, λ c image. fewer n c (s.1 c image))

  most_since : {before after : Option (Option (List ℕ))} {left : List ℕ → Type 0} {was is : Bool} (n : List ℕ) → IsOpenedAtMost before after (second n) left was is → IsOpenedAtMost before after (first n) left was is
  most_since n m = record { told = m.told; crash = λ c image. fewer n c (m.crash c image); opened = m.opened }

  pub unplayed_since : (later : List ℕ → Option (Option (List ℕ))) (left : List ℕ → List ℕ → Type 0) (was is : List ℕ → Bool) → IsUnplayed holds later second left was is choice digest
      → IsUnplayed holds later first left was is choice digest
  unplayed_since later left was is u = record {
    settled = λ text body settled c image. u.settled text body (λ x i. settled x (fewer choice x i)) c image;
    tells = u.tells;
    opened = u.opened;
    journals = λ number. most_since (journal_name choice number) (u.journals number);
  }

  pub room_since : {D : Type 0} (told : D → Option (List ℕ)) (may_leave : D → List ℕ → Type 0) (faults : D → ℕ) (room : Chosen D) → IsOpenedRoom told may_leave faults holds second choice digest room
      → IsOpenedRoom told may_leave faults holds first choice digest room
  room_since told may_leave faults room o = record {
    names = record {
      text = o.names.text;
      names = o.names.names;
      one = λ f front body is settled. o.names.one f front body is (λ c image. settled c (fewer choice c image));
      choices = o.names.choices;
      last = o.names.last;
    };
    journal = record { tells = o.journal.tells; left = λ c image. fewer (journal_name choice room.named) c (o.journal.left c image); fresh = o.journal.fresh };
    other = record { tells = o.other.tells; left = λ c image. fewer (journal_name choice (other_of room.named)) c (o.other.left c image); fresh = o.other.fresh };
    settled = λ text body settled c image. o.settled text body (λ x i. settled x (fewer choice x i)) c image;
    chosen = o.chosen;
    tells = o.tells;
  }
