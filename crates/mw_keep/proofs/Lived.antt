-- How a kept room's life goes on.
use Rattle.std.proofs.Common.{◌≡◌, ◌⊎◌, ◌<◌, ◌≤◌, ◌++◌, ◌∷◌, [], ℕ, List, IsTrue, Option, length, refl, sym, subst, ap, ◌∙◌, inl, inr, le_refl, true≢false}
use Rattle.std.specs.List.{list_any}
use Rattle.std.specs.Option.{is_some}
use Rattle.std.proofs.Math.Seq.{drop-length, take-length}
use Rattle.mw_model.specs.Seed.{Seed}
use Rattle.mw_protocol.specs.Lives.{Life, Luck, fine, lacking, faulty, life_after, new_life, reply_to}
use Rattle.mw_protocol.specs.Records.{Record}
use Rattle.mw_protocol.specs.Rooms.{Room as Plain, replayed}
use Rattle.mw_protocol.specs.Spelled.{records_bytes}
use Rattle.mw_journal.specs.Journal.{disk_of}
use Rattle.mw_room.specs.Represents.{Represents}
use Rattle.mw_keep.specs.Holds.{AreRecords, IsSafe}
use Rattle.mw_keep.specs.Keeps.{IsFresh, Keeps, committed_by, journal_of, kept_disk, room_of}
use Rattle.mw_keep.specs.Standing.{HasLived, Replied, is_faulty, lived}
use Rattle.mw_keep.specs.Views.{call_view, reply_view}
use Rattle.mw_keep.specs.declared.call.Call.{Call}
use Rattle.mw_keep.specs.declared.kept.KeptRoom.{KeptRoom}
use Rattle.mw_keep.specs.declared.reply.Reply.{Reply}

module _ (call : Call) (reply : Reply) (luck : Luck) where
  -- one call more
  pub lived_more : (life : Life) (past : List (Call × Reply)) (lucks : List Luck) → Replied life past lucks
      → lived life (past ++ (call, reply) ∷ []) (lucks ++ luck ∷ []) ≡ life_after (lived life past lucks) (call_view call) luck
  lived_more life [] [] all = refl
  lived_more life [] (l ∷ ls) all = absurd all
  lived_more life (c ∷ cs) [] all = absurd all
  lived_more life (c ∷ cs) (l ∷ ls) all = lived_more (life_after life (call_view c.0) l) cs ls all.1

  pub replied_more : (life : Life) (past : List (Call × Reply)) (lucks : List Luck) → Replied life past lucks
      → reply_view reply ≡ reply_to (lived life past lucks) (call_view call) luck
      → Replied life (past ++ (call, reply) ∷ []) (lucks ++ luck ∷ [])
  replied_more life [] [] all due = (due, tt)
  replied_more life [] (l ∷ ls) all due = absurd all
  replied_more life (c ∷ cs) [] all due = absurd all
  replied_more life (c ∷ cs) (l ∷ ls) all due = (all.0, replied_more (life_after life (call_view c.0) l) cs ls all.1 due)

-- a fault among some strokes of luck and one more is one of those or this one
pub fault_more : (lucks : List Luck) (luck : Luck) → IsTrue (list_any is_faulty (lucks ++ luck ∷ [])) → (IsTrue (list_any is_faulty lucks)) ⊎ (luck ≡ faulty)
fault_more [] fine h = absurd (true≢false (sym h))
fault_more [] lacking h = absurd (true≢false (sym h))
fault_more [] faulty h = inr refl
fault_more (fine ∷ ls) luck h = fault_more ls luck h
fault_more (lacking ∷ ls) luck h = fault_more ls luck h
fault_more (faulty ∷ ls) luck h = inl refl

-- a room whose life begins with all of its records committed
module _ {D : Type 0} (may_leave : D → List ℕ → Type 0) (digest : List ℕ) (seed : Seed) (journal : List Record) (place : ℕ) (k : KeptRoom D) (fresh : IsFresh k)
    (counts : (r : Plain) → Represents (room_of k) r → committed_by k ≡ length r.journal)
  where
    pub new_keeps : Represents (room_of k) (replayed seed journal) → AreRecords journal → IsSafe may_leave digest journal place (journal_of k)
        → Keeps may_leave digest (new_life seed journal place) k
    new_keeps stands records safe = record {
      room = stands;
      records = records;
      within = le_refl (length journal);
      holds = inl (subst (λ rs. IsSafe may_leave digest rs place (journal_of k)) (sym (take-length journal)) safe);
      pending = fresh.pending ∙ sym (ap records_bytes (drop-length journal));
      committed = counts (replayed seed journal) stands;
      stopped = fresh.stopped;
      calls = fresh.calls;
    }

-- a room whose life begins has had no calls
pub fresh_lived : {D : Type 0} (may_leave : D → List ℕ → Type 0) (told : D → Option (List ℕ)) (faults : D → ℕ) (k : KeptRoom D) → IsFresh k → ((r : Plain) → Represents (room_of k) r → committed_by k ≡ length r.journal)
    → HasLived may_leave told faults k []
fresh_lived may_leave told faults k fresh counts digest seed journal place began = record {
  lucks = [];
  replied = tt;
  keeps = new_keeps may_leave digest seed journal place k fresh counts
      (subst (λ r. Represents r (replayed seed journal)) (sym fresh.room) began.room) began.records
      (subst (λ j. IsSafe may_leave digest journal place j) (sym fresh.journal) began.journal_holds);
  later = subst (λ j. faults (disk_of j) ≤ faults (kept_disk k)) fresh.journal (le_refl (faults (kept_disk k)));
  fault = λ h. absurd (true≢false (sym h));
  tells = ap (λ j. is_some (told (disk_of j))) fresh.journal;
}
