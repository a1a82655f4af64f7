-- What a crash leaves of a life's records, and the life that goes on from it.
use mathlib.Core.List.{IsPrefix}
use Rattle.std.proofs.Common.{◌≡◌, ◌⊎◌, ◌≤◌, ◌+◌, ◌++◌, ◌∷◌, [], ℕ, List, length, take, drop, inl, inr, refl, sym, ap, subst, ◌∙◌, arith}
use Rattle.std.specs.Prelude.{IsTrue}
use Rattle.std.proofs.Math.Seq.{take-add, take-append_seam}
use Rattle.std.proofs.lemmas.Bool.{and_from, and_parts}
use Rattle.std.proofs.lemmas.List.{take-append-drop}
use Rattle.mw_disk.specs.Crash.{LeavesOnly}
use Rattle.mw_model.specs.Seed.{Seed}
use Rattle.mw_protocol.specs.Lives.{Life, committed_of, left_by, life_anew, new_life, pending_of}
use Rattle.mw_protocol.specs.Named.{are_named, is_named}
use Rattle.mw_protocol.specs.Records.{Record}
use Rattle.mw_protocol.specs.Spelled.{records_bytes}
use Rattle.mw_journal.specs.Journal.{state_of}
use Rattle.mw_journal.specs.Settled.{AllSettled, AllShut, IsSettled}
use Rattle.mw_journal.specs.declared.state.JournalState.TheVariants.{Whole}
use Rattle.mw_keep.specs.Entered.{AreSound}
use Rattle.mw_keep.specs.Holds.{AreRecords, Holds}
use Rattle.mw_keep.specs.Keeps.{Keeps, journal_of, kept_disk}
use Rattle.mw_keep.specs.Left.{IsLeft}
use Rattle.mw_keep.specs.declared.kept.KeptRoom.{KeptRoom}

-- ---- records

front_records : (xs ys : List Record) → AreRecords (xs ++ ys) → AreRecords xs
front_records [] ys h = tt
front_records (x ∷ xs) ys h = (h.0, front_records xs ys h.1)

back_records : (xs ys : List Record) → AreRecords (xs ++ ys) → AreRecords ys
back_records [] ys h = h
back_records (x ∷ xs) ys h = back_records xs ys h.1

front_named : (seed : Seed) (xs ys : List Record) → IsTrue (are_named seed (xs ++ ys)) → IsTrue (are_named seed xs)
front_named seed [] ys h = refl
front_named seed (x ∷ xs) ys h =
    let parts = and_parts (is_named seed x) (are_named seed (xs ++ ys)) h in
    and_from (is_named seed x) (are_named seed xs) parts.0 (front_named seed xs ys parts.1)

back_named : (seed : Seed) (xs ys : List Record) → IsTrue (are_named seed (xs ++ ys)) → IsTrue (are_named seed ys)
back_named seed [] ys h = h
back_named seed (x ∷ xs) ys h = back_named seed xs ys (and_parts (is_named seed x) (are_named seed (xs ++ ys)) h).1

module _ (life : Life) where
  both : committed_of life ++ pending_of life ≡ life.room.journal
  both = take-append-drop life.committed life.room.journal

  pub committed_records : AreRecords life.room.journal → AreRecords (committed_of life)
  committed_records h = front_records (committed_of life) (pending_of life) (subst AreRecords (sym both) h)

  pub pending_records : AreRecords life.room.journal → AreRecords (pending_of life)
  pending_records h = back_records (committed_of life) (pending_of life) (subst AreRecords (sym both) h)

  pub first_records : (batch : List Record) → IsPrefix batch (pending_of life) → AreRecords life.room.journal → AreRecords batch
  first_records batch first h = front_records batch first.0 (subst AreRecords (sym first.1) (pending_records h))

  module _ (seed : Seed) (h : AreSound seed life.room.journal) where
    pub committed_sound : AreSound seed (committed_of life)
    committed_sound = record {
      spelled = committed_records h.spelled;
      named = front_named seed (committed_of life) (pending_of life) (subst (λ rs. IsTrue (are_named seed rs)) (sym both) h.named);
    }

    pub first_sound : (batch : List Record) → IsPrefix batch (pending_of life) → AreSound seed batch
    first_sound batch first = record {
      spelled = first_records batch first h.spelled;
      named = front_named seed batch first.0 (subst (λ rs. IsTrue (are_named seed rs)) (sym first.1)
          (back_named seed (committed_of life) (pending_of life) (subst (λ rs. IsTrue (are_named seed rs)) (sym both) h.named)));
    }

  -- ---- the life that goes on

  -- what is committed, or this and the first that are pending, is what some crash leaves
  pub left_so : (batch journal : List Record) → IsPrefix batch (pending_of life) → (journal ≡ committed_of life) ⊎ (journal ≡ committed_of life ++ batch) → (more : ℕ) × (journal ≡ left_by life more)
  left_so batch journal first (inl is) = (0, is ∙ ap (λ n. take n life.room.journal) none)
    where
      none : life.committed ≡ life.committed + 0
      none = omega arith
  left_so batch journal first (inr is) = (
    length batch,
    is ∙ ap (λ rs. committed_of life ++ rs) (sym (take-append_seam batch first.0) ∙ ap (take (length batch)) first.1) ∙ sym (take-add life.committed (length batch) life.room.journal),
  )

  pub anew_so : (seed : Seed) (batch journal : List Record) (place : ℕ) → life.room.seed ≡ seed → IsPrefix batch (pending_of life) → (journal ≡ committed_of life) ⊎ (journal ≡ committed_of life ++ batch)
      → (more : ℕ) × (new_life seed journal place ≡ life_anew life more place)
  anew_so seed batch journal place same first either =
      let h = left_so batch journal first either in
      (h.0, ap (λ s. new_life s journal place) (sym same) ∙ ap (λ rs. new_life life.room.seed rs place) h.1)

-- ---- images

module _ {D : Type 0} (may_leave : D → List ℕ → Type 0) (digest : List ℕ) (life : Life) (k : KeptRoom D) (keeps : Keeps may_leave digest life k) where
  -- of a whole journal each image stands for just what is committed
  pub shut_of : state_of (journal_of k) ≡ Whole → AllShut (may_leave (kept_disk k)) digest (records_bytes (committed_of life)) life.place
  shut_of whole = by keeps.holds
    where
      by : Holds may_leave digest (committed_of life) (pending_of life) life.place life.stopped (journal_of k) → AllShut (may_leave (kept_disk k)) digest (records_bytes (committed_of life)) life.place
      by (inl safe) = subst (AllShut (may_leave (kept_disk k)) digest (records_bytes (committed_of life))) safe.here safe.stands.1
      by (inr broken) = absurd (broken.broken whole)

  -- what a crash may leave of it
  pub left_of : IsLeft (may_leave (kept_disk k)) digest life
  left_of = by keeps.holds
    where
      by : Holds may_leave digest (committed_of life) (pending_of life) life.place life.stopped (journal_of k) → IsLeft (may_leave (kept_disk k)) digest life
      by (inl safe) = record { records = keeps.records; batch = []; first = (pending_of life, refl); settled = λ c image. inl (_, safe.stands.1 c image) }
      by (inr broken) = record { records = keeps.records; batch = broken.batch; first = broken.first; settled = broken.settled }

-- what a call leaves that leaves settled images so is left as before
pub left_after : {D : Type 0} (may_leave : D → List ℕ → Type 0) (moment : D → ℕ) (left_since : D → ℕ → List ℕ → Type 0)
    → ((d : D) (t : ℕ) (c : List ℕ) → t ≤ moment d → may_leave d c → left_since d t c)
    → (digest : List ℕ) (life : Life) (before after : D) → IsLeft (may_leave before) digest life
    → ((text body : List ℕ) → AllSettled (may_leave before) digest text body → LeavesOnly moment left_since before after (λ c. IsSettled c digest text body))
    → IsLeft (may_leave after) digest life
left_after may_leave moment left_since counts digest life before after left leaves =
    let only = leaves (records_bytes (committed_of life)) (records_bytes left.batch) left.settled in
    record {
      records = left.records;
      batch = left.batch;
      first = left.first;
      settled = λ c image. only.each c (counts after (moment before) c only.later image);
    }
