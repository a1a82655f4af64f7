-- What `prepare` keeps of the three files, and what it leaves.
use Rattle.std.proofs.Common.{◌≡◌, ◌∙◌, ◌⊎◌, ◌++◌, ℕ, List, length, sym, ap, subst}
use Rattle.mw_disk.specs.Crash.{LeavesOnly}
use Rattle.mw_protocol.specs.Records.{Record}
use Rattle.mw_protocol.specs.Spelled.{records_bytes}
use Rattle.mw_journal.specs.Settled.{IsSettled, AllSettled}
use Rattle.mw_checkpoint.specs.Choices.{AreChoices, named_in}
use Rattle.mw_checkpoint.specs.Pair.{HoldsText, IsPrepared, PairStands, journal_at, other_of, pick}
use Rattle.mw_thinning.specs.Thinning.{thinned}
use Rattle.mw_checkpoint.specs.Whole.{AreRecords}
use Rattle.mw_checkpoint.specs.declared.files.Files.{Files}
use Rattle.mw_checkpoint.proofs.Pairing.{chosen_either}

-- ---- the three files

-- what is known of the disks of a switch
pub record AreSafe {D : Type 0} (may_leave : D → List ℕ → Type 0) (digest : List ℕ) (named : ℕ) (records : List Record) (before after : Files D) : Type 0 where
  pub choice : after.choice ≡ before.choice
  pub chosen : HoldsText may_leave digest (records_bytes records) (journal_at named after)
  pub thin : HoldsText may_leave digest (records_bytes (thinned records)) (journal_at (other_of named) after)
  pub spelled : AreRecords records

pub prepared : {D : Type 0} (may_leave : D → List ℕ → Type 0) (digest : List ℕ) (named : ℕ) (records : List Record) (before after : Files D) (number kept of : ℕ)
    → AreSafe may_leave digest named records before after → number ≡ other_of named → kept ≡ length (thinned records) → of ≡ length records
    → (text : List ℕ) → HoldsText may_leave digest text before.choice → AreChoices text → named ≡ named_in text
    → IsPrepared may_leave text records (record { files = after; digest = digest; other = number; kept = kept; of = of })
prepared may_leave digest named records before after number kept of safe other counted whole text holds choices last = record {
  choice = subst (HoldsText may_leave digest text) (sym safe.choice) holds;
  choices = choices;
  other = other ∙ ap other_of last;
  chosen = subst (λ n. HoldsText may_leave digest (records_bytes records) (journal_at n after)) last safe.chosen;
  thin = subst (λ n. HoldsText may_leave digest (records_bytes (thinned records)) (journal_at (other_of n) after)) last safe.thin;
  spelled = safe.spelled;
  of = whole;
  kept = counted;
}

-- ---- each moment

module _ {D : Type 0} (may_leave : D → List ℕ → Type 0) (moment : D → ℕ) (left_since : D → ℕ → List ℕ → Type 0) (digest : List ℕ) where
  abbrev pub KeepsSettled : D → D → Type 0
  KeepsSettled before after =
      (text body : List ℕ) → AllSettled (may_leave before) digest text body → LeavesOnly moment left_since before after (λ c. IsSettled c digest text body)

  -- of disks that are those of the files
  pub carried : (start before after end : D) → start ≡ before → end ≡ after → KeepsSettled start after → KeepsSettled before end
  carried start before after end same_start same_end keeps =
      subst (λ d. KeepsSettled d end) same_start (subst (KeepsSettled start) (sym same_end) keeps)

  pub pairs : (named : ℕ) (before : Files D) (end : D) → KeepsSettled (journal_at named before) end
      → (text : List ℕ) (kept batch : List Record) → HoldsText may_leave digest text before.choice → AreChoices text → named ≡ named_in text
      → AllSettled (may_leave (journal_at named before)) digest (records_bytes kept) (records_bytes batch)
      → (c image other : List ℕ) → may_leave before.choice c → left_since end (moment (journal_at named before)) image
      → PairStands c (pick named image other) (pick named other image) digest kept ⊎ PairStands c (pick named image other) (pick named other image) digest (kept ++ batch)
  pairs named before end keeps text kept batch holds choices last settled c image other leaves left =
      chosen_either digest text named kept batch c image other (holds.0, (0, holds.1 c leaves)) choices last
      ((keeps (records_bytes kept) (records_bytes batch) settled).each image left)
