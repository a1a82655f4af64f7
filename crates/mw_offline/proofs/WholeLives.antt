-- All runs on one journal keep what any of them put.
use Rattle.std.proofs.Common.{◌≡◌, ◌⊎◌, ◌∙◌, ℕ, List, [], ◌∷◌, ◌++◌, Option, Some, None, true, refl, sym, ap, subst, inl, append_assoc, append-nil, length, take, drop}
use Rattle.std.specs.Option.{is_some}
use Rattle.std.specs.List.{AllByRecursion}
use Rattle.std.specs.Prelude.{All, IsTrue, slice_index_or}
use Rattle.mw_causes.specs.Tables.{Files}
use Rattle.mw_drive.proofs.Calling.{all_after}
use Rattle.mw_drive.proofs.Telling.{kept_later}
use Rattle.mw_drive.specs.Drive.{Put, gone, overrun, message, text_put}
use Rattle.mw_drive.specs.Ends.{IsFound}
use Rattle.mw_drive.specs.Left.{IsKept, IsTold}
use Rattle.mw_edges.specs.Causes.{PutsFront}
use Rattle.mw_edges.specs.Folders.{opened_bytes}
use Rattle.mw_journal.specs.Settled.{AllShut}
use Rattle.mw_keep.proofs.Leaving.{committed_records, first_records, left_so}
use Rattle.mw_keep.specs.Left.{IsLeft}
use Rattle.mw_laws.specs.Items.{ItemsComeOnce}
use Rattle.mw_laws.specs.Kept.{journal_after}
use Rattle.mw_laws.specs.Shows.{ShowsChecked}
use Rattle.mw_laws.specs.Tails.{taking}
use Rattle.mw_model.specs.Seed.{Seed}
use Rattle.mw_protocol.specs.Asked.{view}
use Rattle.mw_protocol.specs.Connecting.{Member}
use Rattle.mw_protocol.specs.Lives.{Life, Step, crashes, fine, life_after_all, new_life}
use Rattle.mw_protocol.specs.Records.{Record}
use Rattle.mw_protocol.specs.Rooms.{Message}
use Rattle.mw_offline.specs.WholeLives.{AreKept, AreRuns, GoesOnFrom, KeepsMessage, KeepsOn, KeepsPut, KeepsRun, Run, last_of}
use Rattle.mw_offline.proofs.Driving.{fewer_left}

-- ---- what was put

-- of one journal that a crash may have left after the steps
module _ (seed : Seed) (steps : List Step) (journal : List Record) (more place : ℕ) (is : journal_after seed (steps ++ crashes more place ∷ []) ≡ journal) where
  message_kept : (session : ℕ) (member : Option Member) (m : Message) → IsTold seed steps session member m → KeepsMessage seed steps journal session member m
  message_kept session member m t = record {
    told = t;
    shows = λ k plays. subst (λ j. ShowsChecked seed j k m) is (t.shows (crashes more place ∷ []) k plays);
    stand = λ index items has.
        let tail = t.tails index items has in
        let run : t.front ++ taking session fine ∷ (t.back ++ crashes more place ∷ []) ≡ steps ++ crashes more place ∷ [] =
        sym (append_assoc t.front (taking session fine ∷ t.back) (crashes more place ∷ [])) ∙ ap (λ s. s ++ crashes more place ∷ []) (sym t.goes_on) in
        subst (λ j. items ≡ take (length items) (drop index (view seed tail.member.mask tail.member.team tail.member.slot j))) (ap (journal_after seed) run ∙ is) (tail.last (t.back ++ crashes more place ∷ []));
  }

  put_kept : (p : Put) → IsKept seed steps p → KeepsPut seed steps journal p
  put_kept (gone session) h = tt
  put_kept (overrun session) h = tt
  put_kept (message session member m) h = message_kept session member m h

-- ---- runs of any kind

module _ {F R : Type 0} (holds : F → Files) (images : F → List ℕ → List ℕ → Type 0) (digest : List ℕ) (seed : Seed) (name : List ℕ) (first last : R → F) (told : List Step → R → Type 0) (later : (steps more : List Step) (r : R) → told steps r → told (steps ++ more) r) where
  -- what a run told in some steps of lives, which it led to from where others came to
  pub record LedTo (before : List Step) (r : R) : Type 0 where
    pub more : List Step
    pub left : IsLeft (images (last r) name) digest (life_after_all seed (before ++ more))
    pub is : told (before ++ more) r

  abbrev pub Leads : R → Type 0
  Leads r = (steps : List Step) → IsTrue (is_some (opened_bytes (holds (first r) name))) → IsLeft (images (first r) name) digest (life_after_all seed steps) → LedTo steps r

  all_later : (steps more : List Step) (rs : List R) → AllByRecursion (told steps) rs → AllByRecursion (told (steps ++ more)) rs
  all_later steps more [] h = tt
  all_later steps more (r ∷ rs) h = (later steps more r h.0, all_later steps more rs h.1)

  -- the steps that came of some runs
  record HasCome (folder : F) (before : List Step) (rs : List R) : Type 0 where
    more : List Step
    left : IsLeft (images (last_of holds images digest seed name first last folder rs) name) digest (life_after_all seed (before ++ more))
    all_told : AllByRecursion (told (before ++ more)) rs

  come : (keeps : R → Type 0) → ((r : R) → keeps r → Leads r) → (folder : F) (before : List Step) (rs : List R) → IsLeft (images folder name) digest (life_after_all seed before) → AreRuns holds images digest seed name first last keeps folder rs
      → HasCome folder before rs
  come keeps leads folder before [] left h = record { more = []; left = subst (λ s. IsLeft (images folder name) digest (life_after_all seed s)) (sym (append-nil before)) left; all_told = tt }
  come keeps leads folder before (r ∷ rs) left h =
      let k = leads r h.1 before h.0.told (fewer_left (images folder name) (images (first r) name) h.0.fewer digest (life_after_all seed before) left) in
      let rest = come keeps leads (last r) (before ++ k.more) rs k.left h.2 in
      let same = append_assoc before k.more rest.more in
      record {
        more = k.more ++ rest.more;
        left = subst (λ s. IsLeft (images (last_of holds images digest seed name first last (last r) rs) name) digest (life_after_all seed s)) same rest.left;
        all_told = subst (λ s. told s r × AllByRecursion (told s) rs) same (later (before ++ k.more) rest.more r k.is, rest.all_told);
      }

  -- the journal that a run finds is what some crash left
  found_left : (bytes : Option (List ℕ)) (left : List ℕ → Type 0) (steps : List Step) (journal : List Record) (place : ℕ) → is_some bytes ≡ true → IsFound bytes left digest seed journal place
      → IsLeft left digest (life_after_all seed steps) → (more : ℕ) × (journal_after seed (steps ++ crashes more place ∷ []) ≡ journal)
  found_left None left steps journal place some found is = cc
  found_left (Some f) left steps journal place some found is =
      let life = life_after_all seed steps in
      let batch_is = first_records life is.batch is.first is.records in
      let h = left_so life is.batch journal is.first (found.one f _ is.batch refl (committed_records life is.records) batch_is is.settled) in
      (h.0, ap (λ (l : Life). l.room.journal) (all_after steps (new_life seed [] 40) (crashes h.0 place ∷ [])) ∙ sym h.1)

  all_shown : (shows : List Step → List Record → R → Type 0) (steps : List Step) (journal : List Record) → ((r : R) → told steps r → shows steps journal r) → (rs : List R) → AllByRecursion (told steps) rs → AllByRecursion (shows steps journal) rs
  all_shown shows steps journal f [] h = tt
  all_shown shows steps journal f (r ∷ rs) h = (f r h.0, all_shown shows steps journal f rs h.1)

  -- runs that lead on keep what they showed, where whatever was told in some steps is shown by each journal that a crash may have left after them
  pub are_kept_by : (keeps : R → Type 0) → ((r : R) → keeps r → Leads r) → (shows : List Step → List Record → R → Type 0)
      → ((steps : List Step) (journal : List Record) (more place : ℕ) → journal_after seed (steps ++ crashes more place ∷ []) ≡ journal → (r : R) → told steps r → shows steps journal r)
      → ItemsComeOnce → (made : F) (rs : List R) → AllShut (images made name) digest [] 40 → AreRuns holds images digest seed name first last keeps made rs → AreKept holds images digest seed name first last shows made rs
  are_kept_by keeps leads shows shown once made rs shut h =
      let c = come keeps leads made [] rs record { records = tt; batch = []; first = ([], refl); settled = λ i is. inl (40, shut i is) } h in
      let end = last_of holds images digest seed name first last made rs in
      let on : (next : F) → GoesOnFrom holds images digest seed name end next → IsLeft (images next name) digest (life_after_all seed c.more) = λ next g. fewer_left (images end name) (images next name) g.fewer digest (life_after_all seed c.more) c.left in
      record {
        steps = c.more;
        settled = on;
        kept = λ next journal place g found.
            let f = found_left (opened_bytes (holds next name)) (images next name) c.more journal place g.told found (on next g) in
            (all_shown shows c.more journal (shown c.more journal f.0 place f.1) rs c.all_told, once seed journal);
      }

-- ---- runs of `drive`

-- what a run put keeps to the steps
pub record IsToldRun {F : Type 0} (seed : Seed) (steps : List Step) (r : Run F) : Type 0 where
  put : List Put
  front : PutsFront r.old r.new (text_put put)
  kept : All (IsKept seed steps) put

pub told_later : {F : Type 0} (seed : Seed) (steps more : List Step) (r : Run F) → IsToldRun seed steps r → IsToldRun seed (steps ++ more) r
told_later seed steps more r h = record { put = h.put; front = h.front; kept = kept_later seed steps more h.put h.kept }

pub run_shown : {F : Type 0} (seed : Seed) (steps : List Step) (journal : List Record) (more place : ℕ) → journal_after seed (steps ++ crashes more place ∷ []) ≡ journal → (r : Run F) → IsToldRun seed steps r → KeepsRun seed steps journal r
run_shown seed steps journal more place is r h =
    record { put = h.put; front = h.front; kept = λ k d lt. put_kept seed steps journal more place is (slice_index_or h.put k d) (h.kept k d lt) }

module _ {F : Type 0} (holds : F → Files) (images : F → List ℕ → List ℕ → Type 0) (digest : List ℕ) (seed : Seed) (name : List ℕ) where
  pub run_leads : (r : Run F) → KeepsOn holds images digest seed name r → Leads holds images digest seed name (λ (r : Run F). r.first) (λ (r : Run F). r.last) (IsToldRun seed) (told_later seed) r
  run_leads r keeps steps some left = let k = keeps steps some left in record { more = k.more; left = k.left; is = record { put = k.put; front = k.front; kept = k.kept } }

  pub are_kept : ItemsComeOnce → (made : F) (rs : List (Run F)) → AllShut (images made name) digest [] 40 → AreRuns holds images digest seed name (λ r. r.first) (λ r. r.last) (KeepsOn holds images digest seed name) made rs
      → AreKept holds images digest seed name (λ r. r.first) (λ r. r.last) (KeepsRun seed) made rs
  are_kept = are_kept_by holds images digest seed name (λ (r : Run F). r.first) (λ (r : Run F). r.last) (IsToldRun seed) (told_later seed) (KeepsOn holds images digest seed name) run_leads (KeepsRun seed) (run_shown seed)
