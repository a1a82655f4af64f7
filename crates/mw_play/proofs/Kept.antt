-- What bodies that are appended to a save file leave of it.
use Rattle.std.proofs.Common.{◌≡◌, ◌⊎◌, inl, inr, ◌+◌, ◌++◌, ℕ, List, [], ◌∷◌, length, refl, sym, ap, ◌∙◌, arith}
use Rattle.std.specs.List.{flat_map}
use Rattle.std.proofs.lemmas.List.Concat.{flat_map-append}
use Rattle.mw_disk.specs.Crash.{LeavesOnly}
use Rattle.std.specs.Prelude.{Result, Ok, Err, OnOk}
use Rattle.mw_disk.proofs.Moments.{started, then_on, wider}
use Rattle.mw_link.specs.declared.link.Heard.{Heard}
use Rattle.mw_journal.specs.Image.{IsShut}
use Rattle.mw_journal.specs.Journal.{disk_of}
use Rattle.mw_journal.specs.Settled.{IsSettled}
use Rattle.mw_journal.specs.declared.journal.Journal.{Journal}
use Rattle.mw_journal.proofs.Unique.{staged_stands}
use Rattle.mw_model.specs.Items.{NetItem}
use Rattle.mw_client.specs.Bodies.{Body, IsSaved, Leads, body_bytes, saved}
use Rattle.mw_client.proofs.Growing.{both_are}
use Rattle.mw_play.specs.Saves.{HoldsList, KeepsList}
use Rattle.mw_play.specs.Turns.{HoldsFront, texts_in}
use Rattle.mw_play.proofs.Following.{holds_more}

saved_both : (list : List NetItem) (bs cs : List Body) → saved list (bs ++ cs) ≡ saved (saved list bs) cs
saved_both list [] cs = refl
saved_both list (b ∷ bs) cs = saved_both _ bs cs

-- bodies behind others lead on from where they lead
pub leads_both : (before middle after : List NetItem) (bytes more : List ℕ) → Leads before bytes middle → Leads middle more after → Leads before (bytes ++ more) after
leads_both before middle after bytes more l m = record {
  bodies = l.bodies ++ m.bodies;
  layout = ap (λ (x : List ℕ). x ++ more) l.layout ∙ ap (λ (x : List ℕ). flat_map body_bytes l.bodies ++ x) m.layout ∙ sym (flat_map-append body_bytes l.bodies m.bodies);
  are = both_are l.bodies m.bodies l.are m.are;
  list = m.list ∙ ap (λ (x : List NetItem). saved x m.bodies) l.list ∙ sym (saved_both before l.bodies m.bodies);
}

nothing_by : (before after : List NetItem) (bs : List Body) → [] ≡ flat_map body_bytes bs → after ≡ saved before bs → after ≡ before
nothing_by before after [] layout list = list
nothing_by before after (b ∷ bs) layout list = absurd (omega (arith, ap length layout))

-- no bytes lead back
pub leads_nothing : (before after : List NetItem) (bytes : List ℕ) → length bytes ≡ 0 → Leads before bytes after → after ≡ before
leads_nothing before after [] none l = nothing_by before after l.bodies l.layout l.list
leads_nothing before after (b ∷ bytes) none l = absurd (omega (arith, none))

-- an image that stands for bodies holds the list that they come to
pub shut_holds : (image digest text : List ℕ) (place gate : ℕ) (list : List NetItem) → IsShut image digest text place gate → IsSaved text list → HoldsList image digest list
shut_holds image digest text place gate list shut saved = (text, (place, (gate, shut)), saved)

-- an image to which bodies are appended holds the list before them, or the one after
pub settled_holds : (image digest text body : List ℕ) (before after : List NetItem) → IsSettled image digest text body → IsSaved text before → Leads before body after → HoldsList image digest before ⊎ HoldsList image digest after
settled_holds image digest text body before after (inl shut) saved leads =
    inl (shut_holds image digest text shut.0 0 before shut.1 saved)
settled_holds image digest text body before after (inr staged) saved leads = elim (staged_stands image digest text body staged.0 staged.1) [
  | inl both ↦ inr (shut_holds image digest (text ++ body) (staged.0 + 5 + length body) 0 after both (leads_both [] before after text body saved leads))
  | inr one ↦ inl (shut_holds image digest text staged.0 one.0 before one.1 saved)
]

module _ {D : Type 0} (may_leave : D → List ℕ → Type 0) (moment : D → ℕ) (left_since : D → ℕ → List ℕ → Type 0) (only_now : (disk : D) (c : List ℕ) → left_since disk (moment disk) c → may_leave disk c) where
  -- each image of the disk of a save file holds its list
  pub keeps_holds : (digest : List ℕ) (j : Journal D) (list : List NetItem) → KeepsList may_leave digest j list → (c : List ℕ) → may_leave (disk_of j) c → HoldsList c digest list
  keeps_holds digest j list keeps c left = shut_holds c digest keeps.text _ 0 list (keeps.stands.1 c left) keeps.saved

  -- while no call is made a crash leaves what has P
  pub nothing_left : (digest : List ℕ) (j : Journal D) (list : List NetItem) (P : List ℕ → Type 0) → KeepsList may_leave digest j list → ((c : List ℕ) → HoldsList c digest list → P c) → LeavesOnly moment left_since (disk_of j) (disk_of j) P
  nothing_left digest j list P keeps within = started moment left_since (disk_of j) P (λ c left. within c (keeps_holds digest j list keeps c (only_now (disk_of j) c left)))

  -- further moments, once more was heard
  pub moments_then : (old mid new : D) (digest : List ℕ) (list : List NetItem) (hs rest after : List Heard) → after ≡ hs ++ rest → LeavesOnly moment left_since old mid (HoldsFront digest list (texts_in hs))
      → LeavesOnly moment left_since mid new (HoldsFront digest list (texts_in after)) → LeavesOnly moment left_since old new (HoldsFront digest list (texts_in after))
  moments_then old mid new digest list hs rest after is first second =
      then_on moment left_since old mid new (HoldsFront digest list (texts_in after)) (HoldsFront digest list (texts_in after))
      (wider moment left_since old mid (HoldsFront digest list (texts_in hs)) (HoldsFront digest list (texts_in after)) first (λ c held. holds_more c digest list hs rest after is held)) second (λ c held. held)

-- what holds in any case
pub on_ok : {T E : Type 0} (r : Result T E) (P : Type 0) → P → OnOk r P
on_ok (Ok x) P p = p
on_ok (Err e) P p = tt
