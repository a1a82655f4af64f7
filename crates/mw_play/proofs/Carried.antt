-- What a run comes to, from what its parts do.
use Rattle.std.proofs.Common.{◌≡◌, inl, inr, ◌≤◌, ◌∙◌, ℕ, List, Option, refl}
use Rattle.std.specs.Prelude.{Result, Ok, Err, IfErr}
use Rattle.mw_disk.specs.Crash.{LeavesOnly}
use Rattle.mw_link.specs.Dials.{Exchange}
use Rattle.mw_model.specs.Items.{NetItem}
use Rattle.mw_client.specs.Playing.{Play}
use Rattle.mw_play.specs.Runs.{LeavesSave, PlaysFrom, StopsFrom, WasList, end_of_cut, end_of_save}
use Rattle.mw_play.specs.Saves.{RefusesSave}
use Rattle.mw_play.specs.Turns.{HeardFull}
use Rattle.mw_play.specs.declared.end.PlayEnd.{PlayEnd}
use Rattle.mw_play.specs.declared.end.PlayEnd.TheVariants.{Ended, TurnedAway, EndedEarly, Spent, BadWords, Fault, Memory, Refused, Full}
use Rattle.mw_play.specs.declared.over.CutShort.{CutShort}
use Rattle.mw_play.specs.declared.over.CutShort.TheVariants as cut
use Rattle.mw_play.specs.declared.over.Over.{Over}
use Rattle.mw_play.specs.declared.player.Player.{Player}
use Rattle.mw_play.specs.declared.save_error.SaveError.{SaveError}
use Rattle.mw_play.specs.declared.save_error.SaveError.TheVariants as save

-- turns that were cut short stop a run
pub cut_stops : (told : Option (List ℕ)) (images : List ℕ → Type 0) (digest : List ℕ) (list : List NetItem) (before after : List Exchange) (why : CutShort) → WasList told digest list
    → (why ≡ cut.Full → HeardFull images digest list before after) → StopsFrom told images digest before after (end_of_cut why)
cut_stops told images digest list before after cut.Fault was full = tt
cut_stops told images digest list before after cut.Full was full = (list, was, full refl)
cut_stops told images digest list before after cut.Memory was full = tt

-- and a save file that gives no list
pub save_stops : (told : Option (List ℕ)) (images : List ℕ → Type 0) (digest : List ℕ) (faults faults2 : ℕ) (before after : List Exchange) (error : SaveError) → RefusesSave told digest faults faults2 error
    → StopsFrom told images digest before after (end_of_save error)
save_stops told images digest faults faults2 before after save.DiskFault refuses = tt
save_stops told images digest faults faults2 before after (save.Refused refusal) refuses = refuses
save_stops told images digest faults faults2 before after save.Memory refuses = tt

module _ (told told2 : Option (List ℕ)) (images images2 : List ℕ → Type 0) (same : told ≡ told2) (fewer : (c : List ℕ) → images2 c → images c) where
  was_same : (digest : List ℕ) (list : List NetItem) → WasList told digest list → WasList told2 digest list
  was_same digest list was = λ f is. was f (same ∙ is)

  pub plays_same : (digest : List ℕ) (player : Player) (before after : List Exchange) (over : Over) (p : Play) → PlaysFrom told images digest player before after over p → PlaysFrom told2 images2 digest player before after over p
  plays_same digest player before after over p plays = record {
    list = plays.list;
    was = was_same digest plays.list plays.was;
    plays = plays.plays;
    saved = λ c left. plays.saved c (fewer c left);
  }

  full_same : (digest : List ℕ) (list : List NetItem) (before after : List Exchange) → HeardFull images digest list before after → HeardFull images2 digest list before after
  full_same digest list before after (line, hung_up, full) = (
    line,
    hung_up,
    record {
      front = full.front;
      text = full.text;
      last = full.last;
      full = record {
        gate = full.full.gate;
        stands = λ c left. full.full.stands c (fewer c left);
        bodies = full.full.bodies;
        leads = full.full.leads;
        full = full.full.full;
      };
    },
  )

  pub stops_same : (digest : List ℕ) (before after : List Exchange) (end : PlayEnd) → StopsFrom told images digest before after end → StopsFrom told2 images2 digest before after end
  stops_same digest before after (Refused refusal) stops = λ f is. stops f (same ∙ is)
  stops_same digest before after Full (list, was, full) = (list, was_same digest list was, full_same digest list before after full)
  stops_same digest before after Fault stops = tt
  stops_same digest before after Memory stops = tt
  stops_same digest before after Ended stops = stops
  stops_same digest before after (TurnedAway line) stops = stops
  stops_same digest before after EndedEarly stops = stops
  stops_same digest before after Spent stops = stops
  stops_same digest before after BadWords stops = stops

  pub leaves_same : (digest : List ℕ) (before after : List Exchange) → LeavesSave told images digest before after → LeavesSave told2 images2 digest before after
  leaves_same digest before after (inl none) = inl none
  leaves_same digest before after (inr (list, was, inl none)) = inr (list, was_same digest list was, inl none)
  leaves_same digest before after (inr (list, was, inr (line, hung_up, leaves))) = inr (list, was_same digest list was, inr (line, hung_up, λ c left. leaves c (fewer c left)))

-- what a crash may leave now, it may have left since any moment before
pub left_now : {D : Type 0} (may_leave : D → List ℕ → Type 0) (moment : D → ℕ) (left_since : D → ℕ → List ℕ → Type 0) → ((disk : D) (t : ℕ) (c : List ℕ) → t ≤ moment disk → may_leave disk c → left_since disk t c)
    → (old new : D) (P : List ℕ → Type 0) → LeavesOnly moment left_since old new P → (c : List ℕ) → may_leave new c → P c
left_now may_leave moment left_since counts_now old new P leaves c left = leaves.each c (counts_now new (moment old) c leaves.later left)

pub if_err_to : {T E : Type 0} (r : Result T E) (P Q : E → Type 0) → ((e : E) → P e → Q e) → IfErr r P → IfErr r Q
if_err_to (Ok x) P Q f h = tt
if_err_to (Err e) P Q f h = f e h
