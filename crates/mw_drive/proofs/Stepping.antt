-- What one step of a script comes to: its text is put, or it is cut.
use Rattle.std.proofs.Common.{◌≡◌, ◌≢◌, ◌∙◌, ◌<◌, ◌⊎◌, ◌||◌, ℕ, Bool, true, false, List, [], ◌∷◌, Option, map, refl, sym, ap, subst, inl, inr}
use Rattle.std.specs.List.{list_any}
use Rattle.std.proofs.KnownBytes.{Appends-nil}
use Rattle.std.specs.Io.KnownBytes.{Appends}
use Rattle.mw_edges.specs.Causes.{PutsFront}
use Rattle.mw_model.specs.Seed.{Seed}
use Rattle.mw_multidata.specs.Digest.{digest_of}
use Rattle.mw_protocol.specs.Lives.{Life, after_all}
use Rattle.mw_keep.specs.Entered.{AreSound}
use Rattle.mw_keep.specs.Keeps.{Keeps, kept_disk}
use Rattle.mw_keep.specs.declared.kept.KeptRoom.{KeptRoom}
use Rattle.mw_drive.specs.Calls.{IsOutside, HaveStopped, IsPerformed}
use Rattle.mw_script.specs.Commands.{Command, opens, sends, takes, loses, commits, crashes}
use Rattle.mw_drive.specs.Drive.{is_crash, puts, calls, after, text_put, life_recovered}
use Rattle.mw_drive.specs.Left.{IsGoing}
use Rattle.mw_drive.specs.Runs.{HasStepped, IsCut, IsOfRun, HasLife, StepsOn}
use Rattle.mw_drive.specs.declared.error.DriveError.{DriveError}
use Rattle.mw_drive.specs.declared.error.DriveError.TheVariants.{Fault, Memory, Full, Journal, Script}
use Rattle.mw_drive.proofs.Calling.{call_step, through_steps}
use Rattle.mw_drive.proofs.Commanding.{after_is}
use Rattle.mw_keep.specs.Left.{IsLeft}
use Rattle.mw_keep.proofs.Leaving.{left_of}

none_front : (held : Option (List ℕ)) (text : List ℕ) → PutsFront held held text
none_front held text = ([], text, refl, Appends-nil held)

own_outside : (error : DriveError) → (error ≡ Fault) ⊎ (error ≡ Memory) → IsOutside error
own_outside error (inl is) = subst IsOutside (sym is) tt
own_outside error (inr is) = subst IsOutside (sym is) tt

own_not_full : (error : DriveError) → (error ≡ Fault) ⊎ (error ≡ Memory) → error ≡ Full → ⊥
own_not_full error (inl is) e = let clash : Fault ≡ Full = sym is ∙ e in cc
own_not_full error (inr is) e = let clash : Memory ≡ Full = sym is ∙ e in cc

module _ {D : Type 0} (may_leave : D → List ℕ → Type 0) (faults : D → ℕ) (digest : List ℕ) (seed : Seed) (life : Life) (c : Command) (before : KeptRoom D) where
  -- its calls were stopped, and nothing was put
  pub cut_by_stop : (held : Option (List ℕ)) (k : KeptRoom D) (disk : D) (error : DriveError) → disk ≡ kept_disk k → HaveStopped may_leave faults digest life (calls life c) before error k
      → IsOutside error → IsCut may_leave digest seed life c held held disk error
  cut_by_stop held k disk error is h own = record {
    steps = h.steps;
    left = subst (λ d. IsLeft (may_leave d) digest (after_all life h.steps)) (sym is) (left_of may_leave digest (after_all life h.steps) k h.keeps);
    front = none_front held (text_put (puts life c));
    told = inl (Appends-nil held);
    full = h.full;
    outside = λ sound. own;
  }

  pub fault_by_stop : (k : KeptRoom D) (disk : D) (error : DriveError) → disk ≡ kept_disk k → HaveStopped may_leave faults digest life (calls life c) before error k → error ≡ Fault → faults (kept_disk before) < faults disk
  fault_by_stop k disk error is h e = subst (λ d. faults (kept_disk before) < faults d) (sym is) (h.fault e)

  module _ (old new : Option (List ℕ)) (text : List ℕ) (k : KeptRoom D) (p : IsPerformed may_leave digest seed life c text k) where
    -- it was done, and its text put
    pub step_by : Appends old new text → HasStepped may_leave digest seed life c old new k
    step_by put = record { whole = p.whole; put = subst (Appends old new) p.is_text put; keeps = p.keeps; going = p.going }

    -- or a front of it
    pub cut_by_put : (disk : D) (error : DriveError) → disk ≡ kept_disk k → is_crash c ≡ false → PutsFront old new text → (error ≡ Fault) ⊎ (error ≡ Memory) → IsCut may_leave digest seed life c old new disk error
    cut_by_put disk error is plain front own = record {
      steps = map call_step (calls life c);
      left = subst (λ d. IsLeft (may_leave d) digest (after_all life (map call_step (calls life c)))) (sym is)
          (subst (IsLeft (may_leave (kept_disk k)) digest) (after_is life c plain ∙ through_steps (calls life c) life) (left_of may_leave digest (after life c) k p.keeps));
      front = subst (PutsFront old new) p.is_text front;
      told = inr (plain, refl, p.whole);
      full = λ e. absurd (own_not_full error own e);
      outside = λ sound. own_outside error own;
    }

-- ---- a crash

pub crash_is : (c : Command) → is_crash c ≡ true → c ≡ crashes
crash_is (opens time) h = cc
crash_is (sends session is) h = cc
crash_is (takes session) h = cc
crash_is (loses session) h = cc
crash_is commits h = cc
crash_is crashes h = refl

module _ {D : Type 0} (may_leave : D → List ℕ → Type 0) (digest : List ℕ) (seed : Seed) (life : Life) (held : Option (List ℕ)) where
  pub crash_steps : (k : KeptRoom D) → Keeps may_leave digest (life_recovered life) k → IsGoing seed (life_recovered life) k → HasStepped may_leave digest seed life crashes held held k
  crash_steps k keeps going = record { whole = refl; put = Appends-nil held; keeps = keeps; going = going }

  pub crash_cuts : (disk : D) (error : DriveError) → IsLeft (may_leave disk) digest life → error ≢ Full → (AreSound seed life.room.journal → IsOutside error) → IsCut may_leave digest seed life crashes held held disk error
  crash_cuts disk error left own outside = record {
    steps = [];
    left = left;
    front = none_front held [];
    told = inl (Appends-nil held);
    full = λ e. absurd (own e);
    outside = outside;
  }

-- an error that isn't about the journal or the script may stop any run
pub ran_outside : (cs : List Command) (error : DriveError) → IsOutside error → IsOfRun cs error
ran_outside cs Fault h = tt
ran_outside cs Memory h = tt
ran_outside cs Full h = tt
ran_outside cs (Journal refusal) h = absurd h
ran_outside cs (Script line) h = absurd h

-- what may stop a command of a run, or those behind it, may stop the run
pub ran_one : (c : Command) (cs : List Command) (error : DriveError) → IsOfRun (c ∷ []) error → IsOfRun (c ∷ cs) error
ran_one c cs Fault h = tt
ran_one c cs Memory h = tt
ran_one c cs Full h = tt
ran_one c cs (Journal refusal) h = ap (λ b. b || list_any is_crash cs) (or_none (is_crash c) h)
  where
    or_none : (b : Bool) → (b || false) ≡ true → b ≡ true
    or_none true h = refl
    or_none false h = h
ran_one c cs (Script line) h = absurd h

pub ran_rest : (c : Command) (cs : List Command) (error : DriveError) → IsOfRun cs error → IsOfRun (c ∷ cs) error
ran_rest c cs Fault h = tt
ran_rest c cs Memory h = tt
ran_rest c cs Full h = tt
ran_rest c cs (Journal refusal) h = or_more (is_crash c) (list_any is_crash cs) h
  where
    or_more : (a b : Bool) → b ≡ true → (a || b) ≡ true
    or_more true b h = refl
    or_more false b h = h
ran_rest c cs (Script line) h = absurd h

-- ---- a life after any step

pub life_stepped : {D : Type 0} (may_leave : D → List ℕ → Type 0) (file : List ℕ) (c : Command) (old new : Option (List ℕ)) (before k : KeptRoom D) → StepsOn may_leave before c old new k
    → HasLife may_leave file before → HasLife may_leave file k
life_stepped may_leave file c old new before k steps h =
    let step = steps (digest_of file) h.seed h.life h.keeps h.going in
    record { seed = h.seed; life = after h.life c; accepted = h.accepted; keeps = step.keeps; going = step.going }
