-- A script's commands, one after another, on a room that is kept.
use Rattle.std.proofs.Common.{◌≡◌, ◌∙◌, ◌||◌, ℕ, Bool, true, false, List, [], ◌∷◌, Option, refl, ap, inl, inr}
use Rattle.std.specs.List.{list_any}
use Rattle.std.specs.Option.{is_some}
use Rattle.mw_model.specs.Seed.{Seed}
use Rattle.mw_multidata.specs.Digest.{digest_of}
use Rattle.mw_protocol.specs.Lives.{Life}
use Rattle.mw_laws.specs.Naming.{JournalsAreNamed}
use Rattle.mw_keep.specs.Keeps.{kept_disk}
use Rattle.mw_keep.specs.declared.kept.KeptRoom.{KeptRoom}
use Rattle.mw_script.specs.Commands.{Command}
use Rattle.mw_drive.specs.Drive.{is_crash}
use Rattle.mw_drive.specs.Left.{FindsItself}
use Rattle.mw_drive.specs.Runs.{HasStepped, IsCut, IsKeptIn, HasHalted}
use Rattle.mw_drive.specs.declared.error.DriveError.{DriveError}
use Rattle.mw_drive.proofs.Finishing.{has_halted}
use Rattle.mw_drive.proofs.Running.{IsRun, run_more}

or_left : (a b : Bool) → (a || b) ≡ false → a ≡ false
or_left true b h = h
or_left false b h = refl

or_right : (a b : Bool) → (a || b) ≡ false → b ≡ false
or_right true b h = cc
or_right false b h = h

-- what holds of a script holds of its first command and of the others
pub finds_one : (told : Option (List ℕ)) (c : Command) (cs : List Command) → FindsItself told (c ∷ cs) → FindsItself told (c ∷ [])
finds_one told c cs (inl some) = inl some
finds_one told c cs (inr none) = inr (ap (λ b. b || false) (or_left (is_crash c) (list_any is_crash cs) none))

pub finds_rest : (told then : Option (List ℕ)) (c : Command) (cs : List Command) → is_some then ≡ is_some told → FindsItself told (c ∷ cs) → FindsItself then cs
finds_rest told then c cs same (inl some) = inl (same ∙ some)
finds_rest told then c cs same (inr none) = inr (or_right (is_crash c) (list_any is_crash cs) none)

-- whether it finds itself, a command that is no crash needs nothing
pub told_at_crash : (told : Option (List ℕ)) (c : Command) → is_crash c ≡ true → FindsItself told (c ∷ []) → is_some told ≡ true
told_at_crash told c is (inl some) = some
told_at_crash told c is (inr none) = let clash : is_crash c ≡ false = or_left (is_crash c) false none in cc

module _ {D : Type 0} (may_leave : D → List ℕ → Type 0) (told : D → Option (List ℕ)) (file : List ℕ) (seed : Seed) (first : Life) (old : Option (List ℕ)) where
  -- the room is kept in the life after some commands, and others are left
  pub record IsAt (new : Option (List ℕ)) (left all : List Command) (k : KeptRoom D) : Type 0 where
    pub now : Life
    pub run_so : IsRun first now old new left all
    pub kept : IsKeptIn may_leave told file left seed now k

  module _ (named_all : JournalsAreNamed) (mid : Option (List ℕ)) (c : Command) (left all : List Command) (k : KeptRoom D) (at : IsAt mid (c ∷ left) all k) where
    -- what one command needs
    pub one_kept : IsKeptIn may_leave told file (c ∷ []) seed at.now k
    one_kept = record { accepted = at.kept.accepted; keeps = at.kept.keeps; going = at.kept.going; finds = finds_one (told (kept_disk k)) c left at.kept.finds }

    -- one was done
    pub at_more : (new : Option (List ℕ)) (then : KeptRoom D) → is_some (told (kept_disk then)) ≡ is_some (told (kept_disk k))
        → HasStepped may_leave (digest_of file) seed at.now c mid new then → IsAt new left all then
    at_more new then same step = record {
      now = _;
      run_so = run_more first at.now old mid new c left all at.run_so step.whole step.put;
      kept = record { accepted = at.kept.accepted; keeps = step.keeps; going = step.going; finds = finds_rest (told (kept_disk k)) (told (kept_disk then)) c left same at.kept.finds };
    }

    -- one wasn't
    pub at_cut : (new : Option (List ℕ)) (disk : D) (error : DriveError) → IsCut may_leave (digest_of file) seed at.now c mid new disk error
        → HasHalted (may_leave disk) (digest_of file) seed first all old new error
    at_cut new disk error cut = has_halted named_all may_leave (digest_of file) seed first at.now old mid new c left all at.run_so disk error cut k at.kept.keeps
