-- The calls of the sessions of `stress`, one after another, on a room that is kept.
use Rattle.std.proofs.Common.{◌≡◌, ◌∙◌, ◌<◌, ◌≤◌, ◌+◌, ◌||◌, arith, ℕ, Bool, true, false, List, [], ◌∷◌, ◌++◌, Option, Some, Result, Ok, Err, refl, sym, ap, subst, append_assoc, append-nil, add-one}
use Rattle.std.proofs.lemmas.Result.{err_from_is_err_and}
use Rattle.std.specs.Prelude.{OnOk, IfOk, IsErrAnd, IsTrue}
use Rattle.mw_model.specs.Seed.{Seed}
use Rattle.mw_protocol.specs.Lives.{Life, Call, happens, takes, Reply, fine, life_after, new_life, reply_to}
use Rattle.mw_protocol.specs.Rooms.{sent}
use Rattle.mw_stress.specs.Sent.{checking}
use Rattle.mw_journal.specs.Settled.{AllShut}
use Rattle.mw_keep.specs.Keeps.{Keeps, kept_disk}
use Rattle.mw_keep.specs.Recovers.{Resumes}
use Rattle.mw_keep.specs.declared.kept.KeptRoom.{KeptRoom}
use Rattle.mw_drive.specs.Calls.{HaveStopped, IsDone, IsOutside}
use Rattle.mw_drive.specs.Drive.{is_stopped, stop}
use Rattle.mw_drive.specs.Left.{IsGoing}
use Rattle.mw_drive.specs.declared.error.DriveError.{DriveError}
use Rattle.mw_drive.specs.declared.error.DriveError.TheVariants.{Fault, Memory, Full, Journal, Script}
use Rattle.mw_drive.proofs.Calling.{or_same}
use Rattle.mw_stress.specs.declared.taken.Taken.{Taken}
use Rattle.mw_offline.specs.Stressing.{all_checking, all_entering, all_taken, all_taking, entering, first_life, rounds, taken_by, taker, texts_of}
use Rattle.mw_offline.proofs.Driving.{new_found}

-- what is known of a value in two ways
pub if_ok_both : {T E P : Type 0} {Q S : T → Type 0} (r : Result T E) → IfOk r Q → OnOk r P → ((x : T) → Q x → P → S x) → IfOk r S
if_ok_both (Ok x) q p f = f x q p
if_ok_both (Err e) q p f = tt

-- what a call or a later one does, where the call doesn't do it
or_first : (a b : Bool) → (a || false) ≡ true → (a || b) ≡ true
or_first true b h = refl
or_first false b h = cc

module _ {D : Type 0} (may_leave : D → List ℕ → Type 0) (faults : D → ℕ) (digest : List ℕ) (seed : Seed) where
  -- some calls are made, and others are left
  pub record IsOnWay (first : Life) (before k : KeptRoom D) (taken : List Taken) (left all : List Call) : Type 0 where
    pub now : Life
    pub keeps : Keeps may_leave digest now k
    pub going : IsGoing seed now k
    pub so_far : taken ++ all_taken now left ≡ all_taken first all
    pub stops : stop now left ≡ stop first all
    pub later : faults (kept_disk before) ≤ faults (kept_disk k)

  pub at_start : (first : Life) (before : KeptRoom D) (all : List Call) → Keeps may_leave digest first before → IsGoing seed first before → IsOnWay first before before [] all all
  at_start first before all keeps going = record { now = first; keeps = keeps; going = going; so_far = refl; stops = refl; later = omega arith }

  -- one call is made
  pub further : (first : Life) (before k then : KeptRoom D) (taken : List Taken) (call : Call) (left all : List Call) (reply : Reply) (w : IsOnWay first before k taken (call ∷ left) all)
      → IsDone may_leave digest seed w.now call reply then → faults (kept_disk k) ≤ faults (kept_disk then)
      → IsOnWay first before then (taken ++ taken_by (taker call) (texts_of reply)) left all
  further first before k then taken call left all reply w done later = record {
    now = life_after w.now call fine;
    keeps = done.keeps;
    going = done.going;
    so_far = append_assoc taken (taken_by (taker call) (texts_of reply)) (all_taken (life_after w.now call fine) left)
        ∙ ap (λ r. taken ++ (taken_by (taker call) (texts_of r) ++ all_taken (life_after w.now call fine) left)) done.replies
        ∙ w.so_far;
    stops = sym (or_same (is_stopped (reply_to w.now call fine)) (stop (life_after w.now call fine) left) done.goes) ∙ w.stops;
    later = omega (arith, w.later, later);
  }

  -- one isn't: the room has stopped for what stops it among all, or the disk failed
  pub stops_here : (first : Life) (before k then : KeptRoom D) (taken : List Taken) (call : Call) (left all : List Call) (error : DriveError) (w : IsOnWay first before k taken (call ∷ left) all)
      → HaveStopped may_leave faults digest w.now (call ∷ []) k error then
      → (error ≡ Full → IsTrue (stop first all)) × (error ≡ Fault → faults (kept_disk before) < faults (kept_disk then))
  stops_here first before k then taken call left all error w h = (
    (λ is. sym w.stops ∙ or_first (is_stopped (reply_to w.now call fine)) (stop (life_after w.now call fine) left) (h.full is)),
    λ is. omega (arith, w.later, h.fault is),
  )

  -- all are
  pub at_end : (first : Life) (before k : KeptRoom D) (taken : List Taken) (all : List Call) → IsOnWay first before k taken [] all → taken ≡ all_taken first all
  at_end first before k taken all w = sym (append-nil taken) ∙ w.so_far

-- an error that is passed on as it is
pub passed_is : {T E : Type 0} (answer : Result T E) (x y : E) → IsErrAnd answer (λ e. e ≡ x) → answer ≡ Err y → x ≡ y
passed_is answer x y is passed =
    let p = err_from_is_err_and answer is in
    let same : Err p.0 ≡ Err y = sym p.1 ∙ passed in
    sym p.2 ∙ cc

-- of the errors that the calls of `stress` can meet, one that is neither a full journal nor a fault of the disk is want of memory
pub only_memory : (error : DriveError) → IsOutside error → (error ≡ Full → ⊥) → (error ≡ Fault → ⊥) → error ≡ Memory
only_memory Memory own full fault = refl
only_memory Full own full fault = absurd (full refl)
only_memory Fault own full fault = absurd (fault refl)
only_memory (Journal refusal) own full fault = absurd own
only_memory (Script line) own full fault = absurd own

-- ---- the room of a new journal

module _ {D : Type 0} (told : D → Option (List ℕ)) (may_leave : D → List ℕ → Type 0) (digest : List ℕ) (seed : Seed) (disk : D) (k : KeptRoom D) (r : Resumes told may_leave digest seed disk k)
    (f : List ℕ) (is_told : told disk ≡ Some f) (here : may_leave disk f) (shut : AllShut (may_leave disk) digest [] 40)
  where
    is_new : (r.journal ≡ []) × (r.place ≡ 40)
    is_new =
        new_found f (may_leave disk) here digest seed shut r.journal r.place
        record { sound = r.sound; stands = λ g is. r.stands g (is_told ∙ is); one = λ g kept batch is. r.one g kept batch (is_told ∙ is) }

    pub new_keeps : Keeps may_leave digest (first_life seed) k
    new_keeps = subst (λ j. Keeps may_leave digest (new_life seed j 40) k) is_new.0 (subst (λ p. Keeps may_leave digest (new_life seed r.journal p) k) is_new.1 r.keeps)

    pub new_going : IsGoing seed (first_life seed) k
    new_going = record { seed_is = refl; unstopped = refl; whole = r.whole }

-- ---- calls that grow

pub entering_more : (n : ℕ) → all_entering (n + 1) ≡ all_entering n ++ entering (n + 1)
entering_more n = ap all_entering (add-one n)

pub rounds_more : (many n : ℕ) → rounds many (n + 1) ≡ rounds many n ++ all_checking many (n + 1)
rounds_more many n = ap (rounds many) (add-one n)

pub checking_more : (n location : ℕ) → all_checking (n + 1) location ≡ all_checking n location ++ happens (sent (n + 1) (checking location)) ∷ []
checking_more n location = ap (λ m. all_checking m location) (add-one n)

pub taking_more : (n : ℕ) → all_taking (n + 1) ≡ all_taking n ++ takes (n + 1) ∷ []
taking_more n = ap all_taking (add-one n)
