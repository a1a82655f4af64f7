-- Calls that are made one after another on a kept room.
use Rattle.std.proofs.Common.{◌≡◌, ◌∙◌, ◌≤◌, ◌||◌, ℕ, Bool, true, false, List, [], ◌∷◌, ◌++◌, map, refl, sym, ap, subst, arith}
use Rattle.mw_model.specs.Seed.{Seed}
use Rattle.mw_protocol.specs.Lives.{Life, Call, Reply, Step, acts, fine, reply_to, life_after, after, after_all}
use Rattle.mw_keep.specs.Keeps.{Keeps, kept_disk}
use Rattle.mw_keep.specs.declared.kept.KeptRoom.{KeptRoom}
use Rattle.mw_drive.specs.Calls.{IsDone, AreDone, HaveStopped}
use Rattle.mw_drive.specs.Drive.{is_overrun, is_stopped, life_through, meet_overrun, stop}
use Rattle.mw_drive.specs.Left.{IsGoing}
use Rattle.mw_drive.specs.declared.error.DriveError.{DriveError}

-- ---- steps of a life

pub all_after : (front : List Step) (life : Life) (back : List Step) → after_all life (front ++ back) ≡ after_all (after_all life front) back
all_after [] life back = refl
all_after (s ∷ ss) life back = all_after ss (after life s) back

abbrev pub call_step : Call → Step
call_step c = acts c fine

pub through_steps : (cs : List Call) (life : Life) → life_through life cs ≡ after_all life (map call_step cs)
through_steps [] life = refl
through_steps (c ∷ cs) life = through_steps cs (life_after life c fine)

or_first : (a b : Bool) → a ≡ true → (a || b) ≡ true
or_first true b h = refl
or_first false b h = cc

or_parts : (a : Bool) → (a || false) ≡ true → a ≡ true
or_parts true h = refl
or_parts false h = h

pub or_same : (a b : Bool) → a ≡ false → (a || b) ≡ b
or_same true b h = cc
or_same false b h = refl

either_more : (a b c : Bool) → ((a || b) || c) ≡ (a || (b || c))
either_more true b c = refl
either_more false b c = refl

or_none : (a : Bool) → (a || false) ≡ a
or_none true = refl
or_none false = refl

module _ {D : Type 0} (may_leave : D → List ℕ → Type 0) (faults : D → ℕ) (digest : List ℕ) (seed : Seed) where
  -- the room is kept in a life from which the calls that are left come to what all come to
  pub record AreLeft (first : Life) (before k : KeptRoom D) (met : Bool) (left all : List Call) : Type 0 where
    pub now : Life
    pub keeps : Keeps may_leave digest now k
    pub going : IsGoing seed now k
    pub steps : List Step
    pub is_now : now ≡ after_all first steps
    pub through : life_through now left ≡ life_through first all
    pub meets : (met || meet_overrun now left) ≡ meet_overrun first all
    pub stops : stop now left ≡ stop first all
    pub later : faults (kept_disk before) ≤ faults (kept_disk k)

  pub at_first : (first : Life) (before : KeptRoom D) (all : List Call) → Keeps may_leave digest first before → IsGoing seed first before → AreLeft first before before false all all
  at_first first before all keeps going =
      record { now = first; keeps = keeps; going = going; steps = []; is_now = refl; through = refl; meets = refl; stops = refl; later = omega arith }

  -- a call that is done
  pub one_more : (first : Life) (before k then : KeptRoom D) (met found : Bool) (call : Call) (left all : List Call) (reply : Reply) (l : AreLeft first before k met (call ∷ left) all)
      → IsDone may_leave digest seed l.now call reply then → found ≡ is_overrun reply → faults (kept_disk k) ≤ faults (kept_disk then)
      → AreLeft first before then (met || found) left all
  one_more first before k then met found call left all reply l done is_found later = record {
    now = life_after l.now call fine;
    keeps = done.keeps;
    going = done.going;
    steps = l.steps ++ call_step call ∷ [];
    is_now = ap (λ n. life_after n call fine) l.is_now ∙ sym (all_after l.steps first (call_step call ∷ []));
    through = l.through;
    meets =
        ap (λ f. (met || f) || meet_overrun (life_after l.now call fine) left) (is_found ∙ ap is_overrun done.replies)
        ∙ either_more met (is_overrun (reply_to l.now call fine)) (meet_overrun (life_after l.now call fine) left) ∙ l.meets;
    stops = sym (or_same (is_stopped (reply_to l.now call fine)) (stop (life_after l.now call fine) left) done.goes) ∙ l.stops;
    later = omega (arith, l.later, later);
  }

  -- all are
  pub all_done : (first : Life) (before k : KeptRoom D) (met : Bool) (all : List Call) → AreLeft first before k met [] all → AreDone may_leave digest seed first all met k
  all_done first before k met all l = record {
    meets = sym (or_none met) ∙ l.meets;
    goes = sym l.stops;
    keeps = subst (λ x. Keeps may_leave digest x k) l.through l.keeps;
    going = subst (λ x. IsGoing seed x k) l.through l.going;
  }

  -- a call that stops
  pub one_stops : (first : Life) (before k then : KeptRoom D) (met : Bool) (call : Call) (left all : List Call) (error : DriveError) (l : AreLeft first before k met (call ∷ left) all)
      → HaveStopped may_leave faults digest l.now (call ∷ []) k error then → HaveStopped may_leave faults digest first all before error then
  one_stops first before k then met call left all error l h = record {
    steps = l.steps ++ h.steps;
    keeps = subst (λ x. Keeps may_leave digest x then) (ap (λ n. after_all n h.steps) l.is_now ∙ sym (all_after l.steps first h.steps)) h.keeps;
    full = λ is. sym l.stops ∙ or_first (is_stopped (reply_to l.now call fine)) (stop (life_after l.now call fine) left) (or_parts (is_stopped (reply_to l.now call fine)) (h.full is));
    fault = λ is. omega (arith, h.fault is, l.later);
  }
