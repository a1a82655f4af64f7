-- The life of a room, told as calls with their replies and the luck of each.
use Rattle.std.proofs.Common.{◌≡◌, ◌∙◌, ◌⊎◌, ◌^◌, ◌||◌, ◌&&◌, arith, ℕ, List, [], ◌∷◌, ◌++◌, Bool, true, false, not, cond, Option, Some, None, map, refl, sym, ap, subst, inl, inr, append_assoc, true≢false}
use Rattle.std.proofs.lemmas.List.Elements.{Contains-append_right}
use Rattle.std.specs.List.{AllByRecursion, Contains, list_any}
use Rattle.std.specs.Prelude.{nat_le, nat_lt}
use Rattle.mw_protocol.specs.Lives.{Life, Call, happens, commits, takes, Luck, fine, lacking, faulty, Outcome, passes, lacks, stops, StopCause, disk_fault, journal_full, too_many_calls, Reply, opens, done, messages, gone, overrun, stopped, memory, append, append_of, length_with, planned, outcome, answer, reply_of, reply_to, reply_unless, refusal, refused_by, refused_in, refused_to, ends, named_by, life_after, life_of, life_unless, Step, acts, after, after_all, untaken_in}
use Rattle.mw_protocol.specs.Records.{Record}
use Rattle.mw_protocol.specs.Rooms.{Room, Session, Message, opened, sent, failed, lost, member_in, session_in, text_of}
use Rattle.mw_laws.specs.Kept.{LivesKeep, Passes, is_done}
use Rattle.mw_laws.specs.Tails.{TakenWasOwed, taking}
use Rattle.mw_keep.specs.Standing.{is_faulty}
use Rattle.mw_serve.specs.Sent.{IsSentFrom}

-- each call was answered by the reply that was due to it, with this luck
abbrev pub Due : Life → List (Call × Reply) → List Luck → Type 0
Due life [] [] = Unit {0}
Due life [] (l ∷ ls) = ⊥
Due life (c ∷ cs) [] = ⊥
Due life (c ∷ cs) (l ∷ ls) = (c.1 ≡ reply_to life c.0 l) × Due (life_after life c.0 l) cs ls

-- the same as steps of a life
abbrev pub steps_of : List (Call × Reply) → List Luck → List Step
steps_of [] ls = []
steps_of (c ∷ cs) [] = []
steps_of (c ∷ cs) (l ∷ ls) = acts c.0 l ∷ steps_of cs ls

pub after_append : (life : Life) (xs ys : List Step) → after_all life (xs ++ ys) ≡ after_all (after_all life xs) ys
after_append life [] ys = refl
after_append life (x ∷ xs) ys = after_append (after life x) xs ys

-- ---- texts that were taken

contains_later : {X : Type 0} (x y : X) (xs : List X) → Contains xs x → Contains (y ∷ xs) x
contains_later x y xs h = Contains-append_right (y ∷ []) xs x h

each_text : (Q : List ℕ → Type 0) (ms : List Message) → ((m : Message) → Contains ms m → Q (text_of m)) → AllByRecursion Q (map text_of ms)
each_text Q [] f = tt
each_text Q (m ∷ ms) f = (f m (0, omega arith, refl), each_text Q ms (λ n has. f n (contains_later n m ms has)))

module _ (lives : LivesKeep) (was_owed : TakenWasOwed) (first : Life) where
  took_now : (front : List Step) (rest : List (Call × Reply)) (l : Luck) (ls : List Luck) (session : ℕ) (texts : List (List ℕ)) → messages texts ≡ reply_to (after_all first front) (takes session) l
      → AllByRecursion (IsSentFrom first (front ++ taking session l ∷ steps_of rest ls) session) texts
  took_now front rest l ls session texts due =
      let life = after_all first front in
      let passed : Passes life (takes session) l = (lives.calls life (takes session) l).done.0 (ap is_done (sym due)) in
      let steps = front ++ taking session l ∷ steps_of rest ls in
      subst (AllByRecursion (IsSentFrom first steps session)) (sym (was_owed.texts life session l texts (sym due)))
      (each_text (IsSentFrom first steps session) (untaken_in life session) (λ m has. (
        l,
        member_in life.room.sessions session,
        m,
        refl,
        record { front = front; back = steps_of rest ls; goes_on = refl; passes = passed; plays = refl; taken = has },
      )))

  pub took : (past rest : List (Call × Reply)) (session : ℕ) (texts : List (List ℕ)) (front : List Step) (life : Life) (ls : List Luck) → life ≡ after_all first front
      → Due life (past ++ (takes session, messages texts) ∷ rest) ls → AllByRecursion (IsSentFrom first (front ++ steps_of (past ++ (takes session, messages texts) ∷ rest) ls) session) texts
  took [] rest session texts front life [] is due = absurd due
  took [] rest session texts front life (l ∷ ls) is due = took_now front rest l ls session texts (subst (λ f. messages texts ≡ reply_to f (takes session) l) is due.0)
  took (c ∷ cs) rest session texts front life [] is due = absurd due
  took (c ∷ cs) rest session texts front life (l ∷ ls) is due =
      let next : life_after life c.0 l ≡ after_all first (front ++ acts c.0 l ∷ []) = ap (λ f. life_after f c.0 l) is ∙ sym (after_append first front (acts c.0 l ∷ [])) in
      subst (λ ss. AllByRecursion (IsSentFrom first ss session) texts) (append_assoc front (acts c.0 l ∷ []) (steps_of (cs ++ (takes session, messages texts) ∷ rest) ls))
      (took cs rest session texts (front ++ acts c.0 l ∷ []) (life_after life c.0 l) ls next due.1)

-- ---- faults of the disk

abbrev pub is_fault : StopCause → Bool
is_fault disk_fault = true
is_fault (journal_full len) = false
is_fault (too_many_calls n) = false

abbrev pub faulted : Option StopCause → Bool
faulted None = false
faulted (Some cause) = is_fault cause

-- it is answered that the disk failed
abbrev pub tells_fault : Reply → Bool
tells_fault (opens session) = false
tells_fault done = false
tells_fault (messages texts) = false
tells_fault gone = false
tells_fault overrun = false
tells_fault (stopped cause) = is_fault cause
tells_fault memory = false

abbrev fault_in : Option Reply → Bool
fault_in None = false
fault_in (Some r) = tells_fault r

abbrev fails : Outcome → Bool
fails passes = false
fails lacks = false
fails (stops cause) = is_fault cause

full_fails : (b : Bool) (len : ℕ) → fails (cond b (stops (journal_full len)) passes) ≡ false
full_fails true len = refl
full_fails false len = refl

append_fails : (place : ℕ) (l : Luck) (rs : List Record) → fails (append place l rs) ≡ true → l ≡ faulty
append_fails place l [] h = cc
append_fails place fine (r ∷ rs) h = absurd (true≢false (sym h ∙ full_fails (nat_lt (2 ^ 30) (length_with place (r ∷ rs))) (length_with place (r ∷ rs))))
append_fails place lacking (r ∷ rs) h = cc
append_fails place faulty (r ∷ rs) h = refl

planned_fails : (l : Luck) → fails (planned l) ≡ true → l ≡ faulty
planned_fails fine h = cc
planned_fails lacking h = cc
planned_fails faulty h = cc

outcome_fails : (life : Life) (call : Call) (l : Luck) → fails (outcome life call l) ≡ true → l ≡ faulty
outcome_fails life (happens event) l h = planned_fails l h
outcome_fails life commits l h = append_fails life.place l (append_of life commits) h
outcome_fails life (takes number) l h = append_fails life.place l (append_of life (takes number)) h

answer_tells : (room : Room) (call : Call) → tells_fault (answer room call) ≡ false
answer_tells room (happens (opened time)) = refl
answer_tells room (happens (sent number packet)) = refl
answer_tells room (happens (failed number bad)) = refl
answer_tells room (happens (lost number)) = refl
answer_tells room commits = refl
answer_tells room (takes number) = refl

reply_tells : (room : Room) (call : Call) (o : Outcome) → tells_fault (reply_of room call o) ≡ true → fails o ≡ true
reply_tells room call passes h = absurd (true≢false (sym h ∙ answer_tells room call))
reply_tells room call lacks h = cc
reply_tells room call (stops cause) h = h

-- a refusal tells it of a room that had stopped so
over_tells : (b : Bool) → fault_in (cond b (Some overrun) None) ≡ false
over_tells true = refl
over_tells false = refl

named_tells : (ending : Bool) (s : Option Session) → fault_in (refused_to ending s) ≡ false
named_tells ending None = refl
named_tells ending (Some s) = over_tells (s.overrun && not ending)

in_tells : (room : Room) (ending : Bool) (n : Option ℕ) → fault_in (refused_in room ending n) ≡ false
in_tells room ending None = refl
in_tells room ending (Some n) = named_tells ending (session_in room.sessions n)

many_tells : (b : Bool) (otherwise : Option Reply) → fault_in otherwise ≡ false → fault_in (cond b (Some (stopped (too_many_calls (2 ^ 63)))) otherwise) ≡ false
many_tells true otherwise h = refl
many_tells false otherwise h = h

by_tells : (cause : Option StopCause) (calls : ℕ) (otherwise : Option Reply) → fault_in otherwise ≡ false → fault_in (refused_by cause calls otherwise) ≡ true → faulted cause ≡ true
by_tells (Some cause) calls otherwise h is = is
by_tells None calls otherwise h is = absurd (true≢false (sym is ∙ many_tells (nat_le (2 ^ 63) calls) otherwise h))

refusal_tells : (life : Life) (call : Call) → fault_in (refusal life call) ≡ true → faulted life.stopped ≡ true
refusal_tells life call h = by_tells life.stopped life.calls (refused_in life.room (ends call) (named_by call)) (in_tells life.room (ends call) (named_by call)) h

unless_tells : (life : Life) (call : Call) (l : Luck) (refused : Option Reply) → (fault_in refused ≡ true → faulted life.stopped ≡ true)
    → tells_fault (reply_unless refused (reply_of life.room call (outcome life call l))) ≡ true → (faulted life.stopped ≡ true) ⊎ (l ≡ faulty)
unless_tells life call l None f h = inr (outcome_fails life call l (reply_tells life.room call (outcome life call l) h))
unless_tells life call l (Some r) f h = inl (f h)

tells_so : (life : Life) (call : Call) (l : Luck) → tells_fault (reply_to life call l) ≡ true → (faulted life.stopped ≡ true) ⊎ (l ≡ faulty)
tells_so life call l h = unless_tells life call l (refusal life call) (refusal_tells life call) h

then_faulted : (life : Life) (call : Call) (o : Outcome) → faulted (life_of life call o).stopped ≡ true → (faulted life.stopped ≡ true) ⊎ (fails o ≡ true)
then_faulted life call passes h = inl h
then_faulted life call lacks h = inl h
then_faulted life call (stops cause) h = inr h

unless_faulted : (life : Life) (call : Call) (l : Luck) (refused : Option Reply) → faulted (life_unless refused life (life_of life call (outcome life call l))).stopped ≡ true → (faulted life.stopped ≡ true) ⊎ (l ≡ faulty)
unless_faulted life call l None h = elim (then_faulted life call (outcome life call l) h) [ inl before ↦ inl before | inr now ↦ inr (outcome_fails life call l now) ]
unless_faulted life call l (Some r) h = inl h

faulted_so : (life : Life) (call : Call) (l : Luck) → faulted (life_after life call l).stopped ≡ true → (faulted life.stopped ≡ true) ⊎ (l ≡ faulty)
faulted_so life call l h = unless_faulted life call l (refusal life call) h

or_later : (l : Luck) (ls : List Luck) → list_any is_faulty ls ≡ true → list_any is_faulty (l ∷ ls) ≡ true
or_later fine ls h = h
or_later lacking ls h = h
or_later faulty ls h = refl

now_or_later : (l : Luck) (ls : List Luck) → l ≡ faulty → list_any is_faulty (l ∷ ls) ≡ true
now_or_later l ls is = subst (λ x. list_any is_faulty (x ∷ ls) ≡ true) (sym is) refl

-- a life in which some call is answered that the disk failed was out of luck with it, unless it had stopped so before
later_fault : (life : Life) (call : Call) (l : Luck) (ls : List Luck) → (faulted (life_after life call l).stopped ≡ true) ⊎ (list_any is_faulty ls ≡ true) → (faulted life.stopped ≡ true) ⊎ (list_any is_faulty (l ∷ ls) ≡ true)
later_fault life call l ls (inl so) = elim (faulted_so life call l so) [ inl before ↦ inl before | inr is ↦ inr (now_or_later l ls is) ]
later_fault life call l ls (inr so) = inr (or_later l ls so)

head_fault : (life : Life) (c : Call × Reply) (l : Luck) (ls : List Luck) (rest : Bool) (b : Bool) → tells_fault c.1 ≡ b → c.1 ≡ reply_to life c.0 l
    → (rest ≡ true → (faulted (life_after life c.0 l).stopped ≡ true) ⊎ (list_any is_faulty ls ≡ true)) → (b || rest) ≡ true → (faulted life.stopped ≡ true) ⊎ (list_any is_faulty (l ∷ ls) ≡ true)
head_fault life c l ls rest true is due later h = elim (tells_so life c.0 l (ap tells_fault (sym due) ∙ is)) [ inl before ↦ inl before | inr luck ↦ inr (now_or_later l ls luck) ]
head_fault life c l ls rest false is due later h = later_fault life c.0 l ls (later h)

pub told_fault : (life : Life) (cs : List (Call × Reply)) (ls : List Luck) → Due life cs ls → list_any (λ c. tells_fault c.1) cs ≡ true → (faulted life.stopped ≡ true) ⊎ (list_any is_faulty ls ≡ true)
told_fault life [] [] due h = cc
told_fault life [] (l ∷ ls) due h = absurd due
told_fault life (c ∷ cs) [] due h = absurd due
told_fault life (c ∷ cs) (l ∷ ls) due h =
    head_fault life c l ls (list_any (λ x. tells_fault x.1) cs) (tells_fault c.1) refl due.0 (told_fault (life_after life c.0 l) cs ls due.1) h
