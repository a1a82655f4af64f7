-- The run of a script, command by command: its puts, its lives, and that what is put was taken.
use Rattle.std.proofs.Common.{◌≡◌, ◌∙◌, ◌||◌, ℕ, Bool, true, false, not, cond, List, [], ◌∷◌, ◌++◌, Option, Some, None, map, refl, sym, ap, subst, append_assoc}
use Rattle.std.proofs.KnownBytes.{Appends-trans, Appends-nil}
use Rattle.std.proofs.lemmas.Grind.{flat_map-append}
use Rattle.std.proofs.lemmas.List.Elements.{All-nil, All-append, All-map, All-cons, All-contains_itself}
use Rattle.std.specs.Io.KnownBytes.{Appends}
use Rattle.std.specs.Option.{is_some}
use Rattle.std.specs.Prelude.{All, slice_index_or}
use Rattle.mw_protocol.specs.Lives.{Life, takes as take_call, Step, crashes as crash_step, fine, after_all, reply_to, untaken_in}
use Rattle.mw_protocol.specs.Connecting.{Member}
use Rattle.mw_protocol.specs.Rooms.{Message, member_in, session_in}
use Rattle.mw_laws.specs.Kept.{Passes}
use Rattle.mw_laws.specs.Tails.{taking}
use Rattle.mw_script.specs.Commands.{Command, opens, sends, takes, loses, commits, crashes}
use Rattle.mw_drive.specs.Drive.{Put, gone, overrun, message, put_line, text_put, is_crash, calls, calls_of, named, is_absent, is_overrun, is_stopped, meet_overrun, stop, is_full, puts, told_of, taken_by, taken_from, after, Run, after_puts, run}
use Rattle.mw_drive.specs.Left.{IsPutFrom, IsTaken}
use Rattle.mw_drive.proofs.Calling.{call_step, through_steps, all_after}
use Rattle.mw_drive.proofs.Commanding.{present_calls, session_there}
use Rattle.mw_drive.proofs.Taking.{take_passes}

-- ---- texts

pub text_both : (ps qs : List Put) → text_put (ps ++ qs) ≡ text_put ps ++ text_put qs
text_both ps qs = flat_map-append put_line ps qs

-- ---- the run

pub run_goes : (life : Life) (c : Command) (cs : List Command) → is_full life c ≡ false → run life (c ∷ cs) ≡ after_puts (puts life c) (run (after life c) cs)
run_goes life c cs h = ap (λ b. cond b record { puts = []; life = life; full = true } (after_puts (puts life c) (run (after life c) cs))) h

pub run_full : (life : Life) (c : Command) (cs : List Command) → is_full life c ≡ true → run life (c ∷ cs) ≡ record { puts = []; life = life; full = true }
run_full life c cs h = ap (λ b. cond b record { puts = []; life = life; full = true } (after_puts (puts life c) (run (after life c) cs))) h

pub puts_twice : (ps qs : List Put) (r : Run) → after_puts (ps ++ qs) r ≡ after_puts ps (after_puts qs r)
puts_twice ps qs r = ap (λ all. record { puts = all; life = r.life; full = r.full }) (append_assoc ps qs r.puts)

-- ---- steps of a life

pub step_of : (life : Life) (c : Command) → (steps : List Step) × (after life c ≡ after_all life steps)
step_of life (opens time) = (map call_step (calls life (opens time)), through_steps (calls life (opens time)) life)
step_of life (sends session is) = (map call_step (calls life (sends session is)), through_steps (calls life (sends session is)) life)
step_of life (takes session) = (map call_step (calls life (takes session)), through_steps (calls life (takes session)) life)
step_of life (loses session) = (map call_step (calls life (loses session)), through_steps (calls life (loses session)) life)
step_of life commits = (map call_step (calls life commits), through_steps (calls life commits) life)
step_of life crashes = (crash_step 0 life.place ∷ [], refl)

pub called : (life : Life) (c : Command) → is_crash c ≡ false → (step_of life c).0 ≡ map call_step (calls life c)
unfolding step_of
called life (opens time) h = refl
called life (sends session is) h = refl
called life (takes session) h = refl
called life (loses session) h = refl
called life commits h = refl
called life crashes h = cc

-- ---- what is put was taken

-- and is so along each run that goes on
taken_later : (life : Life) (steps more : List Step) (session : ℕ) (member : Option Member) (m : Message) → IsTaken life steps session fine member m → IsTaken life (steps ++ more) session fine member m
taken_later life steps more session member m t = record {
  front = t.front;
  back = t.back ++ more;
  goes_on = ap (λ s. s ++ more) t.goes_on ∙ append_assoc t.front (taking session fine ∷ t.back) more;
  passes = t.passes;
  plays = t.plays;
  taken = t.taken;
}

put_later : (life : Life) (steps more : List Step) (p : Put) → IsPutFrom life steps p → IsPutFrom life (steps ++ more) p
put_later life steps more (gone session) h = tt
put_later life steps more (overrun session) h = tt
put_later life steps more (message session member m) h = taken_later life steps more session member m h

pub puts_later : (life : Life) (steps more : List Step) (ps : List Put) → All (IsPutFrom life steps) ps → All (IsPutFrom life (steps ++ more)) ps
puts_later life steps more ps h k d lt = put_later life steps more (slice_index_or ps k d) (h k d lt)

module _ (life : Life) (steps : List Step) where
  -- the life that they come to
  abbrev now_life : Life
  now_life = after_all life steps

  -- the messages that a session takes, once it took them
  taken_put : (session : ℕ) → Passes now_life (take_call session) fine → All (IsPutFrom life (steps ++ taking session fine ∷ [])) (taken_by now_life.room session)
  taken_put session passes =
      let then = steps ++ taking session fine ∷ [] in
      let member = member_in now_life.room.sessions session in
      let ms = untaken_in now_life session in
      All-map (IsPutFrom life then) (message session member) ms
      (λ i d lt. record { front = steps; back = []; goes_on = refl; passes = passes; plays = refl; taken = All-contains_itself ms i d lt })

  -- so it is of a session that is open
  there_put : (session : ℕ) → is_some (session_in now_life.room.sessions session) ≡ true → is_stopped (reply_to now_life (take_call session) fine) ≡ false
      → is_overrun (reply_to now_life (take_call session) fine) ≡ false → All (IsPutFrom life (steps ++ taking session fine ∷ [])) (taken_by now_life.room session)
  there_put session there goes fits =
      let s = session_there now_life session there in
      taken_put session (take_passes now_life session s.0 s.1 goes fits)

  module _ (c : Command) (goes : is_full now_life c ≡ false) where
    abbrev then_steps : List Step
    then_steps = steps ++ (step_of now_life c).0

    told_put : (put : ℕ → Put) (o : Option ℕ) → ((n : ℕ) → IsPutFrom life then_steps (put n)) → All (IsPutFrom life then_steps) (told_of put o)
    told_put put None h = All-nil (IsPutFrom life then_steps)
    told_put put (Some n) h = All-cons (IsPutFrom life then_steps) (put n) [] (h n) (All-nil (IsPutFrom life then_steps))

    put_by : (b d : Bool) → (b ≡ false → d ≡ false → All (IsPutFrom life then_steps) (taken_from now_life.room c))
        → All (IsPutFrom life then_steps) (cond b (told_of gone (named c)) (cond d (told_of overrun (named c)) (taken_from now_life.room c)))
    put_by true d h = told_put gone (named c) (λ n. tt)
    put_by false true h = told_put overrun (named c) (λ n. tt)
    put_by false false h = h refl refl

  not_false : (b : Bool) → not b ≡ false → b ≡ true
  not_false true h = refl
  not_false false h = cc

  first_false : (b : Bool) → (b || false) ≡ false → b ≡ false
  first_false true h = cc
  first_false false h = refl

  from_put : (c : Command) (goes : is_full now_life c ≡ false) → is_absent now_life c ≡ false → meet_overrun now_life (calls_of c) ≡ false → All (IsPutFrom life (then_steps c goes)) (taken_from now_life.room c)
  unfolding step_of
  from_put (opens time) goes present fits = All-nil (IsPutFrom life (then_steps (opens time) goes))
  from_put (sends session is) goes present fits = All-nil (IsPutFrom life (then_steps (sends session is) goes))
  from_put (loses session) goes present fits = All-nil (IsPutFrom life (then_steps (loses session) goes))
  from_put commits goes present fits = All-nil (IsPutFrom life (then_steps commits goes))
  from_put crashes goes present fits = All-nil (IsPutFrom life (then_steps crashes goes))
  from_put (takes session) goes present fits =
      let there = not_false (is_some (session_in now_life.room.sessions session)) present in
      let made : calls now_life (takes session) ≡ take_call session ∷ [] = present_calls now_life (takes session) session refl there in
      subst (λ cs. All (IsPutFrom life (steps ++ map call_step cs)) (taken_by now_life.room session)) (sym made)
      (there_put session there
      (first_false (is_stopped (reply_to now_life (take_call session) fine)) (ap (stop now_life) (sym made) ∙ goes))
      (first_false (is_overrun (reply_to now_life (take_call session) fine)) fits))

  -- and so is what a command puts that is done
  puts_from : (c : Command) (goes : is_full now_life c ≡ false) → All (IsPutFrom life (then_steps c goes)) (puts now_life c)
  puts_from c goes = put_by c goes (is_absent now_life c) (meet_overrun now_life (calls_of c)) (from_put c goes)

pub puts_are_from : (life : Life) (steps : List Step) (now : Life) → now ≡ after_all life steps → (c : Command) → is_full now c ≡ false → All (IsPutFrom life (steps ++ (step_of now c).0)) (puts now c)
puts_are_from life steps now is c goes =
    subst (λ l. is_full l c ≡ false → All (IsPutFrom life (steps ++ (step_of l c).0)) (puts l c)) (sym is) (puts_from life steps c) goes

-- ---- commands that are done one after another

-- some were: what they put and what those that are left come to is what all come to, and what they
-- put was taken
pub record IsRun (first : Life) (now : Life) (old new : Option (List ℕ)) (left all : List Command) : Type 0 where
  pub ps : List Put
  pub steps : List Step
  pub is_now : now ≡ after_all first steps
  pub whole : after_puts ps (run now left) ≡ run first all
  pub put : Appends old new (text_put ps)
  pub taken : All (IsPutFrom first steps) ps

pub run_begins : (first : Life) (held : Option (List ℕ)) (all : List Command) → IsRun first first held held all all
run_begins first held all = record {
  ps = [];
  steps = [];
  is_now = refl;
  whole = refl;
  put = Appends-nil held;
  taken = All-nil (IsPutFrom first []);
}

module _ (first now : Life) (old new last : Option (List ℕ)) (c : Command) (left all : List Command) (r : IsRun first now old new (c ∷ left) all) where
  -- what was put before was taken, and what the next command puts that is done
  pub put_then : is_full now c ≡ false → All (IsPutFrom first (r.steps ++ (step_of now c).0)) (r.ps ++ puts now c)
  put_then goes =
      let more = (step_of now c).0 in
      All-append (IsPutFrom first (r.steps ++ more)) r.ps (puts now c) (puts_later first r.steps more r.ps r.taken) (puts_are_from first r.steps now r.is_now c goes)

  -- one command more
  pub run_more : is_full now c ≡ false → Appends new last (text_put (puts now c)) → IsRun first (after now c) old last left all
  run_more goes put =
      let step = step_of now c in
      record {
        ps = r.ps ++ puts now c;
        steps = r.steps ++ step.0;
        is_now = step.1 ∙ ap (λ l. after_all l step.0) r.is_now ∙ sym (all_after r.steps first step.0);
        whole = puts_twice r.ps (puts now c) (run (after now c) left) ∙ ap (after_puts r.ps) (sym (run_goes now c left goes)) ∙ r.whole;
        put = subst (Appends old last) (sym (text_both r.ps (puts now c))) (Appends-trans _ _ _ _ _ r.put put);
        taken = put_then goes;
      }
