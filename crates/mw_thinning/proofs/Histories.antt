-- Two lives with the same calls, upon bases that come to the same.
use Rattle.std.proofs.Common.{◌≡◌, ℕ, ◌||◌, List, Bool, true, false, ◌∷◌, [], ◌++◌, Option, Some, None, map, length, nat_lt, ◌^◌, refl, sym, ap, ap₂, subst, ◌∙◌, true≢false}
use Rattle.std.proofs.lemmas.Bool.{cond_both}
use Rattle.mw_model.specs.Seed.{Seed}
use Rattle.mw_protocol.specs.Lives.{Life, Call, happens, commits, takes, Luck, fine, lacking, faulty, disk_fault, journal_full, too_many_calls, Reply, Outcome, passes, lacks, stops, new_life, refusal, append_of, append, length_with, or_full, outcome, answer, reply_of, reply_to, reply_unless, life_after, counted}
use Rattle.mw_protocol.specs.Records.{Record}
use Rattle.mw_protocol.specs.Rooms.{Room, opened, sent, failed, lost}
use Rattle.mw_thinning.specs.Histories.{Made, calls_of, replies, life_then, is_memory, is_failure, fails, heard_in, HistoriesOweTheSame}
use Rattle.mw_thinning.specs.Same.{Same}
use Rattle.mw_thinning.proofs.Lifted.{heard_lifted}
use Rattle.mw_thinning.proofs.Thinned.{same_more}
use Rattle.mw_thinning.proofs.Upon.{append_upon, life_upon, stepped, gate_after, stepped_alike, stepped_seed, outcome_upon, replied_upon, refused_life, accepted_life, begun, new_upon}

-- ---- outcomes

-- no call stops a life for its calls' number once it is accepted
abbrev NotTooMany : Outcome → Type 0
NotTooMany (stops (too_many_calls count)) = ⊥
NotTooMany (stops disk_fault) = Unit {0}
NotTooMany (stops (journal_full len)) = Unit {0}
NotTooMany passes = Unit {0}
NotTooMany lacks = Unit {0}

full_else : (place : ℕ) (records : List Record) (otherwise : Outcome) → NotTooMany otherwise → NotTooMany (or_full place records otherwise)
full_else place records otherwise h = cond_both (nat_lt (2 ^ 30) (length_with place records)) (stops (journal_full (length_with place records))) otherwise NotTooMany (λ _. tt) (λ _. h)

append_not : (place : ℕ) (luck : Luck) (records : List Record) → NotTooMany (append place luck records)
append_not place luck [] = tt
append_not place lacking (r ∷ rs) = tt
append_not place fine (r ∷ rs) = full_else place (r ∷ rs) passes tt
append_not place faulty (r ∷ rs) = full_else place (r ∷ rs) (stops disk_fault) tt

outcome_not : (life : Life) (call : Call) (luck : Luck) → NotTooMany (outcome life call luck)
outcome_not life (happens event) fine = tt
outcome_not life (happens event) lacking = tt
outcome_not life (happens event) faulty = tt
outcome_not life commits luck = append_not life.place luck (append_of life commits)
outcome_not life (takes number) luck = append_not life.place luck (append_of life (takes number))

no_memory : (r : Room) (call : Call) → is_memory (answer r call) ≡ false
no_memory r (happens (opened time)) = refl
no_memory r (happens (sent number packet)) = refl
no_memory r (happens (failed number bad)) = refl
no_memory r (happens (lost number)) = refl
no_memory r commits = refl
no_memory r (takes number) = refl

-- two outcomes that are answered as wanting memory, or not, and none as failing, are one
went : (r : Room) (call : Call) (one two : Outcome) → NotTooMany one → NotTooMany two → is_memory (reply_of r call one) ≡ is_memory (reply_of r call two)
    → is_failure (reply_of r call one) ≡ false → is_failure (reply_of r call two) ≡ false → one ≡ two
went r call passes passes h k same one two = refl
went r call lacks lacks h k same one two = refl
went r call passes lacks h k same one two = absurd (true≢false (sym same ∙ no_memory r call))
went r call lacks passes h k same one two = absurd (true≢false (same ∙ no_memory r call))
went r call (stops disk_fault) out h k same one two = absurd (true≢false one)
went r call (stops (journal_full len)) out h k same one two = absurd (true≢false one)
went r call (stops (too_many_calls count)) out h k same one two = absurd h
went r call passes (stops disk_fault) h k same one two = absurd (true≢false two)
went r call passes (stops (journal_full len)) h k same one two = absurd (true≢false two)
went r call passes (stops (too_many_calls count)) h k same one two = absurd k
went r call lacks (stops disk_fault) h k same one two = absurd (true≢false two)
went r call lacks (stops (journal_full len)) h k same one two = absurd (true≢false two)
went r call lacks (stops (too_many_calls count)) h k same one two = absurd k

-- ---- one call

-- lives of a seed's room upon two bases that come to the same, and the same beside them
pub record Twins (seed : Seed) (xs ys : List Record) (one two : Life) : Type 0 where
  pub life : Life
  pub gate : ℕ
  pub other : ℕ
  pub first : one ≡ life_upon xs gate life
  pub second : two ≡ life_upon ys other life
  pub of : life.room.seed ≡ seed
  pub same : Same seed xs ys

abbrev pub begun_twins : (seed : Seed) (xs ys : List Record) (gate other : ℕ) → Same seed xs ys → Twins seed xs ys (new_life seed xs gate) (new_life seed ys other)
begun_twins seed xs ys gate other same = record {
  life = begun seed;
  gate = gate;
  other = other;
  first = new_upon seed xs gate;
  second = new_upon seed ys other;
  of = refl;
  same = same;
}

pub twins_heard : (seed : Seed) (xs ys : List Record) (one two : Life) → Twins seed xs ys one two → heard_in one ≡ heard_in two
twins_heard seed xs ys one two t =
    ap heard_in t.first ∙ heard_lifted (length xs) t.life.room.sessions ∙ sym (ap heard_in t.second ∙ heard_lifted (length ys) t.life.room.sessions)

pub twins_same : (seed : Seed) (xs ys : List Record) (one two : Life) → Twins seed xs ys one two → Same seed one.room.journal two.room.journal
twins_same seed xs ys one two t =
    subst (λ life. Same seed life.room.journal two.room.journal) (sym t.first)
    (subst (λ life. Same seed (xs ++ t.life.room.journal) life.room.journal) (sym t.second) (same_more seed xs ys t.life.room.journal t.same))

-- what one call leaves of them
pub record Answered (seed : Seed) (xs ys : List Record) (one two : Life) (call : Call) (luck chance : Luck) : Type 0 where
  pub alike : reply_to one call luck ≡ reply_to two call chance
  pub twins : Twins seed xs ys (life_after one call luck) (life_after two call chance)

module _ (seed : Seed) (xs ys : List Record) (l : Life) (gate other : ℕ) (of : l.room.seed ≡ seed) (same : Same seed xs ys) (call : Call) (luck chance : Luck) where
  abbrev near : Life
  near = life_upon xs gate l

  abbrev far : Life
  far = life_upon ys other l

  abbrev refused : (reply : Reply) → refusal l call ≡ Some reply → Answered seed xs ys near far call luck chance
  refused reply is = record {
    alike = replied_upon xs gate l call luck ∙ ap (λ r. reply_unless r (reply_of l.room call (outcome_upon xs gate l call luck))) is
        ∙ sym (replied_upon ys other l call chance ∙ ap (λ r. reply_unless r (reply_of l.room call (outcome_upon ys other l call chance))) is);
    twins = record {
      life = counted l;
      gate = gate;
      other = other;
      first = refused_life xs gate l call luck reply is;
      second = refused_life ys other l call chance reply is;
      of = of;
      same = same;
    };
  }

  abbrev accepted : refusal l call ≡ None → outcome near call luck ≡ outcome far call chance → Answered seed xs ys near far call luck chance
  accepted is alike =
      let out = outcome near call luck in record {
        alike = replied_upon xs gate l call luck ∙ ap (λ r. reply_unless r (reply_of l.room call out)) is ∙ ap (reply_of l.room call) alike
            ∙ sym (replied_upon ys other l call chance ∙ ap (λ r. reply_unless r (reply_of l.room call (outcome far call chance))) is);
        twins = record {
          life = stepped xs l call out;
          gate = gate_after gate l call out;
          other = gate_after other l call out;
          first = accepted_life xs gate l call luck is out refl;
          second = accepted_life ys other l call chance is out (sym alike) ∙ ap (life_upon ys (gate_after other l call out)) (sym (stepped_alike l xs ys (subst (λ s. Same s xs ys) (sym of) same) call out));
          of = stepped_seed xs l call out ∙ of;
          same = same;
        };
      }

  -- by what they are answered
  answered : is_memory (reply_to near call luck) ≡ is_memory (reply_to far call chance) → is_failure (reply_to near call luck) ≡ false → is_failure (reply_to far call chance) ≡ false
      → Answered seed xs ys near far call luck chance
  answered memories good well = by (refusal l call) refl
    where
      by : (r : Option Reply) → refusal l call ≡ r → Answered seed xs ys near far call luck chance
      by (Some reply) is = refused reply is
      by None is =
          let out = outcome near call luck in
          let end = outcome far call chance in
          let first : reply_to near call luck ≡ reply_of l.room call out = replied_upon xs gate l call luck ∙ ap (λ r. reply_unless r (reply_of l.room call out)) is in
          let second : reply_to far call chance ≡ reply_of l.room call end = replied_upon ys other l call chance ∙ ap (λ r. reply_unless r (reply_of l.room call end)) is in
          accepted is (went l.room call out end (outcome_not near call luck) (outcome_not far call chance)
          (ap is_memory (sym first) ∙ memories ∙ ap is_memory second) (ap is_failure (sym first) ∙ good) (ap is_failure (sym second) ∙ well))

-- by what they are answered
pub twins_answered : (seed : Seed) (xs ys : List Record) (one two : Life) (call : Call) (luck chance : Luck) → Twins seed xs ys one two
    → is_memory (reply_to one call luck) ≡ is_memory (reply_to two call chance) → is_failure (reply_to one call luck) ≡ false → is_failure (reply_to two call chance) ≡ false
    → Answered seed xs ys one two call luck chance
twins_answered seed xs ys one two call luck chance t memories good well =
    subst (λ life. Answered seed xs ys life two call luck chance) (sym t.first) (
    subst (λ life. Answered seed xs ys (life_upon xs t.gate t.life) life call luck chance) (sym t.second) (
    answered seed xs ys t.life t.gate t.other t.of t.same call luck chance
    (ap (λ life. is_memory (reply_to life call luck)) (sym t.first) ∙ memories ∙ ap (λ life. is_memory (reply_to life call chance)) t.second)
    (ap (λ life. is_failure (reply_to life call luck)) (sym t.first) ∙ good)
    (ap (λ life. is_failure (reply_to life call chance)) (sym t.second) ∙ well)
    )
    )

-- with the journal's gate at one place the same luck leaves the same
pub twins_lucky : (seed : Seed) (xs ys : List Record) (l : Life) (gate : ℕ) → l.room.seed ≡ seed → Same seed xs ys → (call : Call) (luck : Luck)
    → (a : Answered seed xs ys (life_upon xs gate l) (life_upon ys gate l) call luck luck) × (a.twins.gate ≡ a.twins.other)
twins_lucky seed xs ys l gate of same call luck = by (refusal l call) refl
  where
    alike : (call : Call) → outcome (life_upon xs gate l) call luck ≡ outcome (life_upon ys gate l) call luck
    alike (happens event) = refl
    alike commits = ap (append gate luck) (append_upon xs gate l commits ∙ sym (append_upon ys gate l commits))
    alike (takes number) = ap (append gate luck) (append_upon xs gate l (takes number) ∙ sym (append_upon ys gate l (takes number)))

    by : (r : Option Reply) → refusal l call ≡ r → (a : Answered seed xs ys (life_upon xs gate l) (life_upon ys gate l) call luck luck) × (a.twins.gate ≡ a.twins.other)
    by (Some reply) is = (refused seed xs ys l gate gate of same call luck luck reply is, refl)
    by None is = (accepted seed xs ys l gate gate of same call luck luck is (alike call), refl)

-- ---- all calls

abbrev is_nil : {A : Type 0} → List A → Bool
is_nil [] = true
is_nil (x ∷ xs) = false

abbrev first_or : {A : Type 0} → A → List A → A
first_or other [] = other
first_or other (x ∷ xs) = x

abbrev rest_of : {A : Type 0} → List A → List A
rest_of [] = []
rest_of (x ∷ xs) = xs

neither : (a b : Bool) → (a || b) ≡ false → (a ≡ false) × (b ≡ false)
neither true b h = absurd (true≢false h)
neither false b h = (refl, h)

all_answered : (seed : Seed) (xs ys : List Record) (one two : Life) (made other : List Made) → Twins seed xs ys one two → calls_of made ≡ calls_of other
    → map is_memory (replies one made) ≡ map is_memory (replies two other) → fails (replies one made) ≡ false → fails (replies two other) ≡ false
    → (replies one made ≡ replies two other) × Twins seed xs ys (life_then one made) (life_then two other)
all_answered seed xs ys one two [] [] t calls wants good well = (refl, t)
all_answered seed xs ys one two [] (k ∷ ks) t calls wants good well = absurd (true≢false (ap is_nil calls))
all_answered seed xs ys one two (m ∷ ms) [] t calls wants good well = absurd (true≢false (sym (ap is_nil calls)))
all_answered seed xs ys one two (m ∷ ms) (k ∷ ks) t calls wants good well =
    let made : Call → Made = λ call. record { call = call; luck = k.luck } in
    subst (λ n. map is_memory (replies one (m ∷ ms)) ≡ map is_memory (replies two (n ∷ ks)) → fails (replies two (n ∷ ks)) ≡ false
    → (replies one (m ∷ ms) ≡ replies two (n ∷ ks)) × Twins seed xs ys (life_then one (m ∷ ms)) (life_then two (n ∷ ks)))
    (ap made (ap (first_or m.call) calls))
    (λ wanted whole.
    let here = neither (is_failure (reply_to one m.call m.luck)) (fails (replies (life_after one m.call m.luck) ms)) good in
    let there = neither (is_failure (reply_to two m.call k.luck)) (fails (replies (life_after two m.call k.luck) ks)) whole in
    let step = twins_answered seed xs ys one two m.call m.luck k.luck t (ap (first_or true) wanted) here.0 there.0 in
    let later = all_answered seed xs ys (life_after one m.call m.luck) (life_after two m.call k.luck) ms ks step.twins (ap rest_of calls) (ap rest_of wanted) here.1 there.1 in (
      ap₂ (λ r rs. r ∷ rs) step.alike later.0,
      later.1,
    ))
    wants well

pub histories_owe_the_same : HistoriesOweTheSame
histories_owe_the_same seed journal base place gate made other same alike =
    let one = new_life seed journal place in
    let two = new_life seed base gate in
    let t = begun_twins seed journal base place gate same in
    let all = all_answered seed journal base one two made other t alike.calls alike.wants alike.first_whole alike.second_whole in record {
      answers = all.0;
      sessions = twins_heard seed journal base (life_then one made) (life_then two other) all.1;
      journals = twins_same seed journal base (life_then one made) (life_then two other) all.1;
    }
