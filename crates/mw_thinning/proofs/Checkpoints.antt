-- A run with checkpoints beside the same run without.
use Rattle.std.proofs.Common.{◌≡◌, ℕ, List, ◌∷◌, [], ◌++◌, refl, sym, ap, subst, ◌∙◌}
use Rattle.mw_model.specs.Seed.{Seed}
use Rattle.mw_protocol.specs.Lives as lives
use Rattle.mw_protocol.specs.Lives.{Life, Call, Luck, acts, crashes, left_by, new_life, reply_to}
use Rattle.mw_protocol.specs.Records.{Record}
use Rattle.mw_thinning.specs.Checkpoints.{Step, goes, thins, after, after_all, life_after_all, unthinned, plain_run, CheckpointsChangeNothing}
use Rattle.mw_thinning.specs.Same.{Same}
use Rattle.mw_thinning.specs.Thinning.{thinned}
use Rattle.mw_thinning.proofs.Histories.{Twins, begun_twins, twins_heard, twins_same, twins_lucky}
use Rattle.mw_thinning.proofs.Thinned.{same_more, thinned_is_the_same}
use Rattle.mw_thinning.proofs.Upon.{life_upon, left_upon}

-- journals that come to the same as others
pub same_self : (seed : Seed) (xs : List Record) → Same seed xs xs
same_self seed xs = record { checked = refl; received = λ team slot. refl; storage = λ key. refl; hints = refl; points = λ team slot. refl; statuses = refl }

pub same_back : (seed : Seed) (xs ys : List Record) → Same seed xs ys → Same seed ys xs
same_back seed xs ys s = record {
  checked = sym s.checked;
  received = λ team slot. sym (s.received team slot);
  storage = λ key. sym (s.storage key);
  hints = sym s.hints;
  points = λ team slot. sym (s.points team slot);
  statuses = sym s.statuses;
}

pub same_through : (seed : Seed) (xs ys zs : List Record) → Same seed xs ys → Same seed ys zs → Same seed xs zs
same_through seed xs ys zs s t = record {
  checked = s.checked ∙ t.checked;
  received = λ team slot. s.received team slot ∙ t.received team slot;
  storage = λ key. s.storage key ∙ t.storage key;
  hints = s.hints ∙ t.hints;
  points = λ team slot. s.points team slot ∙ t.points team slot;
  statuses = s.statuses ∙ t.statuses;
}

-- the lives of both runs, with the journal's gate at one place
record Beside (seed : Seed) (one two : Life) : Type 0 where
  xs : List Record
  ys : List Record
  twins : Twins seed xs ys one two
  gates : twins.gate ≡ twins.other

-- lives anew of records that come to the same
anew : (seed of with : Seed) (xs ys : List Record) (place : ℕ) → of ≡ seed → with ≡ seed → Same seed xs ys → Beside seed (new_life of xs place) (new_life with ys place)
anew seed of with xs ys place first second same =
    subst (λ s. Beside seed (new_life s xs place) (new_life with ys place)) (sym first) (
    subst (λ s. Beside seed (new_life seed xs place) (new_life s ys place)) (sym second)
    record { xs = xs; ys = ys; twins = begun_twins seed xs ys place place same; gates = refl }
    )

module _ (seed : Seed) (one two : Life) (b : Beside seed one two) where
  abbrev l : Life
  l = b.twins.life

  abbrev gate : ℕ
  gate = b.twins.gate

  second_life : two ≡ life_upon b.ys gate l
  second_life = b.twins.second ∙ ap (λ place. life_upon b.ys place l) (sym b.gates)

  beside_call : (call : Call) (luck : Luck) → (reply_to one call luck ≡ reply_to two call luck) × Beside seed (lives.life_after one call luck) (lives.life_after two call luck)
  beside_call call luck =
      let a = twins_lucky seed b.xs b.ys l gate b.twins.of b.twins.same call luck in
      subst (λ life. (reply_to life call luck ≡ reply_to two call luck) × Beside seed (lives.life_after life call luck) (lives.life_after two call luck)) (sym b.twins.first) (
      subst (λ life. (reply_to (life_upon b.xs gate l) call luck ≡ reply_to life call luck) × Beside seed (lives.life_after (life_upon b.xs gate l) call luck) (lives.life_after life call luck)) (sym second_life)
      (a.0.alike, record { xs = b.xs; ys = b.ys; twins = a.0.twins; gates = a.1 })
      )

  first_seed : one.room.seed ≡ seed
  first_seed = ap (λ life. life.room.seed) b.twins.first ∙ b.twins.of

  second_seed : two.room.seed ≡ seed
  second_seed = ap (λ life. life.room.seed) b.twins.second ∙ b.twins.of

  left_same : (more : ℕ) → Same seed (left_by one more) (left_by two more)
  left_same more =
      let first : left_by one more ≡ b.xs ++ left_by l more = ap (λ life. left_by life more) b.twins.first ∙ left_upon b.xs gate l more in
      let second : left_by two more ≡ b.ys ++ left_by l more = ap (λ life. left_by life more) second_life ∙ left_upon b.ys gate l more in
      subst (λ rs. Same seed rs (left_by two more)) (sym first) (subst (Same seed (b.xs ++ left_by l more)) (sym second) (same_more seed b.xs b.ys (left_by l more) b.twins.same))

  beside_step : (s : Step) → Beside seed (after one s) (lives.after two (unthinned s))
  beside_step (goes (acts call luck)) = (beside_call call luck).1
  beside_step (goes (crashes more place)) = anew seed one.room.seed two.room.seed (left_by one more) (left_by two more) place first_seed second_seed (left_same more)
  beside_step (thins more place) =
      let left = left_by one more in
      anew seed one.room.seed two.room.seed (thinned left) (left_by two more) place first_seed second_seed
      (same_through seed (thinned left) left (left_by two more) (same_back seed left (thinned left) (thinned_is_the_same seed left)) (left_same more))

beside_all : (seed : Seed) (steps : List Step) (one two : Life) → Beside seed one two → Beside seed (after_all one steps) (lives.after_all two (plain_run steps))
beside_all seed [] one two b = b
beside_all seed (s ∷ ss) one two b = beside_all seed ss (after one s) (lives.after two (unthinned s)) (beside_step seed one two b s)

pub checkpoints_change_nothing : CheckpointsChangeNothing
checkpoints_change_nothing seed steps =
    let one = life_after_all seed steps in
    let two = lives.life_after_all seed (plain_run steps) in
    let b = beside_all seed steps (new_life seed [] 40) (new_life seed [] 40) (anew seed seed seed [] [] 40 refl refl (same_self seed [])) in record {
      answers = λ call luck. (beside_call seed one two b call luck).0;
      sessions = twins_heard seed b.xs b.ys one two b.twins;
      journals = twins_same seed b.xs b.ys one two b.twins;
    }
