-- What a run that served links did alone: what it sent is kept, on a journal that runs of lives led to, with checkpoints between them or without.
use Rattle.std.proofs.Common.{◌≡◌, ◌∙◌, ℕ, List, [], ◌∷◌, ◌++◌, Option, Some, None, true, map, sym, ap, subst, inl, inr, append_assoc, append-nil}
use Rattle.std.proofs.lemmas.List.{map-append}
use Rattle.std.specs.Option.{is_some}
use Rattle.std.specs.List.{AllByRecursion}
use Rattle.mw_edges.specs.Folders.{opened_bytes}
use Rattle.mw_model.specs.Seed.{Seed}
use Rattle.mw_protocol.specs.Lives as lives
use Rattle.mw_protocol.specs.Lives.{Life, crashes, new_life}
use Rattle.mw_protocol.specs.Rooms.{session_in}
use Rattle.mw_laws.specs.Shows.{MayPlayAs}
use Rattle.mw_thinning.specs.Checkpoints.{Step, goes, life_after_all}
use Rattle.mw_keep.specs.Left.{IsLeft}
use Rattle.mw_session.specs.declared.served.Served.{Served}
use Rattle.mw_drive.specs.Ends.{IsFound, StaysSettled}
use Rattle.mw_drive.proofs.Calling.{all_after}
use Rattle.mw_drive.proofs.Telling.{found_anew, left_stays, plays_then, run_then, shows_then, tails_then, taken_then, then}
use Rattle.mw_offline.specs.FilesAround.{FilesAround}
use Rattle.mw_offline.proofs.Keeping.{Laws, across_seed, gone_on, plain_seed, told_across}
use Rattle.mw_serve.specs.Across.{AllAcross, AreFirstAcross, AreSentAcross, IsSentAcross, SendsAcross}
use Rattle.mw_serve.specs.Sent.{AllFrom, AllKeep, AreFirstFrom, AreFirstOwed, AreOfTaken, AreSentFrom, IsSentFrom, KeepsSent, LineKeeps, SendsFound, SendsFrom}
use Rattle.mw_serve.specs.Serving.{SentKeeps}
use Rattle.mw_serve.specs.Taken.{IsOfTaken}

pub all_weaker : {X : Type 0} (P Q : X → Type 0) → ((x : X) → P x → Q x) → (xs : List X) → AllByRecursion P xs → AllByRecursion Q xs
all_weaker P Q f [] h = tt
all_weaker P Q f (x ∷ xs) h = (f x h.0, all_weaker P Q f xs h.1)

-- of all texts that were sent over all links
module _ {T : Type 0} (P Q : Served T → Type 0) (f : (e : Served T) → P e → Q e) where
  pub every_weaker : (served : List (List (Served T))) → AllByRecursion (AllByRecursion P) served → AllByRecursion (AllByRecursion Q) served
  every_weaker served h = all_weaker (AllByRecursion P) (AllByRecursion Q) (λ es. all_weaker P Q f es) served h

-- ---- a step before

module _ (life : Life) (s : lives.Step) (steps : List lives.Step) where
  text_before : (session : ℕ) (text : List ℕ) → IsSentFrom (lives.after life s) steps session text → IsSentFrom life (s ∷ steps) session text
  text_before session text (luck, member, m, is, t) =
      (luck, member, m, is, record { front = s ∷ t.front; back = t.back; goes_on = ap (λ ss. s ∷ ss) t.goes_on; passes = t.passes; plays = t.plays; taken = t.taken })

  texts_before : (session : Option ℕ) (texts : List (List ℕ)) → AreSentFrom (lives.after life s) steps session texts → AreSentFrom life (s ∷ steps) session texts
  texts_before None texts h = h
  texts_before (Some session) texts h = (
    all_weaker (IsSentFrom (lives.after life s) steps session) (IsSentFrom life (s ∷ steps) session) (text_before session) texts h.0,
    record { front = s ∷ h.1.front; back = h.1.back; point = ap (λ ss. s ∷ ss) h.1.point; s = h.1.s; found = h.1.found; first = h.1.first },
  )

module _ {T : Type 0} (sent_by : T → List (List ℕ)) (images : List ℕ → Type 0) (digest : List ℕ) (served : List (List (Served T))) where
  sends_before : (life : Life) (s : lives.Step) → SendsFrom sent_by images digest (lives.after life s) served → SendsFrom sent_by images digest life served
  sends_before life s k = record {
    steps = s ∷ k.steps;
    left = k.left;
    sent = every_weaker (λ (e : Served T). AreSentFrom (lives.after life s) k.steps e.session (sent_by e.line)) (λ (e : Served T). AreSentFrom life (s ∷ k.steps) e.session (sent_by e.line)) (λ e. texts_before life s k.steps e.session (sent_by e.line)) served k.sent;
  }

  -- nothing was sent
  pub quiet_sends : (life : Life) → served ≡ [] → IsLeft images digest life → SendsFrom sent_by images digest life served
  quiet_sends life none is = record { steps = []; left = is; sent = subst (AllFrom sent_by life []) (sym none) tt }

-- from the records that were found, to a life for which what a crash left was settled
pub sends_found : {T : Type 0} (sent_by : T → List (List ℕ)) (told : Option (List ℕ)) (images left : List ℕ → Type 0) (digest : List ℕ) (seed : Seed) (served : List (List (Served T)))
    → SendsFound sent_by (IsFound told images digest seed) (StaysSettled images left digest) left digest seed served → is_some told ≡ true
    → (life : Life) → life.room.seed ≡ seed → IsLeft images digest life → SendsFrom sent_by left digest life served
sends_found sent_by told images left digest seed served (inl (stays, none)) some life of was = quiet_sends sent_by left digest served life none (left_stays images left digest life stays was)
sends_found sent_by told images left digest seed served (inr (journal, place, found, k)) some life of was =
    let anew = found_anew told images digest seed journal place found some life of was in
    sends_before sent_by left digest served life (crashes anew.0 place) (subst (λ l. SendsFrom sent_by left digest l served) anew.1 k)

-- ---- in a life to which a run of lives came

module _ (laws : Laws) (seed : Seed) (before steps : List lives.Step) where
  text_kept : (session : ℕ) (text : List ℕ) → IsSentFrom (lives.life_after_all seed before) steps session text → IsOfTaken seed (before ++ steps) session text
  text_kept session text (luck, member, m, is, t) = (
    m,
    is,
    record {
      front = then laws.shown laws.tails seed before steps session luck member m t;
      luck = luck;
      back = t.back;
      goes_on = run_then laws.shown laws.tails seed before steps session luck member m t;
      taken = taken_then laws.shown laws.tails seed before steps session luck member m t;
      tails = tails_then laws.shown laws.tails seed before steps session luck member m t;
      shows = λ later k plays. shows_then laws.shown laws.tails seed before steps session luck member m t later k (subst (MayPlayAs k) (plays_then laws.shown laws.tails seed before steps session luck member m t) plays);
    },
  )

  first_kept : (session : ℕ) (texts : List (List ℕ)) → AreFirstFrom (lives.life_after_all seed before) steps session texts → AreFirstOwed seed (before ++ steps) session texts
  first_kept session texts h = record {
    front = before ++ h.front;
    back = h.back;
    point = ap (λ ss. before ++ ss) h.point ∙ sym (append_assoc before h.front h.back);
    s = h.s;
    found = ap (λ l. session_in l.room.sessions session) (all_after before (new_life seed [] 40) h.front) ∙ h.found;
    first = h.first;
  }

  texts_kept : (session : Option ℕ) (texts : List (List ℕ)) → AreSentFrom (lives.life_after_all seed before) steps session texts → AreOfTaken seed (before ++ steps) session texts
  texts_kept None texts h = h
  texts_kept (Some session) texts h =
      (all_weaker (IsSentFrom (lives.life_after_all seed before) steps session) (IsOfTaken seed (before ++ steps) session) (text_kept session) texts h.0, first_kept session texts h.1)

-- and with checkpoints between the lives
module _ (laws : Laws) (seed : Seed) (before : List Step) (steps : List lives.Step) where
  text_across : (session : ℕ) (text : List ℕ) → IsSentFrom (life_after_all seed before) steps session text → IsSentAcross seed (before ++ map goes steps) session text
  text_across session text (luck, member, m, is, t) = (luck, member, m, is, told_across laws seed before steps session luck member m t)

  first_across : (session : ℕ) (texts : List (List ℕ)) → AreFirstFrom (life_after_all seed before) steps session texts → AreFirstAcross seed (before ++ map goes steps) session texts
  first_across session texts h = record {
    front = before ++ map goes h.front;
    back = map goes h.back;
    point = ap (λ ss. before ++ map goes ss) h.point ∙ ap (λ ss. before ++ ss) (map-append goes h.front h.back) ∙ sym (append_assoc before (map goes h.front) (map goes h.back));
    s = h.s;
    found = ap (λ l. session_in l.room.sessions session) (sym (gone_on seed before h.front)) ∙ h.found;
    first = h.first;
  }

  texts_across : (session : Option ℕ) (texts : List (List ℕ)) → AreSentFrom (life_after_all seed before) steps session texts → AreSentAcross seed (before ++ map goes steps) session texts
  texts_across None texts h = h
  texts_across (Some session) texts h =
      (all_weaker (IsSentFrom (life_after_all seed before) steps session) (IsSentAcross seed (before ++ map goes steps) session) (text_across session) texts h.0, first_across session texts h.1)

module _ {T : Type 0} (sent_by : T → List (List ℕ)) (laws : Laws) (images : List ℕ → Type 0) (digest : List ℕ) (seed : Seed) (served : List (List (Served T))) where
  pub sends_shown : (before : List lives.Step) → SendsFrom sent_by images digest (lives.life_after_all seed before) served → KeepsSent sent_by images digest seed before served
  sends_shown before k = record {
    more = k.steps;
    settled = subst (IsLeft images digest) (sym (all_after before (new_life seed [] 40) k.steps)) k.left;
    sent = every_weaker (λ (e : Served T). AreSentFrom (lives.life_after_all seed before) k.steps e.session (sent_by e.line)) (LineKeeps sent_by seed (before ++ k.steps)) (λ e. texts_kept laws seed before k.steps e.session (sent_by e.line)) served k.sent;
  }

  pub sends_across : (before : List Step) → SendsFrom sent_by images digest (life_after_all seed before) served → SendsAcross sent_by images digest seed before served
  sends_across before k = record {
    more = map goes k.steps;
    settled = subst (IsLeft images digest) (gone_on seed before k.steps) k.left;
    sent = every_weaker (λ (e : Served T). AreSentFrom (life_after_all seed before) k.steps e.session (sent_by e.line)) (λ (e : Served T). AreSentAcross seed (before ++ map goes k.steps) e.session (sent_by e.line))
        (λ e. texts_across laws seed before k.steps e.session (sent_by e.line)) served k.sent;
  }

-- ---- by a journal's file

module _ {T : Type 0} (sent_by : T → List (List ℕ)) (files : FilesAround) (name digest : List ℕ) (seed : Seed) (served : List (List (Served T))) where
  pub sent_keeps : Laws
      → SendsFound sent_by (IsFound (opened_bytes (files.before name)) (files.might_leave name) digest seed) (StaysSettled (files.might_leave name) (files.may_leave name) digest) (files.may_leave name) digest seed served
      → SentKeeps sent_by files name digest seed served
  sent_keeps laws runs = record {
    runs = runs;
    shown = λ steps some is.
        sends_shown sent_by laws (files.may_leave name) digest seed served steps
        (sends_found sent_by (opened_bytes (files.before name)) (files.might_leave name) (files.may_leave name) digest seed served runs some (lives.life_after_all seed steps) (plain_seed (new_life seed [] 40) steps) is);
    across = λ steps some is.
        sends_across sent_by laws (files.may_leave name) digest seed served steps
        (sends_found sent_by (opened_bytes (files.before name)) (files.might_leave name) (files.may_leave name) digest seed served runs some (life_after_all seed steps) (across_seed (new_life seed [] 40) steps) is);
  }

  -- nothing was served, and a crash may leave only what it might have left
  pub none_keeps : served ≡ [] → ((c : List ℕ) → files.may_leave name c → files.might_leave name c) → SentKeeps sent_by files name digest seed served
  none_keeps none fewer = record {
    runs = inl ((λ text body settled c image. settled c (fewer c image)), none);
    shown = λ steps some is. record {
      more = [];
      settled = subst (λ ss. IsLeft (files.may_leave name) digest (lives.life_after_all seed ss)) (sym (append-nil steps)) (still (lives.life_after_all seed steps) is);
      sent = subst (AllKeep sent_by seed (steps ++ [])) (sym none) tt;
    };
    across = λ steps some is. record {
      more = [];
      settled = subst (λ ss. IsLeft (files.may_leave name) digest (life_after_all seed ss)) (sym (append-nil steps)) (still (life_after_all seed steps) is);
      sent = subst (AllAcross sent_by seed (steps ++ [])) (sym none) tt;
    };
  }
    where
      still : (life : Life) → IsLeft (files.might_leave name) digest life → IsLeft (files.may_leave name) digest life
      still life is = record { records = is.records; batch = is.batch; first = is.first; settled = λ c image. is.settled c (fewer c image) }
