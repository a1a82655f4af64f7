-- What was sent over links was taken, in the order in which it was owed.
use Rattle.std.proofs.Common.{◌≡◌, ◌∙◌, ◌<◌, ℕ, List, [], ◌∷◌, ◌++◌, Option, Some, None, Bool, map, take, drop, refl, sym, ap, subst, inl, inr}
use Rattle.std.proofs.lemmas.List.{map-append, take-append-drop}
use Rattle.std.specs.List.{AllByRecursion}
use mathlib.Core.List.{IsPrefix}
use Rattle.mw_protocol.specs.Lives as plain
use Rattle.mw_protocol.specs.Lives.{Life, Luck, Step, acts, after_all, life_after}
use Rattle.mw_protocol.specs.Rooms.{session_in, text_of}
use Rattle.mw_laws.specs.Kept.{LivesKeep}
use Rattle.mw_laws.specs.Tails.{TakenWasOwed}
use Rattle.mw_lock.specs.Rule.{Each}
use Rattle.mw_lock.specs.History.{calls_by, events}
use Rattle.mw_lock.specs.declared.view.Entry.{Entry}
use Rattle.mw_link.specs.declared.link.Heard.{Heard}
use Rattle.mw_keep.specs.Standing.{Replied, lived}
use Rattle.mw_keep.specs.Views.{call_view, reply_view}
use Rattle.mw_keep.specs.declared.call.Call.{Call}
use Rattle.mw_keep.specs.declared.call.Call.TheVariants.{Open, Packet, Bad, Lost, Commit, Take}
use Rattle.mw_keep.specs.declared.reply.Reply.{Reply}
use Rattle.mw_keep.specs.declared.reply.Reply.TheVariants as R
use Rattle.mw_session.specs.Answered.{taken, taken_by, texts_of}
use Rattle.mw_session.specs.Rooms.{Accounts, AreEntries}
use Rattle.mw_session.specs.Sessions.{IsSession}
use Rattle.mw_session.specs.declared.ended.Ended.{Ended}
use Rattle.mw_session.specs.declared.served.Served.{Served}
use Rattle.mw_session.specs.Owed.{AllFirst, HasTaken, LinesFirst, SendsFirst}
use Rattle.mw_serve.specs.Sent.{AllFrom, AreFirstFrom, AreSentFrom, IsSentFrom}
use Rattle.mw_session.proofs.Lists.{all_append, all_prefix, all_push, prefix_trans}
use Rattle.mw_serve.proofs.Calls.{Among, among_by, among_left, among_right, cut_at, takes_own}
use Rattle.mw_serve.proofs.Lives.{Due, steps_of, took}

-- ---- a room's calls as those of the definitions

abbrev pub seen : Call × Reply → plain.Call × plain.Reply
seen c = (call_view c.0, reply_view c.1)

pub due_of : (life : Life) (cs : List (Call × Reply)) (ls : List Luck) → Replied life cs ls → Due life (map seen cs) ls
due_of life [] [] h = h
due_of life [] (l ∷ ls) h = h
due_of life (c ∷ cs) [] h = h
due_of life (c ∷ cs) (l ∷ ls) h = (h.0, due_of (life_after life (call_view c.0) l) cs ls h.1)

pub lived_is : (life : Life) (cs : List (Call × Reply)) (ls : List Luck) → lived life cs ls ≡ after_all life (steps_of (map seen cs) ls)
lived_is life [] ls = refl
lived_is life (c ∷ cs) [] = refl
lived_is life (c ∷ cs) (l ∷ ls) = lived_is (life_after life (call_view c.0) l) cs ls

seen_append : (xs ys : List (Call × Reply)) → map seen (xs ++ ys) ≡ map seen xs ++ map seen ys
seen_append [] ys = refl
seen_append (x ∷ xs) ys = ap (λ zs. seen x ∷ zs) (seen_append xs ys)

-- ---- what was taken

-- each of these texts is that of a message that the session took in steps from a life
abbrev pub AreTaken : Life → List Step → Option ℕ → List (List ℕ) → Type 0
AreTaken life steps None texts = texts ≡ []
AreTaken life steps (Some session) texts = AllByRecursion (IsSentFrom life steps session) texts

abbrev pub LinesTaken : {T : Type 0} → (T → List (List ℕ)) → Life → List Step → List (Served T) → Type 0
LinesTaken sent_by life steps es = AllByRecursion (λ e. AreTaken life steps e.session (sent_by e.line)) es

abbrev pub AllTaken : {T : Type 0} → (T → List (List ℕ)) → Life → List Step → List (List (Served T)) → Type 0
AllTaken sent_by life steps served = AllByRecursion (LinesTaken sent_by life steps) served

-- ---- what one take gave

module _ (lives : LivesKeep) (was_owed : TakenWasOwed) (life : Life) (log : List (Call × Reply)) (ls : List Luck) (due : Replied life log ls)
  where
    abbrev Q : ℕ → List ℕ → Type 0
    Q session text = IsSentFrom life (steps_of (map seen log) ls) session text

    take_kept : (session : ℕ) (texts : List (List ℕ)) → Among (Take session, R.Messages texts) log → AllByRecursion (Q session) texts
    take_kept session texts among =
        let k = cut_at (Take session, R.Messages texts) log among in
        let same : map seen log ≡ map seen k.0 ++ (plain.takes session, plain.messages texts) ∷ map seen k.1 = ap (map seen) k.2 ∙ seen_append k.0 ((Take session, R.Messages texts) ∷ k.1) in
        subst (λ cs. AllByRecursion (IsSentFrom life (steps_of cs ls) session) texts) (sym same)
        (took lives was_owed life (map seen k.0) (map seen k.1) session texts [] life ls refl (subst (λ cs. Due life cs ls) same (due_of life log ls due)))

    texts_kept : (session : ℕ) (r : Reply) → Among (Take session, r) log → AllByRecursion (Q session) (texts_of r)
    texts_kept session (R.Opened n) h = tt
    texts_kept session R.Done h = tt
    texts_kept session (R.Messages texts) h = take_kept session texts h
    texts_kept session R.Gone h = tt
    texts_kept session R.Overrun h = tt
    texts_kept session (R.Stopped cause) h = tt
    texts_kept session R.Memory h = tt

    call_kept : (session : ℕ) (c : Call) (r : Reply) → ((n : ℕ) → c ≡ Take n → n ≡ session) → Among (c, r) log → AllByRecursion (Q session) (taken c r)
    call_kept session (Open time) r own h = tt
    call_kept session (Packet n p) r own h = tt
    call_kept session (Bad n b) r own h = tt
    call_kept session (Lost n) r own h = tt
    call_kept session Commit r own h = tt
    call_kept session (Take n) r own h = subst (λ s. AllByRecursion (Q s) (texts_of r)) (own n refl) (texts_kept n r h)

    talk_kept : (session : ℕ) (cs : List (Call × Reply)) → ((c : Call × Reply) → Among c cs → Among c log) → ((n : ℕ) (r : Reply) → Among (Take n, r) cs → n ≡ session) → AllByRecursion (Q session) (taken_by cs)
    talk_kept session [] all own = tt
    talk_kept session (c ∷ cs) all own =
        all_append (Q session) (taken c.0 c.1) (taken_by cs)
        (call_kept session c.0 c.1 (λ n take. own n c.1 (inl (ap (λ x. (x, c.1)) take))) (all c (inl refl)))
        (talk_kept session cs (λ d h. all d (inr h)) (λ n r h. own n r (inr h)))

    -- ---- what was sent over a link, and over all

    session_kept : (time : ℕ) (own : List (Call × Reply)) (heard : List Heard) (sent : List (List ℕ)) (rose : Type 0) (session : Option ℕ) (ended : Ended)
        → IsSession time own heard sent rose session ended → ((c : Call × Reply) → Among c own → Among c log) → AreTaken life (steps_of (map seen log) ls) session sent
    session_kept time own heard sent rose None ended h all = h.4
    session_kept time own heard sent rose (Some session) ended h all =
        let talk = h.0 in let talked = h.3 in
        let inside : (c : Call × Reply) → Among c talk → Among c log = λ c k. all c (subst (Among c) (sym h.2) (inr (among_left c talk h.1 k))) in
        all_prefix (Q session) sent (taken_by talk) talked.first_sent (talk_kept session talk inside (takes_own session talk heard talked.asked))

    module _ {T : Type 0} (heard_by : T → List Heard) (sent_by : T → List (List ℕ)) (faults : T → ℕ) (opened : T → ℕ) (is_shut : T → Bool) where
      abbrev steps : List Step
      steps = steps_of (map seen log) ls

      entries_kept : (es : List (Served T)) (calls : List (Call × Reply)) → AreEntries heard_by sent_by faults opened is_shut es calls → ((c : Call × Reply) → Among c calls → Among c log) → LinesTaken sent_by life steps es
      entries_kept [] calls h all = tt
      entries_kept (e ∷ es) calls h all = (
        session_kept (opened e.line) h.0 (heard_by e.line) (sent_by e.line) (0 < faults e.line) e.session e.ended h.3.0 (λ c k. all c (subst (Among c) (sym h.2) (among_left c h.0 h.1 k))),
        entries_kept es h.1 h.4 (λ c k. all c (subst (Among c) (sym h.2) (among_right c h.0 h.1 k))),
      )

      pub accounts_kept : (served : List (List (Served T))) (xs : List (ℕ × List (Call × Reply))) → Accounts heard_by sent_by faults opened is_shut served xs
          → (es : List (Entry Call Reply)) → events es ≡ log → Each (λ x. calls_by x.0 es ≡ x.1) xs → AllTaken sent_by life steps served
      accounts_kept served [] h es all each = subst (AllTaken sent_by life steps) (sym h) tt
      accounts_kept served (x ∷ xs) h es all each =
          subst (AllTaken sent_by life steps) (sym h.2)
          (all_push (LinesTaken sent_by life steps) h.0 h.1 (accounts_kept h.0 xs h.4 es all each.1)
          (entries_kept h.1 x.1 h.3 (λ c k. subst (Among c) all (among_by x.0 es c (subst (Among c) (sym each.0) k)))))

-- ---- in their order

steps_front : (xs ys : List (plain.Call × plain.Reply)) (ls : List Luck) → (rest : List Step) × (steps_of (xs ++ ys) ls ≡ steps_of xs ls ++ rest)
steps_front [] ys ls = (steps_of ys ls, refl)
steps_front (x ∷ xs) ys [] = ([], refl)
steps_front (x ∷ xs) ys (l ∷ ls) = let k = steps_front xs ys ls in (k.0, ap (λ ss. acts x.0 l ∷ ss) k.1)

module _ (life : Life) (log : List (Call × Reply)) (ls : List Luck) where
  abbrev run : List Step
  run = steps_of (map seen log) ls

  first_owed : (session : ℕ) (sent texts : List (List ℕ)) → IsPrefix sent texts → HasTaken life log ls session texts → AreFirstFrom life run session sent
  first_owed session sent texts part h =
      let split = steps_front (map seen h.front) (map seen h.back) ls in
      let all : steps_of (map seen log) ls ≡ steps_of (map seen h.front) ls ++ split.0 = ap (λ cs. steps_of cs ls) (ap (map seen) h.point ∙ seen_append h.front h.back) ∙ split.1 in
      let whole : map text_of (take h.s.taken h.s.owed) ++ map text_of (drop h.s.taken h.s.owed) ≡ map text_of h.s.owed =
      sym (map-append text_of (take h.s.taken h.s.owed) (drop h.s.taken h.s.owed)) ∙ ap (map text_of) (take-append-drop h.s.taken h.s.owed) in
      record {
        front = steps_of (map seen h.front) ls;
        back = split.0;
        point = all;
        s = h.s;
        found = ap (λ l. session_in l.room.sessions session) (sym (lived_is life h.front ls)) ∙ h.found;
        first = prefix_trans sent texts (map text_of h.s.owed) part (map text_of (drop h.s.taken h.s.owed), ap (λ ts. ts ++ map text_of (drop h.s.taken h.s.owed)) h.is ∙ whole);
      }

  module _ {T : Type 0} (sent_by : T → List (List ℕ)) where
    of_taken : (session : Option ℕ) (sent : List (List ℕ)) → AreTaken life run session sent → SendsFirst life log ls session sent → AreSentFrom life run session sent
    of_taken None sent h first = h
    of_taken (Some session) sent h first = (h, first_owed session sent first.0 first.1 first.2)

    lines_kept : (es : List (Served T)) → LinesTaken sent_by life run es → LinesFirst sent_by life log ls es → AllByRecursion (λ e. AreSentFrom life run e.session (sent_by e.line)) es
    lines_kept [] h first = tt
    lines_kept (e ∷ es) h first = (of_taken e.session (sent_by e.line) h.0 first.0, lines_kept es h.1 first.1)

    -- what was taken, from the first message on
    pub all_kept : (served : List (List (Served T))) → AllTaken sent_by life run served → AllFirst sent_by life log ls served → AllFrom sent_by life run served
    all_kept [] h first = tt
    all_kept (es ∷ more) h first = (lines_kept es h.0 first.0, all_kept more h.1 first.1)
