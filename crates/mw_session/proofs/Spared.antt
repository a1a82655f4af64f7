-- No call of another link takes a session's messages or ends it, so that each session takes what it was owed.
use Rattle.std.proofs.Common.{◌≡◌, ◌≢◌, ◌⊎◌, ℕ, ◌+◌, ◌<◌, ◌≤◌, ◌==◌, eqb, Bool, true, false, if◌then◌else◌, List, [], ◌∷◌, ◌++◌, Option, Some, None, refl, ap, sym, subst, ◌∙◌, inl, inr, arith, append_assoc, eq-eqb, true≢false}
use Rattle.std.specs.List.{AllByRecursion}
use Rattle.mw_model.specs.Seed.{Seed}
use Rattle.mw_protocol.specs.Lives.{Life, Luck, new_life}
use Rattle.mw_protocol.specs.Records.{Record}
use Rattle.mw_laws.specs.Kept.{LivesKeep}
use Rattle.mw_lock.specs.declared.view.Entry.{Entry}
use Rattle.mw_lock.specs.History.{calls_by, events}
use Rattle.mw_lock.specs.Passes.{numbers}
use Rattle.mw_lock.specs.Rule.{Each, Has}
use Rattle.mw_link.specs.declared.link.Heard.{Heard}
use Rattle.mw_keep.specs.Standing.{Began, MayReply, Replied}
use Rattle.mw_keep.specs.Views.{call_view}
use Rattle.mw_keep.specs.declared.call.Call.{Call}
use Rattle.mw_keep.specs.declared.call.Call.TheVariants.{Open, Packet, Bad, Lost, Commit, Take}
use Rattle.mw_keep.specs.declared.kept.Origin.{Origin}
use Rattle.mw_keep.specs.declared.reply.Reply.{Reply}
use Rattle.mw_keep.specs.declared.reply.Reply.TheVariants as R
use Rattle.mw_keep.specs.declared.reply.StopCause.{StopCause}
use Rattle.mw_session.specs.Answered.{calls_of, taken_by}
use Rattle.mw_session.specs.Owed.{AllFirst, LinesFirst, OthersSpare, SendsFirst, Spares}
use Rattle.mw_session.specs.Rooms.{Accounts, AreEntries, OneHistory}
use Rattle.mw_session.specs.Sessions.{Closes, IsSession}
use Rattle.mw_session.specs.declared.ended.Ended.{Ended}
use Rattle.mw_session.specs.declared.ended.Ended.TheVariants as Ends
use Rattle.mw_session.specs.declared.served.Served.{Served}
use Rattle.mw_session.proofs.Lists.{all_append, all_push}
use Rattle.mw_session.proofs.Numbers.{hit, legal_once, opens_append, opens_of, total, total_all}
use Rattle.mw_session.proofs.Opening.{legal_fits}
use Rattle.mw_session.proofs.Owed.{has_taken}
use Rattle.mw_session.proofs.Owing.{AreGiven}
use Rattle.mw_session.proofs.Owning.{IsOwn, own_front}

abbrev pub AllSpare : ℕ → List (Call × Reply) → Type 0
AllSpare n calls = AllByRecursion (λ c. Spares n c.0) calls

-- ---- the calls of sessions of other numbers

spare_call : (n m : ℕ) → m ≢ n → (c : Call) → IsOwn m (call_view c) → Spares n c
spare_call n m other (Open time) own = tt
spare_call n m other (Packet k packet) own = tt
spare_call n m other (Bad k bad) own = tt
spare_call n m other (Lost k) own = absurd own
spare_call n m other Commit own = tt
spare_call n m other (Take k) own = λ same. other (sym own ∙ same)

spare_talk : (n m : ℕ) → m ≢ n → (talk : List (Call × Reply)) → AllByRecursion (IsOwn m) (calls_of talk) → AllSpare n talk
spare_talk n m other [] own = tt
spare_talk n m other (c ∷ cs) own = (spare_call n m other c.0 own.0, spare_talk n m other cs own.1)

spare_lost : (n m : ℕ) → m ≢ n → (close : List (Call × Reply)) (r : Reply) → close ≡ (Lost m, r) ∷ [] → AllSpare n close
spare_lost n m other close r is = subst (AllSpare n) (sym is) (other, tt)

spare_close : (n m : ℕ) → m ≢ n → (ended : Ended) (close : List (Call × Reply)) → Closes m ended close → AllSpare n close
spare_close n m other Ends.Gone close h = subst (AllSpare n) (sym h) tt
spare_close n m other (Ends.Stopped cause) close h = subst (AllSpare n) (sym h) tt
spare_close n m other Ends.Closed close h = spare_lost n m other close h.0 h.1
spare_close n m other Ends.LinkFault close h = spare_lost n m other close h.0 h.1
spare_close n m other Ends.Overrun close h = spare_lost n m other close h.0 h.1
spare_close n m other (Ends.TooLong bytes) close h = spare_lost n m other close h.0 h.1
spare_close n m other Ends.Memory close h = spare_lost n m other close h.0 h.1

other_number : (n m rest : ℕ) (b : Bool) → eqb m n ≡ b → (if b then 1 else 0) + rest ≡ 0 → m ≢ n
other_number n m rest true is none same = omega (arith, none)
other_number n m rest false is none same = true≢false (sym (eq-eqb m n same) ∙ is)

spare_session : (n time : ℕ) (own : List (Call × Reply)) (heard : List Heard) (sent : List (List ℕ)) (rose : Type 0) (session : Option ℕ) (ended : Ended)
    → IsSession time own heard sent rose session ended → opens_of n own ≡ 0 → AllSpare n own
spare_session n time own heard sent rose None ended h none = subst (AllSpare n) (sym h.1) (tt, tt)
spare_session n time own heard sent rose (Some m) ended h none =
    let other : m ≢ n = other_number n m (opens_of n (h.0 ++ h.1)) (eqb m n) refl (sym (ap (opens_of n) h.2) ∙ none) in
    subst (AllSpare n) (sym h.2) (tt, all_append (λ c. Spares n c.0) h.0 h.1 (spare_talk n m other h.0 (own_front m (calls_of h.0) heard h.3.asked)) (spare_close n m other ended h.1 h.4))

-- ---- the passes of one history

module _ {T : Type 0} (heard_by : T → List Heard) (sent_by : T → List (List ℕ)) (faults : T → ℕ) (opened : T → ℕ) (is_shut : T → Bool) where
  spare_entries : (n : ℕ) (es : List (Served T)) (calls : List (Call × Reply)) → AreEntries heard_by sent_by faults opened is_shut es calls → opens_of n calls ≡ 0 → AllSpare n calls
  spare_entries n [] calls h none = subst (AllSpare n) (sym h) tt
  spare_entries n (e ∷ es) calls h none =
      let both : opens_of n h.0 + opens_of n h.1 ≡ 0 = sym (ap (opens_of n) h.2 ∙ opens_append n h.0 h.1) ∙ none in
      subst (AllSpare n) (sym h.2) (all_append (λ c. Spares n c.0) h.0 h.1
      (spare_session n (opened e.line) h.0 (heard_by e.line) (sent_by e.line) (0 < faults e.line) e.session e.ended h.3.0 (omega (arith, both)))
      (spare_entries n es h.1 h.4 (omega (arith, both))))

  -- the calls of one of the passes are those of links that it served
  abbrev IsOfLinks : ℕ × List (Call × Reply) → Type 0
  IsOfLinks x = (es : List (Served T)) × AreEntries heard_by sent_by faults opened is_shut es x.1

  of_links : (served : List (List (Served T))) (xs : List (ℕ × List (Call × Reply))) → Accounts heard_by sent_by faults opened is_shut served xs → AllByRecursion IsOfLinks xs
  of_links served [] h = tt
  of_links served (x ∷ xs) h = ((h.1, h.3), of_links h.0 xs h.4)

-- one of the passes opened the session
abbrev Opener : ℕ → ℕ → List (Entry Call Reply) → List (ℕ × List (Call × Reply)) → Type 0
Opener n p log [] = ⊥
Opener n p log (x ∷ xs) = ((x.0 ≡ p) × (1 ≤ opens_of n (calls_by x.0 log))) ⊎ Opener n p log xs

opener_counts : (n p : ℕ) (log : List (Entry Call Reply)) (xs : List (ℕ × List (Call × Reply))) → Opener n p log xs → 1 ≤ total n xs log
opener_counts n p log [] h = absurd h
opener_counts n p log (x ∷ xs) (inl k) = let one = k.1 in omega arith
opener_counts n p log (x ∷ xs) (inr k) = let one = opener_counts n p log xs k in omega arith

-- so no other did
abbrev Opens : ℕ → List (Entry Call Reply) → ℕ × List (Call × Reply) → Type 0
Opens n log y = opens_of n (calls_by y.0 log) ≡ 0

none_open : (n : ℕ) (log : List (Entry Call Reply)) (xs : List (ℕ × List (Call × Reply))) → total n xs log ≡ 0 → AllByRecursion (Opens n log) xs
none_open n log [] h = tt
none_open n log (x ∷ xs) h = (omega (arith, h), none_open n log xs (omega (arith, h)))

weaker : {X : Type 0} (P Q : X → Type 0) → ((x : X) → P x → Q x) → (xs : List X) → AllByRecursion P xs → AllByRecursion Q xs
weaker P Q f [] h = tt
weaker P Q f (x ∷ xs) h = (f x h.0, weaker P Q f xs h.1)

others_open : (n p : ℕ) (log : List (Entry Call Reply)) (xs : List (ℕ × List (Call × Reply))) → Opener n p log xs → total n xs log ≤ 1 → AllByRecursion (λ y. y.0 ≢ p → Opens n log y) xs
others_open n p log [] h most = tt
others_open n p log (x ∷ xs) (inl k) most =
    let one = k.1 in (λ other. absurd (other k.0), weaker (Opens n log) (λ y. y.0 ≢ p → Opens n log y) (λ y none _. none) xs (none_open n log xs (omega (arith, most, one))))
others_open n p log (x ∷ xs) (inr k) most =
    let one = opener_counts n p log xs k in (λ _. omega (arith, most, one), others_open n p log xs k (omega (arith, most)))

-- ---- who spares a session

by_number : (n p : ℕ) (log es : List (Entry Call Reply)) (ns : List (ℕ × List (Call × Reply))) → ((q : ℕ) → Has q ns → q ≢ p → AllSpare n (calls_by q es)) → Each (λ e. Has e.by ns) es → OthersSpare n p es
by_number n p log [] ns h has = tt
by_number n p log (e ∷ es) ns h has = (
  λ other. (subst (λ (b : Bool). AllSpare n (if b then (e.call, e.reply) ∷ calls_by e.by es else calls_by e.by es)) (eq-eqb e.by e.by refl) (h e.by has.0 other)).0,
  by_number n p log es ns (λ q of other. later q (e.by == q) (h q of other)) has.1,
)
  where
    later : (q : ℕ) (b : Bool) → AllSpare n (if b then (e.call, e.reply) ∷ calls_by q es else calls_by q es) → AllSpare n (calls_by q es)
    later q true k = k.1
    later q false k = k

each_number : (n p : ℕ) (log : List (Entry Call Reply)) (ns : List (ℕ × List (Call × Reply))) → AllByRecursion (λ y. y.0 ≢ p → AllSpare n y.1) ns → Each (λ y. calls_by y.0 log ≡ y.1) ns
    → (q : ℕ) → Has q ns → q ≢ p → AllSpare n (calls_by q log)
each_number n p log [] all own q h other = absurd h
each_number n p log (y ∷ ys) all own q (inl is) other =
    subst (λ k. AllSpare n (calls_by k log)) (sym is) (subst (AllSpare n) (sym own.0) (all.0 (λ same. other (is ∙ same))))
each_number n p log (y ∷ ys) all own q (inr h) other = each_number n p log ys all.1 own.1 q h other

own_hit : (n : ℕ) → hit n (R.Opened n) ≡ 1
own_hit n = ap (λ (b : Bool). if b then 1 else 0) (eq-eqb n n refl)

-- the calls of the passes are a Commit, and those of links that were served; each session was opened once at most
module _ {T : Type 0} (heard_by : T → List Heard) (sent_by : T → List (List ℕ)) (faults : T → ℕ) (opened : T → ℕ) (is_shut : T → Bool)
    (log : List (Entry Call Reply)) (first : ℕ × List (Call × Reply)) (reply : Reply) (commits : first.1 ≡ (Commit, reply) ∷ []) (xs : List (ℕ × List (Call × Reply)))
    (links : AllByRecursion (IsOfLinks heard_by sent_by faults opened is_shut) xs) (own : Each (λ y. calls_by y.0 log ≡ y.1) (first ∷ xs)) (has : Each (λ e. Has e.by (first ∷ xs)) log)
    (once : (n : ℕ) → total n (first ∷ xs) log ≤ 1)
  where
    spare_each : (n p : ℕ) (ys : List (ℕ × List (Call × Reply))) → AllByRecursion (λ y. y.0 ≢ p → Opens n log y) ys → Each (λ y. calls_by y.0 log ≡ y.1) ys → AllByRecursion (IsOfLinks heard_by sent_by faults opened is_shut) ys
        → AllByRecursion (λ y. y.0 ≢ p → AllSpare n y.1) ys
    spare_each n p [] none is of = tt
    spare_each n p (y ∷ ys) none is of = (
      λ other. spare_entries heard_by sent_by faults opened is_shut n of.0.0 y.1 of.0.1 (sym (ap (opens_of n) is.0) ∙ none.0 other),
      spare_each n p ys none.1 is.1 of.1,
    )

    pub others_spare : (n p : ℕ) → Opener n p log (first ∷ xs) → OthersSpare n p log
    others_spare n p opener =
        let none = others_open n p log (first ∷ xs) opener (once n) in
        let all : AllByRecursion (λ y. y.0 ≢ p → AllSpare n y.1) (first ∷ xs) = (λ _. subst (AllSpare n) (sym commits) (tt, tt), spare_each n p xs none.1 own.1 links) in
        by_number n p log log (first ∷ xs) (each_number n p log (first ∷ xs) all own) has

    -- ---- what was sent

    module _ (lives : LivesKeep) (life : Life) (given : AreGiven life.room) (lucks : List Luck) (due : Replied life (events log) lucks) where
      abbrev First : Option ℕ → List (List ℕ) → Type 0
      First session sent = SendsFirst life (events log) lucks session sent

      one_first : (number time : ℕ) (before calls rest : List (Call × Reply)) (heard : List Heard) (sent : List (List ℕ)) (rose : Type 0) (session : Option ℕ) (ended : Ended)
          → IsSession time calls heard sent rose session ended → calls_by number log ≡ before ++ (calls ++ rest) → ((n : ℕ) → 1 ≤ opens_of n (calls_by number log) → OthersSpare n number log) → First session sent
      one_first number time before calls rest heard sent rose None ended h is spare = h.4
      one_first number time before calls rest heard sent rose (Some n) ended h is spare =
          let opening : Call × Reply = (Open time, R.Opened n) in
          let whole : calls_by number log ≡ before ++ opening ∷ (h.0 ++ (h.1 ++ rest)) =
          is ∙ ap (λ l. before ++ l) (ap (λ l. l ++ rest) h.2 ∙ ap (λ l. opening ∷ l) (append_assoc h.0 h.1 rest)) in
          let many : opens_of n (calls_by number log) ≡ opens_of n before + (hit n (R.Opened n) + opens_of n (h.0 ++ (h.1 ++ rest))) = ap (opens_of n) whole ∙ opens_append n before (opening ∷ (h.0 ++ (h.1 ++ rest))) in
          let self = own_hit n in (
            taken_by h.0,
            h.3.first_sent,
            has_taken lives life given log lucks due number n time before h.0 (h.1 ++ rest) whole (own_front n (calls_of h.0) heard h.3.asked) (spare n (omega (arith, many, self))),
          )

      lines_first : (number : ℕ) (before : List (Call × Reply)) (es : List (Served T)) (calls : List (Call × Reply)) → AreEntries heard_by sent_by faults opened is_shut es calls → calls_by number log ≡ before ++ calls
          → ((n : ℕ) → 1 ≤ opens_of n (calls_by number log) → OthersSpare n number log) → LinesFirst sent_by life (events log) lucks es
      lines_first number before [] calls h is spare = tt
      lines_first number before (e ∷ es) calls h is spare =
          let here : calls_by number log ≡ before ++ (h.0 ++ h.1) = is ∙ ap (λ l. before ++ l) h.2 in (
            one_first number (opened e.line) before h.0 h.1 (heard_by e.line) (sent_by e.line) (0 < faults e.line) e.session e.ended h.3.0 here spare,
            lines_first number (before ++ h.0) es h.1 h.4 (here ∙ sym (append_assoc before h.0 h.1)) spare,
          )

      accounts_first : (served : List (List (Served T))) (ys : List (ℕ × List (Call × Reply))) → Accounts heard_by sent_by faults opened is_shut served ys → Each (λ y. calls_by y.0 log ≡ y.1) ys
          → ((n p : ℕ) → Opener n p log ys → OthersSpare n p log) → AllFirst sent_by life (events log) lucks served
      accounts_first served [] h is spare = subst (AllFirst sent_by life (events log) lucks) (sym h) tt
      accounts_first served (y ∷ ys) h is spare =
          subst (AllFirst sent_by life (events log) lucks) (sym h.2)
          (all_push (LinesFirst sent_by life (events log) lucks) h.0 h.1 (accounts_first h.0 ys h.4 is.1 (λ n p k. spare n p (inr k)))
          (lines_first y.0 [] h.1 y.1 h.3 is.0 (λ n some. spare n y.0 (inl (refl, some)))))

      -- what was sent over each link are the first of the messages that its session was owed
      pub all_first : (served : List (List (Served T))) → Accounts heard_by sent_by faults opened is_shut served xs → AllFirst sent_by life (events log) lucks served
      all_first served h = accounts_first served xs h own.1 (λ n p k. others_spare n p (inr k))

-- so it is in the history of a room that was served
pub history_first : LivesKeep → {T D : Type 0} (heard_by : T → List Heard) (sent_by : T → List (List ℕ)) (faults : T → ℕ) (opened : T → ℕ) (is_shut : T → Bool) (may_leave : D → List ℕ → Type 0)
    (digest : List ℕ) (seed : Seed) (journal : List Record) (place : ℕ) (origin : Origin D) → Began may_leave digest seed journal place origin
    → (log : List (Call × Reply)) (lucks : List Luck) (served : List (List (Served T))) (memory : Bool) (stopped : Option StopCause) → Replied (new_life seed journal place) log lucks
    → OneHistory heard_by sent_by faults opened is_shut (MayReply may_leave) (Some origin) log served memory stopped → AllFirst sent_by (new_life seed journal place) log lucks served
history_first lives heard_by sent_by faults opened is_shut may_leave digest seed journal place origin began log lucks served memory stopped due h =
    let life = new_life seed journal place in
    let fits = legal_fits may_leave digest seed journal place origin began [] h.pass.seen h.legal in
    let once : (n : ℕ) → total n (numbers h.pass) h.pass.seen ≤ 1 = λ n. let all = total_all n (numbers h.pass) h.pass.seen h.whole.1.0 in let one = legal_once n [] h.pass.seen fits in omega arith in
    subst (λ l. AllFirst sent_by life l lucks served) h.all
    (all_first heard_by sent_by faults opened is_shut h.pass.seen (h.pass.number, h.pass.own) h.reply h.own h.pass.ended (of_links heard_by sent_by faults opened is_shut served h.pass.ended h.accounts) h.whole.1.1 h.whole.0 once lives life tt lucks
    (subst (λ l. Replied life l lucks) (sym h.all) due) served h.accounts)
